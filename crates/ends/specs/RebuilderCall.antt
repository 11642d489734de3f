-- The rebuilder's start and call (01, "The rebuilder" and "Why a call is turned down"): what the contracts of the code and demand 3 are stated with.
use Rattle.std.specs.Prelude.{Bool, cond, ◌&&◌, List, [], ◌∷◌, ℕ, ◌+◌, ◌-◌, ◌*◌, ◌/◌, length, replicate, leb, ltb, eqb}
use Rattle.std.proofs.Math.Option.{Option, none, some}
use Rattle.std.proofs.lemmas.List.Edits.{sets}
use Rattle.strings.specs.Bits.{range, bytes_for, write_bits, cleared}
use Rattle.strings.specs.StringRule.{string_rule}
use Rattle.strings.specs.Results.{Result, refusal, value, unless, and_then}
use Rattle.strings.specs.Refusals.{refusal_number}
use Rattle.strings.specs.declared.Refusal.TheVariants.{BadSetting, BadString, OutOfTurn, BufferTooShort}
use Rattle.messages.specs.declared.Question.{Question}
use Rattle.messages.specs.declared.Question.TheVariants.{AskOpen}
use Rattle.messages.specs.Questions.{question_kind, question_length, question_burst, question_bytes}
use Rattle.messages.specs.Answers.{Answer, read_answer}
use Rattle.strings.specs.declared.settings.Settings.{Settings}
use Rattle.ends.specs.declared.How.TheVariants.{ByAnchor, ByBits}
use Rattle.ends.specs.declared.Row.{Row}
use Rattle.ends.specs.declared.Rebuilder.{Rebuilder}
use Rattle.ends.specs.declared.SheetChange.{SheetChange}
use Rattle.ends.specs.declared.SheetChange.TheVariants.{NoRow, AddRow, OneRow}
use Rattle.strings.specs.SettingLimits.{within_limits}
use Rattle.ends.specs.declared.Phase.{Phase}
use Rattle.ends.specs.declared.Phase.TheVariants.{AtOpening, AtPieces, AtWhole}
use Rattle.ends.specs.declared.Stage.TheVariants.{Hashing}
use Rattle.ends.specs.Segments.{Effect, settles, stays, splits, effect, row, the_size, the_bits}
use Rattle.ends.specs.States.{no_piece, top, popped, pushed, restaged, retried, split_at, planned}
use Rattle.ends.specs.Soundness.{sound}

-- ---- the start
abbrev pub fresh_rebuilder : Settings → ℕ → Rebuilder
fresh_rebuilder S bits = record {
  settings = S;
  ybits = bits;
  phase = AtOpening;
  n = 0;
  answered = 0;
  counted = 0;
  rows = 0;
  stage = Hashing;
  waiting = 0;
  pieces = replicate 32 no_piece;
}

-- a start that is not turned down gives a state and the question that is written
pub record Started : Type 0 where
  pub state : Rebuilder
  pub question : List ℕ

abbrev pub starts : Rebuilder → List ℕ → Result Started
starts st q = value (record { state = st; question = q })

-- with settings, the bytes y of Y and their bit count, and a question buffer of capacity bytes: 1, 2, 9
unfoldable pub rebuilder_start : Settings → (y : List ℕ) (bits capacity : ℕ) → Result Started
rebuilder_start S y bits capacity =
    unless (within_limits S) BadSetting (
    unless (string_rule y bits) BadString (
    unless (leb 8 capacity) BufferTooShort (
    starts (fresh_rebuilder S bits) (question_bytes (AskOpen S.h S.key)))))

-- ---- what an answer makes of state, string and sheet
-- what happens to the string buffer: nothing; its first bytes_for n bytes are zeroed; bits are written from a place on
pub data StringChange : Type 0 where
  keeps : StringChange
  clears : (n : ℕ) → StringChange
  writes : (at : ℕ) → List Bool → StringChange

abbrev pub string_after : List ℕ → StringChange → List ℕ
string_after s keeps = s
string_after s (clears n) = cleared s 0 (bytes_for n)
string_after s (writes at l) = write_bits s at l

-- and to the sheet: a whole-string answer leaves one row and sets the used ones behind it to zeros
abbrev pub no_row : Row
no_row = record { start = 0; len = 0; how = 0 }

abbrev pub sheet_after : List Row → SheetChange → List Row
sheet_after sh NoRow = sh
sheet_after sh (AddRow i r) = sets sh i (r ∷ [])
sheet_after sh (OneRow used r) = sets sh 0 (r ∷ replicate (used - 1) no_row)

-- the row that a change stores
abbrev pub change_row : SheetChange → Row
change_row NoRow = no_row
change_row (AddRow i r) = r
change_row (OneRow used r) = r

-- how many rows a sheet needs for a change
abbrev pub rows_needed : SheetChange → ℕ
rows_needed NoRow = 0
rows_needed (AddRow i r) = i + 1
rows_needed (OneRow used r) = used - 1 + 1

pub record Step : Type 0 where
  pub state : Rebuilder
  pub string : StringChange
  pub sheet : SheetChange

-- the state with other phase and counts
abbrev pub counting : Rebuilder → Phase → (answered counted rows : ℕ) → Rebuilder
counting st ph a c r = record {
  settings = st.settings;
  ybits = st.ybits;
  phase = ph;
  n = st.n;
  answered = a;
  counted = c;
  rows = r;
  stage = st.stage;
  waiting = st.waiting;
  pieces = st.pieces;
}

-- an answer of size bytes and the rows that it brought are counted; past the ceiling, if pieces wait, bits 0, n is asked for
unfoldable pub tallied : Rebuilder → (size rows : ℕ) → Rebuilder
tallied st size rows =
    counting st (cond (ltb st.settings.ceiling (st.counted + size) && ltb 0 st.waiting) AtWhole AtPieces) (st.answered + 1) (st.counted + size) (st.rows + rows)

-- what the effect of an answer of size bytes on the leftmost piece makes
unfoldable pub effect_step : Rebuilder → (size : ℕ) → Effect → Step
effect_step st size (settles w b) = record {
  state = tallied (restaged (popped st)) size 1;
  string = writes (top st).x b;
  sheet = AddRow st.rows (row (top st).x (top st).p w);
}
effect_step st size (stays t) = record { state = tallied (retried st) size 0; string = keeps; sheet = NoRow }
effect_step st size (splits s r b) = record {
  state = tallied (split_at st s r) size 1;
  string = writes ((top st).x + s) b;
  sheet = AddRow st.rows (row ((top st).x + s) st.settings.m ByAnchor);
}

-- the state once X has n bits, with nothing waiting yet
abbrev pub opened_state : Rebuilder → ℕ → Rebuilder
opened_state st n = record {
  settings = st.settings;
  ybits = st.ybits;
  phase = AtPieces;
  n = n;
  answered = st.answered + 1;
  counted = 0;
  rows = 0;
  stage = Hashing;
  waiting = 0;
  pieces = st.pieces;
}

-- the opening's answer n: the first piece is all of both
unfoldable pub opening_step : Rebuilder → ℕ → Step
opening_step st n = record {
  state = restaged (pushed (opened_state st n) (record { x = 0; p = n; y = 0; q = st.ybits }));
  string = clears n;
  sheet = NoRow;
}

-- the state once all bits have come in an answer of size bytes
abbrev pub whole_state : Rebuilder → (size : ℕ) → Rebuilder
whole_state st size = record {
  settings = st.settings;
  ybits = st.ybits;
  phase = AtPieces;
  n = st.n;
  answered = st.answered + 1;
  counted = st.counted + size;
  rows = 1;
  stage = Hashing;
  waiting = 0;
  pieces = replicate 32 no_piece;
}

-- the whole string's bits
unfoldable pub whole_step : Rebuilder → (size : ℕ) → List Bool → Step
whole_step st size l = record { state = whole_state st size; string = writes 0 l; sheet = OneRow st.rows (row 0 st.n ByBits) }

-- one answer of size bytes, by what is awaited
abbrev pub step_at : Phase → Rebuilder → (y : List ℕ) → (size : ℕ) → Answer → Step
step_at AtOpening st y size a = opening_step st (the_size a)
step_at AtPieces st y size a = effect_step st size (effect st.settings a (top st).p (range y (top st).y (top st).q) st.stage)
step_at AtWhole st y size a = whole_step st size (the_bits a)

unfoldable pub step_of : Rebuilder → (y : List ℕ) → (size : ℕ) → Answer → Step
step_of st y size a = step_at st.phase st y size a

-- ---- the call
-- a call that is not turned down gives a step and the question that is written, which is empty at the finish
pub record Taken : Type 0 where
  pub step : Step
  pub question : List ℕ

abbrev pub takes : Step → List ℕ → Result Taken
takes k q = value (record { step = k; question = q })

abbrev pub written_question : Option Question → List ℕ
written_question none = []
written_question (some q) = question_bytes q

-- lent bytes of the string buffer and the question buffer, and rows of the sheet
pub record Capacities : Type 0 where
  pub string : ℕ
  pub sheet : ℕ
  pub question : ℕ

-- enough for n bits: n is the opening's answer, or known since
abbrev pub enough_for : Rebuilder → ℕ → Capacities → Bool
enough_for st n capacities = leb (bytes_for n) capacities.string && (leb (2 * (n / st.settings.m) + 1) capacities.sheet && leb 8 capacities.question)

abbrev pub bits_known_at : Phase → Rebuilder → Answer → ℕ
bits_known_at AtOpening st a = the_size a
bits_known_at AtPieces st a = st.n
bits_known_at AtWhole st a = st.n

abbrev pub bits_known : Rebuilder → Answer → ℕ
bits_known st a = bits_known_at st.phase st a

abbrev pub given : Rebuilder → (y msg : List ℕ) → Capacities → Answer → Result Taken
given st y msg capacities a =
    unless (enough_for st (bits_known st a) capacities) BufferTooShort (
    takes (step_of st y (length msg) a) (written_question (planned (step_of st y (length msg) a).state)))

-- finished: out of turn
abbrev pub awaits : Rebuilder → (y msg : List ℕ) → Capacities → Option Question → Result Taken
awaits st y msg capacities none = refusal (refusal_number OutOfTurn)
awaits st y msg capacities (some q) = and_then (read_answer (question_kind q) (question_length q) (question_burst q) st.settings.h msg) (given st y msg capacities)

-- with the bytes y of Y, their bit count and a message: 2; 3; then the message; 9
unfoldable pub rebuilder_call : Rebuilder → (y : List ℕ) (bits : ℕ) (msg : List ℕ) → Capacities → Result Taken
rebuilder_call st y bits msg capacities =
    unless (string_rule y bits && eqb st.ybits bits) BadString (
    unless (sound st) OutOfTurn (
    awaits st y msg capacities (planned st)))
