-- What the rebuilder's start and call give and leave in the lent buffers, and what each case of the code's answers says.
use Rattle.std.specs.Prelude.{List, [], ◌∷◌, ℕ, length, replicate, Result as CodeResult, Ok, Err, Option as CodeOption, Some, None}
use Rattle.ends.specs.declared.Rebuilder.{Rebuilder}
use Rattle.ends.specs.declared.Phase.TheVariants.{AtOpening}
use Rattle.ends.specs.declared.Stage.TheVariants.{Hashing}
use Rattle.ends.specs.declared.SheetChange.{SheetChange}
use Rattle.ends.specs.declared.SheetChange.TheVariants.{NoRow}
use Rattle.ends.specs.States.{no_piece}
use Rattle.strings.specs.declared.settings.Settings.{Settings}
use Rattle.ends.specs.RebuilderCall.{Taken, string_after, Capacities, Started, rebuilder_start, rebuilder_call}
use Rattle.ends.specs.declared.rebuilding.Started.{Started as CodeStarted}
use Rattle.ends.specs.declared.rebuilding.RebuilderOut.{RebuilderOut}
use Rattle.strings.specs.Results.{Result, refusal, value}
use Rattle.strings.specs.Bits.{at_front}
use Rattle.strings.specs.Refusals.{refusal_number}
use Rattle.strings.specs.declared.Refusal.{Refusal}
use Rattle.std.proofs.Math.Option.{Option, none, some}

-- ---- the start
-- the answer: the length of the opening question, or 01's number of the refusal
pub record StartSaid : Type 0 where
  pub answer : Result ℕ
  pub state : Rebuilder
  pub question : List ℕ

-- the state said of a refused start, which gives none: zeros, which no call takes
abbrev pub no_rebuilder : Rebuilder
no_rebuilder = record {
  settings = record { m = 0; h = 0; k = 0; key = 0; ceiling = 0 };
  ybits = 0;
  phase = AtOpening;
  n = 0;
  answered = 0;
  counted = 0;
  rows = 0;
  stage = Hashing;
  waiting = 0;
  pieces = replicate 32 no_piece;
}

abbrev pub said_start : CodeResult CodeStarted Refusal → List ℕ → StartSaid
said_start (Ok b) q = record { answer = value b.size; state = b.state; question = q }
said_start (Err e) q = record { answer = refusal (refusal_number e); state = no_rebuilder; question = q }

-- turned down: the question buffer is as it was; begun: the opening question stands at its front
abbrev pub leaves_start : List ℕ → Result Started → StartSaid
leaves_start q (refusal number) = record { answer = refusal number; state = no_rebuilder; question = q }
leaves_start q (value b) = record { answer = value (length b.question); state = b.state; question = at_front b.question q }

-- the start with settings, the bytes y of Y and their bit count, and the bytes of the question buffer
abbrev pub start_outcome : Settings → (y : List ℕ) (bits : ℕ) (question : List ℕ) → StartSaid
start_outcome S y bits question = leaves_start question (rebuilder_start S y bits (length question))

-- ---- the call
-- what the code's answer says: the length of the next question, none at the finish, or 01's number of the refusal
abbrev pub call_said : CodeResult (CodeOption ℕ) Refusal → Result (Option ℕ)
call_said (Ok (Some size)) = value (some size)
call_said (Ok None) = value none
call_said (Err e) = refusal (refusal_number e)

pub record RebuilderSaid : Type 0 where
  pub answer : Result (Option ℕ)
  pub state : Rebuilder
  pub sheet : SheetChange
  pub answered : ℕ
  pub counted : ℕ
  pub string : List ℕ
  pub question : List ℕ

abbrev pub said_rebuilder : RebuilderOut → List ℕ → List ℕ → RebuilderSaid
said_rebuilder r s q = record { answer = call_said r.answer; state = r.state; sheet = r.sheet; answered = r.answered; counted = r.counted; string = s; question = q }

-- the length of the question that is written; at the finish there is none
abbrev pub next_size : List ℕ → Option ℕ
next_size [] = none
next_size (b ∷ m) = some (length (b ∷ m))

-- turned down: state, string and question buffer are as they were; taken: the step's state, its changes of string and sheet, and the question at the front of its buffer.
-- The result carries the questions answered and the counted bytes too
abbrev pub leaves_rebuilder : Rebuilder → List ℕ → List ℕ → Result Taken → RebuilderSaid
leaves_rebuilder st s q (refusal number) = record { answer = refusal number; state = st; sheet = NoRow; answered = st.answered; counted = st.counted; string = s; question = q }
leaves_rebuilder st s q (value t) = record {
  answer = value (next_size t.question);
  state = t.step.state;
  sheet = t.step.sheet;
  answered = t.step.state.answered;
  counted = t.step.state.counted;
  string = string_after s t.step.string;
  question = at_front t.question q;
}

-- the lengths that a call is lent: bytes of string and question buffer, rows of the sheet
abbrev pub capacities : (string sheet question : ℕ) → Capacities
capacities s r q = record { string = s; sheet = r; question = q }

-- the call with the bytes y of Y, their bit count, a message, so many lent rows, and the bytes of string and question buffer
abbrev pub rebuilder_outcome : Rebuilder → (y : List ℕ) (bits : ℕ) (msg : List ℕ) (rows : ℕ) (string question : List ℕ) → RebuilderSaid
rebuilder_outcome st y bits msg rows string question =
    leaves_rebuilder st string question (rebuilder_call st y bits msg (capacities (length string) rows (length question)))
