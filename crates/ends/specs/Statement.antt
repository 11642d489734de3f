-- The statement of demand 3, in the order's sequence. The quoted words are the order's, or 01's where 01 is named.
use Rattle.std.specs.Prelude.{◌≡◌, Bool, true, ◌⊎◌, List, [], ◌∷◌, ◌++◌, ℕ, ◌+◌, ◌*◌, ◌/◌, ◌≤◌, length}
use Rattle.std.proofs.Math.Option.{Option, none, some}
use Rattle.strings.specs.Bits.{at_front, bytes_for, pack}
use Rattle.strings.specs.Results.{Result, refusal, value}
use Rattle.strings.specs.SettingLimits.{within_limits}
use Rattle.strings.specs.StringRule.{string_rule}
use Rattle.messages.specs.Answers.{answer_bytes}
use Rattle.messages.specs.Questions.{question_bytes, read_question}
use Rattle.messages.specs.declared.Question.{Question}
use Rattle.messages.specs.declared.Question.TheVariants.{AskOpen}
use Rattle.ends.specs.Anchors.{part}
use Rattle.ends.specs.Claims.{is_wait, At, Finished, Settled, total, rows_at_front, zeroed}
use Rattle.ends.specs.RebuilderCall.{fresh_rebuilder, written_question}
use Rattle.ends.specs.RebuilderOutcome.{next_size}
use Rattle.ends.specs.Runs.{Run, copies, full, honest_answer, pieces_of, question, run, sheet_of, string, longest_answer}
use Rattle.ends.specs.Segments.{settled}
use Rattle.ends.specs.Worlds.{Call, Each, Lent, World, bits_of_x, bits_of_y, first_world, holder_says, rebuilder_says, start_says, step_world, to_holder, to_rebuilder, world_after}
use Rattle.ends.specs.declared.How.{How}

-- ---- what is supposed
-- "Take any reference, copy, key and settings, a fresh holder and a fresh rebuilder"; 01: "X and Y keep the string rule, the settings their
-- limits ... and all buffers are long enough"
pub record Supposed (c : Lent) : Type 0 where
  pub reference : string_rule c.x c.xbits ≡ true
  pub copy : string_rule c.y c.ybits ≡ true
  pub limits : within_limits c.settings ≡ true
  pub string : bytes_for c.xbits ≤ length c.string
  pub sheet : 2 * (c.xbits / c.settings.m) + 1 ≤ length c.sheet
  pub question : 8 ≤ length c.question

-- and so is the buffer of each call
abbrev pub LongEnough : Lent → Call → Type 0
LongEnough c (to_holder m buffer) = longest_answer c.xbits ≤ length buffer
LongEnough c (to_rebuilder m buffer) = 8 ≤ length buffer

-- 01: "The holder's answer to it is the message that "Messages" gives for X under the opening that the rebuilder wrote"
pub record HoldersAnswer (c : Lent) (asked m : List ℕ) : Type 0 where
  pub q : Question
  pub reads : read_question asked c.xbits ≡ value q
  pub is : m ≡ answer_bytes (honest_answer c.settings (bits_of_x c) q)

-- the call was not refused
abbrev pub WasTaken : {A : Type 0} → Result A → Type 0
WasTaken {A} r = (v : A) × (r ≡ value v)

-- "every list of calls that offer a message to one or the other, refused ones included, in which the rebuilder takes only the holder's answer
-- to the question then waiting"
abbrev pub FairCall : Lent → World → Call → Type 0
FairCall c w (to_holder m buffer) = Unit {0}
FairCall c w (to_rebuilder m buffer) = WasTaken (rebuilder_says c w m buffer).said.answer → HoldersAnswer c w.waiting m

abbrev pub Admitted : Lent → World → Call → Type 0
Admitted c w k = LongEnough c k × FairCall c w k

-- ---- what is claimed of the start: a fresh rebuilder's state, and the opening question written
pub record Begins (c : Lent) : Type 0 where
  pub answer : (start_says c).answer ≡ value (length (question_bytes (AskOpen c.settings.h c.settings.key)))
  pub state : (start_says c).state ≡ fresh_rebuilder c.settings c.ybits
  pub question : (start_says c).question ≡ at_front (question_bytes (AskOpen c.settings.h c.settings.key)) c.question

-- ---- what is claimed of each call in the list; w is the world in which it came
-- 01: "Pieces are what the steps above make of n, Y, the settings and the answers taken, and not what a state records"
abbrev pub run_in : Lent → World → Run
run_in c w = run c.settings (bits_of_y c) w.taken

-- the question that 01 fixes after the answers taken; none at the finish
abbrev pub asked : Lent → World → Option Question
asked c w = question c.settings (run_in c w)

abbrev pub Member : List ℕ → List (List ℕ) → Type 0
Member m [] = ⊥
Member m (x ∷ l) = (x ≡ m) ⊎ Member m l

-- "a holder that had taken each earlier question once and nothing else": it took as many messages as there were, and each is one of them
pub record OnceEach (earlier heard : List (List ℕ)) : Type 0 where
  pub many : length heard ≡ length earlier
  pub each : (m : List ℕ) → Member m heard → Member m earlier

-- the bytes of the question that 01 fixes
abbrev pub fixed : Lent → World → List ℕ
fixed c w = written_question (asked c w)

-- what an answer that was taken gave, in the world w' after it: that question, written and waiting, or the finish
pub record NextGiven (c : Lent) (w w' : World) (m buffer : List ℕ) : Type 0 where
  pub said : (rebuilder_says c w m buffer).said.answer ≡ value (next_size (fixed c w'))
  pub written : (rebuilder_says c w m buffer).said.question ≡ at_front (fixed c w') buffer
  pub waits : w'.waiting ≡ fixed c w'

pub record RebuilderClaims (c : Lent) (w w' : World) (m buffer : List ℕ) : Type 0 where
  -- "The rebuilder refused no such answer"
  pub accepts : HoldersAnswer c w.waiting m → WasTaken (rebuilder_says c w m buffer).said.answer
  -- "Each answer taken gave the next question that document 01 fixes, or its finish"
  pub gives : WasTaken (rebuilder_says c w m buffer).said.answer → NextGiven c w w' m buffer
  -- a settled piece stays settled with its bits, unless the whole string has come and is the reference
  pub keeps : (x : ℕ) (how : How) (copy bits : List Bool) → At 0 (pieces_of (run_in c w)) x (settled how copy bits)
      → At 0 (pieces_of (run_in c w')) x (settled how copy bits) ⊎ (string (pieces_of (run_in c w')) ≡ bits_of_x c)
  -- a refused call changes nothing
  pub unchanged : (number : ℕ) → (rebuilder_says c w m buffer).said.answer ≡ refusal number
      → (w' ≡ w) × ((rebuilder_says c w m buffer).said.question ≡ buffer)

pub record HolderClaims (c : Lent) (w w' : World) (m buffer : List ℕ) : Type 0 where
  -- "and a holder that had taken each earlier question once and nothing else refused no waiting question"; 01: it "replies exactly this"
  pub replies : (a : List ℕ) → m ≡ w.waiting → HoldersAnswer c m a → OnceEach w.earlier w.heard
      → ((holder_says c w m buffer).answer ≡ value (length a)) × ((holder_says c w m buffer).reply ≡ at_front a buffer)
  -- a refused call changes nothing
  pub unchanged : (number : ℕ) → (holder_says c w m buffer).answer ≡ refusal number → (w' ≡ w) × ((holder_says c w m buffer).reply ≡ buffer)

abbrev pub CallClaims : Lent → World → Call → Type 0
CallClaims c w (to_holder m buffer) = HolderClaims c w (step_world c w (to_holder m buffer)) m buffer
CallClaims c w (to_rebuilder m buffer) = RebuilderClaims c w (step_world c w (to_rebuilder m buffer)) m buffer

-- ---- what is claimed after the list; w is the world then
-- the bytes of all messages but the first, the opening's answer
abbrev pub lengths : List (List ℕ) → ℕ
lengths [] = 0
lengths (m ∷ ms) = length m + lengths ms

abbrev pub counted_bytes : List (List ℕ) → ℕ
counted_bytes [] = 0
counted_bytes (m ∷ ms) = lengths ms

pub record AfterClaims (c : Lent) (w : World) : Type 0 where
  -- the question waiting is the one that 01 fixes; after the finish none waits
  pub waits : w.waiting ≡ fixed c w
  -- and the holder reads it so
  pub reads : (q : Question) → asked c w ≡ some q → read_question w.waiting c.xbits ≡ value q
  -- "At most 10·floor(n/m) + 6 questions were answered, for n bits and anchors of m"; 01: "Questions answered are the answers that the
  -- rebuilder took, the opening's among them"
  pub answered : w.rebuilder.answered ≡ length w.taken
  pub questions : length w.taken ≤ 10 * (c.xbits / c.settings.m) + 6
  -- "and the counted bytes keep document 01's bound"; 01: "After each answer but the opening, its bytes join a count"
  pub counted : w.rebuilder.counted ≡ counted_bytes w.taken
  pub bytes : counted_bytes w.taken ≤ c.settings.ceiling + full c.xbits + longest_answer c.xbits
  -- 01: "At most 32 pieces ever wait"
  pub few : total is_wait (pieces_of (run_in c w)) ≤ 32
  -- 01: the settled pieces' bits, and zeros for what waits, packed at the front of the string buffer; "later bytes keep what they had"
  pub string : w.string ≡ at_front (pack (string (pieces_of (run_in c w)))) c.string
  -- 01: the settled pieces' rows "in order of settling" at the front of the sheet; zeros in those that the whole string's row replaced;
  -- "Unused rows ... keep what they had"
  pub sheet : w.sheet ≡ rows_at_front (sheet_of (run_in c w)) (zeroed c.settings (bits_of_y c) w.taken) c.sheet
  pub used : w.rebuilder.rows ≡ length (sheet_of (run_in c w))
  pub rows : length (sheet_of (run_in c w)) ≤ 2 * (c.xbits / c.settings.m) + 1
  -- 01: "A piece's copy is its range of Y": the copies of the pieces are together Y
  pub copied : (pieces_of (run_in c w) ≡ []) ⊎ (copies (pieces_of (run_in c w)) ≡ bits_of_y c)
  -- "A finished string has the reference's bits, except in settled pieces that differ from the reference's yet share length and hash (and
  -- syndrome, if used)"; 01: "At the end the rows cover each bit of X exactly once"
  pub finish : asked c w ≡ none → Finished c.settings (bits_of_x c) (run_in c w) × (w.rebuilder.n ≡ c.xbits)
  -- "A piece whose copy is the reference's with nothing changed, one bit lost or one bit added has, once settled, the reference's bits": Settled,
  -- exact; and every settled piece has the length, hash and syndrome that the exception speaks of
  pub settled : (x : ℕ) (how : How) (copy bits : List Bool) → At 0 (pieces_of (run_in c w)) x (settled how copy bits)
      → Settled c.settings (part (bits_of_x c) x (length bits)) how copy bits

-- ---- demand 3
pub record Demand3 (c : Lent) (ks : List Call) : Type 0 where
  pub calls : Each (CallClaims c) c (first_world c) ks
  -- "After the list these hold"
  pub after : AfterClaims c (world_after c (first_world c) ks)
  -- the outlook: whichever call came next, the same would hold of it
  pub next : (k : Call) → Admitted c (world_after c (first_world c) ks) k → CallClaims c (world_after c (first_world c) ks) k

abbrev pub DemandThree : Type 0
DemandThree = (c : Lent) → Supposed c → Begins c × ((ks : List Call) → Each (Admitted c) c (first_world c) ks → Demand3 c ks)

-- a consequence: every such list can be gone on with until no question waits
abbrev pub RunsEnd : Type 0
RunsEnd = (c : Lent) → Supposed c → (ks : List Call) → Each (Admitted c) c (first_world c) ks
    → (more : List Call) × Each (Admitted c) c (first_world c) (ks ++ more) × ((world_after c (first_world c) (ks ++ more)).waiting ≡ [])
