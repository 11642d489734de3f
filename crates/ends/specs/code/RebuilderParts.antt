-- What the parts of the rebuilder's call give and require.
use Rattle.std.specs.Prelude.{◌≡◌, Result as CodeResult, Ok, Err, Option as CodeOption, Some, None, Bool, true, cond, ◌⊎◌, List, [], ◌∷◌, ℕ, ◌+◌, ◌*◌, ◌≤◌, ◌<◌, length, eqb}
use Rattle.std.proofs.Math.Option.{some}
use Rattle.strings.specs.Results.{Result, and_then}
use Rattle.strings.specs.Bits.{at_front, max_bits}
use Rattle.strings.specs.Bits.{Bytes}
use Rattle.ends.specs.declared.How.{How}
use Rattle.ends.specs.declared.How.TheVariants.{ByPutIn, ByTakeOut}
use Rattle.ends.specs.Segments.{offset}
use Rattle.strings.specs.declared.Refusal.{Refusal}
use Rattle.messages.specs.declared.Question.{Question}
use Rattle.messages.specs.declared.Found.{Found}
use Rattle.messages.specs.declared.Found.TheVariants.{IsSize, IsHash, IsSyndrome, IsBits, IsBurst}
use Rattle.messages.specs.Questions.{question_kind, question_length, question_burst}
use Rattle.messages.specs.Answers.{Answer, read_answer, said_answer, BitsThere}
use Rattle.ends.specs.declared.Rebuilder.{Rebuilder}
use Rattle.ends.specs.declared.SheetChange.{SheetChange}
use Rattle.ends.specs.declared.SheetChange.TheVariants.{NoRow}
use Rattle.ends.specs.Runs.{full, longest_answer}
use Rattle.ends.specs.States.{planned, top}
use Rattle.ends.specs.Soundness.{sound}
use Rattle.ends.specs.RebuilderCall.{Taken, takes, Step, written_question, Capacities, enough_for, step_of, awaits}
use Rattle.ends.specs.RebuilderOutcome.{RebuilderSaid, leaves_rebuilder, capacities}
use Rattle.ends.specs.declared.rebuilding.RebuilderOut.{RebuilderOut}
use Rattle.ends.specs.declared.Stage.{Stage}
use Rattle.ends.specs.declared.Stage.TheVariants.{Hashing, PuttingIn, TakingOut, Anchor, AllBits, Columns}
use Rattle.ends.specs.declared.Attempt.{Attempt}
use Rattle.ends.specs.declared.Phase.{Phase}
use Rattle.ends.specs.declared.Phase.TheVariants.{AtOpening, AtPieces, AtWhole}
use Rattle.ends.specs.Anchors.{distance}

-- ---- the parts of the call
-- the next question's length, or the finish
abbrev pub next_answer : List ℕ → CodeResult (CodeOption ℕ) Refusal
next_answer [] = Ok None
next_answer (b ∷ m) = Ok (Some (length (b ∷ m)))

-- turned down
abbrev pub turned_down : Refusal → Rebuilder → RebuilderOut
turned_down e st = record { answer = Err e; state = st; sheet = NoRow; answered = st.answered; counted = st.counted }

-- a step with the question that its state asks
abbrev pub step_taken : Step → Result Taken
step_taken k = takes k (written_question (planned k.state))

-- what taking the answer a of size bytes leaves
abbrev pub step_outcome : Rebuilder → (y : List ℕ) (size : ℕ) → Answer → (string question : List ℕ) → RebuilderSaid
step_outcome st y size a string question = leaves_rebuilder st string question (step_taken (step_of st y size a))

-- what is given for a state s and a change of the sheet, with the next question written over the buffer q
pub record OutIs (r : RebuilderOut) (s : Rebuilder) (k : SheetChange) (q q' : List ℕ) : Type 0 where
  pub out : r ≡ record { answer = next_answer (written_question (planned s)); state = s; sheet = k; answered = s.answered; counted = s.counted }
  pub question : q' ≡ at_front (written_question (planned s)) q

-- an answer of size bytes for the leftmost piece of a sound state, with a question buffer of capacity bytes
pub record Acting (st : Rebuilder) (size capacity : ℕ) : Type 0 where
  pub sound-now : sound st ≡ true
  pub array : length st.pieces ≡ 32
  pub phase : st.phase ≡ AtPieces
  pub some : 0 < st.waiting
  pub short : size ≤ longest_answer st.n
  pub enough : 8 ≤ capacity

-- the lent strings hold what the state says of them
pub record Lending (st : Rebuilder) (y string : List ℕ) : Type 0 where
  pub copy : st.ybits ≤ 8 * length y
  pub text : st.n ≤ 8 * length string

-- s is the offset of the stage's anchor, and r leaves it in the copy
pub record Splitting (st : Rebuilder) (s r : ℕ) : Type 0 where
  pub attempt : Attempt
  pub stage : st.stage ≡ Anchor attempt
  pub at : s ≡ offset st.settings.m (top st).p attempt
  pub placed : r + st.settings.m ≤ (top st).q

-- a stage after which another one can come
abbrev pub Retriable : Stage → Type 0
Retriable Hashing = Unit {0}
Retriable PuttingIn = Unit {0}
Retriable TakingOut = Unit {0}
Retriable Columns = Unit {0}
Retriable (Anchor i) = Unit {0}
Retriable AllBits = ⊥

-- step 3, of the leftmost piece
pub data RepairDue (st : Rebuilder) : Type 0 where
  puts_in : st.stage ≡ PuttingIn → (top st).q + 1 ≡ (top st).p → RepairDue st
  takes_out : st.stage ≡ TakingOut → (top st).q ≡ (top st).p + 1 → RepairDue st

-- 02, CR 1: by how many bits the leftmost piece and its copy differ, where its columns are repaired
abbrev pub burst_of : Rebuilder → ℕ
burst_of st = distance (top st).p (top st).q

pub record BurstDue (st : Rebuilder) : Type 0 where
  pub stage : st.stage ≡ Columns
  pub least : 2 ≤ burst_of st
  pub most : burst_of st ≤ 32

-- step 4
abbrev pub AsksBits : Stage → Type 0
AsksBits Hashing = ⊥
AsksBits PuttingIn = ⊥
AsksBits TakingOut = ⊥
AsksBits Columns = ⊥
AsksBits (Anchor i) = Unit {0}
AsksBits AllBits = Unit {0}

-- how many bits it then asks for
abbrev pub bits_of_stage : Rebuilder → Stage → ℕ
bits_of_stage st Hashing = 0
bits_of_stage st PuttingIn = 0
bits_of_stage st TakingOut = 0
bits_of_stage st Columns = 0
bits_of_stage st (Anchor i) = st.settings.m
bits_of_stage st AllBits = (top st).p

-- step 3: put-in for a copy that is one bit short, else take-out
unfoldable pub repair_how : ℕ → ℕ → How
repair_how p q = cond (eqb (q + 1) p) ByPutIn ByTakeOut

-- ---- an answer that was read
-- the opening's answer n
pub record Opening (st : Rebuilder) (n capacity : ℕ) : Type 0 where
  pub sound-now : sound st ≡ true
  pub array : length st.pieces ≡ 32
  pub phase : st.phase ≡ AtOpening
  pub small : n ≤ max_bits
  pub enough : 8 ≤ capacity

-- an answer of size bytes with all bits of the string
pub record WholeDue (st : Rebuilder) (size capacity : ℕ) : Type 0 where
  pub sound-now : sound st ≡ true
  pub phase : st.phase ≡ AtWhole
  pub short : size ≤ full st.n
  pub enough : 8 ≤ capacity

-- an answer of size bytes with bits: of the string, or of the leftmost piece
pub record BitsDue (st : Rebuilder) (size capacity : ℕ) : Type 0 where
  pub phases : (WholeDue st size capacity) ⊎ (Acting st size capacity × AsksBits st.stage)

-- how many bits are awaited
abbrev pub due_at : Phase → Rebuilder → ℕ
due_at AtOpening st = 0
due_at AtPieces st = bits_of_stage st st.stage
due_at AtWhole st = st.n

abbrev pub due_length : Rebuilder → ℕ
due_length st = due_at st.phase st

-- the question that waits, and what was read from the message as its answer
pub record Due (st : Rebuilder) (msg : List ℕ) (len b : ℕ) (found : Found) : Type 0 where
  pub sound-now : sound st ≡ true
  pub array : length st.pieces ≡ 32
  pub bytes : Bytes msg
  pub question : Question
  pub asked : planned st ≡ some question
  pub asked-length : len ≡ question_length question
  pub asked-burst : b ≡ question_burst question
  pub read_is : said_answer msg len b (Ok found) ≡ read_answer (question_kind question) (question_length question) (question_burst question) st.settings.h msg
  pub bits-there : BitsThere msg len (Ok found)

-- whether the lent buffers are enough for the answer
abbrev pub enough_for_answer : Rebuilder → Capacities → Found → Bool
enough_for_answer st capacities (IsSize n) = enough_for st n capacities
enough_for_answer st capacities (IsHash v) = enough_for st st.n capacities
enough_for_answer st capacities (IsSyndrome a v) = enough_for st st.n capacities
enough_for_answer st capacities (IsBits at) = enough_for st st.n capacities
enough_for_answer st capacities (IsBurst v) = enough_for st st.n capacities

-- what comes of it in buffers that are long enough
abbrev pub heard_step : Rebuilder → (y msg : List ℕ) → (len b : ℕ) → Found → Result Taken
heard_step st y msg len b found = and_then (said_answer msg len b (Ok found)) (λ a. step_taken (step_of st y (length msg) a))

abbrev pub heard_outcome : Rebuilder → (y msg : List ℕ) (len b : ℕ) → Found → (string question : List ℕ) → RebuilderSaid
heard_outcome st y msg len b found string question = leaves_rebuilder st string question (heard_step st y msg len b found)

-- what a message for the question q that waits leaves
abbrev pub asked_outcome : Rebuilder → (y msg : List ℕ) (rows : ℕ) → Question → (string question : List ℕ) → RebuilderSaid
asked_outcome st y msg rows q string question =
    leaves_rebuilder st string question (awaits st y msg (capacities (length string) rows (length question)) (some q))
