-- The holder's call (01, "Messages" and "Why a call is turned down"): what the contract of the code and demand 3 are stated with.
use Rattle.std.specs.Prelude.{Bool, true, false, not, ◌&&◌, ◌||◌, List, ℕ, ◌+◌, length, leb, ltb, eqb}
use Rattle.strings.specs.Bits.{range}
use Rattle.strings.specs.StringRule.{string_rule}
use Rattle.strings.specs.Results.{Result, value, unless, and_then}
use Rattle.strings.specs.declared.Refusal.TheVariants.{BadString, OutOfTurn, BufferTooShort}
use Rattle.messages.specs.declared.Kind.{Kind}
use Rattle.messages.specs.declared.Kind.TheVariants.{Open, Hash, Syndrome, Bits, Burst}
use Rattle.messages.specs.declared.Question.{Question}
use Rattle.messages.specs.declared.Question.TheVariants.{AskOpen, AskHash, AskSyndrome, AskBits, AskBurst}
use Rattle.messages.specs.Kinds.{kind_at}
use Rattle.messages.specs.Questions.{fields_at}
use Rattle.messages.specs.Answers.{answer_bytes}
use Rattle.ends.specs.declared.Holder.{Holder}
use Rattle.ends.specs.Runs.{answer}
use Rattle.ends.specs.Soundness.{most_answers, holder_sound}

-- a fresh holder
abbrev pub fresh_holder : Holder
fresh_holder = record { opened = false; bits = 0; h = 0; key = 0; answers = 0 }

-- what a call that is not turned down gives: the next state and the message that is sent
pub record Reply : Type 0 where
  pub state : Holder
  pub message : List ℕ

abbrev pub replies : Holder → List ℕ → Result Reply
replies next m = value (record { state = next; message = m })

-- an opened holder is held to the bit count of its opening
unfoldable pub same_bit_count : Holder → ℕ → Bool
same_bit_count st bits = not st.opened || eqb st.bits bits

-- kind 0 is in turn before the opening, the others after it
abbrev pub in_turn : Bool → Kind → Bool
in_turn opened Open = not opened
in_turn opened Hash = opened
in_turn opened Syndrome = opened
in_turn opened Bits = opened
in_turn opened Burst = opened

-- the state after an answer
abbrev pub after_answer : Holder → ℕ → Question → Holder
after_answer st bits (AskOpen h key) = record { opened = true; bits = bits; h = h; key = key; answers = 1 }
after_answer st bits (AskHash x p) = record { opened = st.opened; bits = st.bits; h = st.h; key = st.key; answers = st.answers + 1 }
after_answer st bits (AskSyndrome x p) = record { opened = st.opened; bits = st.bits; h = st.h; key = st.key; answers = st.answers + 1 }
after_answer st bits (AskBits x p) = record { opened = st.opened; bits = st.bits; h = st.h; key = st.key; answers = st.answers + 1 }
after_answer st bits (AskBurst x p b) = record { opened = st.opened; bits = st.bits; h = st.h; key = st.key; answers = st.answers + 1 }

-- a message for which there is capacity
unfoldable pub sends : ℕ → Holder → List ℕ → Result Reply
sends capacity next m = unless (leb (length m) capacity) BufferTooShort (replies next m)

abbrev pub answers_to : Holder → List ℕ → (bits capacity : ℕ) → Question → Result Reply
answers_to st x bits capacity q = sends capacity (after_answer st bits q) (answer_bytes (answer st.h st.key (range x 0 bits) q))

-- a message of the kind k, whose fields begin at position at
abbrev pub of_kind : Holder → List ℕ → (bits : ℕ) → List ℕ → (capacity : ℕ) → (k : Kind) (at : ℕ) → Result Reply
of_kind st x bits msg capacity k at = unless (in_turn st.opened k) OutOfTurn (and_then (fields_at k msg at bits) (answers_to st x bits capacity))

-- the call on the bytes x of X, its bit count, a message and a reply buffer of capacity bytes: 2; 3; then the message, with 3 for a known kind out of turn; 9
unfoldable pub holder_call : Holder → (x : List ℕ) (bits : ℕ) (msg : List ℕ) (capacity : ℕ) → Result Reply
holder_call st x bits msg capacity =
    unless (string_rule x bits && same_bit_count st bits) BadString (
    unless (holder_sound st && ltb st.answers most_answers) OutOfTurn (
    and_then (kind_at msg) (λ (k, at). of_kind st x bits msg capacity k at)))
