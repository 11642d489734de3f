-- What the parts of the holder's call give and require.
use Rattle.std.specs.Prelude.{◌≡◌, Result as CodeResult, Ok, Err, Bool, true, List, ℕ, ◌+◌, ◌≤◌, ◌<◌, length}
use Rattle.codes.specs.Hash.{hash}
use Rattle.codes.specs.Syndrome.{syndrome}
use Rattle.messages.specs.Answers.{Answer, hash_answer, syndrome_answer, burst_answer, answer_bytes}
use Rattle.codes.specs.Columns.{syndromes}
use Rattle.strings.specs.Bits.{Part}
use Rattle.strings.specs.StringRule.{string_rule}
use Rattle.strings.specs.declared.Refusal.{Refusal}
use Rattle.messages.specs.declared.Question.{Question}
use Rattle.messages.specs.laws.QuestionLaws.{Within}
use Rattle.ends.specs.declared.Holder.{Holder}
use Rattle.ends.specs.Soundness.{holder_sound, most_answers}
use Rattle.ends.specs.HolderCall.{sends}
use Rattle.ends.specs.HolderOutcome.{HolderSaid, leaves_holder}
use Rattle.ends.specs.declared.answering.HolderOut.{HolderOut}

-- ---- parts of the call
-- turned down
abbrev pub refused : Holder → Refusal → HolderOut
refused st e = record { answer = Err e; state = st }

-- what a writer's result comes to
abbrev pub written : (st next : Holder) → CodeResult ℕ Refusal → HolderOut
written st next (Err e) = refused st e
written st next (Ok size) = record { answer = Ok size; state = next }

-- the state after the opening
abbrev pub opened_with : (n h key : ℕ) → Holder
opened_with n h key = record { opened = true; bits = n; h = h; key = key; answers = 1 }

-- the state after another answer
abbrev pub one_more : Holder → Holder
one_more st = record { opened = st.opened; bits = st.bits; h = st.h; key = st.key; answers = st.answers + 1 }

-- the answers for a piece l
abbrev pub hash_reply : Holder → List Bool → Answer
hash_reply st l = hash_answer (hash st.h st.key l)

abbrev pub syndrome_reply : Holder → List Bool → Answer
syndrome_reply st l = syndrome_answer (syndrome l) (hash st.h st.key l)

abbrev pub burst_reply : Holder → ℕ → List Bool → Answer
burst_reply st b l = burst_answer (syndromes b l) (hash st.h st.key l)

-- what sending the answer a, with the state next after it, leaves
abbrev pub reply_outcome : (st next : Holder) → Answer → (reply : List ℕ) → HolderSaid
reply_outcome st next a reply = leaves_holder st reply (sends (length reply) next (answer_bytes a))

-- ---- what is required
-- the range that is answered for lies in x, the hash has a width that a number holds, and an answer is left
pub record Answers (st : Holder) (x : List ℕ) (start len : ℕ) : Type 0 where
  pub part : Part x start len
  pub width : st.h ≤ 32
  pub left : st.answers < most_answers

-- what the tests before the message show
pub record Able (st : Holder) (x : List ℕ) (n : ℕ) : Type 0 where
  pub string : string_rule x n ≡ true
  pub sound : holder_sound st ≡ true
  pub left : st.answers < most_answers

-- and what the reader shows
pub record Ready (st : Holder) (x : List ℕ) (n : ℕ) (q : Question) : Type 0 where
  pub able : Able st x n
  pub within : Within n q
