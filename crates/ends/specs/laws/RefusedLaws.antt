-- A call that is turned down gets one of 01's numbers.
use Rattle.std.specs.Prelude.{◌&&◌, List, ℕ, length, leb, ltb, eqb}
use Rattle.std.proofs.Math.Option.{Option, none, some}
use Rattle.strings.specs.Bits.{range}
use Rattle.strings.specs.SettingLimits.{within_limits}
use Rattle.strings.specs.StringRule.{string_rule}
use Rattle.strings.specs.laws.ResultLaws.{Numbered, numbered-refusal, numbered-then, numbered-unless, numbered-value}
use Rattle.strings.specs.declared.Refusal.TheVariants.{BadSetting, BadString, OutOfTurn, BufferTooShort}
use Rattle.strings.specs.declared.settings.Settings.{Settings}
use Rattle.messages.specs.Answers.{answer_bytes, read_answer}
use Rattle.messages.specs.Kinds.{kind_at}
use Rattle.messages.specs.Questions.{fields_at, question_burst, question_kind, question_length}
use Rattle.messages.specs.declared.Question.{Question}
use Rattle.messages.specs.laws.RefusalLaws.{answer-numbered, fields-numbered, kind-at-numbered}
use Rattle.ends.specs.HolderCall.{answers_to, holder_call, in_turn, of_kind, same_bit_count, sends}
use Rattle.ends.specs.RebuilderCall.{Capacities, awaits, bits_known, enough_for, given, rebuilder_call, rebuilder_start}
use Rattle.ends.specs.Runs.{answer}
use Rattle.ends.specs.Soundness.{holder_sound, most_answers, sound}
use Rattle.ends.specs.States.{planned}
use Rattle.ends.specs.declared.Holder.{Holder}
use Rattle.ends.specs.declared.Rebuilder.{Rebuilder}

pub holder-numbered : (st : Holder) (x : List ℕ) (bits : ℕ) (msg : List ℕ) (capacity : ℕ) → Numbered (holder_call st x bits msg capacity)
unfolding holder_call sends
holder-numbered st x bits msg capacity =
    numbered-unless (string_rule x bits && same_bit_count st bits) BadString _ (numbered-unless (holder_sound st && ltb st.answers most_answers) OutOfTurn _ (
    numbered-then (kind_at msg) (λ (k, at). of_kind st x bits msg capacity k at) (kind-at-numbered msg) (λ (k, at).
    numbered-unless (in_turn st.opened k) OutOfTurn _ (
    numbered-then (fields_at k msg at bits) (answers_to st x bits capacity) (fields-numbered k msg at bits) (λ q.
    numbered-unless (leb (length (answer_bytes (answer st.h st.key (range x 0 bits) q))) capacity) BufferTooShort _ (numbered-value _))))))

pub start-numbered : (S : Settings) (y : List ℕ) (bits capacity : ℕ) → Numbered (rebuilder_start S y bits capacity)
unfolding rebuilder_start
start-numbered S y bits capacity =
    numbered-unless (within_limits S) BadSetting _ (numbered-unless (string_rule y bits) BadString _ (numbered-unless (leb 8 capacity) BufferTooShort _ (numbered-value _)))

pub call-numbered : (st : Rebuilder) (y : List ℕ) (bits : ℕ) (msg : List ℕ) (capacities : Capacities) → Numbered (rebuilder_call st y bits msg capacities)
unfolding rebuilder_call
call-numbered st y bits msg capacities = numbered-unless (string_rule y bits && eqb st.ybits bits) BadString _ (numbered-unless (sound st) OutOfTurn _ (go (planned st)))
  where
    go : (o : Option Question) → Numbered (awaits st y msg capacities o)
    go none = numbered-refusal OutOfTurn
    go (some q) =
        numbered-then (read_answer (question_kind q) (question_length q) (question_burst q) st.settings.h msg) (given st y msg capacities) (answer-numbered (question_kind q) (question_length q) (question_burst q) st.settings.h msg) (λ a.
        numbered-unless (enough_for st (bits_known st a) capacities) BufferTooShort _ (numbered-value _))
