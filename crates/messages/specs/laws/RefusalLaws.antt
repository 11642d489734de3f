-- A message that is not read gets one of 01's numbers.
use Rattle.std.specs.Prelude.{Bool, true, false, cond, List, ◌∷◌, ℕ, zero, suc, ◌+◌, ◌-◌, ◌*◌, ◌^◌, length, get_or, drop, leb, ltb, eqb}
use Rattle.strings.specs.Bits.{max_bits, bytes_for}
use Rattle.strings.specs.Results.{Result, value, unless, and_then, mapped}
use Rattle.strings.specs.SettingLimits.{between, hash_limits, key_limits}
use Rattle.strings.specs.StringRule.{string_rule}
use Rattle.strings.specs.laws.ResultLaws.{Numbered, numbered-mapped, numbered-refusal, numbered-then, numbered-unless, numbered-value}
use Rattle.strings.specs.declared.Refusal.TheVariants.{Truncated, BadNumber, BadKind, TrailingBytes, OutOfRange, BadBurst}
use Rattle.messages.specs.declared.Kind.{Kind}
use Rattle.messages.specs.declared.Kind.TheVariants.{Open, Hash, Syndrome, Bits, Burst}
use Rattle.messages.specs.declared.Question.{Question}
use Rattle.messages.specs.declared.Question.TheVariants.{AskHash, AskSyndrome, AskBits}
use Rattle.messages.specs.Numbers.{next_byte, number_at, two_at, three_at, numbers_at}
use Rattle.messages.specs.Kinds.{kind_number, kind_of, kind_at}
use Rattle.messages.specs.Questions.{opening_in, opening_at, range_in, range_question, burst_in, fields_at}
use Rattle.messages.specs.Questions.{burst_range_at}
use Rattle.messages.specs.Answers.{size_answer, hash_answer, syndrome_answer, burst_answer, size_at, hash_at, syndrome_at, bits_at, within_columns, burst_at, answer_fields, read_answer}

numbered-cond : {A : Type 0} (t : Bool) (a b : Result A) → Numbered a → Numbered b → Numbered (cond t a b)
numbered-cond true a b x y = x
numbered-cond false a b x y = y

next-numbered : (k : ℕ) (s : List ℕ) (at w v : ℕ) → Numbered (next_byte k s at w v)
unfolding next_byte
next-numbered zero s at w v =
    numbered-unless (ltb at (length s)) Truncated _ (numbered-unless (ltb 0 (get_or s at 0)) BadNumber _ (numbered-unless (leb (get_or s at 0) 15) BadNumber _ (numbered-value _)))
next-numbered (suc k) s at w v =
    numbered-unless (ltb at (length s)) Truncated _ (numbered-unless (ltb 0 (get_or s at 0)) BadNumber _ (
    numbered-cond (ltb (get_or s at 0) 128) (value (v + w * get_or s at 0, at + 1)) _ (numbered-value _) (next-numbered k s (at + 1) (w * 128) (v + w * (get_or s at 0 - 128)))))

number-numbered : (s : List ℕ) (at : ℕ) → Numbered (number_at s at)
unfolding number_at
number-numbered s at =
    numbered-unless (ltb at (length s)) Truncated _ (numbered-cond (ltb (get_or s at 0) 128) (value (get_or s at 0, at + 1)) _ (numbered-value _) (next-numbered 3 s (at + 1) 128 (get_or s at 0 - 128)))

two_numbered : (s : List ℕ) (at : ℕ) → Numbered (two_at s at)
unfolding two_at
two_numbered s at =
    numbered-then (number_at s at) (λ (a, next). and_then (number_at s next) (λ (b, end). value (a, b, end))) (number-numbered s at) (λ (a, next).
    numbered-then (number_at s next) (λ (b, end). value (a, b, end)) (number-numbered s next) (λ (b, end). numbered-value (a, b, end)))

three-numbered : (s : List ℕ) (at : ℕ) → Numbered (three_at s at)
unfolding three_at
three-numbered s at =
    numbered-then (two_at s at) (λ (a, b, next). and_then (number_at s next) (λ (c, end). value (a, b, c, end))) (two_numbered s at) (λ (a, b, next).
    numbered-then (number_at s next) (λ (c, end). value (a, b, c, end)) (number-numbered s next) (λ (c, end). numbered-value (a, b, c, end)))

numbers-numbered : (k : ℕ) (s : List ℕ) (at : ℕ) → Numbered (numbers_at k s at)
unfolding numbers_at
numbers-numbered zero s at = numbered-value _
numbers-numbered (suc k) s at =
    numbered-then (number_at s at) (λ (a, next). and_then (numbers_at k s next) (λ (l, end). value (a ∷ l, end))) (number-numbered s at) (λ (a, next).
    numbered-then (numbers_at k s next) (λ (l, end). value (a ∷ l, end)) (numbers-numbered k s next) (λ (l, end). numbered-value (a ∷ l, end)))

kind-numbered : (v : ℕ) → Numbered (kind_of v)
kind-numbered zero = numbered-value Open
kind-numbered (suc zero) = numbered-value Hash
kind-numbered (suc (suc zero)) = numbered-value Syndrome
kind-numbered (suc (suc (suc zero))) = numbered-value Bits
kind-numbered (suc (suc (suc (suc zero)))) = numbered-value Burst
kind-numbered (suc (suc (suc (suc (suc v))))) = numbered-refusal BadKind

pub kind-at-numbered : (s : List ℕ) → Numbered (kind_at s)
unfolding kind_at
kind-at-numbered s =
    numbered-then (number_at s 0) (λ (v, at). mapped (λ k. (k, at)) (kind_of v)) (number-numbered s 0) (λ (v, at). numbered-mapped (λ k. (k, at)) (kind_of v) (kind-numbered v))

range-numbered : (ask : ℕ → ℕ → Question) (s : List ℕ) (at n : ℕ) → Numbered (range_question ask s at n)
unfolding range_question
range-numbered ask s at n =
    numbered-then (two_at s at) (λ (start, len, end). range_in ask (length s) n start len end) (two_numbered s at) (λ (start, len, end).
    numbered-unless (leb (length s) end) TrailingBytes _ (numbered-unless (leb 1 len) OutOfRange _ (numbered-unless (leb (start + len) n) OutOfRange _ (numbered-value _))))

opening-numbered : (s : List ℕ) (at : ℕ) → Numbered (opening_at s at)
unfolding opening_at
opening-numbered s at =
    numbered-then (three_at s at) (λ (version, h, key, end). opening_in (length s) version h key end) (three-numbered s at) (λ (version, h, key, end).
    numbered-unless (leb (length s) end) TrailingBytes _ (numbered-unless (eqb version 1) OutOfRange _ (
    numbered-unless (hash_limits h) OutOfRange _ (numbered-unless (key_limits key) OutOfRange _ (numbered-value _)))))

burst-asked-numbered : (s : List ℕ) (at n : ℕ) → Numbered (burst_range_at s at n)
unfolding burst_range_at
burst-asked-numbered s at n =
    numbered-then (three_at s at) (λ (start, len, b, end). burst_in (length s) n start len b end) (three-numbered s at) (λ (start, len, b, end).
    numbered-unless (leb (length s) end) TrailingBytes _ (numbered-unless (between 2 b 32) BadBurst _ (
    numbered-unless (leb 1 len) OutOfRange _ (numbered-unless (leb (start + len) n) OutOfRange _ (numbered-value _)))))

pub fields-numbered : (k : Kind) (s : List ℕ) (at n : ℕ) → Numbered (fields_at k s at n)
unfolding fields_at
fields-numbered Open s at n = opening-numbered s at
fields-numbered Hash s at n = range-numbered AskHash s at n
fields-numbered Syndrome s at n = range-numbered AskSyndrome s at n
fields-numbered Bits s at n = range-numbered AskBits s at n
fields-numbered Burst s at n = burst-asked-numbered s at n

size-numbered : (s : List ℕ) (at : ℕ) → Numbered (size_at s at)
unfolding size_at
size-numbered s at =
    numbered-then (number_at s at) (λ (n, end). unless (leb (length s) end) TrailingBytes (unless (leb n max_bits) OutOfRange (value (size_answer n)))) (number-numbered s at) (λ (n, end).
    numbered-unless (leb (length s) end) TrailingBytes _ (numbered-unless (leb n max_bits) OutOfRange _ (numbered-value _)))

hash-numbered : (h : ℕ) (s : List ℕ) (at : ℕ) → Numbered (hash_at h s at)
unfolding hash_at
hash-numbered h s at =
    numbered-then (number_at s at) (λ (v, end). unless (leb (length s) end) TrailingBytes (unless (ltb v (2 ^ h)) OutOfRange (value (hash_answer v)))) (number-numbered s at) (λ (v, end).
    numbered-unless (leb (length s) end) TrailingBytes _ (numbered-unless (ltb v (2 ^ h)) OutOfRange _ (numbered-value _)))

syndrome-numbered : (len h : ℕ) (s : List ℕ) (at : ℕ) → Numbered (syndrome_at len h s at)
unfolding syndrome_at
syndrome-numbered len h s at =
    numbered-then (two_at s at) (λ (a, v, end). unless (leb (length s) end) TrailingBytes (unless (leb a len) OutOfRange (unless (ltb v (2 ^ h)) OutOfRange (value (syndrome_answer a v))))) (two_numbered s at) (λ (a, v, end).
    numbered-unless (leb (length s) end) TrailingBytes _ (numbered-unless (leb a len) OutOfRange _ (numbered-unless (ltb v (2 ^ h)) OutOfRange _ (numbered-value _))))

bits-numbered : (len : ℕ) (s : List ℕ) (at : ℕ) → Numbered (bits_at len s at)
unfolding bits_at
bits-numbered len s at =
    numbered-unless (leb (at + bytes_for len) (length s)) Truncated _ (numbered-unless (leb (length s) (at + bytes_for len)) TrailingBytes _ (
    numbered-unless (string_rule (drop at s) len) OutOfRange _ (numbered-value _)))

burst-numbered : (len b h : ℕ) (s : List ℕ) (at : ℕ) → Numbered (burst_at len b h s at)
unfolding burst_at
burst-numbered len b h s at =
    numbered-then (numbers_at b s at)
    (λ (l, next). and_then (number_at s next) (λ (v, end). unless (leb (length s) end) TrailingBytes (unless (within_columns b len 0 l) OutOfRange (unless (ltb v (2 ^ h)) OutOfRange (value (burst_answer l v))))))
    (numbers-numbered b s at) (λ (l, next).
    numbered-then (number_at s next) (λ (v, end). unless (leb (length s) end) TrailingBytes (unless (within_columns b len 0 l) OutOfRange (unless (ltb v (2 ^ h)) OutOfRange (value (burst_answer l v)))))
    (number-numbered s next) (λ (v, end).
    numbered-unless (leb (length s) end) TrailingBytes _ (numbered-unless (within_columns b len 0 l) OutOfRange _ (numbered-unless (ltb v (2 ^ h)) OutOfRange _ (numbered-value _)))))

answer-fields-numbered : (k : Kind) (len b h : ℕ) (s : List ℕ) (at : ℕ) → Numbered (answer_fields k len b h s at)
unfolding answer_fields
answer-fields-numbered Open len b h s at = size-numbered s at
answer-fields-numbered Hash len b h s at = hash-numbered h s at
answer-fields-numbered Syndrome len b h s at = syndrome-numbered len h s at
answer-fields-numbered Bits len b h s at = bits-numbered len s at
answer-fields-numbered Burst len b h s at = burst-numbered len b h s at

pub answer-numbered : (k : Kind) (len b h : ℕ) (s : List ℕ) → Numbered (read_answer k len b h s)
unfolding read_answer
answer-numbered k len b h s =
    numbered-then (number_at s 0) (λ (v, at). unless (eqb v (kind_number k)) BadKind (answer_fields k len b h s at)) (number-numbered s 0) (λ (v, at).
    numbered-unless (eqb v (kind_number k)) BadKind _ (answer-fields-numbered k len b h s at))
