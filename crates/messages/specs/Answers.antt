-- 01, "Messages", and 02, CR 1: answers as values and as bytes, and what a rebuilder that awaits one reads.
use Rattle.std.specs.Prelude.{◌≡◌, Result as CodeResult, Ok, Err, Bool, true, ◌&&◌, List, [], ◌∷◌, ◌++◌, ℕ, suc, ◌+◌, ◌*◌, ◌^◌, ◌≤◌, length, drop, ltb, leb, eqb}
use Rattle.strings.specs.Bits.{max_bits, range, bytes_for, pack}
use Rattle.strings.specs.StringRule.{string_rule, IsString}
use Rattle.strings.specs.Refusals.{refusal_number}
use Rattle.strings.specs.Results.{Result, refusal, value, unless, and_then}
use Rattle.strings.specs.declared.Refusal.{Refusal}
use Rattle.strings.specs.declared.Refusal.TheVariants.{Truncated, BadKind, TrailingBytes, OutOfRange}
use Rattle.codes.specs.Columns.{column_length}
use Rattle.messages.specs.declared.Kind.{Kind}
use Rattle.messages.specs.declared.Kind.TheVariants.{Open, Hash, Syndrome, Bits, Burst}
use Rattle.messages.specs.declared.Found.{Found}
use Rattle.messages.specs.declared.Found.TheVariants.{IsSize, IsHash, IsSyndrome, IsBits, IsBurst}
use Rattle.messages.specs.Numbers.{number, number_at, two_at, all_numbers, numbers_at}
use Rattle.messages.specs.Kinds.{kind_number}

-- an answer's value: n; a hash; a syndrome and a hash; bits; the syndromes of the columns and a hash
pub data Answer : Type 0 where
  size_answer : ℕ → Answer
  hash_answer : ℕ → Answer
  syndrome_answer : (a v : ℕ) → Answer
  bits_answer : List Bool → Answer
  burst_answer : (l : List ℕ) (v : ℕ) → Answer

-- 02, CR 1: "In the byte bound 9 becomes 102". No answer but bits has more bytes: a kind, 32 syndromes of at most three, a hash of at most five
abbrev pub longest_numbers : ℕ
longest_numbers = 102

unfoldable pub answer_bytes : Answer → List ℕ
answer_bytes (size_answer n) = number (kind_number Open) ++ number n
answer_bytes (hash_answer v) = number (kind_number Hash) ++ number v
answer_bytes (syndrome_answer a v) = number (kind_number Syndrome) ++ (number a ++ number v)
answer_bytes (bits_answer l) = number (kind_number Bits) ++ pack l
answer_bytes (burst_answer l v) = number (kind_number Burst) ++ (all_numbers l ++ number v)

-- the fields of an answer from position at on, of a kind, to a question of len bits, of a burst in b columns, under h: 4 and 5 as met, then 7, then 8
unfoldable pub size_at : List ℕ → ℕ → Result Answer
size_at s at =
    and_then (number_at s at) (λ (n, end).
    unless (leb (length s) end) TrailingBytes (
    unless (leb n max_bits) OutOfRange (
    value (size_answer n))))

unfoldable pub hash_at : ℕ → List ℕ → ℕ → Result Answer
hash_at h s at =
    and_then (number_at s at) (λ (v, end).
    unless (leb (length s) end) TrailingBytes (
    unless (ltb v (2 ^ h)) OutOfRange (
    value (hash_answer v))))

unfoldable pub syndrome_at : ℕ → ℕ → List ℕ → ℕ → Result Answer
syndrome_at len h s at =
    and_then (two_at s at) (λ (a, v, end).
    unless (leb (length s) end) TrailingBytes (
    unless (leb a len) OutOfRange (
    unless (ltb v (2 ^ h)) OutOfRange (
    value (syndrome_answer a v)))))

-- exactly as many bytes as len bits take, and these a string of len bits: spare bits zero
unfoldable pub bits_at : ℕ → List ℕ → ℕ → Result Answer
bits_at len s at =
    unless (leb (at + bytes_for len) (length s)) Truncated (
    unless (leb (length s) (at + bytes_for len)) TrailingBytes (
    unless (string_rule (drop at s) len) OutOfRange (
    value (bits_answer (range s (8 * at) len)))))

-- whether the numbers, of column j and those behind it, are each at most the column's length
unfoldable pub within_columns : ℕ → ℕ → ℕ → List ℕ → Bool
within_columns b len j [] = true
within_columns b len j (a ∷ l) = leb a (column_length b j len) && within_columns b len (suc j) l

-- b syndromes, and then the hash
unfoldable pub burst_at : ℕ → ℕ → ℕ → List ℕ → ℕ → Result Answer
burst_at len b h s at =
    and_then (numbers_at b s at) (λ (l, next).
    and_then (number_at s next) (λ (v, end).
    unless (leb (length s) end) TrailingBytes (
    unless (within_columns b len 0 l) OutOfRange (
    unless (ltb v (2 ^ h)) OutOfRange (
    value (burst_answer l v))))))

unfoldable pub answer_fields : Kind → ℕ → ℕ → ℕ → List ℕ → ℕ → Result Answer
answer_fields Open len b h s at = size_at s at
answer_fields Hash len b h s at = hash_at h s at
answer_fields Syndrome len b h s at = syndrome_at len h s at
answer_fields Bits len b h s at = bits_at len s at
answer_fields Burst len b h s at = burst_at len b h s at

-- the answer of the awaited kind: any other kind is 6
unfoldable pub read_answer : Kind → ℕ → ℕ → ℕ → List ℕ → Result Answer
read_answer kind len b h s =
    and_then (number_at s 0) (λ (v, at).
    unless (eqb v (kind_number kind)) BadKind (
    answer_fields kind len b h s at))

-- the b syndromes that stand behind the kind of the message s; none where they are not read
abbrev pub the_numbers : Result (List ℕ × ℕ) → List ℕ
the_numbers (refusal number) = []
the_numbers (value (l, end)) = l

unfoldable pub burst_syndromes : ℕ → List ℕ → List ℕ
burst_syndromes b s = the_numbers (and_then (number_at s 0) (λ (v, at). numbers_at b s at))

-- what the code's answer says of the message s, where len bits, of a burst in b columns, are awaited: bits are left where they lie, from byte at on, and so are syndromes of columns
abbrev pub said_answer : List ℕ → ℕ → ℕ → CodeResult Found Refusal → Result Answer
said_answer s len b (Ok (IsSize n)) = value (size_answer n)
said_answer s len b (Ok (IsHash v)) = value (hash_answer v)
said_answer s len b (Ok (IsSyndrome a v)) = value (syndrome_answer a v)
said_answer s len b (Ok (IsBits at)) = value (bits_answer (range s (8 * at) len))
said_answer s len b (Ok (IsBurst v)) = value (burst_answer (burst_syndromes b s) v)
said_answer s len b (Err e) = refusal (refusal_number e)

-- and they are the rest of the message, a string of len bits
pub record BitsAt (len : ℕ) (s : List ℕ) (at : ℕ) : Type 0 where
  pub inside : at ≤ length s
  pub string : IsString (drop at s) len

abbrev pub BitsThere : List ℕ → ℕ → CodeResult Found Refusal → Type 0
BitsThere s len (Ok (IsSize n)) = Unit {0}
BitsThere s len (Ok (IsHash v)) = Unit {0}
BitsThere s len (Ok (IsSyndrome a v)) = Unit {0}
BitsThere s len (Ok (IsBits at)) = BitsAt len s at
BitsThere s len (Ok (IsBurst v)) = Unit {0}
BitsThere s len (Err e) = Unit {0}

-- the message s was read to the answer of a burst in b columns
pub record BurstAnswered (b : ℕ) (s : List ℕ) : Type 0 where
  pub kind : Kind
  pub len : ℕ
  pub h : ℕ
  pub syndromes : List ℕ
  pub hash : ℕ
  pub read : read_answer kind len b h s ≡ value (burst_answer syndromes hash)
