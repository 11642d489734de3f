-- 01, "Messages", and 02, CR 1: questions as bytes, and what a holder of n bits reads.
use Rattle.std.specs.Prelude.{List, ◌++◌, ℕ, ◌+◌, length, leb, eqb}
use Rattle.strings.specs.SettingLimits.{hash_limits, key_limits}
use Rattle.codes.specs.Columns.{column_limits}
use Rattle.strings.specs.Results.{Result, value, unless, and_then}
use Rattle.strings.specs.declared.Refusal.TheVariants.{TrailingBytes, OutOfRange, BadBurst}
use Rattle.messages.specs.declared.Kind.{Kind}
use Rattle.messages.specs.declared.Kind.TheVariants.{Open, Hash, Syndrome, Bits, Burst}
use Rattle.messages.specs.declared.Question.{Question}
use Rattle.messages.specs.declared.Question.TheVariants.{AskOpen, AskHash, AskSyndrome, AskBits, AskBurst}
use Rattle.messages.specs.Numbers.{number, two_at, three_at}
use Rattle.messages.specs.Kinds.{kind_number, kind_at}

abbrev pub question_kind : Question → Kind
question_kind (AskOpen h key) = Open
question_kind (AskHash start len) = Hash
question_kind (AskSyndrome start len) = Syndrome
question_kind (AskBits start len) = Bits
question_kind (AskBurst start len b) = Burst

-- the length of the bits that a question asks about
abbrev pub question_length : Question → ℕ
question_length (AskOpen h key) = 0
question_length (AskHash start len) = len
question_length (AskSyndrome start len) = len
question_length (AskBits start len) = len
question_length (AskBurst start len b) = len

-- the number of columns that a burst question asks about
abbrev pub question_burst : Question → ℕ
question_burst (AskOpen h key) = 0
question_burst (AskHash start len) = 0
question_burst (AskSyndrome start len) = 0
question_burst (AskBits start len) = 0
question_burst (AskBurst start len b) = b

-- the question of a kind with its two fields; a burst has three, and is read by burst_range_at
abbrev pub asking : Kind → ℕ → ℕ → Question
asking Open a b = AskOpen a b
asking Hash a b = AskHash a b
asking Syndrome a b = AskSyndrome a b
asking Bits a b = AskBits a b
asking Burst a b = AskBurst a b 0

-- a message is its kind number, then its fields: of an opening version 1, h, key; of the others start, length, of a burst then B
unfoldable pub question_bytes : Question → List ℕ
question_bytes (AskOpen h key) = number (kind_number Open) ++ (number 1 ++ (number h ++ number key))
question_bytes (AskHash start len) = number (kind_number Hash) ++ (number start ++ number len)
question_bytes (AskSyndrome start len) = number (kind_number Syndrome) ++ (number start ++ number len)
question_bytes (AskBits start len) = number (kind_number Bits) ++ (number start ++ number len)
question_bytes (AskBurst start len b) = number (kind_number Burst) ++ (number start ++ (number len ++ number b))

-- an opening whose fields end at position end of size bytes: nothing may follow; version 1, h and key within the settings' limits
abbrev pub opening_in : ℕ → ℕ → ℕ → ℕ → ℕ → Result Question
opening_in size version h key end =
    unless (leb size end) TrailingBytes (
    unless (eqb version 1) OutOfRange (
    unless (hash_limits h) OutOfRange (
    unless (key_limits key) OutOfRange (
    value (AskOpen h key)))))

unfoldable pub opening_at : List ℕ → ℕ → Result Question
opening_at s at =
    and_then (three_at s at) (λ (version, h, key, end).
    opening_in (length s) version h key end)

-- a range question whose fields end at position end of size bytes: nothing may follow; 1 bit or more, ending by n
abbrev pub range_in : (ℕ → ℕ → Question) → ℕ → ℕ → ℕ → ℕ → ℕ → Result Question
range_in ask size n start len end =
    unless (leb size end) TrailingBytes (
    unless (leb 1 len) OutOfRange (
    unless (leb (start + len) n) OutOfRange (
    value (ask start len))))

unfoldable pub range_question : (ℕ → ℕ → Question) → List ℕ → ℕ → ℕ → Result Question
range_question ask s at n =
    and_then (two_at s at) (λ (start, len, end).
    range_in ask (length s) n start len end)

-- a burst question whose fields end at position end of size bytes: nothing may follow; B is 2 to 32; then the range as above
abbrev pub burst_in : ℕ → ℕ → ℕ → ℕ → ℕ → ℕ → Result Question
burst_in size n start len b end =
    unless (leb size end) TrailingBytes (
    unless (column_limits b) BadBurst (
    unless (leb 1 len) OutOfRange (
    unless (leb (start + len) n) OutOfRange (
    value (AskBurst start len b)))))

unfoldable pub burst_range_at : List ℕ → ℕ → ℕ → Result Question
burst_range_at s at n =
    and_then (three_at s at) (λ (start, len, b, end).
    burst_in (length s) n start len b end)

-- the rest of a question of a known kind, from position at on: 4 and 5 as met, then 7, of a burst then 10, then 8
unfoldable pub fields_at : Kind → List ℕ → ℕ → ℕ → Result Question
fields_at Open s at n = opening_at s at
fields_at Hash s at n = range_question AskHash s at n
fields_at Syndrome s at n = range_question AskSyndrome s at n
fields_at Bits s at n = range_question AskBits s at n
fields_at Burst s at n = burst_range_at s at n

-- a whole question, whatever its turn
unfoldable pub read_question : List ℕ → ℕ → Result Question
read_question s n = and_then (kind_at s) (λ (k, at). fields_at k s at n)
