-- 02, CR 12: every string of n bits that has the syndrome a, as numbers with the first bit highest, rising; what the call answers and leaves behind.
use Rattle.std.specs.Prelude.{Result as CodeResult, Bool, true, false, ◌&&◌, List, [], ◌∷◌, ◌++◌, map, ℕ, zero, suc, ◌+◌, ◌/◌, ◌%◌, ◌^◌, ◌<◌, length, eqb, leb}
use Rattle.strings.specs.Bits.{at_front}
use Rattle.strings.specs.Results.{Result, refusal, value, unless, said}
use Rattle.strings.specs.declared.Refusal.{Refusal}
use Rattle.strings.specs.declared.Refusal.TheVariants.{OutOfRange, ListTooShort}
use Rattle.codes.specs.Counting.{of_syndrome}

-- the number of a string: the first bit is the highest digit
unfoldable pub number_of : List Bool → ℕ
number_of [] = 0
number_of (true ∷ l) = 2 ^ length l + number_of l
number_of (false ∷ l) = number_of l

-- the string of n bits that has the number v: the last bit is the lowest digit
unfoldable pub bits_of : (n v : ℕ) → List Bool
bits_of zero v = []
bits_of (suc n) v = bits_of n (v / 2) ++ (eqb (v % 2) 1 ∷ [])

-- the numbers of the strings of n bits that have the syndrome a
unfoldable pub listing : (n a : ℕ) → List ℕ
listing n a = map number_of (of_syndrome n a)

-- each number is above the one before it
abbrev pub Rising : List ℕ → Type 0
Rising [] = Unit {0}
Rising (x ∷ []) = Unit {0}
Rising (x ∷ y ∷ l) = (x < y) × Rising (y ∷ l)

-- ---- the call, where the list buffer has `room` entries
-- n from 0 to 20, a from 0 to n
unfoldable pub list_range : (n a : ℕ) → Bool
list_range n a = leb n 20 && leb a n

unfoldable pub list_call : (n a room : ℕ) → Result (List ℕ)
list_call n a room =
    unless (list_range n a) OutOfRange (
    unless (leb (length (listing n a)) room) ListTooShort (
    value (listing n a)))

-- what the call answers, the count of the strings, and what the buffer holds after it
pub record ListLeft : Type 0 where
  pub answer : Result ℕ
  pub buffer : List ℕ

-- the buffer begins with the list, later entries are as they were; refusals leave the buffer as it was
abbrev pub list_left : List ℕ → Result (List ℕ) → ListLeft
list_left out (refusal number) = record { answer = refusal number; buffer = out }
list_left out (value l) = record { answer = value (length l); buffer = at_front l out }

-- the call with n, a and the entries of the buffer
abbrev pub list_outcome : (n a : ℕ) → List ℕ → ListLeft
list_outcome n a out = list_left out (list_call n a (length out))

-- what the code's answer says, and the buffer
abbrev pub said_list : CodeResult ℕ Refusal → List ℕ → ListLeft
said_list a out = record { answer = said a; buffer = out }
