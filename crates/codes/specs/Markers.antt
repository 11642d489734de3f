-- 02, CR 13: words of n bits with a wanted syndrome that carry a message, and their reading; what the calls answer and leave behind. Places count from 1.
use Rattle.std.specs.Prelude.{Result as CodeResult, ⊤, ◌≡◌, Bool, true, false, ◌&&◌, cond, List, [], ◌∷◌, ℕ, zero, suc, ◌+◌, ◌-◌, ◌*◌, ◌/◌, ◌%◌, ◌^◌, length, get_or, drop, eqb, leb}
use Rattle.std.proofs.Math.Option.{Option, none, some}
use mir.Val.{bool_byte}
use Rattle.strings.specs.Bits.{range, bytes_for}
use Rattle.strings.specs.StringRule.{string_rule}
use Rattle.strings.specs.Results.{Result, value, unless, mapped, said}
use Rattle.strings.specs.declared.Refusal.{Refusal}
use Rattle.strings.specs.declared.Refusal.TheVariants.{BadString, OutOfRange, BufferTooShort, MessageLength}
use Rattle.codes.specs.Syndrome.{weighted_sum, syndrome}
use Rattle.codes.specs.Repair.{Deletion, repair_to}
use Rattle.codes.specs.Entries.{RepairLeft, repair_left}

-- ---- the places of a word
-- whether k is 2 ^ i for some i below j; whether k is a power of two
unfoldable pub power_below : (j k : ℕ) → Bool
power_below zero k = false
power_below (suc j) k = cond (eqb k (2 ^ j)) true (power_below j k)

unfoldable pub is_power : ℕ → Bool
is_power k = power_below k k

-- the first of the `count` numbers from t on with x ≤ 2 ^ t; the number behind them if there is none
unfoldable pub log_from : (count t x : ℕ) → ℕ
log_from zero t x = t
log_from (suc count) t x = cond (leb x (2 ^ t)) t (log_from count (suc t) x)

-- ceil(log2(x)): the least t with x ≤ 2 ^ t
unfoldable pub ceil_log2 : ℕ → ℕ
ceil_log2 x = log_from x 0 x

-- t = ceil(log2(n + 1)), which is how many places are powers of two; n - t, the bits of the message
unfoldable pub check_bits : ℕ → ℕ
check_bits n = ceil_log2 (n + 1)

unfoldable pub message_bits : ℕ → ℕ
message_bits n = n - check_bits n

-- ---- building
-- the n bits from place k on: at the powers of two the digits of v, the lowest first, at the other places the bits of m in order
unfoldable pub merged : (n k v : ℕ) → List Bool → List Bool
merged zero k v m = []
merged (suc n) k v m = cond (is_power k) (eqb (v % 2) 1 ∷ merged n (suc k) (v / 2) m) (get_or m 0 false ∷ merged n (suc k) v (drop 1 m))

-- the message's sum: of the places of its ones in the word
unfoldable pub message_sum : ℕ → List Bool → ℕ
message_sum n m = weighted_sum 1 (merged n 1 0 m)

-- the wanted syndrome a less the message's sum, modulo n + 1
unfoldable pub wanting : (n a : ℕ) → List Bool → ℕ
wanting n a m = (a + (n + 1 - message_sum n m % (n + 1))) % (n + 1)

-- the word that the builder makes
unfoldable pub marker : (n a : ℕ) → List Bool → List Bool
marker n a m = merged n 1 (wanting n a m) m

-- ---- reading
-- of the bits l, the first at place k: those at the powers of two as a binary number, the first of them the lowest digit; those at the other places
unfoldable pub check_number : ℕ → List Bool → ℕ
check_number k [] = 0
check_number k (b ∷ l) = cond (is_power k) (bool_byte b + 2 * check_number (suc k) l) (check_number (suc k) l)

unfoldable pub message : ℕ → List Bool → List Bool
message k [] = []
message k (b ∷ l) = cond (is_power k) (message (suc k) l) (b ∷ message (suc k) l)

-- l is received for the word w: it is w, or w with one bit lost, or w with one bit added
pub data Received (w l : List Bool) : Type 0 where
  whole : l ≡ w → Received w l
  lost : Deletion l w → Received w l
  added : Deletion w l → Received w l

-- the string of n bits and syndrome a for which l is received, if there is one
unfoldable pub near_word : (n a : ℕ) → List Bool → Option (List Bool)
near_word n a l = cond (eqb (length l) n) (cond (eqb (syndrome l) a) (some l) none) (repair_to n a l)

-- the message of such a string if the builder makes it. MarkerLaws: the builder makes those whose number is at most n
abbrev pub built_message : ℕ → Option (List Bool) → Option (List Bool)
built_message n none = none
built_message n (some w) = cond (leb (check_number 1 w) n) (some (message 1 w)) none

unfoldable pub read_marker : (n a : ℕ) → List Bool → Option (List Bool)
read_marker n a l = built_message n (near_word n a l)

-- ---- the calls, where the buffer has `capacity` bytes
-- the most bits of a word
abbrev pub max_marker_bits : ℕ
max_marker_bits = 4096

-- n from 1 to 4,096, a from 0 to n
unfoldable pub marker_range : (n a : ℕ) → Bool
marker_range n a = leb 1 n && (leb n max_marker_bits && leb a n)

-- and a received length of n - 1, n or n + 1
unfoldable pub received_range : (bits n a : ℕ) → Bool
received_range bits n a = marker_range n a && (leb n (bits + 1) && leb bits (n + 1))

unfoldable pub build_call : List ℕ → (bits n a capacity : ℕ) → Result (List Bool)
build_call s bits n a capacity =
    unless (string_rule s bits) BadString (
    unless (marker_range n a) OutOfRange (
    unless (eqb bits (message_bits n)) MessageLength (
    unless (leb (bytes_for n) capacity) BufferTooShort (
    value (marker n a (range s 0 bits))))))

unfoldable pub read_call : List ℕ → (bits n a capacity : ℕ) → Result (Option (List Bool))
read_call s bits n a capacity =
    unless (string_rule s bits) BadString (
    unless (received_range bits n a) OutOfRange (
    unless (leb (bytes_for (message_bits n)) capacity) BufferTooShort (
    value (read_marker n a (range s 0 bits)))))

-- the builder's call with the bytes s of a message, its bit count, n, a and the bytes of the buffer: the answer is done, never none, and the buffer begins with the packed word
abbrev pub build_outcome : List ℕ → (bits n a : ℕ) → List ℕ → RepairLeft
build_outcome s bits n a out = repair_left out (mapped some (build_call s bits n a (length out)))

-- the reader's call with the bytes s of a received string, its bit count, n, a and the bytes of the buffer: where there is a message, the buffer begins with it, packed
abbrev pub read_outcome : List ℕ → (bits n a : ℕ) → List ℕ → RepairLeft
read_outcome s bits n a out = repair_left out (read_call s bits n a (length out))

-- what the builder's answer says, true for built, and the buffer
abbrev pub said_build : CodeResult ⊤ Refusal → List ℕ → RepairLeft
said_build r out = record { answer = mapped (λ done. true) (said r); buffer = out }
