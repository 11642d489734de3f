-- What a host's calls answer and leave behind (01, "Syndrome and repair", "Hash", "Why a call is turned down"), and what each case of the code's enums says.
use Rattle.std.specs.Prelude.{Result as CodeResult, Bool, true, false, ◌&&◌, ◌||◌, List, ℕ, ◌+◌, length, eqb, leb}
use Rattle.std.proofs.Math.Option.{Option, none, some}
use Rattle.strings.specs.Bits.{max_bits, range, bytes_for, pack, at_front}
use Rattle.strings.specs.StringRule.{string_rule}
use Rattle.strings.specs.SettingLimits.{hash_limits, key_limits}
use Rattle.strings.specs.Results.{Result, refusal, value, unless, said}
use Rattle.strings.specs.declared.Refusal.{Refusal}
use Rattle.strings.specs.declared.Refusal.TheVariants.{BadSetting, BadString, OutOfRange, BufferTooShort}
use Rattle.codes.specs.Syndrome.{syndrome}
use Rattle.codes.specs.Repair.{repair_to}
use Rattle.codes.specs.Hash.{hash}

-- ---- the syndrome
unfoldable pub syndrome_call : List ℕ → ℕ → Result ℕ
syndrome_call s bits = unless (string_rule s bits) BadString (value (syndrome (range s 0 bits)))

-- ---- the hash
-- 01's limits of h and of the key
unfoldable pub hash_settings : ℕ → ℕ → Bool
hash_settings h key = hash_limits h && key_limits key

unfoldable pub hash_call : List ℕ → (bits h key : ℕ) → Result ℕ
hash_call s bits h key =
    unless (hash_settings h key) BadSetting (
    unless (string_rule s bits) BadString (
    value (hash h key (range s 0 bits))))

-- ---- the repair of a string of `bits` bits to one of n bits that has the syndrome a, where the buffer has `capacity` bytes
-- lengths one apart, a result that is no longer than a string, a from 0 to n
unfoldable pub repair_range : (bits n a : ℕ) → Bool
repair_range bits n a = (eqb (bits + 1) n || eqb bits (n + 1)) && (leb n max_bits && leb a n)

unfoldable pub repair_call : List ℕ → (bits n a capacity : ℕ) → Result (Option (List Bool))
repair_call s bits n a capacity =
    unless (string_rule s bits) BadString (
    unless (repair_range bits n a) OutOfRange (
    unless (leb (bytes_for n) capacity) BufferTooShort (
    value (repair_to n a (range s 0 bits)))))

-- what the call answers, true for done and false for none, and what the buffer holds after it
pub record RepairLeft : Type 0 where
  pub answer : Result Bool
  pub buffer : List ℕ

-- done: the buffer begins with the packed string, later bytes are as they were; none and refusals leave the buffer as it was
abbrev pub repair_left : List ℕ → Result (Option (List Bool)) → RepairLeft
repair_left out (refusal number) = record { answer = refusal number; buffer = out }
repair_left out (value none) = record { answer = value false; buffer = out }
repair_left out (value (some x)) = record { answer = value true; buffer = at_front (pack x) out }

-- the call with the bytes s of a string, its bit count, n, a and the bytes of the buffer
abbrev pub repair_outcome : List ℕ → (bits n a : ℕ) → List ℕ → RepairLeft
repair_outcome s bits n a out = repair_left out (repair_call s bits n a (length out))

-- what the code's answer says, true for done and false for none, and the buffer
abbrev pub said_repair : CodeResult Bool Refusal → List ℕ → RepairLeft
said_repair r out = record { answer = said r; buffer = out }
