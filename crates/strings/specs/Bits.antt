-- Bits packed in bytes, first bit in the most significant place; bits in the mathematics are lists of Bool.
use Rattle.std.specs.Prelude.{◌≡◌, Bool, true, false, not, cond, List, [], ◌∷◌, ◌++◌, ℕ, zero, suc, ◌+◌, ◌-◌, ◌*◌, ◌/◌, ◌%◌, ◌^◌, ◌≤◌, ◌<◌, length, get_or, set, replicate, drop, eqb}
use Rattle.std.proofs.lemmas.List.Edits.{sets}
use Rattle.std.specs.Int.Bits.{bit_xor}

-- 01, "Strings and settings": the most bits that a string has
abbrev pub max_bits : ℕ
max_bits = 65536

-- bit i of the bytes s: the digit of byte i / 8 at place 7 - i % 8; past the end it is 0
unfoldable pub bit_at : List ℕ → ℕ → Bool
bit_at s i = eqb (get_or s (i / 8) 0 / 2 ^ (7 - i % 8) % 2) 1

-- the n bits of s from bit a on
unfoldable pub range : List ℕ → ℕ → ℕ → List Bool
range s a zero = []
range s a (suc n) = bit_at s a ∷ range s (suc a) n

-- how many bytes n bits take: n / 8, rounded up
abbrev pub bytes_for : ℕ → ℕ
bytes_for n = (n + 7) / 8

-- s with bit i turned over
unfoldable pub flipped : List ℕ → ℕ → List ℕ
flipped s i = set s (i / 8) (bit_xor (get_or s (i / 8) 0) (2 ^ (7 - i % 8)))

abbrev pub differs : Bool → Bool → Bool
differs true b = not b
differs false b = b

-- s with bit i set to b: turned over where it differs
unfoldable pub set_bit : List ℕ → ℕ → Bool → List ℕ
set_bit s i b = cond (differs (bit_at s i) b) (flipped s i) s

-- the bits of a byte v; v is a byte, and they are the eight bits of s from bit p on
abbrev pub byte_bits : ℕ → List Bool
byte_bits v =
    eqb (v / 2 ^ 7 % 2) 1 ∷ eqb (v / 2 ^ 6 % 2) 1 ∷ eqb (v / 2 ^ 5 % 2) 1 ∷ eqb (v / 2 ^ 4 % 2) 1 ∷ eqb (v / 2 ^ 3 % 2) 1 ∷ eqb (v / 2 ^ 2 % 2) 1 ∷ eqb (v / 2 ^ 1 % 2) 1
    ∷ eqb (v / 2 ^ 0 % 2) 1 ∷ []

pub record Eight (s : List ℕ) (p v : ℕ) : Type 0 where
  pub byte : v < 256
  pub bits : range s p 8 ≡ byte_bits v

-- s with the bits l written from bit a on
unfoldable pub write_bits : List ℕ → ℕ → List Bool → List ℕ
write_bits s a [] = s
write_bits s a (b ∷ l) = write_bits (set_bit s a b) (suc a) l

-- n bytes 0
abbrev pub zero_bytes : ℕ → List ℕ
zero_bytes n = replicate n 0

-- the bits l packed as a string: zero bytes, just as many as the bits take, with the bits written from the first place on
unfoldable pub pack : List Bool → List ℕ
pack l = write_bits (zero_bytes (bytes_for (length l))) 0 l

-- s with the bytes at to at + count - 1 set to 0
unfoldable pub cleared : List ℕ → ℕ → ℕ → List ℕ
cleared s at count = sets s at (zero_bytes count)

-- a lent buffer with the bytes m at its front; later bytes are as they were
abbrev pub at_front : List ℕ → List ℕ → List ℕ
at_front m buffer = m ++ drop (length m) buffer

-- whether two lists of bits are equal
unfoldable pub same_bits : List Bool → List Bool → Bool
same_bits [] [] = true
same_bits [] (b ∷ m) = false
same_bits (a ∷ l) [] = false
same_bits (a ∷ l) (b ∷ m) = cond (differs a b) false (same_bits l m)

-- every element is a byte, as of what a slice of u8 holds
abbrev pub Bytes : List ℕ → Type 0
Bytes s = (i : ℕ) → get_or s i 0 < 256

-- the len bits from bit start on are bits of s, and lie within what a string can hold
pub record Part (s : List ℕ) (start len : ℕ) : Type 0 where
  pub there : start + len ≤ 8 * length s
  pub few : start + len ≤ max_bits
