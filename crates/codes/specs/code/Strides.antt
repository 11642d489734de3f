-- Bits of a string at equal distances, as the code reads a column by bytes.
use Rattle.std.specs.Prelude.{Bool, List, [], ◌∷◌, ℕ, zero, suc, ◌+◌, ◌*◌, ◌<◌, length}
use Rattle.strings.specs.Bits.{bit_at, max_bits}

-- the n bits p, p + B, p + 2·B, .. of s
unfoldable pub strided : List ℕ → (p B n : ℕ) → List Bool
strided s p B zero = []
strided s p B (suc n) = bit_at s p ∷ strided s (p + B) B n

-- these are bits of s, and lie within what a string can hold: the next one would be less than B behind the end
pub record StridedPart (s : List ℕ) (p B n : ℕ) : Type 0 where
  pub there : p + n * B < 8 * length s + B
  pub few : p + n * B < max_bits + B
