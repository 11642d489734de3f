-- How the code sums modulo m: one sum, or eight sums of every eighth bit, each below m.
use Rattle.std.specs.Prelude.{◌≡◌, cond, List, [], ◌∷◌, ℕ, zero, suc, ◌+◌, ◌%◌, ◌<◌, length, get_or, eqb}
use Rattle.strings.specs.Bits.{bit_at}
use Rattle.codes.specs.Syndrome.{weighted_sum}

-- r is x modulo m, and so below m
pub record Residue (m x r : ℕ) : Type 0 where
  pub below : r < m
  pub is : r ≡ x % m

-- the sum of all
abbrev pub total : List ℕ → ℕ
total [] = 0
total (t ∷ ts) = t + total ts

-- each sum is below m
abbrev pub EachLess : ℕ → List ℕ → Type 0
EachLess m ts = (k : ℕ) → k < length ts → get_or ts k 0 < m

-- the sum of the places of the ones among the bits k, k + 8, k + 16, .. of the first n bits of s from bit a on, the first place being 1
unfoldable pub lane_sum : List ℕ → ℕ → ℕ → ℕ → ℕ
lane_sum s a k zero = 0
lane_sum s a k (suc n) = lane_sum s a k n + cond (eqb (n % 8) k) (weighted_sum (n + 1) (bit_at s (a + n) ∷ [])) 0

-- eight sums: sum k is that of the bits k, k + 8, .. of the first n, modulo m and so below m
pub record Lanes (m : ℕ) (s : List ℕ) (a n : ℕ) (ts : List ℕ) : Type 0 where
  pub eight : length ts ≡ 8
  pub each : (k : ℕ) → k < 8 → Residue m (lane_sum s a k n) (get_or ts k 0)
