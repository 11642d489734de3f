-- The code's way through a marker word, by blocks: a place that is a power of two and the places behind it up to the next one.
use Rattle.std.specs.Prelude.{◌≡◌, Bool, cond, List, ◌⊎◌, ℕ, zero, suc, ◌+◌, ◌-◌, ◌≤◌, ◌<◌}
use Rattle.strings.specs.Bits.{range}
use Rattle.codes.specs.Markers.{is_power, merged, check_number, message}

-- of the n places from place k on, how many are powers of two and how many are not
unfoldable pub powers_in : (n k : ℕ) → ℕ
powers_in zero k = 0
powers_in (suc n) k = cond (is_power k) (suc (powers_in n (suc k))) (powers_in n (suc k))

unfoldable pub others_in : (n k : ℕ) → ℕ
others_in zero k = 0
others_in (suc n) k = cond (is_power k) (others_in n (suc k)) (suc (others_in n (suc k)))

-- behind the place p, a power of two, len places of a word of n bits come before the next power or the word's end
pub record Block (n p len : ℕ) : Type 0 where
  pub short : len < p
  pub fits : p + len ≤ n
  pub full : (len + 1 ≡ p) ⊎ (p + len ≡ n)

-- ---- the places of a word of n bits from place p on
abbrev pub powers_from : (n p : ℕ) → ℕ
powers_from n p = powers_in (n - (p - 1)) p

abbrev pub others_from : (n p : ℕ) → ℕ
others_from n p = others_in (n - (p - 1)) p

abbrev pub merged_from : (n p v : ℕ) → List Bool → List Bool
merged_from n p v m = merged (n - (p - 1)) p v m

abbrev pub number_from : List ℕ → (n p : ℕ) → ℕ
number_from s n p = check_number p (range s (p - 1) (n - (p - 1)))

abbrev pub message_from : List ℕ → (n p : ℕ) → List Bool
message_from s n p = message p (range s (p - 1) (n - (p - 1)))
