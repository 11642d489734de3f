-- What the search inside the rebuilder's call requires, and the places that it looks at.
use Rattle.std.specs.Prelude.{◌≡◌, Bool, false, List, ℕ, ◌+◌, ◌-◌, ◌*◌, ◌/◌, ◌≤◌, ◌<◌, min, length, get_or}
use Rattle.strings.specs.Bits.{max_bits, bit_at}

-- ---- the search inside the rebuilder's call
-- the numbers beside the two ranges are within their limits
pub record SearchBounds (p s m k : ℕ) : Type 0 where
  pub length_most : p ≤ max_bits
  pub offset-most : s ≤ max_bits
  pub m-most : m ≤ 64
  pub k-most : k ≤ 8

-- both ranges are there, and all numbers are within their limits; the anchor may stand in a message. The last bound only keeps at + m in
-- range: a message has at most 8,193 bytes
pub record Searching (y : List ℕ) (start q p s m k : ℕ) (a : List ℕ) (at : ℕ) : Type 0 where
  pub piece : start + q ≤ 8 * length y
  pub few : start + q ≤ max_bits
  pub length_most : p ≤ max_bits
  pub offset-most : s ≤ max_bits
  pub m-most : m ≤ 64
  pub k-most : k ≤ 8
  pub anchor : at + m ≤ 8 * length a
  pub anchor-few : at + m ≤ 100000

-- the first m of the bits l are those of a from bit `at` on
abbrev pub BitsOf : (l : List Bool) (a : List ℕ) (at m : ℕ) → Type 0
BitsOf l a at m = (j : ℕ) → j < m → get_or l j false ≡ bit_at a (at + j)

-- ---- the places that the code looks at; AnchorSearchLaws says that all others of 0 to q - m are too far
-- one past the last place with 2r + p < due + least and m bits of Y behind it, where due is 2s + q
unfoldable pub window_end : (q m p due least : ℕ) → ℕ
window_end q m p due least = min (q + 1 - m) ((due + least + 1 - p) / 2)

-- the first place with due ≤ 2r + p + reach, or end
unfoldable pub window_start : (p due reach end : ℕ) → ℕ
window_start p due reach end = min end ((due + 1 - (p + reach)) / 2)

-- the sums that give the window fit in a machine number
pub record Small (p due reach : ℕ) : Type 0 where
  pub piece : p ≤ max_bits
  pub centre : due ≤ 196608
  pub width : reach ≤ 1048577
