-- The code's way to the list of all strings of one syndrome. A number of n digits is parted into its n / 2 low digits and the others. The low numbers with the same residue, the sum of the places of their ones modulo n + 1, are linked to a list; each high number wants one of these lists.
use Rattle.std.specs.Prelude.{◌≡◌, Bool, cond, List, [], ◌∷◌, ◌++◌, map, ℕ, zero, suc, ◌+◌, ◌-◌, ◌*◌, ◌/◌, ◌%◌, ◌^◌, ◌≤◌, ◌<◌, length, get_or, eqb}
use Rattle.codes.specs.Syndrome.{weighted_sum, syndrome}
use Rattle.codes.specs.Listing.{bits_of}

-- of the numbers v, v + 1, .. v + count - 1 those that pass a test
unfoldable pub kept : (ℕ → Bool) → (count v : ℕ) → List ℕ
kept test zero v = []
kept test (suc count) v = cond (test v) (v ∷ kept test count (suc v)) (kept test count (suc v))

-- those whose n bits have the syndrome a
abbrev pub list_from : (n a count v : ℕ) → List ℕ
list_from n a count v = kept (λ (x : ℕ). eqb (syndrome (bits_of n x)) a) count v

-- ---- the parts of a number
abbrev pub low_digits : ℕ → ℕ
low_digits n = n / 2

abbrev pub high_digits : ℕ → ℕ
high_digits n = n - n / 2

-- the sum of the places of the ones of c bits, the first of which has place k, modulo m
abbrev pub residue : (k c m v : ℕ) → ℕ
residue k c m v = weighted_sum k (bits_of c v) % m

abbrev pub high_residue : (n v : ℕ) → ℕ
high_residue n v = residue 1 (high_digits n) (n + 1) v

abbrev pub low_residue : (n v : ℕ) → ℕ
low_residue n v = residue (high_digits n + 1) (low_digits n) (n + 1) v

-- the low residue that gives the syndrome a behind the high number h
unfoldable pub wanted : (n a h : ℕ) → ℕ
wanted n a h = (a + (n + 1 - high_residue n h)) % (n + 1)

-- the low numbers with the residue r, from j on
abbrev pub lows : (n r j : ℕ) → List ℕ
lows n r j = kept (λ (x : ℕ). eqb (low_residue n x) r) (2 ^ low_digits n - j) j

-- the low numbers l behind the high number h
abbrev pub behind : (n h : ℕ) → List ℕ → List ℕ
behind n h l = map (λ (j : ℕ). h * 2 ^ low_digits n + j) l

-- for the high numbers h, h + 1, .. h + count - 1 the list that each wants
unfoldable pub blocks_from : (n a count h : ℕ) → List ℕ
blocks_from n a zero h = []
blocks_from n a (suc count) h = behind n h (lows n (wanted n a h) 0) ++ blocks_from n a count (suc h)

-- those from h on
abbrev pub blocks : (n a h : ℕ) → List ℕ
blocks n a h = blocks_from n a (2 ^ high_digits n - h) h

-- the first number of a list, or none if the list is empty
abbrev pub first_or : ℕ → List ℕ → ℕ
first_or none [] = none
first_or none (x ∷ l) = x

-- the low numbers from i on, linked: the first with each residue, and behind each number the next with the same residue; the count of the low numbers stands for none
pub record Linked (n i : ℕ) (first next : List ℕ) : Type 0 where
  pub residues : length first ≡ 21
  pub numbers : length next ≡ 1024
  pub firsts : (r : ℕ) → r ≤ n → get_or first r 0 ≡ first_or (2 ^ low_digits n) (lows n r i)
  pub nexts : (j : ℕ) → i ≤ j → j < 2 ^ low_digits n → get_or next j 0 ≡ first_or (2 ^ low_digits n) (lows n (low_residue n j) (suc j))

-- how many of them have each residue
pub record Counted (n i : ℕ) (counts : List ℕ) : Type 0 where
  pub residues : length counts ≡ 21
  pub totals : (r : ℕ) → r ≤ n → get_or counts r 0 ≡ length (lows n r i)
