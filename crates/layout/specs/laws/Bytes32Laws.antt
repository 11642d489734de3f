-- What was written is read back.
use Rattle.std.specs.Prelude.{◌≡◌, List, ◌++◌, ℕ, ◌+◌, ◌*◌, ◌/◌, ◌%◌, ◌≤◌, ◌<◌, length, suc, get_or, set}
use Rattle.std.proofs.Math.Path.{refl}
use Rattle.std.proofs.Common.{arith, get_or-append-add}
use Rattle.std.proofs.Math.Nat.{add_assoc}
use Rattle.std.proofs.lemmas.List.Edits.{sets}
use Rattle.std.proofs.lemmas.Nat.{from_le_bytes-to_le_bytes_4}
use Rattle.strings.specs.Bits.{Bytes}
use Rattle.layout.specs.Bytes32.{word_at, bytes_of}
use Rattle.strings.specs.laws.StoreLaws.{get_d_sets_before, get_d-sets-behind, get_d-sets-in}

-- a number's digits to base 256
pub digits : (v : ℕ) → v < 4294967296 → v % 256 + 256 * (v / 256 % 256) + 65536 * (v / 65536 % 256) + 16777216 * (v / 16777216 % 256) ≡ v
digits v h = omega (arith, from_le_bytes-to_le_bytes_4 v h)

-- behind a list, offsets count on
pub number_behind : (p l : List ℕ) (i : ℕ) → word_at (p ++ l) (length p + i) ≡ word_at l i
unfolding word_at
number_behind p l i =
    rw (add_assoc (length p) i 1, add_assoc (length p) i 2, add_assoc (length p) i 3, get_or-append-add p l i 0, get_or-append-add p l (i + 1) 0, get_or-append-add p l (i + 2) 0, get_or-append-add p l (i + 3) 0) refl

module _ (s : List ℕ) (at : ℕ) (vs : List ℕ) where
  -- a list stored elsewhere changes no number
  pub number-before : (i : ℕ) → i + 4 ≤ at → word_at (sets s at vs) i ≡ word_at s i
  unfolding word_at
  number-before i h =
      rw (get_d_sets_before s at vs i 0 (omega arith), get_d_sets_before s at vs (i + 1) 0 (omega arith), get_d_sets_before s at vs (i + 2) 0 (omega arith), get_d_sets_before s at vs (i + 3) 0 (omega arith)) refl

  pub number-after : (i : ℕ) → at + length vs ≤ i → word_at (sets s at vs) i ≡ word_at s i
  unfolding word_at
  number-after i h =
      rw (get_d-sets-behind s at vs i 0 (omega arith), get_d-sets-behind s at vs (i + 1) 0 (omega arith), get_d-sets-behind s at vs (i + 2) 0 (omega arith), get_d-sets-behind s at vs (i + 3) 0 (omega arith)) refl

  -- and a number in it is read where it stands
  pub number_in : (i : ℕ) → i + 4 ≤ length vs → at + length vs ≤ length s → word_at (sets s at vs) (at + i) ≡ word_at vs i
  unfolding word_at
  number_in i h k =
      rw (add_assoc at i 1, add_assoc at i 2, add_assoc at i 3, get_d-sets-in s at vs i 0 (omega arith) k, get_d-sets-in s at vs (i + 1) 0 (omega arith) k, get_d-sets-in s at vs (i + 2) 0 (omega arith) k, get_d-sets-in s at vs (i + 3) 0 (omega arith) k) refl

-- what was read is below 2^32
pub number-below : (s : List ℕ) (at : ℕ) → Bytes s → word_at s at < 4294967296
unfolding word_at
number-below s at b =
    let b0 = b at in let b1 = b (at + 1) in let b2 = b (at + 2) in let b3 = b (at + 3) in
    omega arith

-- ---- for the code
-- four bytes stored one by one
pub four-stores : (s : List ℕ) (at v : ℕ)
    → set (set (set (set s at (v % 256)) (at + 1) (v / 256 % 256)) (at + 2) (v / 65536 % 256)) (at + 3) (v / 16777216 % 256) ≡ sets s at (bytes_of v)
unfolding bytes_of
four-stores s at v =
    let one : at + 1 ≡ suc at = omega arith in
    let two : at + 2 ≡ suc (suc at) = omega arith in
    let three : at + 3 ≡ suc (suc (suc at)) = omega arith in
    rw (one, two, three) refl

-- four bytes read one by one
pub number-sum : (s : List ℕ) (at a b c d : ℕ) → a ≡ get_or s at 0 → b ≡ get_or s (at + 1) 0 → c ≡ get_or s (at + 2) 0 → d ≡ get_or s (at + 3) 0
    → a + 256 * b + 65536 * c + 16777216 * d ≡ word_at s at
unfolding word_at
number-sum s at a b c d e f g h = omega arith
