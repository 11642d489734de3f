-- Other forms of the hash. HashLaws has that they are equal to it.
use Rattle.std.specs.Prelude.{◌≡◌, Bool, cond, List, [], ◌∷◌, ℕ, suc, ◌%◌, ◌^◌, length}
use Rattle.std.specs.Int.Bits.{bit_xor}
use Rattle.codes.specs.Hash.{xorshift, hash_row}

-- 01's words: the xor of the low h bits of row i over the set bits, where the first bit has row i
unfoldable pub hash_rows : ℕ → ℕ → ℕ → List Bool → ℕ
hash_rows h key i [] = 0
hash_rows h key i (b ∷ l) = bit_xor (cond b (hash_row key i % 2 ^ h) 0) (hash_rows h key (suc i) l)

-- the code's way: the xor of the whole rows of the set bits, of which the low h bits are taken at the end; v is the row before the first bit's
unfoldable pub whole_hash : ℕ → List Bool → ℕ
whole_hash v [] = 0
whole_hash v (b ∷ l) = bit_xor (cond b (xorshift v) 0) (whole_hash (xorshift v) l)

-- a hash under way, with the xor x of the rows so far and the row v of the last bit, has gone on over the bits l to x' and v'
pub record Went (x v : ℕ) (l : List Bool) (x' v' : ℕ) : Type 0 where
  pub sums : x' ≡ bit_xor x (whole_hash v l)
  pub rows : v' ≡ hash_row v (length l)
