-- 01, "Hash": the keyed hash of a piece by xorshift rows.
use Rattle.std.specs.Prelude.{Bool, cond, List, [], ◌∷◌, ℕ, zero, suc, ◌*◌, ◌/◌, ◌%◌, ◌^◌}
use Rattle.std.specs.Int.Bits.{bit_xor}

-- one step on a 32-bit number v: xor itself shifted left 13, cut to 32 bits; xor itself shifted right 17; xor itself shifted left 5, cut
unfoldable pub xor_left : ℕ → ℕ → ℕ
xor_left k v = bit_xor v (v * 2 ^ k % 2 ^ 32)

unfoldable pub xor_right : ℕ → ℕ → ℕ
xor_right k v = bit_xor v (v / 2 ^ k)

unfoldable pub xorshift : ℕ → ℕ
xorshift v = xor_left 5 (xor_right 17 (xor_left 13 v))

-- 01, row i: the key after i steps
unfoldable pub hash_row : (key i : ℕ) → ℕ
hash_row key zero = key
hash_row key (suc i) = xorshift (hash_row key i)

-- the xor of the low h bits of the rows of the set bits, where v is the row before the first bit's
unfoldable pub hash_from : ℕ → ℕ → List Bool → ℕ
hash_from h v [] = 0
hash_from h v (b ∷ l) = bit_xor (cond b (xorshift v % 2 ^ h) 0) (hash_from h (xorshift v) l)

-- a piece's hash: its first bit has row 1, the key after one step
unfoldable pub hash : ℕ → ℕ → List Bool → ℕ
hash h key l = hash_from h key l
