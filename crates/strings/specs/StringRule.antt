-- 01, "Strings and settings": a string has 0 to 65,536 bits in exactly ceil(bits/8) bytes, spare bits zero.
use Rattle.std.specs.Prelude.{◌≡◌, Bool, true, false, ◌&&◌, List, [], ◌∷◌, ℕ, ◌-◌, ◌*◌, ◌≤◌, length, eqb, leb}
use Rattle.strings.specs.Bits.{max_bits, bit_at, range, bytes_for}

-- whether no bit of the list is 1
unfoldable pub none_set : List Bool → Bool
none_set [] = true
none_set (true ∷ l) = false
none_set (false ∷ l) = none_set l

-- the string rule, as a test of the bytes s and the bit count n
unfoldable pub string_rule : List ℕ → ℕ → Bool
string_rule s n = leb n max_bits && (eqb (length s) (bytes_for n) && none_set (range s n (8 * bytes_for n - n)))

-- the same rule as a statement (RuleLaws has both directions)
pub record IsString (s : List ℕ) (n : ℕ) : Type 0 where
  pub few : n ≤ max_bits
  pub bytes : length s ≡ bytes_for n
  pub spare : (i : ℕ) → n ≤ i → bit_at s i ≡ false
