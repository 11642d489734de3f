-- 32-bit numbers as bytes, little-endian: what states and sheets are laid out with.
use Rattle.std.specs.Prelude.{List, [], ◌∷◌, ℕ, ◌+◌, ◌*◌, ◌/◌, ◌%◌, get_or}

-- a number's four bytes, the lowest first
unfoldable pub bytes_of : ℕ → List ℕ
bytes_of v = (v % 256) ∷ (v / 256 % 256) ∷ (v / 65536 % 256) ∷ (v / 16777216 % 256) ∷ []

-- the number whose four bytes stand at offset `at`
unfoldable pub word_at : List ℕ → ℕ → ℕ
word_at s at = get_or s at 0 + 256 * get_or s (at + 1) 0 + 65536 * get_or s (at + 2) 0 + 16777216 * get_or s (at + 3) 0
