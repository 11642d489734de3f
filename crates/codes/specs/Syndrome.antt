-- 01, "Syndrome and repair": the Varshamov-Tenengolts syndrome.
use Rattle.std.specs.Prelude.{Bool, true, false, List, [], ◌∷◌, ℕ, suc, ◌+◌, ◌%◌, length}

-- the sum of the places of the ones, where the first bit has place k
abbrev pub weighted_sum : ℕ → List Bool → ℕ
weighted_sum k [] = 0
weighted_sum k (true ∷ l) = k + weighted_sum (suc k) l
weighted_sum k (false ∷ l) = weighted_sum (suc k) l

-- the syndrome of b1..bn: the sum of i·bi modulo n + 1; of the empty string 0
unfoldable pub syndrome : List Bool → ℕ
syndrome l = weighted_sum 1 l % (length l + 1)
