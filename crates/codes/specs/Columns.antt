-- 02, CR 1, "Whole bursts repaired": a piece whose copy lost or gained one run of B bits lost or gained one bit in each of B columns, and is repaired column by column.
use Rattle.std.specs.Prelude.{◌≡◌, Bool, ◌⊎◌, List, [], ◌∷◌, ◌++◌, map, ℕ, zero, suc, ◌+◌, ◌-◌, ◌/◌, ◌≤◌, length, take, drop}
use Rattle.std.proofs.Math.Option
use Rattle.std.proofs.Math.Option.{Option, none, some}
use Rattle.strings.specs.SettingLimits.{between}
use Rattle.codes.specs.Syndrome.{syndrome}
use Rattle.codes.specs.Repair.{repair_to}

-- 02: "Column j takes every B-th bit from bit j on", j from 0. Bits are skipped till j is counted down, one is taken, and then B - 1 are skipped
abbrev pub column : ℕ → ℕ → List Bool → List Bool
column B j [] = []
column B zero (b ∷ l) = b ∷ column B (B - 1) l
column B (suc j) (b ∷ l) = column B j l

-- 02: "B, 2 to 32". The definitions and laws here are for every B; the code and the messages keep to these
abbrev pub column_limits : ℕ → Bool
column_limits B = between 2 B 32

-- how many bits column j of a string of n bits has: (n - j) / B rounded up, and 0 where j is n or more
abbrev pub column_length : ℕ → ℕ → ℕ → ℕ
column_length B j n = (n - j + (B - 1)) / B

-- the k columns from column j on; the B columns; their B syndromes
abbrev pub columns_from : ℕ → ℕ → ℕ → List Bool → List (List Bool)
columns_from B j zero l = []
columns_from B j (suc k) l = column B j l ∷ columns_from B (suc j) k l

unfoldable pub columns : ℕ → List Bool → List (List Bool)
columns B l = columns_from B 0 B l

unfoldable pub syndromes : ℕ → List Bool → List ℕ
syndromes B l = map syndrome (columns B l)

-- n bits woven of columns: the first bit of the first column, which goes behind the others with its rest, and so on
abbrev pub weave : ℕ → List (List Bool) → List Bool
weave zero cs = []
weave (suc n) [] = []
weave (suc n) ([] ∷ cs) = []
weave (suc n) ((b ∷ c) ∷ cs) = b ∷ weave n (cs ++ (c ∷ []))

-- ---- a run of B bits lost
-- l with the run of B bits from bit i on taken out
abbrev pub without_run : ℕ → ℕ → List Bool → List Bool
without_run B i l = take i l ++ drop (i + B) l

-- short is long with one run of B bits taken out at some place
pub record RunLost (short long : List Bool) (B : ℕ) : Type 0 where
  pub place : ℕ
  pub within : place + B ≤ length long
  pub is : short ≡ without_run B place long

-- lengths B apart: n is B more than len, or B less
abbrev pub RunApart : (B len n : ℕ) → Type 0
RunApart B len n = (len + B ≡ n) ⊎ (len ≡ n + B)

-- ---- the repair
-- x and then the others, if there is x and there are the others
abbrev pub with_first : Option (List Bool) → Option (List (List Bool)) → Option (List (List Bool))
with_first none xs = none
with_first (some x) xs = Option.map (λ (ys : List (List Bool)). x ∷ ys) xs

-- the columns of l from column j on, each repaired with its syndrome to the length that it has in a string of n bits; none if one of them has none
abbrev pub repair_columns : ℕ → ℕ → ℕ → List ℕ → List Bool → Option (List (List Bool))
repair_columns B n j [] l = some []
repair_columns B n j (s ∷ ss) l = with_first (repair_to (column_length B j n) s (column B j l)) (repair_columns B n (suc j) ss l)

-- the repair of l to n bits with the syndromes ss of the B columns: "each column repaired by one bit", and woven. A list ss has one syndrome a column
unfoldable pub repair_run : ℕ → ℕ → List ℕ → List Bool → Option (List Bool)
repair_run B n ss l = Option.map (weave n) (repair_columns B n 0 ss l)
