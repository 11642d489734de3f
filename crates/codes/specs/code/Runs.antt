-- What the code's optional repairs of columns say.
use Rattle.std.specs.Prelude.{Bool, true, false, List, ℕ, map, Option as Found, Some, None}
use Rattle.std.proofs.Math.Option.{Option, none, some}
use Rattle.codes.specs.code.Weaving.{woven, Placed}
use Rattle.codes.specs.declared.weaving.ColumnRepair.{ColumnRepair}

-- whether a column's repair was found, its place and its bit; the first place and 0 where none was
abbrev pub is_found : Found ColumnRepair → Bool
is_found (Some r) = true
is_found None = false

abbrev pub place_found : Found ColumnRepair → ℕ
place_found (Some r) = r.place
place_found None = 0

abbrev pub bit_found : Found ColumnRepair → Bool
bit_found (Some r) = r.bit
bit_found None = false

-- the places of all columns' edits, and the bits that are put in
abbrev pub places : List ColumnRepair → List ℕ
places rs = map (λ (r : ColumnRepair). r.place) rs

abbrev pub put_bits : List ColumnRepair → List Bool
put_bits rs = map (λ (r : ColumnRepair). r.bit) rs

-- the bits l with the repairs of all columns made, if all were found
abbrev pub run_repaired : List Bool → (n B : ℕ) → Found (List ColumnRepair) → Option (List Bool)
run_repaired l n B (Some rs) = some (woven l n B (places rs) (put_bits rs))
run_repaired l n B None = none

-- and their places are places of the piece
abbrev pub RepairPlaced : (B len : ℕ) → Found (List ColumnRepair) → Type 0
RepairPlaced B len (Some rs) = Placed B len (places rs)
RepairPlaced B len None = Unit {0}
