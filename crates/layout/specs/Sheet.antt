-- The sheet as bytes: rows of 12 bytes, one after the other; a rest below 12 bytes is no row.
use Rattle.std.specs.Prelude.{List, [], ◌∷◌, ◌++◌, ℕ, zero, suc, ◌+◌, ◌-◌, ◌*◌, ◌/◌, length, replicate}
use Rattle.std.proofs.lemmas.List.Edits.{sets}
use Rattle.ends.specs.declared.Row.{Row}
use Rattle.ends.specs.declared.SheetChange.{SheetChange}
use Rattle.ends.specs.declared.SheetChange.TheVariants.{NoRow, AddRow, OneRow}
use Rattle.ends.specs.RebuilderCall.{no_row}
use Rattle.layout.specs.Bytes32.{word_at}
use Rattle.layout.specs.Layout.{all_bytes}

abbrev pub row_size : ℕ
row_size = 12

unfoldable pub row_bytes : Row → List ℕ
row_bytes r = all_bytes (r.start ∷ r.len ∷ r.how ∷ [])

unfoldable pub rows_bytes : List Row → List ℕ
rows_bytes [] = []
rows_bytes (r ∷ l) = row_bytes r ++ rows_bytes l

-- the row at an offset
unfoldable pub row_at : List ℕ → ℕ → Row
row_at s at = record { start = word_at s at; len = word_at s (at + 4); how = word_at s (at + 8) }

-- n rows from an offset on
unfoldable pub rows_at : List ℕ → (at n : ℕ) → List Row
rows_at s at zero = []
rows_at s at (suc n) = row_at s at ∷ rows_at s (at + row_size) n

-- the rows that a sheet of bytes holds
unfoldable pub rows_in : List ℕ → List Row
rows_in s = rows_at s 0 (length s / row_size)

-- what a call's change of the sheet makes of the bytes; ends' sheet_after says it of rows
abbrev pub sheet_bytes_after : List ℕ → SheetChange → List ℕ
sheet_bytes_after s NoRow = s
sheet_bytes_after s (AddRow i r) = sets s (row_size * i) (row_bytes r)
sheet_bytes_after s (OneRow used r) = sets s 0 (rows_bytes (r ∷ replicate (used - 1) no_row))
