-- `codes::find_columns` meets its contract: the columns so far have their edits. Assumes nothing.
use mathlib.Core.Path.{◌≡◌}
use lib.ListN.{length}
use Rattle.strings.specs.Ranges.{bits}
use Rattle.codes.specs.laws.ColumnEditLaws.{EditsBefore}
use Rattle.codes.specs.code.Runs.{places, put_bits}
use Rattle.codes.specs.code.Weaving.{Placed}
use Rattle.codes.proofs.columns.find_columns.Given as goal

abbrev pub invariant-loop-j : goal.invariant-loop-j
invariant-loop-j l = (length l.repairs ≡ 32) × Placed l.run.b l.run.piece.len (places l.repairs)
    × EditsBefore l.run.b l.run.n (bits l.run.piece) l.a (places l.repairs) (put_bits l.repairs) l.j
