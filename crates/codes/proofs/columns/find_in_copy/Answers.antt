-- `codes::find_in_copy` meets its contract: the column is copied out, and the search of 01 finds its edit there. Assumes nothing.
use mathlib.Core.Path.{sym, subst}
use Prim.Native.Nat.{◌≤◌}
use native.Mathlib.Omega.{arith}
use Rattle.std.specs.Prelude.{Option}
use Rattle.strings.specs.Ranges.{bits}
use Rattle.codes.specs.code.Runs.{is_found, place_found, bit_found}
use Rattle.codes.specs.code.Weaving.{ColumnFound}
use Rattle.codes.specs.declared.weaving.ColumnRepair.{ColumnRepair}
use Rattle.codes.specs.laws.ColumnReadLaws.{column-held}
use Rattle.codes.specs.laws.ColumnEditLaws.{searched-nothing, searched-found}
use Rattle.codes.proofs.columns.find_in_copy.Goals as goal

pub returns-in_err-e : goal.returns-in_err-e
returns-in_err-e c = let run = c.args.run in
    let s = run.piece in
    let held = (column-held s.bytes.now s.start s.len run.b c.args.j run.least _ c.requires.part _ c.copy_column.ensures).1 in
    let pos : 1 ≤ run.b = (let h = run.least in omega arith) in
    subst (λ (r : Option ColumnRepair). ColumnFound run.b run.n c.args.a (bits s) c.args.j (is_found r) (place_found r) (bit_found r)) (sym c.from_residual.ensures)
    (searched-nothing s.bytes.now s.start s.len run.n run.b c.args.j c.args.a pos c.requires.j_lt_b run.apart _ c.len.result c.column_length.result c.len.ensures c.column_length.ensures held c.find_repair.result c.find_repair.ensures.len_value c.in_err-e.was)

pub returns : goal.returns
returns c = let run = c.args.run in
    let s = run.piece in
    let held = (column-held s.bytes.now s.start s.len run.b c.args.j run.least _ c.requires.part _ c.copy_column.ensures).1 in
    let pos : 1 ≤ run.b = (let h = run.least in omega arith) in
    searched-found s.bytes.now s.start s.len run.n run.b c.args.j c.args.a pos c.requires.j_lt_b run.apart _ c.len.result c.column_length.result c.len.ensures c.column_length.ensures held c.find_repair.result c.find_repair.ensures.len_value c.find_repair.ensures.repair_fits c.in_ok-e.e c.in_ok-e.was _ c.column_repair.result.place c.column_repair.result.bit c.column_repair.ensures
