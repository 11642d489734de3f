-- `codes::syndrome_in_copy` meets its contract: the syndrome of the copy is that of the column. Assumes nothing.
use Rattle.codes.specs.laws.ColumnReadLaws.{syndrome-held}
use Rattle.codes.proofs.columns.syndrome_in_copy.Goals as goal

pub returns : goal.returns
returns c = let col = c.args.c in
    let s = col.piece in
    syndrome-held s.bytes.now s.start s.len col.b col.j col.least _ c.requires _ _ _ c.copy_column.ensures c.len.ensures c.syndrome_of.ensures
