-- `codes::copy_column` meets its contract: a column is bits at equal distances. Assumes nothing.
use mathlib.Core.Path.{sym, ap, ◌∙◌}
use Rattle.strings.specs.Bits.{write_bits}
use Rattle.codes.specs.laws.ColumnByteLaws.{column-part}
use Rattle.codes.specs.laws.StrideLaws.{column_within, column_strides}
use Rattle.codes.proofs.columns.copy_column.Goals as goal

pub invariant_of-all : goal.invariant_of-all
invariant_of-all c = let col = c.args.c in
    let s = col.piece in
    record { part = column-part s.bytes.now s.start s.len col.b col.j _ s.part (column_within col.b col.j s.len _ col.inside c.len.ensures) }

pub returns : goal.returns
returns c = let col = c.args.c in
    let s = col.piece in
    c.copy.ensures ∙ ap (write_bits c.args.to.now 0) (sym (column_strides s.bytes.now s.start s.len col.b col.j _ col.inside c.len.ensures))
