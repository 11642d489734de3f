use Rattle.lines.specs.Printing.{row_line}
use Rattle.lines.specs.laws.PrintLaws.{puts-next}
use Rattle.lines.proofs.put_row_line.Goals as goal

pub returns : goal.returns
unfolding row_line
returns c = puts-next c.put_byte-a.ensures (puts-next c.put_next-b.ensures (puts-next c.put_next-c.ensures (puts-next c.put_next-d.ensures c.put_byte.ensures)))
