use Rattle.lines.specs.Printing.{last_line}
use Rattle.lines.specs.laws.PrintLaws.{puts-next}
use Rattle.lines.proofs.put_last_line.Goals as goal

pub returns : goal.returns
unfolding last_line
returns c = puts-next c.put_letter-a.ensures (puts-next c.put_bits-b.ensures (puts-next c.put_next-c.ensures (puts-next c.put_next-d.ensures c.put_byte.ensures)))
