use Rattle.lines.specs.Printing.{refusal_line}
use Rattle.lines.specs.laws.PrintLaws.{puts-next}
use Rattle.lines.proofs.put_refusal_line.Goals as goal

pub returns : goal.returns
unfolding refusal_line
returns c = puts-next c.put_byte-a.ensures (puts-next c.put_next-b.ensures c.put_byte.ensures)
