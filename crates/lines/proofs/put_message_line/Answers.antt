use Rattle.lines.specs.Printing.{message_line}
use Rattle.lines.specs.laws.PrintLaws.{puts-next}
use Rattle.lines.proofs.put_message_line.Goals as goal

pub returns : goal.returns
unfolding message_line
returns c = puts-next c.put_letter-a.ensures (puts-next c.put_hex-b.ensures c.put_byte.ensures)
