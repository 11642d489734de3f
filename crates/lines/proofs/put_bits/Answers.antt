use Rattle.lines.specs.laws.PrintLaws.{text_puts}
use Rattle.lines.proofs.put_bits.Goals as goal

pub loop-i-preserved : goal.loop-i-preserved
loop-i-preserved c = text_puts c.args.s.now c.loop-i.i c.get_bit.ensures c.bit_byte.ensures c.loop-i.invariant
