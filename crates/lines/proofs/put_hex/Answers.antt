use Rattle.lines.specs.laws.PrintLaws.{hex_puts}
use Rattle.lines.proofs.put_hex.Goals as goal

pub loop-x-preserved : goal.loop-x-preserved
loop-x-preserved c = hex_puts c.args.s.now c.loop-x.x-index c.loop-x-test.true c.hex_digit.ensures c.hex_digit-in-loop-x.ensures c.loop-x.invariant
