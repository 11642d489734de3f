use Rattle.layout.proofs.Stores.{number-more}
use Rattle.layout.proofs.numbers.write_words.Goals as goal

pub loop-i-preserved : goal.loop-i-preserved
loop-i-preserved c = number-more _ _ _ c.args.words.now c.args.at c.loop-i.i c.loop-i-test.true c.loop-i.invariant c.write_u32.ensures
