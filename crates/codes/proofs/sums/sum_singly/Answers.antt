use Rattle.codes.specs.laws.SumLaws.{residue-next}
use Rattle.codes.proofs.sums.sum_singly.Goals as goal

pub loop-i-preserved : goal.loop-i-preserved
loop-i-preserved c = residue-next _ c.args.s.bytes.now c.args.s.start c.loop-i.i c.get.result c.loop-i.all _ c.get.ensures c.loop-i.invariant c.add_bit-all.ensures
