use Rattle.codes.specs.laws.SumLaws.{residue-on, residue-as, total-next}
use Rattle.codes.proofs.sums.join.Goals as goal

pub loop-sum-preserved : goal.loop-sum-preserved
loop-sum-preserved c = residue-as _ _ _ _ (total-next c.args.sums.now c.loop-sum.sum-index c.loop-sum-test.true) (residue-on _ _ _ _ _ c.loop-sum.invariant c.add-all.ensures)
