use native.Mathlib.Omega.{arith}
use Rattle.codes.specs.laws.SyndromeLaws.{bit-most}
use Rattle.codes.specs.laws.SumLaws.{ones-last, ones-few}
use Rattle.codes.proofs.sums.ones_of.Goals as goal

pub overflow_add-n : goal.overflow_add-n
overflow_add-n c = let e = bit-most c.get.result in
    let f = ones-few c.args.s.bytes.now c.args.s.start c.loop-i.i in
    let p = c.args.s.part.few in
    omega arith

pub loop-i-preserved : goal.loop-i-preserved
loop-i-preserved c = let e = ones-last c.args.s.bytes.now c.args.s.start c.loop-i.i c.get.result c.get.ensures in omega arith
