use mathlib.Core.Path.{refl}
use mathlib.Core.List.{[], ◌∷◌}
use Rattle.strings.proofs.laws.RangeLaws.{rest-last, rest-is}
use Rattle.codes.specs.laws.HashLaws.{went-last, went-next}
use Rattle.codes.proofs.rows.Hashing.over_bits.Goals as goal

pub loop-i-preserved : goal.loop-i-preserved
loop-i-preserved c = let loop = c.loop-i in
    let args = c.args in
    let b = c.get.result in
    went-next loop.all.sum loop.all.row _ _ _ _ (b ∷ []) _ c.bit-all.ensures _ (rest-is args.s.bytes.now args.s.start args.s.len loop.i b b c.loop-i-test.true c.get.ensures refl) loop.invariant

pub returns : goal.returns
returns c = let q = went-last c.loop-i.all.sum c.loop-i.all.row _ _ _ (rest-last c.args.s.bytes.now c.args.s.start c.args.s.len c.loop-i.i c.loop-i-test.false) c.loop-i.invariant in
    record { sums = q.0; rows = q.1 }
