use mathlib.Core.Path.{◌∙◌}
use native.Mathlib.Omega.{arith}
use Rattle.codes.specs.laws.LinkingLaws.{digits-turn, digits_last}
use Rattle.codes.proofs.lists.residue_of.Goals as goal

pub loop-i-preserved : goal.loop-i-preserved
loop-i-preserved c = let loop = c.loop-i in
    let new = c.add_bit-sum in
    (omega arith, new.ensures.below, digits-turn c.args.k loop.left c.args.m.m loop.i loop.sum new.result (omega arith) new.ensures ∙ loop.invariant.2)

pub returns : goal.returns
returns c = let loop = c.loop-i in
    let args = c.args in
    (digits_last args.k loop.left args.m.m loop.i loop.sum _ c.loop-i-test.false loop.invariant.1 loop.invariant.2, loop.invariant.1)
