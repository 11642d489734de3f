use mathlib.Core.Path.{ap, ◌∙◌}
use native.Mathlib.Omega.{arith}
use lib.ListN.{length}
use Rattle.strings.proofs.laws.BitLaws.{length-set_bit}
use Rattle.codes.specs.laws.StrideLaws.{singly_next, singly_last}
use Rattle.codes.proofs.strides.Strided.copy_singly.Goals as goal

pub loop-i-preserved : goal.loop-i-preserved
loop-i-preserved c = let s = c.args.self in
    let loop = c.loop-i in (
      ap length c.set_bit.ensures ∙ length-set_bit loop.to loop.i c.get.result ∙ loop.invariant.0,
      singly_next s.bytes.now loop.to _ _ s.start s.step s.len loop.i c.get.result (omega arith) c.get.ensures c.set_bit.ensures loop.invariant.1,
    )

pub returns : goal.returns
returns c = let s = c.args.self in
    let loop = c.loop-i in
    singly_last s.bytes.now loop.to _ s.start s.step s.len loop.i (omega arith) loop.invariant.1
