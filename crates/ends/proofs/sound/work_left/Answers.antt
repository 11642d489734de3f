use Rattle.ends.specs.code.SoundCode.{work-more, part_small, work_left}
use Rattle.std.proofs.Common.{arith}
use Rattle.std.proofs.Math.Path.{refl}
use Rattle.ends.proofs.sound.work_left.Goals as goal

pub loop-pc-init : goal.loop-pc-init
unfolding work_left
loop-pc-init c = record { is = refl; small = omega arith }

pub loop-pc-preserved : goal.loop-pc-preserved
loop-pc-preserved c =
    let s = part_small c.args.a c.wide.result c.wide-m.result c.requires.a-most c.wide.ensures.1 in
    let k = c.loop-pc.invariant.small in
    let b = c.requires.b-most in
    let turn = work-more c.args.a c.args.b c.args.st.settings.m c.args.st.pieces c.loop-pc.pc-index c.args.st.waiting c.loop-pc-test.true in
    record { is = turn _ _ c.loop-pc.sum c.wide.ensures.0 c.wide-m.ensures.0 c.loop-pc.invariant.is; small = omega arith }
