use Prim.Native.Nat.{◌+◌, ◌*◌, ◌/◌}
use native.Mathlib.Omega.{arith}
use Rattle.codes.specs.laws.SumLaws.{lanes-none, lanes_next, lanes-as, lanes-joined, byte-bit-is}
use Rattle.codes.proofs.sums.sum_bytes.Goals as goal

pub loop-i-init : goal.loop-i-init
loop-i-init c = lanes-none c.args.m.m c.args.s.bytes.now c.args.s.start c.args.m.least

pub loop-k-preserved : goal.loop-k-preserved
loop-k-preserved c = let args = c.args in
    let i = c.loop-i.i in
    let k = c.loop-k.k in
    lanes-as _ _ _ (8 * i + k + 1) _ _ (omega arith)
    (lanes_next _ _ _ (8 * i + k) _ k _ _ c.loop-k-test.true (omega arith) (byte-bit-is args.s.bytes.now args.s.start i c.byte-v.result k c.byte-v.ensures c.loop-k-test.true) c.loop-k.invariant c.add_bit.ensures)

pub returns : goal.returns
returns c = lanes-joined c.args.m.m _ _ (8 * (c.args.s.len / 8)) c.loop-i.sums _ (lanes-as _ _ _ (8 * c.loop-i.i) _ _ (omega arith) c.loop-i.invariant) c.join.ensures
