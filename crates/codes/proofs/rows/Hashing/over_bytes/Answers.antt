use Prim.Native.Nat.{◌/◌}
use Rattle.strings.specs.Bits.{byte_bits}
use Rattle.strings.proofs.laws.ByteLaws.{eight-next, eight-last}
use Rattle.codes.specs.laws.HashLaws.{went-last, went-next}
use Rattle.codes.proofs.rows.Hashing.over_bytes.Goals as goal

pub loop-i-preserved : goal.loop-i-preserved
loop-i-preserved c = let loop = c.loop-i in
    let args = c.args in
    let v = c.byte.result in
    went-next loop.all.sum loop.all.row _ _ _ _ (byte_bits v) _ c.byte-all.ensures _ (eight-next args.s.bytes.now args.s.start (args.s.len / 8) loop.i v c.loop-i-test.true c.byte.ensures) loop.invariant

pub returns : goal.returns
returns c = let loop = c.loop-i in
    let args = c.args in
    let q = went-last loop.all.sum loop.all.row _ _ _ (eight-last args.s.bytes.now args.s.start (args.s.len / 8) loop.i c.loop-i-test.false) loop.invariant in
    record { sums = q.0; rows = q.1 }
