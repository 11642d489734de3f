use Prim.Native.Nat.{◌+◌, ◌*◌}
use mathlib.Core.Path.{ap, sym}
use native.Mathlib.Omega.{arith}
use Rattle.strings.proofs.laws.RangeLaws.{range_none}
use Rattle.codes.specs.code.Place.{ones}
use Rattle.codes.specs.laws.SumLaws.{ones-eight, ones-few}
use Rattle.codes.proofs.sums.ones_bytes.Goals as goal

pub loop-i-init : goal.loop-i-init
loop-i-init c = ap ones (sym (range_none c.args.s.bytes.now c.args.s.start))

pub overflow_add-n : goal.overflow_add-n
overflow_add-n c = let args = c.args in
    let e = ones-eight args.s.bytes.now args.s.start c.loop-i.i c.byte.result c.byte.ensures in
    let f = ones-few args.s.bytes.now args.s.start (8 * (c.loop-i.i + 1)) in
    let o = c.ones_byte-n.ensures in
    let p = args.s.part.few in
    omega arith

pub loop-i-preserved : goal.loop-i-preserved
loop-i-preserved c = let e = ones-eight c.args.s.bytes.now c.args.s.start c.loop-i.i c.byte.result c.byte.ensures in
    let o = c.ones_byte-n.ensures in
    omega arith
