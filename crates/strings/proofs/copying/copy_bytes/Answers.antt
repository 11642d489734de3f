use mathlib.Core.Path.{refl, ◌∙◌}
use Prim.Native.Nat.{◌+◌, ◌/◌}
use native.Mathlib.Omega.{arith}
use lib.ListN.{length-set}
use Rattle.strings.proofs.laws.PackLaws.{set-bytes}
use Rattle.strings.proofs.laws.ByteLaws.{bytes-first, bytes_next, bytes-last}
use Rattle.strings.proofs.copying.copy_bytes.Goals as goal

pub loop-i-init : goal.loop-i-init
loop-i-init c = let args = c.args in
    (omega arith, refl, λ i. (c.slice_known-1.given i).fits, bytes-first args.from.bytes.now args.to.now args.from.start (args.from.len / 8) args.at)

pub loop-i-preserved : goal.loop-i-preserved
loop-i-preserved c = let loop = c.loop-i in
    let args = c.args in
    let v = c.byte.result in
    let read = c.byte.ensures in (
      omega arith,
      length-set loop.to (args.at + loop.i) v ∙ loop.invariant.1,
      set-bytes loop.to (args.at + loop.i) v loop.invariant.2 read.byte,
      bytes_next args.from.bytes.now loop.to _ args.from.start (args.from.len / 8) args.at loop.i v c.loop-i-test.true (omega arith) loop.invariant.2 read loop.invariant.3,
    )

pub returns : goal.returns
returns c = let loop = c.loop-i in
    let args = c.args in
    bytes-last args.from.bytes.now loop.to _ args.from.start (args.from.len / 8) args.at loop.i c.loop-i-test.false loop.invariant.3
