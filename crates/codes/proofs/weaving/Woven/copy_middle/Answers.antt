use mathlib.Core.Path.{sym, ap, ◌∙◌}
use Prim.Native.Nat.{◌-◌, ◌+◌}
use native.Mathlib.Omega.{arith}
use lib.ListN.{length}
use Rattle.strings.specs.Bits.{write_bits}
use Rattle.strings.specs.Ranges.{bits}
use Rattle.strings.proofs.laws.BitLaws.{length-set_bit}
use Rattle.strings.proofs.laws.WriteLaws.{write-none}
use Rattle.codes.specs.code.Runs.{places, put_bits}
use Rattle.codes.specs.laws.RunLaws.{one_near, one-woven}
use Rattle.codes.specs.laws.WeavingLaws.{woven-last, woven-copied, next-column, next-below}
use Rattle.codes.proofs.weaving.Woven.copy_middle.Goals as goal

pub woven_bit-x-requires-clause-p_bound : goal.woven_bit-x-requires-clause-p_bound
woven_bit-x-requires-clause-p_bound c = let woven = c.args.self.now in
    one_near woven.repairs c.loop-i.j woven.run.b woven.run.piece.len woven.placed

pub loop-i-preserved : goal.loop-i-preserved
loop-i-preserved c = let run = c.args.self.now.run in
    let repairs = c.args.self.now.repairs in
    let m = c.args.m in
    let loop = c.loop-i in
    let step = next-column run.b loop.i loop.j loop.invariant.0 loop.invariant.1 in
    let below = next-below run.b loop.i loop.j loop.invariant.0 loop.invariant.1 in
    let e = c.next_column-j.ensures in
    let x = c.woven_bit-x.result in (
      omega arith,
      e ∙ step,
      ap length c.set_bit.ensures ∙ length-set_bit loop.to (c.args.at + (loop.i - m.from)) x ∙ loop.invariant.2,
      woven-copied (bits run.piece) run.n run.b (places repairs) (put_bits repairs) loop.to _ _ (c.args.at + (loop.i + 1 - m.from)) (c.args.at + (loop.i - m.from)) m.behind loop.i loop.j x (omega arith) loop.invariant.1 (c.woven_bit-x.ensures ∙ one-woven repairs loop.j (bits run.piece) run.n run.b loop.i) c.set_bit.ensures (omega arith) loop.invariant.3,
    )

pub returns : goal.returns
returns c = let run = c.args.self.now.run in
    let repairs = c.args.self.now.repairs in
    let m = c.args.m in
    let loop = c.loop-i in
    sym (write-none loop.to (c.args.at + (loop.i - m.from)))
    ∙ ap (write_bits loop.to (c.args.at + (loop.i - m.from))) (sym (woven-last (bits run.piece) run.n run.b (places repairs) (put_bits repairs) m.behind loop.i (omega arith)))
    ∙ loop.invariant.3
