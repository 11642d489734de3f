use mathlib.Core.Path.{◌∙◌}
use mathlib.Core.List.{[], ◌∷◌}
use native.Mathlib.Omega.{arith}
use Rattle.strings.specs.Ranges.{bits}
use Rattle.codes.specs.laws.HashLaws.{went-last, went-next}
use Rattle.codes.specs.code.Runs.{places, put_bits}
use Rattle.codes.specs.laws.RunLaws.{one_near, one-woven}
use Rattle.codes.specs.laws.WeavingLaws.{woven-next, woven-last, next-column, next-below}
use Rattle.codes.proofs.weaving.Woven.hash_middle.Goals as goal

pub woven_bit-requires-clause-p_bound : goal.woven_bit-requires-clause-p_bound
woven_bit-requires-clause-p_bound c = let woven = c.args.self.now in
    one_near woven.repairs c.loop-i.j woven.run.b woven.run.piece.len woven.placed

pub loop-i-preserved : goal.loop-i-preserved
loop-i-preserved c = let run = c.args.self.now.run in
    let repairs = c.args.self.now.repairs in
    let loop = c.loop-i in
    let step = next-column run.b loop.i loop.j loop.invariant.0 loop.invariant.1 in
    let below = next-below run.b loop.i loop.j loop.invariant.0 loop.invariant.1 in
    let e = c.next_column-j.ensures in
    let x = c.woven_bit.result in (
      omega arith,
      e ∙ step,
      went-next loop.all.sum loop.all.row _ _ _ _ (x ∷ []) _ c.bit-all.ensures _
          (woven-next (bits run.piece) run.n run.b (places repairs) (put_bits repairs) c.args.m.behind loop.i loop.j x (omega arith) loop.invariant.1 (c.woven_bit.ensures ∙ one-woven repairs loop.j (bits run.piece) run.n run.b loop.i)) loop.invariant.2,
    )

pub returns : goal.returns
returns c = let run = c.args.self.now.run in
    let repairs = c.args.self.now.repairs in
    let loop = c.loop-i in
    let q = went-last loop.all.sum loop.all.row _ _ _ (woven-last (bits run.piece) run.n run.b (places repairs) (put_bits repairs) c.args.m.behind loop.i (omega arith)) loop.invariant.2 in
    record { sums = q.0; rows = q.1 }
