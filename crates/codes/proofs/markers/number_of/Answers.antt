use mathlib.Core.Path.{refl, ap, sym, ◌∙◌}
use native.Mathlib.Omega.{arith}
use Prim.Native.Nat.{◌-◌}
use Rattle.strings.specs.Bits.{pack}
use Rattle.strings.specs.Ranges.{bits}
use Rattle.codes.specs.Markers.{check_number}
use Rattle.codes.specs.laws.PowerLaws.{power_pos}
use Rattle.codes.specs.laws.MarkerBlockLaws.{number-next, number-first, number-last, bit-times-most, packed-bit, packed-whole}
use Rattle.codes.proofs.markers.number_of.Goals as goal

pub loop-p-init : goal.loop-p-init
loop-p-init c = let s = c.args.s in
    let all = c.of_word-p-items.ensures in
    rw (c.into_iter-p-iterator.ensures.into_iter_gives, all.first, all.n) (refl, omega arith, number-first (pack (bits s)) s.len ∙ ap (check_number 1) (packed-whole s.bytes.now s.start s.len))

pub loop-p-preserved : goal.loop-p-preserved
loop-p-preserved c = let turn = c.in-Some.ensures.steps.1 in
    let l = c.loop-p in
    let s = c.args.s in
    let p = c.in-Some.p in
    let b = c.get.result in
    let power = rw (← turn.0) at l.p-iterator.power in
    let pos = power_pos p power in
    let most = bit-times-most p b in
    let n = l.invariant.0 in
    let e = packed-bit s.bytes.now s.start s.len (p - 1) (let h = turn.1 in omega arith) in
    let v = rw (← turn.0) at l.invariant.2 in (
      c.in-Some.ensures.steps.0 ∙ n,
      (let g = turn.0 in let h = turn.2 in let i = l.invariant.1 in omega arith),
      rw turn.2 (number-next (pack (bits s)) s.len p l.v b power (let h = turn.1 in omega arith) (c.get.ensures ∙ sym e) ∙ v),
    )

pub returns : goal.returns
returns c = let l = c.loop-p in
    let s = c.args.s in
    let h = c.in-None.ensures.steps.1 in
    let n = l.invariant.0 in
    number-last (pack (bits s)) s.len l.p-iterator.p l.v _ (omega arith) l.invariant.2
