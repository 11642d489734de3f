use mathlib.Core.Path.{refl, ap, ◌∙◌}
use Prim.Native.Nat.{◌-◌}
use native.Mathlib.Omega.{arith}
use lib.ListN.{length}
use Rattle.strings.specs.Bits.{write_bits}
use Rattle.strings.proofs.laws.BitLaws.{length-set_bit}
use Rattle.codes.specs.code.MarkerBlocks.{message_from}
use Rattle.codes.specs.laws.MarkerBlockLaws.{digit-next, digits-first, merged-last}
use Rattle.codes.proofs.markers.write_number.Goals as goal

pub loop-p-init : goal.loop-p-init
loop-p-init c = let args = c.args in
    let all = c.of_word-p-items.ensures in
    rw (c.into_iter-p-iterator.ensures.into_iter_gives, all.first, all.n) (refl, refl, ap (write_bits args.out.now 0) (digits-first args.w.n args.v args.out.now))

pub loop-p-preserved : goal.loop-p-preserved
loop-p-preserved c = let turn = c.in-Some.ensures.steps.1 in
    let put = c.set_bit.ensures in
    let l = c.loop-p in
    let n = c.args.w.n in
    let p = c.in-Some.p in
    let power = rw (← turn.0) at l.p-iterator.power in
    let within = c.requires.there in
    let same = l.invariant.1 in
    let fits = turn.1 in
    let is = l.invariant.0 in (
      c.in-Some.ensures.steps.0 ∙ is,
      ap length put ∙ length-set_bit l.out (p - 1) _ ∙ same,
      rw turn.2 (digit-next n p l.left l.out _ _ power (omega arith) (omega arith) refl put ∙ (rw (← turn.0) at l.invariant.2)),
    )

pub returns : goal.returns
returns c = let l = c.loop-p in
    let n = c.args.w.n in
    let h = c.in-None.ensures.steps.1 in
    let is = l.invariant.0 in
    merged-last n l.p-iterator.p l.left (message_from l.out n l.p-iterator.p) l.out _ (omega arith) l.invariant.2
