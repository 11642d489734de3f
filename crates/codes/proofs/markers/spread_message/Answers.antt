use mathlib.Core.Path.{◌≡◌, refl, ap, sym, ◌∙◌}
use Prim.Native.Nat.{◌+◌, ◌-◌, ◌*◌}
use native.Mathlib.Omega.{arith}
use lib.ListN.{length}
use Rattle.strings.specs.Bits.{range, write_bits, pack}
use Rattle.strings.specs.Ranges.{bits}
use Rattle.codes.specs.Markers.{message_bits, merged}
use Rattle.strings.proofs.laws.BitLaws.{length-set_bit}
use Rattle.strings.proofs.laws.WriteLaws.{length-write_bits}
use Rattle.codes.specs.code.MarkerBlocks.{others_from}
use Rattle.codes.specs.laws.MarkerBlockLaws.{others-block, spread-turn, others-first, spread-first, merged-last, packed-part, packed-whole}
use borrow.Author.Rules.{rules}
use Rattle.codes.proofs.markers.spread_message.Goals as goal

pub loop-p-init : goal.loop-p-init
loop-p-init c = let args = c.args in
    let m = args.m in
    let n = args.w.n in
    let all = c.of_word-p-items.ensures in
    let e = others-first n in
    let whole = ap (range (pack (bits m)) 0) (sym c.requires.m_len) ∙ packed-whole m.bytes.now m.start m.len in
    rw (c.into_iter-p-iterator.ensures.into_iter_gives, all.first, all.n)
    (refl, omega arith, refl, ap (write_bits args.out.now 0) (spread-first n (pack (bits m)) ∙ ap (merged n 1 0) whole))

pub first-requires : goal.first-requires
first-requires c = let turn = c.in-Some.ensures.steps.1 in
    let l = c.loop-p in
    let n = c.args.w.n in
    let block = c.block_length-len in
    let o = others-block n c.in-Some.p block.result (rw (← turn.0) at l.p-iterator.power) block.ensures in
    let q = rw (← turn.0) at l.invariant.1 in
    let k = c.requires.m_len in
    let f = c.skip.ensures.len in
    search rules

pub loop-p-preserved : goal.loop-p-preserved
loop-p-preserved c = let turn = c.in-Some.ensures.steps.1 in
    let block = c.block_length-len in
    let put = c.set_bit.ensures in
    let l = c.loop-p in
    let m = c.args.m in
    let n = c.args.w.n in
    let p = c.in-Some.p in
    let power = rw (← turn.0) at l.p-iterator.power in
    let o = others-block n p block.result power block.ensures in
    let q = rw (← turn.0) at l.invariant.1 in
    let k = c.requires.m_len in
    let part = rw (c.skip.ensures.bytes, c.skip.ensures.start) at c.first.ensures.taken in
    let copied = c.copy_bits.ensures ∙ ap (write_bits _ p) (part ∙ sym (packed-part m.bytes.now m.start m.len l.at block.result (omega arith))) in (
      c.in-Some.ensures.steps.0 ∙ l.invariant.0,
      rw turn.2 (let z : l.at + block.result + others_from n (2 * p) ≡ message_bits n = omega arith in z),
      ap length copied ∙ length-write_bits _ _ _ ∙ ap length put ∙ length-set_bit l.out (p - 1) _ ∙ l.invariant.2,
      rw turn.2 (spread-turn n p block.result power block.ensures (pack (bits m)) l.out _ _ l.at put copied ∙ (rw (← turn.0) at l.invariant.3)),
    )

pub returns : goal.returns
returns c = let l = c.loop-p in
    let n = c.args.w.n in
    let h = c.in-None.ensures.steps.1 in
    let is = l.invariant.0 in
    merged-last n l.p-iterator.p 0 (range (pack (bits c.args.m)) l.at (others_from n l.p-iterator.p)) l.out _ (omega arith) l.invariant.3
