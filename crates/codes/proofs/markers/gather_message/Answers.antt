use mathlib.Core.Path.{refl, ap, sym, ◌∙◌}
use native.Mathlib.Omega.{arith}
use lib.ListN.{length}
use Rattle.strings.specs.Bits.{write_bits, pack}
use Rattle.strings.specs.Ranges.{bits}
use Rattle.strings.proofs.laws.WriteLaws.{length-write_bits}
use Prim.Native.Nat.{◌+◌, ◌*◌}
use mathlib.Core.Path.{◌≡◌}
use Rattle.codes.specs.code.MarkerBlocks.{others_from}
use Rattle.codes.specs.Markers.{message_bits, message}
use Rattle.codes.specs.laws.MarkerBlockLaws.{others-block, gather-turn, others-first, message-first, message-last, packed-part, packed-whole}
use borrow.Author.Rules.{rules}
use Rattle.codes.proofs.markers.gather_message.Goals as goal

pub loop-p-init : goal.loop-p-init
loop-p-init c = let s = c.args.s in
    let all = c.of_word-p-items.ensures in
    let e = others-first s.len in
    rw (c.into_iter-p-iterator.ensures.into_iter_gives, all.first, all.n)
    (refl, omega arith, refl, ap (write_bits c.args.out.now 0) (message-first (pack (bits s)) s.len ∙ ap (message 1) (packed-whole s.bytes.now s.start s.len)))

pub copy_bits-requires : goal.copy_bits-requires
copy_bits-requires c = let turn = c.in-Some.ensures.steps.1 in
    let l = c.loop-p in
    let n = c.args.s.len in
    let len = c.block_length-len in
    let o = others-block n c.in-Some.p len.result (rw (← turn.0) at l.p-iterator.power) len.ensures in
    let q = rw (← turn.0) at l.invariant.1 in
    let k = l.invariant.2 in
    let f = c.first.ensures.len in
    search rules

pub loop-p-preserved : goal.loop-p-preserved
loop-p-preserved c = let turn = c.in-Some.ensures.steps.1 in
    let block = c.block_length-len in
    let l = c.loop-p in
    let s = c.args.s in
    let p = c.in-Some.p in
    let power = rw (← turn.0) at l.p-iterator.power in
    let o = others-block s.len p block.result power block.ensures in
    let q = rw (← turn.0) at l.invariant.1 in
    let before = rw (← turn.0) at l.invariant.3 in
    let part = rw (c.skip.ensures.bytes, c.skip.ensures.start) at c.first.ensures.taken in
    let copied = c.copy_bits.ensures ∙ ap (write_bits l.out l.at) (part ∙ sym (packed-part s.bytes.now s.start s.len p block.result block.ensures.fits)) in (
      c.in-Some.ensures.steps.0 ∙ l.invariant.0,
      rw turn.2 (let z : l.at + block.result + others_from s.len (2 * p) ≡ message_bits s.len = omega arith in z),
      ap length copied ∙ length-write_bits _ _ _ ∙ l.invariant.2,
      rw turn.2 (gather-turn s.len p block.result power block.ensures (pack (bits s)) l.out _ l.at copied ∙ before),
    )

pub returns : goal.returns
returns c = let l = c.loop-p in
    let s = c.args.s in
    let h = c.in-None.ensures.steps.1 in
    let n = l.invariant.0 in
    message-last s.len l.p-iterator.p l.at (pack (bits s)) l.out _ (omega arith) l.invariant.3
