use Rattle.std.proofs.Common.{rules, ◌≡◌, List, ◌≤◌, ap, ap₂, sym, ◌∙◌, ◌+◌, ℕ, reverse, arith, length}
use Rattle.ends.specs.declared.Piece.{Piece}
use Rattle.ends.specs.Soundness.{in_order, piece_fits}
use Rattle.ends.specs.code.SoundCode.{held-is, order-fits, order-fails, order-none}
use Rattle.ends.proofs.sound.in_order.Goals as goal

pub loop-i-init : goal.loop-i-init
loop-i-init c =
    let n : length c.args.st.pieces ≡ 32 = search rules in
    let w : c.args.st.waiting ≤ 32 = search rules in
    let h = held-is c.args.st.waiting c.args.st.pieces (omega arith) in
    let g = c.into_iter-i-iterator.ensures.into_iter_gives in
    let v = c.rev-i-items.ensures.source in
    let r = ap (λ i. i.iter.iter.rest.now) g ∙ ap (λ i. i.iter.rest.now) v ∙ ap (λ i. i.rest.now) c.enumerate.ensures.source ∙ c.iter.ensures.rest in
    record {
      count = ap (λ i. i.iter.count) g ∙ ap (λ i. i.count) v ∙ c.enumerate.ensures.count;
      rest =
          ap₂ (λ (n e : ℕ). in_order n e 0 0 (reverse c.into_iter-i-iterator.result.iter.iter.rest.now)) c.wide-n.ensures.0 c.wide-e.ensures.0
          ∙ ap (λ (l : List Piece). in_order c.args.st.n c.args.st.ybits 0 0 l) (ap reverse r ∙ sym h);
    }

pub returns-then-not-piece_fits : goal.returns-then-not-piece_fits
returns-then-not-piece_fits c =
    let s = c.in-Some.ensures.steps in
    let k = c.loop-i.invariant.count in
    let i : c.in-Some.i ≡ length c.next.new.self.iter.iter.rest.now = omega arith in
    let fits = piece_fits c.wide-n.result c.wide-e.result c.loop-i.x c.loop-i.y in
    let f = c.piece_fits.ensures ∙ ap (λ (d : ℕ). fits d c.in-Some.field-0-1.now) i in
    sym (order-fails c.wide-n.result c.wide-e.result c.loop-i.x c.loop-i.y _ _ _ s.1.0 c.piece_fits.result f c.if-not-piece_fits.true)
    ∙ c.loop-i.invariant.rest

pub loop-i-preserved : goal.loop-i-preserved
loop-i-preserved c =
    let s = c.in-Some.ensures.steps in
    let k = c.loop-i.invariant.count in
    let i : c.in-Some.i ≡ length c.next.new.self.iter.iter.rest.now = omega arith in
    let fits = piece_fits c.wide-n.result c.wide-e.result c.loop-i.x c.loop-i.y in
    let f = c.piece_fits.ensures ∙ ap (λ (d : ℕ). fits d c.in-Some.field-0-1.now) i in
    let x = ap₂ ◌+◌ c.wide.ensures.0 c.wide-in-loop-i.ensures.0 in
    let y = ap₂ ◌+◌ c.wide-in-loop-i-2.ensures.0 c.wide-in-loop-i-3.ensures.0 in
    let o = order-fits c.wide-n.result c.wide-e.result c.loop-i.x c.loop-i.y _ _ _ s.1.0 c.piece_fits.result f c.if-not-piece_fits.false _ _ x y in
    record { count = s.0 ∙ k; rest = sym o ∙ c.loop-i.invariant.rest }

pub returns : goal.returns
returns c =
    let s = c.in-None.ensures.steps in
    sym (order-none c.wide-n.result c.wide-e.result c.loop-i.x c.loop-i.y _ s.1.0) ∙ c.loop-i.invariant.rest
