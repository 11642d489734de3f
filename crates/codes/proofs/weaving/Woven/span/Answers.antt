use mathlib.Core.Path.{sym, ap, subst, ◌∙◌}
use mathlib.Core.Logic.{⊎_elim}
use Prim.Native.Nat.{ℕ, ◌+◌, ◌-◌, ◌<◌}
use native.Mathlib.Omega.{arith}
use Rattle.std.specs.Prelude.{◌≡◌, List, min, max, get_or, length, take, drop}
use Rattle.std.proofs.Common.{get_or-take, length-take}
use Rattle.std.proofs.lemmas.Grind.{get_or_after_one}
use Rattle.codes.specs.code.Runs.{places}
use Rattle.codes.specs.code.Weaving.{Spans}
use Rattle.codes.specs.declared.weaving.ColumnRepair.{ColumnRepair}
use Rattle.codes.specs.laws.RunLaws.{no_repair, one_place, one_near}
use Rattle.codes.specs.laws.WeavingLaws.{min-smaller, max-larger, spans-first, spans-next}
use Rattle.codes.proofs.weaving.Woven.span.Goals as goal

-- the place of repair k of those behind the first
place_behind : (rs : List ColumnRepair) (n k : ℕ) → k < length (take n (drop 1 rs)) → (get_or (take n (drop 1 rs)) k no_repair).place ≡ (get_or rs (k + 1) no_repair).place
place_behind rs n k h = let w = length-take n (drop 1 rs) in let e : 1 + k ≡ k + 1 = omega arith in
    ap (λ (r : ColumnRepair). r.place) (get_or-take n (drop 1 rs) k no_repair (omega arith) ∙ get_or_after_one rs k no_repair ∙ ap (λ i. get_or rs i no_repair) e)

pub loop-one-init : goal.loop-one-init
loop-one-init c = let woven = c.args.self.now in
    let rs = woven.repairs in
    (one_near rs 0 woven.run.b woven.run.piece.len woven.placed, subst (λ (x : ℕ). Spans 1 x x (places rs)) (one_place rs 0) (spans-first (places rs)))

pub loop-one-preserved : goal.loop-one-preserved
loop-one-preserved c = let woven = c.args.self.now in
    let rs = woven.repairs in
    let loop = c.loop-one in
    let next = loop.one-index + 1 in
    let near = one_near rs next woven.run.b woven.run.piece.len woven.placed in
    let i = place_behind rs (woven.run.b - 1) loop.one-index c.loop-one-test.true in
    let e = i ∙ sym (one_place rs next) in
    let g = max-larger _ _ _ c.max-high.ensures in (
      (let v = loop.invariant.0 in ⊎_elim (λ e. (let q : c.max-high.result < woven.run.piece.len + woven.run.b = omega arith in q)) (λ e. (let q : c.max-high.result < woven.run.piece.len + woven.run.b = omega arith in q)) g.2),
      spans-next (places rs) next loop.low loop.high c.min-low.result c.max-high.result loop.invariant.1
          (min-smaller _ _ _ (c.min-low.ensures ∙ ap (min loop.low) e)) (max-larger _ _ _ (c.max-high.ensures ∙ ap (max loop.high) e)),
    )
