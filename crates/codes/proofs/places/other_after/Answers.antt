-- `codes::other_after` meets its contract. Assumes nothing.
use Rattle.std.proofs.Common.{◌∙◌, sym, le-ltb}
use Rattle.std.specs.Prelude.{not, nat_eq}
use Rattle.strings.specs.Ranges.{bits}
use Rattle.strings.proofs.laws.RangeLaws.{range_length, range_at}
use Rattle.codes.specs.laws.PlaceLaws.{other-past, other-at, other-after-none, other-after-is}
use Rattle.codes.proofs.places.other_after.Goals as goal
use Rattle.codes.proofs.places.other_after.Goals.{then-p-s, else-p-s}

pub returns-in_err-k : goal.returns-in_err-k
returns-in_err-k g c = c.from_residual.ensures ∙ other-after-none _ c.args.k (bits c.args.s) c.in_err-k.was

pub returns : goal.returns
returns g c = let s = c.args.s in
    let p = c.place_after-p.result in
    let bit = not (nat_eq g.row.BIT 0) in
    c.then_some.ensures ∙ other-after-is bit c.args.k _ (bits s) p _ c.in_ok-k.was c.place_after-p.ensures (elim c.if-p-s.branch [
      | then-p-s w ↦ w.then_some-is ∙ other-at bit _ (bits s) s.len p (range_length _ _ _) w.if-p-s.true (w.get.ensures ∙ sym (range_at s.bytes.now s.start s.len p w.if-p-s.true))
      | else-p-s w ↦ w.then_some-is ∙ le-ltb p s.len w.if-p-s.false ∙ other-past bit (bits s) s.len p (range_length _ _ _) w.if-p-s.false
    ])
