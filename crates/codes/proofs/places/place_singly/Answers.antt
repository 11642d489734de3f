use Rattle.std.proofs.Common.{refl, ap, ◌∙◌, arith}
use Rattle.std.specs.Prelude.{not, nat_eq}
use Rattle.strings.proofs.laws.RangeLaws.{rest, rest-last, rest-is}
use Rattle.codes.specs.code.Place.{place_after}
use Rattle.codes.specs.laws.PlaceLaws.{place-after-stop, place-after-empty, place-after-next}
use Rattle.codes.proofs.places.place_singly.Goals as goal

pub returns-then-left-eq0 : goal.returns-then-left-eq0
returns-then-left-eq0 g c = let e = place-after-stop (not (nat_eq g.row.BIT 0)) c.loop-i.left (rest c.args.s.bytes.now c.args.s.start c.args.s.len c.loop-i.i) c.if-left-eq0.true in omega arith

pub loop-i-preserved : goal.loop-i-preserved
loop-i-preserved g c = let b = c.get.result in
    let p = place-after-next (not (nat_eq g.row.BIT 0)) c.loop-i.left _ _ b (rest-is c.args.s.bytes.now c.args.s.start c.args.s.len c.loop-i.i b b c.loop-i-test.true c.get.ensures refl) c.if-left-eq0.false in
    omega arith

pub returns : goal.returns
returns g c = let e = ap (place_after (not (nat_eq g.row.BIT 0)) c.loop-i.left) (rest-last c.args.s.bytes.now c.args.s.start c.args.s.len c.loop-i.i c.loop-i-test.false) ∙ place-after-empty _ c.loop-i.left in omega arith
