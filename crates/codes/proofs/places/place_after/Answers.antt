use Rattle.std.proofs.Common.{◌≡◌, ap, arith}
use Rattle.std.specs.Prelude.{not, ◌+◌, ◌-◌, ◌*◌, nat_eq}
use Rattle.strings.proofs.laws.RangeLaws.{rest}
use Rattle.codes.specs.code.Place.{place_after}
use Rattle.codes.specs.laws.PlaceLaws.{place-after-byte}
use Rattle.codes.proofs.places.place_after.Goals as goal

pub loop-i-preserved : goal.loop-i-preserved
loop-i-preserved g c = let s = c.args.s in
    let bit = not (nat_eq g.row.BIT 0) in
    let i = 8 * c.loop-i.i in
    let j : i + 8 ≡ 8 * (c.loop-i.i + 1) = omega arith in
    let n = c.count_byte-passed.result in
    let p = place-after-byte s.bytes.now s.start s.len i c.byte.result (omega arith) c.byte.ensures bit c.loop-i.left n c.count_byte-passed.ensures c.if-left-passed.false in
    let z = ap (λ x. place_after bit (c.loop-i.left - n) (rest s.bytes.now s.start s.len x)) j in
    omega arith
