-- `codes::place_singly` meets its contract: i and the place in the rest, for the bits left to pass, are what they were at the first turn. Assumes nothing.
use Rattle.std.specs.Prelude.{◌≡◌, not, ◌+◌, nat_eq}
use Rattle.strings.proofs.laws.RangeLaws.{rest}
use Rattle.codes.specs.code.Place.{place_after}
use Rattle.codes.proofs.places.place_singly.Given as goal

abbrev pub invariant-loop-i : goal.invariant-loop-i
invariant-loop-i g l =
    let bit = not (nat_eq g.row.BIT 0) in
    l.i + place_after bit l.left (rest l.s.bytes.now l.s.start l.s.len l.i) ≡ l.from + place_after bit l.k (rest l.s.bytes.now l.s.start l.s.len l.from)
