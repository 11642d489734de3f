-- `codes::place_after` meets its contract: the bits of i bytes and the place in the rest, for the bits left to pass, are the place in the whole range. Assumes
-- nothing.
use Rattle.std.specs.Prelude.{◌≡◌, not, ◌+◌, ◌*◌, nat_eq}
use Rattle.strings.specs.Ranges.{bits}
use Rattle.strings.proofs.laws.RangeLaws.{rest}
use Rattle.codes.specs.code.Place.{place_after}
use Rattle.codes.proofs.places.place_after.Given as goal

abbrev pub invariant-loop-i : goal.invariant-loop-i
invariant-loop-i g l =
    let bit = not (nat_eq g.row.BIT 0) in
    8 * l.i + place_after bit l.left (rest l.s.bytes.now l.s.start l.s.len (8 * l.i)) ≡ place_after bit l.k (bits l.s)
