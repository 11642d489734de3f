-- `codes::number_of` meets its contract. Assumes nothing.
use mathlib.Core.Path.{◌≡◌}
use Prim.Native.Nat.{◌+◌, ◌*◌, ◌<◌}
use Rattle.strings.specs.Bits.{pack}
use Rattle.strings.specs.Ranges.{bits}
use Rattle.codes.specs.Markers.{check_number}
use Rattle.codes.specs.code.MarkerBlocks.{number_from}
use Rattle.codes.proofs.markers.number_of.Given as goal

-- v and p times the number from the next power p on are the number
abbrev pub invariant-loop-p : goal.invariant-loop-p
invariant-loop-p l = let p = l.p-iterator.p in
    (l.p-iterator.n ≡ l.s.len) × (l.v < p) × (l.v + p * number_from (pack (bits l.s)) l.s.len p ≡ check_number 1 (bits l.s))
