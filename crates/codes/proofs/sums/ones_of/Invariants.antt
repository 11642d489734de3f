-- `codes::ones_of` meets its contract: what was counted are the ones before bit i. Assumes nothing.
use mathlib.Core.Path.{◌≡◌}
use Rattle.strings.specs.Bits.{range}
use Rattle.codes.specs.code.Place.{ones}
use Rattle.codes.proofs.sums.ones_of.Given as goal

abbrev pub invariant-loop-i : goal.invariant-loop-i
invariant-loop-i l = l.n ≡ ones (range l.s.bytes.now l.s.start l.i)
