-- `anchors::bits_of` meets its contract. The invariant: the first j bits are written. Assumes nothing.
use Rattle.std.proofs.Common.{◌≡◌, length}
use Rattle.ends.specs.code.Window.{BitsOf}
use Rattle.ends.proofs.anchors.bits_of.Given as goal

abbrev pub invariant-loop-j : goal.invariant-loop-j
invariant-loop-j l = record { room : length l.wanted ≡ 64; bits : BitsOf l.wanted l.anchor.bytes.now l.anchor.start l.j }
