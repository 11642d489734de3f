use mathlib.Core.Path.{◌≡◌}
use Prim.Native.Nat.{◌+◌, ◌<◌}
use lib.ListN.{length}
use lib.Seq.{sets}
use Rattle.messages.specs.Numbers.{number}
use Rattle.messages.proofs.numbers.put_number.Given as goal

abbrev pub invariant-loop-w : goal.invariant-loop-w
invariant-loop-w l = (length l.buf ≡ length l.initial.buf) × (l.i + length (number l.w) ≡ l.at + length (number l.v)) × (l.w < 4294967296) × (sets l.buf l.i (number l.w) ≡ sets l.initial.buf l.at (number l.v))

abbrev pub decreases-loop-w : goal.decreases-loop-w
decreases-loop-w l = l.w
