-- `codes::Strided::eight` meets its contract: the first i bits as a number. Assumes nothing.
use mathlib.Core.Path.{◌≡◌}
use Rattle.codes.specs.Listing.{number_of}
use Rattle.codes.specs.code.Strides.{strided}
use Rattle.codes.proofs.strides.Strided.eight.Given as goal

abbrev pub invariant-loop-i : goal.invariant-loop-i
invariant-loop-i l = l.v ≡ number_of (strided l.self.bytes.now l.self.start l.self.step l.i)
