-- `codes::Strided::copy_singly` meets its contract: what is left of the bits, written behind those that are copied, gives the whole. Assumes nothing.
use mathlib.Core.Path.{◌≡◌}
use Prim.Native.Nat.{◌+◌, ◌-◌, ◌*◌}
use lib.ListN.{length}
use Rattle.strings.specs.Bits.{write_bits}
use Rattle.codes.specs.code.Strides.{strided}
use Rattle.codes.proofs.strides.Strided.copy_singly.Given as goal

abbrev pub invariant-loop-i : goal.invariant-loop-i
invariant-loop-i l = (length l.to ≡ length l.initial.to)
    × (write_bits l.to l.i (strided l.self.bytes.now (l.self.start + l.i * l.self.step) l.self.step (l.self.len - l.i))
    ≡ write_bits l.initial.to l.from (strided l.self.bytes.now (l.self.start + l.from * l.self.step) l.self.step (l.self.len - l.from)))
