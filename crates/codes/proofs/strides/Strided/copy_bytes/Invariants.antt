-- `codes::Strided::copy_bytes` meets its contract: what is left, written behind the bytes that are stored, gives the whole. Assumes nothing.
use mathlib.Core.Path.{◌≡◌}
use Prim.Native.Nat.{◌+◌, ◌-◌, ◌*◌, ◌/◌}
use lib.ListN.{length}
use Rattle.strings.specs.Bits.{Bytes, write_bits}
use Rattle.codes.specs.code.Strides.{strided}
use Rattle.codes.proofs.strides.Strided.copy_bytes.Given as goal

abbrev pub invariant-loop-i : goal.invariant-loop-i
invariant-loop-i l = (length l.to ≡ length l.initial.to) × Bytes l.to
    × (write_bits l.to (8 * l.i) (strided l.self.bytes.now (l.self.start + 8 * l.i * l.self.step) l.self.step (8 * (l.self.len / 8 - l.i)))
    ≡ write_bits l.initial.to 0 (strided l.self.bytes.now l.self.start l.self.step (8 * (l.self.len / 8))))
