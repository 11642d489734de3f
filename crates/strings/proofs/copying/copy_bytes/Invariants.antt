use mathlib.Core.Path.{◌≡◌}
use Prim.Native.Nat.{◌+◌, ◌-◌, ◌*◌, ◌/◌, ◌≤◌}
use lib.ListN.{length}
use Rattle.strings.specs.Bits.{range, write_bits}
use Rattle.strings.specs.Bits.{Bytes}
use Rattle.strings.proofs.copying.copy_bytes.Given as goal

abbrev pub invariant-loop-i : goal.invariant-loop-i
invariant-loop-i l = (l.i ≤ (l.from.len / 8)) × (length l.to ≡ length l.initial.to) × Bytes l.to × (write_bits l.to (8 * (l.at + l.i)) (range l.from.bytes.now (l.from.start + 8 * l.i) (8 * ((l.from.len / 8) - l.i))) ≡ write_bits l.initial.to (8 * l.at) (range l.from.bytes.now l.from.start (8 * (l.from.len / 8))))
