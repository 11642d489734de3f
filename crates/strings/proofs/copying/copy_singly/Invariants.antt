use mathlib.Core.Path.{◌≡◌}
use Prim.Native.Nat.{◌+◌, ◌≤◌}
use lib.ListN.{length}
use Rattle.strings.specs.Bits.{range, write_bits}
use Rattle.strings.proofs.laws.RangeLaws.{rest}
use Rattle.strings.proofs.copying.copy_singly.Given as goal

abbrev pub invariant-loop-i : goal.invariant-loop-i
invariant-loop-i l = (l.i ≤ l.from.len) × (length l.to ≡ length l.initial.to) × (write_bits l.to (l.at + l.i) (rest l.from.bytes.now l.from.start l.from.len l.i) ≡ write_bits l.initial.to l.at (range l.from.bytes.now l.from.start l.from.len))
