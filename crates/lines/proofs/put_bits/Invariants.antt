use Prim.Native.Nat.{◌+◌}
use Rattle.strings.specs.Bits.{range}
use Rattle.lines.specs.Printing.{Puts, bit_bytes}
use Rattle.lines.proofs.put_bits.Given as goal

abbrev pub invariant-loop-i : goal.invariant-loop-i
invariant-loop-i l = Puts l.initial.out l.at (bit_bytes (range l.s 0 l.i)) l.out (l.at + l.i)
