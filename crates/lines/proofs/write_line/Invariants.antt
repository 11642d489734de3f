use Rattle.std.proofs.Common.{◌≡◌, length, drop}
use Rattle.strings.specs.Bits.{write_bits}
use Rattle.lines.specs.StringLine.{line_bits}
use Rattle.lines.proofs.write_line.Given as goal

abbrev pub invariant-loop-i : goal.invariant-loop-i
invariant-loop-i l = (length l.out ≡ length l.initial.out) × (write_bits l.out l.i (line_bits (drop l.i l.s)) ≡ write_bits l.initial.out 0 (line_bits l.s))
