use Rattle.std.proofs.Common.{take}
use Rattle.lines.specs.Printing.{Puts, hex_of}
use Rattle.lines.proofs.put_hex.Given as goal

abbrev pub invariant-loop-x : goal.invariant-loop-x
invariant-loop-x l = Puts l.initial.out l.at (hex_of (take l.x-index l.s)) l.out l.j
