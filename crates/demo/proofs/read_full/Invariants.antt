use Rattle.std.proofs.Common.{◌≤◌, length}
use Rattle.demo.proofs.read_full.Given as goal

abbrev pub invariant-loop : goal.invariant-loop
invariant-loop _ l = l.size ≤ length l.buffer
