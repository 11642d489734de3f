use Rattle.std.proofs.Common.{◌≤◌}
use Rattle.samples.proofs.Sample.print_repairs.Given as goal

abbrev pub invariant-loop-a : goal.invariant-loop-a
invariant-loop-a _ l = l.found ≤ l.a
