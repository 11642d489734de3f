use Rattle.std.proofs.Common.{◌*◌, ◌≤◌}
use Rattle.samples.proofs.print_strings.Given as goal

abbrev pub invariant-loop-v : goal.invariant-loop-v
invariant-loop-v _ l = l.found ≤ 9 * l.v
