use Rattle.std.proofs.Common.{◌*◌, ◌≤◌}
use Rattle.samples.proofs.print_codes.Given as goal

abbrev pub invariant-loop-bits : goal.invariant-loop-bits
invariant-loop-bits _ l = l.found ≤ 2304 * l.bits
