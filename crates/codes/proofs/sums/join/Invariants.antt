-- `codes::join` meets its contract: what was joined are the sums before the next one. Assumes nothing.
use lib.ListN.{take}
use Rattle.codes.specs.code.Sums.{Residue, total}
use Rattle.codes.proofs.sums.join.Given as goal

abbrev pub invariant-loop-sum : goal.invariant-loop-sum
invariant-loop-sum l = Residue l.m.m (total (take l.sum-index l.sums)) l.all
