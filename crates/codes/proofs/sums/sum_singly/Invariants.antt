-- `codes::sum_singly` meets its contract: the sum is that of the bits before bit i. Assumes nothing.
use Rattle.strings.specs.Bits.{range}
use Rattle.codes.specs.Syndrome.{weighted_sum}
use Rattle.codes.specs.code.Sums.{Residue}
use Rattle.codes.proofs.sums.sum_singly.Given as goal

abbrev pub invariant-loop-i : goal.invariant-loop-i
invariant-loop-i l = Residue l.m.m (weighted_sum 1 (range l.s.bytes.now l.s.start l.i)) l.all
