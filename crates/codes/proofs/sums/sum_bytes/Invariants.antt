-- `codes::sum_bytes` meets its contract: each of the eight sums is that of its own bits before bit k of byte i. Assumes nothing.
use Prim.Native.Nat.{◌+◌, ◌*◌}
use Rattle.codes.specs.code.Sums.{Lanes}
use Rattle.codes.proofs.sums.sum_bytes.Given as goal

abbrev pub invariant-loop-k : goal.invariant-loop-k
invariant-loop-k l = Lanes l.m.m l.s.bytes.now l.s.start (8 * l.i + l.k) l.sum-items

abbrev pub invariant-loop-i : goal.invariant-loop-i
invariant-loop-i l = Lanes l.m.m l.s.bytes.now l.s.start (8 * l.i) l.sums
