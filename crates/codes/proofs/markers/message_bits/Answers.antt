-- `codes::message_bits` meets its contract. Assumes nothing.
use native.Mathlib.Omega.{arith}
use Rattle.codes.specs.laws.MarkerBlockLaws.{message-bits-log}
use Rattle.codes.specs.laws.MarkerEntryLaws.{message-bits-most}
use Rattle.codes.proofs.markers.message_bits.Goals as goal

pub returns-then-n-eq0 : goal.returns-then-n-eq0
returns-then-n-eq0 c = let m = message-bits-most c.args.n in let e = c.if-n-eq0.true in omega arith

pub overflow_sub-result : goal.overflow_sub-result
overflow_sub-result c = let t = c.ilog2 in let m = message-bits-log c.args.n t.result t.ensures.power_le t.ensures.next_power_gt in omega (arith, m.0)

pub returns : goal.returns
returns c = let t = c.ilog2 in (message-bits-log c.args.n t.result t.ensures.power_le t.ensures.next_power_gt).1
