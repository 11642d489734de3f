use Rattle.std.proofs.Common.{arith}
use Rattle.messages.specs.code.Reading.{tested-fails}
use Rattle.messages.proofs.answers.are_within_columns.Goals as goal

pub returns-then-column_length-v : goal.returns-then-column_length-v
returns-then-column_length-v c = let l = c.loop-j in tested-fails c.args.a.now _ c.args.len l.j (omega arith) c.column_length.ensures l.invariant c.if-column_length-v.true
