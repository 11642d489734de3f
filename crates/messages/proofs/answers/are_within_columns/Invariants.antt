use Rattle.std.proofs.Common.{◌≡◌, length, drop}
use Rattle.messages.specs.Answers.{within_columns}
use Rattle.messages.proofs.answers.are_within_columns.Given as goal

abbrev pub invariant-loop-j : goal.invariant-loop-j
invariant-loop-j l = within_columns (length l.a) l.len l.j (drop l.j l.a) ≡ within_columns (length l.a) l.len 0 l.a
