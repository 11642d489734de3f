use Rattle.ends.specs.code.RebuilderCodeLaws.{retries, retried-counts, retried-sound}
use Rattle.ends.proofs.steps.leave_waiting.Goals as goal

pub retry-one-requires : goal.retry-one-requires
retry-one-requires c = retries c.args.turn.st _ _ c.args.turn.acting

pub tally-s-requires : goal.tally-s-requires
tally-s-requires c = rw c.retry-one.ensures (retried-counts c.args.turn.st _ _ c.args.turn.acting)

pub finish-requires : goal.finish-requires
finish-requires c = (rw (c.tally-s.ensures, c.retry-one.ensures) (retried-sound c.args.turn.st _ _ c.args.turn.acting c.requires.retriable), c.requires.question_room)
