use Rattle.messages.specs.Answers.{syndrome_answer}
use Rattle.ends.specs.code.RebuilderCodeLaws.{copy-short, text-part, apart, repaired-out, step-syndrome, try-yes, try-no}
use Rattle.ends.proofs.steps.take_syndrome.Goals as goal

pub try_repair-requires : goal.try_repair-requires
try_repair-requires c = record {
  part = text-part c.args.turn.st _ _ c.args.turn.acting c.args.turn.leftmost _ c.requires.string_room;
  one_apart = let x = apart c.args.turn.st _ _ c.args.turn.acting c.args.turn.leftmost c.requires.repair_due in rw (c.copy-copy.ensures.len, ← c.args.turn.leftmost) x;
}

pub repair_how-requires : goal.repair_how-requires
repair_how-requires c = copy-short c.args.turn.st _ _ c.args.turn.acting c.args.turn.leftmost

pub returns-then-try_repair : goal.returns-then-try_repair
returns-then-try_repair c = try-yes c.args.turn.st _ _ c.args.v _ _ (syndrome_answer c.args.a c.args.v) (step-syndrome c.args.turn.st _ _ c.args.turn.acting.phase c.args.a c.args.v c.requires.repair_due) _ _ _ (let x = c.try_repair.ensures in rw (c.args.turn.leftmost, c.copy-copy.ensures.bits, c.hash_key-k.ensures.0, c.hash_key-k.ensures.1) at x) c.if-try_repair.true (repaired-out c.args.turn.st c.args.turn.leftmost c.repair_how.ensures c.settle.ensures)

pub returns : goal.returns
returns c = try-no c.args.turn.st _ _ c.args.v _ _ (syndrome_answer c.args.a c.args.v) (step-syndrome c.args.turn.st _ _ c.args.turn.acting.phase c.args.a c.args.v c.requires.repair_due) _ _ _ (let x = c.try_repair.ensures in rw (c.args.turn.leftmost, c.copy-copy.ensures.bits, c.hash_key-k.ensures.0, c.hash_key-k.ensures.1) at x) c.if-try_repair.false c.leave_waiting.ensures
