use Rattle.ends.specs.declared.How.TheVariants.{ByHash}
use Rattle.messages.specs.Answers.{hash_answer}
use Rattle.ends.specs.code.RebuilderCodeLaws.{text-part, step-hash, try-yes, try-no}
use Rattle.ends.proofs.steps.take_hash.Goals as goal

pub try_copy-requires : goal.try_copy-requires
try_copy-requires c = let x = text-part c.args.turn.st _ _ c.args.turn.acting c.args.turn.leftmost _ c.requires.string_room in rw (c.copy.ensures.len, c.requires.stage_value.1, ← c.args.turn.leftmost) x

pub returns-then-try_copy : goal.returns-then-try_copy
returns-then-try_copy c = try-yes c.args.turn.st _ _ c.args.v ByHash _ (hash_answer c.args.v) (step-hash c.args.turn.st _ _ c.args.turn.acting.phase c.args.v c.requires.stage_value.0) _ _ _ (let x = c.try_copy.ensures in rw (c.args.turn.leftmost, c.copy.ensures.bits, c.hash_key-k.ensures.0, c.hash_key-k.ensures.1) at x) c.if-try_copy.true c.settle.ensures

pub returns : goal.returns
returns c = try-no c.args.turn.st _ _ c.args.v ByHash _ (hash_answer c.args.v) (step-hash c.args.turn.st _ _ c.args.turn.acting.phase c.args.v c.requires.stage_value.0) _ _ _ (let x = c.try_copy.ensures in rw (c.args.turn.leftmost, c.copy.ensures.bits, c.hash_key-k.ensures.0, c.hash_key-k.ensures.1) at x) c.if-try_copy.false c.leave_waiting.ensures
