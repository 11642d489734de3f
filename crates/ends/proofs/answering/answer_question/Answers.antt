use Rattle.std.proofs.Math.Path.{refl}
use Rattle.ends.proofs.code.HolderCodeLaws.{sound-width, written-said}
use Rattle.ends.proofs.answering.answer_question.Goals as goal

pub invariant_of-key : goal.invariant_of-key
invariant_of-key c = record { width = sound-width c.args.st c.requires.able.sound }

pub returns : goal.returns
returns c = written-said _ _ _ _ _ _ _ c.write_reply-w.result c.reply_written.ensures c.write_reply-w.ensures c.state_after.ensures refl
