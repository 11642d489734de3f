use mathlib.Core.Path.{sym, ◌∙◌}
use lib.ListN.{length}
use Rattle.ends.proofs.code.HolderCodeLaws.{kind-no-fields, refused-holder, kind-out-of-turn, kind-fields, able-ready, said-by}
use Rattle.ends.proofs.answering.answer_kind.Goals as goal

pub returns-then-not-is_in_turn : goal.returns-then-not-is_in_turn
returns-then-not-is_in_turn c = let a = c.args in
    refused-holder a.reply.now c.refuse.ensures
    (kind-out-of-turn a.st a.x.now a.n a.msg.now (length a.reply.now) a.kind a.at (sym c.is_in_turn.ensures ∙ c.if-not-is_in_turn.true))

pub answer_question-requires : goal.answer_question-requires
answer_question-requires c = let a = c.args in able-ready _ _ _ a.msg.now a.kind a.at c.requires c.read_fields.ensures c.in-Ok.is

pub returns-in-Err : goal.returns-in-Err
returns-in-Err c = let a = c.args in
    refused-holder a.reply.now c.refuse-in-Err.ensures
    (kind-no-fields a.st a.x.now a.n a.msg.now (length a.reply.now) a.kind a.at (sym c.is_in_turn.ensures ∙ c.if-not-is_in_turn.false) c.read_fields.ensures c.in-Err.is)

pub returns-in-Ok : goal.returns-in-Ok
returns-in-Ok c = let a = c.args in
    said-by a.st a.reply.now c.answer_question.ensures
    (kind-fields a.st a.x.now a.n a.msg.now (length a.reply.now) a.kind a.at (sym c.is_in_turn.ensures ∙ c.if-not-is_in_turn.false) c.read_fields.ensures c.in-Ok.is)
