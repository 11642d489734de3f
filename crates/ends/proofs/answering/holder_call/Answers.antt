use Rattle.std.proofs.Common.{sym, ◌∙◌, arith}
use Rattle.ends.proofs.code.HolderCodeLaws.{call-no-kind, refused-holder, tests-able, able-few, call-bad-string, call-out-of-turn, call-kind, said-by}
use Rattle.ends.proofs.answering.holder_call.Goals as goal

pub returns-then-not-is_same_string : goal.returns-then-not-is_same_string
returns-then-not-is_same_string c = refused-holder c.args.reply.now c.refuse.ensures (call-bad-string _ _ _ _ _ (sym c.is_same_string.ensures ∙ c.if-not-is_same_string.true))

pub returns-then-not-has_answer_left : goal.returns-then-not-has_answer_left
returns-then-not-has_answer_left c =
    refused-holder c.args.reply.now c.refuse-then-not-has_answer_left.ensures
    (call-out-of-turn _ _ _ _ _ (sym c.is_same_string.ensures ∙ c.if-not-is_same_string.false) (sym c.has_answer_left.ensures ∙ c.if-not-has_answer_left.true))

pub overflow_cast-bits : goal.overflow_cast-bits
overflow_cast-bits c =
    let f = able-few _ _ _ (tests-able _ _ _ (sym c.is_same_string.ensures ∙ c.if-not-is_same_string.false) (sym c.has_answer_left.ensures ∙ c.if-not-has_answer_left.false)) in
    omega arith

pub answer_kind-requires : goal.answer_kind-requires
answer_kind-requires c = tests-able _ _ _ (sym c.is_same_string.ensures ∙ c.if-not-is_same_string.false) (sym c.has_answer_left.ensures ∙ c.if-not-has_answer_left.false)

pub returns-in-Err : goal.returns-in-Err
returns-in-Err c =
    refused-holder c.args.reply.now c.refuse-in-Err.ensures
    (call-no-kind _ _ _ _ _ (sym c.is_same_string.ensures ∙ c.if-not-is_same_string.false) (sym c.has_answer_left.ensures ∙ c.if-not-has_answer_left.false) c.read_kind.ensures c.in-Err.is)

pub returns-in-Ok : goal.returns-in-Ok
returns-in-Ok c =
    said-by c.args.st c.args.reply.now c.answer_kind.ensures
    (call-kind _ _ _ _ _ (sym c.is_same_string.ensures ∙ c.if-not-is_same_string.false) (sym c.has_answer_left.ensures ∙ c.if-not-has_answer_left.false) c.read_kind.ensures c.in-Ok.is)
