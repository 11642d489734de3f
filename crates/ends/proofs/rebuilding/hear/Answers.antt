use mathlib.Core.Path.{refl, sym, ◌∙◌}
use native.Mathlib.Omega.{arith}
use lib.ListN.{length}
use Rattle.messages.specs.Questions.{question_length, question_burst}
use Rattle.ends.specs.RebuilderOutcome.{capacities}
use Rattle.ends.specs.code.RebuilderParts.{Due}
use Rattle.ends.specs.laws.SoundParts.{sound-is}
use Rattle.ends.specs.code.RebuilderCallLaws.{burst-most, due, awaits-hears, hears-short, hears-long, taken-said, refused-said}
use borrow.Author.Rules.{rules}
use Rattle.ends.proofs.rebuilding.hear.Goals as goal

pub read_answer-requires : goal.read_answer-requires
read_answer-requires c = let s = c in
    burst-most s.args.st s.args.q s.requires.0 s.requires.1

pub is_enough_for_answer-requires : goal.is_enough_for_answer-requires
is_enough_for_answer-requires c = let s = c in
    let f = (sound-is s.args.st s.requires.0).0.limits.m-least in omega arith

pub returns-then-not-is_enough_for_answer : goal.returns-then-not-is_enough_for_answer
returns-then-not-is_enough_for_answer c = let a = c.args in
    let heard = awaits-hears a.st _ a.q _ _ _ c.read_answer.result refl refl refl c.read_answer.ensures.result_value a.y.now (capacities (length a.string.now) a.rows (length a.question.now)) _ c.in-Ok.is in
    let due-now : Due a.st a.msg.now (question_length a.q) (question_burst a.q) c.in-Ok.found =
    due a.st _ a.q _ _ _ c.read_answer.result refl refl refl c.read_answer.ensures.result_value c.requires.0 c.requires.1 (search rules) (λ i. (c.type_inv.msg i).fits) c.read_answer.ensures.bits_there _ c.in-Ok.is in
    refused-said a.st _ _ _ c.refuse-then-not-is_enough_for_answer.ensures (heard ∙ hears-short a.st _ _ _ _ due-now _ _ (sym c.is_enough_for_answer.ensures ∙ c.if-not-is_enough_for_answer.true))

pub returns : goal.returns
returns c = let a = c.args in
    let heard = awaits-hears a.st _ a.q _ _ _ c.read_answer.result refl refl refl c.read_answer.ensures.result_value a.y.now (capacities (length a.string.now) a.rows (length a.question.now)) _ c.in-Ok.is in
    let due-now : Due a.st a.msg.now (question_length a.q) (question_burst a.q) c.in-Ok.found =
    due a.st _ a.q _ _ _ c.read_answer.result refl refl refl c.read_answer.ensures.result_value c.requires.0 c.requires.1 (search rules) (λ i. (c.type_inv.msg i).fits) c.read_answer.ensures.bits_there _ c.in-Ok.is in
    taken-said a.st _ _ (heard ∙ hears-long a.st _ _ _ _ due-now _ _ (sym c.is_enough_for_answer.ensures ∙ c.if-not-is_enough_for_answer.false)) c.take.ensures
