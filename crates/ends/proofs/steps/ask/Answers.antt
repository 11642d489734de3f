use mathlib.Core.Path.{◌≡◌, refl, ap}
use mathlib.Core.List.{List}
use Prim.Native.Nat.{ℕ}
use Rattle.strings.specs.Bits.{at_front}
use Rattle.ends.specs.States.{planned}
use Rattle.ends.specs.RebuilderCall.{written_question}
use Rattle.ends.specs.declared.Rebuilder.{Rebuilder}
use Rattle.ends.specs.declared.SheetChange.TheVariants.{NoRow}
use Rattle.ends.specs.declared.rebuilding.RebuilderOut.{RebuilderOut}
use Rattle.ends.specs.code.RebuilderParts.{next_answer, OutIs}
use Rattle.ends.specs.code.RebuilderCodeLaws.{short-out, asked-out}
use Rattle.ends.proofs.steps.ask.Goals as goal

-- what is given says its answer and its question
answer-of : (r : RebuilderOut) (s : Rebuilder) (q q' : List ℕ) → OutIs r s NoRow q q'
    → (r.answer ≡ next_answer (written_question (planned s))) × (q' ≡ at_front (written_question (planned s)) q)
answer-of r s q q' o = (ap (λ (x : RebuilderOut). x.answer) o.out, o.question)

pub returns-in_err-size-in-Some : goal.returns-in_err-size-in-Some
returns-in_err-size-in-Some c = λ st e pl. absurd (short-out st NoRow _ e c.requires pl c.in-Some.is _ _ c.write_question.ensures c.in_err-size-in-Some.was)

pub returns-in_ok-size-in-Some : goal.returns-in_ok-size-in-Some
returns-in_ok-size-in-Some c = λ st e pl. answer-of _ st _ _ (asked-out st NoRow _ e c.requires pl c.in-Some.is _ _ c.write_question.ensures c.in_ok-size-in-Some.was _ refl)
