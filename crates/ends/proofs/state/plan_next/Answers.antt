use Rattle.ends.specs.declared.Phase.TheVariants.{AtPieces}
use Rattle.ends.specs.code.StateCode.{plan-at}
use mathlib.Core.Path.{refl}
use borrow.Author.Tests.{eq-eqb, ne_eqb}
use Rattle.ends.specs.States.{planned}
use Rattle.ends.proofs.state.plan_next.Goals as goal

pub returns-then-st-eq0 : goal.returns-then-st-eq0
returns-then-st-eq0 c = plan-at c.args.st AtPieces c.in-AtPieces.is (simp (eq-eqb _ _ c.if-st-eq0.true))

pub returns-in-AtOpening : goal.returns-in-AtOpening
unfolding planned
returns-in-AtOpening c = rw c.in-AtOpening.is refl

pub returns-in-AtWhole : goal.returns-in-AtWhole
unfolding planned
returns-in-AtWhole c = rw c.in-AtWhole.is refl

pub returns-else-st-eq0 : goal.returns-else-st-eq0
returns-else-st-eq0 c = plan-at c.args.st AtPieces c.in-AtPieces.is (simp (ne_eqb _ _ c.if-st-eq0.false, c.ask_for.ensures, c.top.ensures))
