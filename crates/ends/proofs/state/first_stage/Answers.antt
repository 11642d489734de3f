use mathlib.Core.Path.{sym, ◌∙◌}
use Rattle.ends.specs.code.StateCode.{stage-same, stage-less, stage-more, stage-columns, stage-far}
use Rattle.ends.proofs.state.first_stage.Goals as goal

pub returns-then-b-a : goal.returns-then-b-a
returns-then-b-a c = stage-same _ _ _ _ _ c.wide-a.ensures.0 c.wide-b.ensures.0 c.if-b-a.true

pub returns-then-b-a-2 : goal.returns-then-b-a-2
returns-then-b-a-2 c = stage-less _ _ _ _ _ c.wide-a.ensures.0 c.wide-b.ensures.0 c.if-b-a-2.true

pub returns-then-b-a-3 : goal.returns-then-b-a-3
returns-then-b-a-3 c = stage-more _ _ _ _ _ c.wide-a.ensures.0 c.wide-b.ensures.0 c.if-b-a-3.true

pub returns-then-is_burst : goal.returns-then-is_burst
returns-then-is_burst c = stage-columns _ _ _ _ _ c.wide-a.ensures.0 c.wide-b.ensures.0 c.if-b-a.false c.if-b-a-2.false c.if-b-a-3.false (sym c.is_burst.ensures ∙ c.if-is_burst.true)

pub returns : goal.returns
returns c = stage-far _ _ _ _ _ c.wide-a.ensures.0 c.wide-b.ensures.0 c.if-b-a.false c.if-b-a-2.false c.if-b-a-3.false (sym c.is_burst.ensures ∙ c.if-is_burst.false) c.later_stage.ensures
