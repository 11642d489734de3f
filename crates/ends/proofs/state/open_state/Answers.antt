use mathlib.Core.Path.{◌∙◌, ap}
use Rattle.ends.specs.States.{restaged}
use Rattle.ends.specs.RebuilderCall.{opening_step}
use Rattle.ends.specs.code.StateCode.{stages-push}
use borrow.Author.Rules.{rules}
use Rattle.ends.proofs.state.open_state.Goals as goal

pub restage-requires : goal.restage-requires
restage-requires c = stages-push _ _ _ c.requires.0 (search rules) c.push.ensures

pub returns : goal.returns
unfolding opening_step
returns c = c.restage.ensures ∙ ap restaged c.push.ensures
