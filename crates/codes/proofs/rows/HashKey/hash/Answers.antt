-- `codes::HashKey::hash` meets its contract. Assumes nothing.
use mathlib.Core.Path.{refl, ◌∙◌}
use Rattle.codes.specs.laws.HashLaws.{went-start, went-cut}
use Rattle.codes.proofs.rows.HashKey.hash.Goals as goal

pub returns : goal.returns
returns c = c.cut.ensures ∙ went-cut c.args.self.h c.args.self.key _ _ _ (went-start _ _ _ _ _ _ c.start.ensures refl c.over.ensures)
