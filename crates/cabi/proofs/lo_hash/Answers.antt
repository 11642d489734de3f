use mathlib.Core.Path.{◌∙◌}
use Rattle.cabi.specs.laws.PackingLaws.{number-packed}
use Rattle.cabi.proofs.lo_hash.Goals as goal

pub returns : goal.returns
returns c = c.pack.ensures ∙ number-packed c.hash.result c.hash.ensures
