use mathlib.Core.Path.{◌∙◌}
use Rattle.cabi.specs.laws.PackingLaws.{number-packed}
use Rattle.cabi.proofs.lo_syndrome.Goals as goal

pub returns : goal.returns
returns c = c.pack.ensures ∙ number-packed c.syndrome.result c.syndrome.ensures
