use mathlib.Core.Path.{ap, ◌∙◌}
use Rattle.strings.specs.Results.{mapped}
use Rattle.cabi.specs.Packing.{packed, place_number}
use Rattle.cabi.specs.laws.PackingLaws.{place-fits, place-in-fits, place-packed}
use Rattle.cabi.proofs.lo_anchor.Goals as goal

pub pack-requires : goal.pack-requires
pack-requires c = place-in-fits c.find_anchor.result (rw c.find_anchor.ensures (place-fits _ _ _ _ _ _ _ _ _))

pub returns : goal.returns
returns c = c.pack.ensures ∙ place-packed c.find_anchor.result ∙ ap (λ x. packed (mapped place_number x)) c.find_anchor.ensures
