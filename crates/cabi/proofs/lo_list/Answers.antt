use mathlib.Core.Path.{ap, ◌∙◌}
use Rattle.codes.specs.Listing.{ListLeft}
use Rattle.cabi.specs.laws.PackingLaws.{number-packed}
use Rattle.cabi.proofs.lo_list.Goals as goal

pub returns : goal.returns
returns c = let list = c.list_syndrome in record { value = c.pack.ensures ∙ number-packed list.result (ap (λ (w : ListLeft). w.answer) list.ensures); out_after = ap (λ (w : ListLeft). w.buffer) list.ensures }
