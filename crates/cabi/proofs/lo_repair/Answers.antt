use mathlib.Core.Path.{ap, sym, ◌∙◌}
use Rattle.codes.specs.Entries.{RepairLeft}
use Rattle.strings.specs.Results.{mapped}
use Rattle.cabi.specs.Packing.{packed, done_number}
use Rattle.cabi.specs.laws.PackingLaws.{said-buffer}
use Rattle.cabi.proofs.lo_repair.Goals as goal

pub returns : goal.returns
returns c = let repair = c.repair in record { value = c.pack.ensures ∙ ap (λ (w : RepairLeft). packed (mapped done_number w.answer)) repair.ensures; out_after = sym (said-buffer repair.result repair.new.out) ∙ ap (λ (w : RepairLeft). w.buffer) repair.ensures }
