use mathlib.Core.Path.{ap, sym, ◌∙◌}
use Rattle.codes.specs.Entries.{RepairLeft}
use Rattle.strings.specs.Results.{mapped}
use Rattle.cabi.specs.Packing.{packed, done_number}
use Rattle.cabi.specs.laws.PackingLaws.{said-buffer}
use Rattle.cabi.proofs.lo_marker_read.Goals as goal

pub returns : goal.returns
returns c = let read = c.read_marker in record { value = c.pack.ensures ∙ ap (λ (w : RepairLeft). packed (mapped done_number w.answer)) read.ensures; out_after = sym (said-buffer read.result read.new.out) ∙ ap (λ (w : RepairLeft). w.buffer) read.ensures }
