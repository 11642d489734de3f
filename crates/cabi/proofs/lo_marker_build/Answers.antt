use mathlib.Core.Path.{ap, sym, ◌∙◌}
use Rattle.codes.specs.Entries.{RepairLeft}
use Rattle.strings.specs.Results.{mapped}
use Rattle.cabi.specs.Packing.{packed, done_number}
use Rattle.cabi.specs.laws.PackingLaws.{build-packed, built-buffer}
use Rattle.cabi.proofs.lo_marker_build.Goals as goal

pub returns : goal.returns
returns c = let built = c.build_marker in record { value = c.pack.ensures ∙ build-packed built.result built.new.out ∙ ap (λ (w : RepairLeft). packed (mapped done_number w.answer)) built.ensures; out_after = sym (built-buffer built.result built.new.out) ∙ ap (λ (w : RepairLeft). w.buffer) built.ensures }
