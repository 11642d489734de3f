use mathlib.Core.Path.{ap, ◌∙◌}
use mathlib.Core.List.{◌++◌}
use lib.ListN.{drop}
use Rattle.layout.specs.Layout.{holder_size, holder_bytes}
use Rattle.cabi.specs.laws.HolderBytesLaws.{fresh-whole}
use Rattle.cabi.proofs.laws.FreshHolder.{fresh-short}
use Rattle.cabi.proofs.lo_holder_fresh.Goals as goal

pub returns-then-state-lt-HOLDER_BYTES : goal.returns-then-state-lt-HOLDER_BYTES
returns-then-state-lt-HOLDER_BYTES c = fresh-short _ c.pack_refusal.ensures c.if-state-lt-HOLDER_BYTES.true

pub returns : goal.returns
returns c = fresh-whole _ _ c.if-state-lt-HOLDER_BYTES.false (c.write_holder.ensures ∙ ap (λ st. holder_bytes st ++ drop holder_size c.args.state.now) c.fresh_holder.ensures)
