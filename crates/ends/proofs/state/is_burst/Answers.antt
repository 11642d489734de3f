use Prim.Native.Nat.{ℕ}
use Rattle.codes.specs.Columns.{column_limits}
use Rattle.ends.specs.Segments.{is_burst}
use mathlib.Core.Path.{◌∙◌, ap}
use Rattle.ends.proofs.state.is_burst.Goals as goal

pub returns : goal.returns
unfolding is_burst
returns c = c.is_column_count.ensures ∙ ap (λ (v : ℕ). column_limits v) c.length_distance.ensures
