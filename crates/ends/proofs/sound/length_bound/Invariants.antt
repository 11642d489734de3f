use mathlib.Core.Path.{◌≡◌}
use Prim.Native.Nat.{◌≤◌}
use Rattle.ends.specs.Soundness.{bound}
use Rattle.ends.proofs.sound.length_bound.Given as goal

abbrev pub invariant-loop : goal.invariant-loop
invariant-loop l = (l.counter ≤ l.d) × (l.b ≤ 65536) × (l.b ≡ bound l.counter)
