-- `codes::Woven::copy_middle` meets its contract: the bits left, written behind what is copied, give the whole. Assumes nothing.
use mathlib.Core.Path.{◌≡◌}
use mathlib.Core.List.{List}
use mathlib.Core.Bool.{Bool}
use Prim.Native.Nat.{◌-◌, ◌+◌, ◌%◌, ◌<◌, ℕ}
use lib.ListN.{length}
use Rattle.strings.specs.Bits.{write_bits}
use Rattle.strings.specs.Ranges.{bits}
use Rattle.codes.specs.code.Runs.{places, put_bits}
use Rattle.codes.specs.code.Weaving.{woven_from}
use Rattle.codes.proofs.weaving.Woven.copy_middle.Given as goal

abbrev pub invariant-loop-i : goal.invariant-loop-i
invariant-loop-i l = (l.j < l.self.run.b) × (l.j ≡ l.i % l.self.run.b) × (length l.to ≡ length l.initial.to)
    × (let woven : ℕ → ℕ → List Bool = woven_from (bits l.self.run.piece) l.self.run.n l.self.run.b (places l.self.repairs) (put_bits l.self.repairs) in
    write_bits l.to (l.at + (l.i - l.m.from)) (woven l.i (l.m.behind - l.i))
    ≡ write_bits l.initial.to l.at (woven l.m.from (l.m.behind - l.m.from)))
