-- `codes::Woven::hash_middle` meets its contract: from the hash under way, the bits left lead to where all the bits lead. Assumes nothing.
use mathlib.Core.Path.{◌≡◌}
use mathlib.Core.List.{List}
use mathlib.Core.Bool.{Bool}
use Prim.Native.Nat.{◌-◌, ◌%◌, ◌<◌, ℕ}
use lib.ListN.{length}
use lib.Bits.{bit_xor}
use Rattle.strings.specs.Ranges.{bits}
use Rattle.codes.specs.Hash.{hash_row}
use Rattle.codes.specs.code.HashForms.{whole_hash, Went}
use Rattle.codes.specs.code.Runs.{places, put_bits}
use Rattle.codes.specs.code.Weaving.{woven_from}
use Rattle.codes.proofs.weaving.Woven.hash_middle.Given as goal

abbrev pub invariant-loop-i : goal.invariant-loop-i
invariant-loop-i l = (l.j < l.self.run.b) × (l.j ≡ l.i % l.self.run.b)
    × (let woven : ℕ → ℕ → List Bool = woven_from (bits l.self.run.piece) l.self.run.n l.self.run.b (places l.self.repairs) (put_bits l.self.repairs) in
    Went l.all.sum l.all.row (woven l.i (l.fn.m.behind - l.i))
    (bit_xor l.fn.before.sum (whole_hash l.fn.before.row (woven l.fn.m.from (l.fn.m.behind - l.fn.m.from))))
    (hash_row l.fn.before.row (length (woven l.fn.m.from (l.fn.m.behind - l.fn.m.from)))))
