-- `codes::Strided::skip` meets its contract. Assumes nothing.
use native.Mathlib.Omega.{arith}
use Prim.Native.Nat.{◌-◌}
use Rattle.codes.specs.laws.StrideLaws.{part_from}
use Rattle.codes.proofs.strides.Strided.skip.Goals as goal

pub invariant_of-result : goal.invariant_of-result
invariant_of-result c = let s = c.args.self in
    record { part = part_from s.bytes.now s.start s.step s.len c.args.n (s.len - c.args.n) s.part (omega arith) }
