-- `codes::Strided::copy` meets its contract: whole bytes, and the bits that are left behind them. Assumes nothing.
use mathlib.Core.Path.{ap, ◌∙◌}
use Prim.Native.Nat.{◌*◌, ◌/◌}
use native.Mathlib.Omega.{arith}
use lib.ListN.{length}
use Rattle.strings.proofs.laws.WriteLaws.{length-write_bits}
use Rattle.codes.specs.laws.StrideLaws.{strides_joined}
use Rattle.codes.proofs.strides.Strided.copy.Goals as goal

pub copy_singly-requires-clause-len_in_bounds : goal.copy_singly-requires-clause-len_in_bounds
copy_singly-requires-clause-len_in_bounds c = let n = ap length c.copy_bytes.ensures ∙ length-write_bits c.args.to.now 0 _ in omega arith

pub returns : goal.returns
returns c = let s = c.args.self in
    strides_joined s.bytes.now c.args.to.now _ _ s.start s.step s.len (8 * (s.len / 8)) (omega arith) c.copy_bytes.ensures c.copy_singly.ensures
