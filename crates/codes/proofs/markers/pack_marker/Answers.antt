-- `codes::pack_marker` meets its contract. Assumes nothing.
use mathlib.Core.Path.{ap, ◌∙◌}
use mathlib.Core.List.{List}
use Prim.Native.Nat.{ℕ}
use native.Mathlib.Omega.{arith}
use Rattle.strings.specs.Bits.{write_bits}
use Rattle.strings.specs.Ranges.{bits}
use Rattle.strings.proofs.laws.RangeLaws.{range_length}
use Rattle.strings.proofs.laws.PackLaws.{packed-into}
use Rattle.codes.specs.Markers.{merged}
use Rattle.codes.specs.laws.MarkerLaws.{length_merged}
use Rattle.codes.specs.laws.MarkerEntryLaws.{range-syndrome-most, marker-packed}
use Rattle.codes.proofs.markers.pack_marker.Goals as goal

pub subtract-v-requires-clause-x_lt_m : goal.subtract-v-requires-clause-x_lt_m
subtract-v-requires-clause-x_lt_m c = let most = range-syndrome-most _ 0 c.args.w.n c.syndrome_of-sum.result c.syndrome_of-sum.ensures in
    let m = c.new.ensures in
    omega arith

pub returns : goal.returns
returns c = let written = c.write_number.ensures in
    let number = c.subtract-v in
    let sum = c.syndrome_of-sum in
    let spread = c.spread_message.ensures in
    let zeros = rw c.bytes_for.ensures at c.clear_bytes.ensures in
    let args = c.args in
    let out = args.out.now in
    let m = bits args.m in
    let word = merged args.w.n 1 0 m in
    let packed = spread ∙ ap (λ (x : List ℕ). write_bits x 0 word) zeros ∙ packed-into out word args.w.n (length_merged args.w.n 1 0 m) c.requires.n_in_bounds in
    marker-packed args.w.n args.a m (range_length _ _ _ ∙ c.requires.m_len) out _ packed sum.result number.result _ sum.ensures c.new.ensures number.ensures written
