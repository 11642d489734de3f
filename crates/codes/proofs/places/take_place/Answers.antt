-- `codes::take_place` meets its contract. Assumes nothing.
use Rattle.std.proofs.Common.{refl, sym, le_refl, ◌∙◌}
use Rattle.std.specs.Prelude.{Some, None}
use Rattle.strings.specs.Ranges.{bits}
use Rattle.strings.proofs.laws.RangeLaws.{range_length}
use Rattle.codes.specs.Syndrome.{weighted_sum}
use Rattle.codes.specs.laws.PlaceLaws.{zero-fall-is, take-place-above, take-place-zero, take-place-one, other-within, zero-other-first, one-other-first}
use Rattle.codes.proofs.places.take_place.Goals as goal

pub returns-then-s-a-clause-first : goal.returns-then-s-a-clause-first
returns-then-s-a-clause-first c = take-place-above c.args.a (bits c.args.s) c.args.s.len (range_length _ _ _) c.if-s-a.true

pub returns-in-Some-clause-first : goal.returns-in-Some-clause-first
returns-in-Some-clause-first c = let s = c.args.s in
    let fall = zero-fall-is s.len _ (weighted_sum 1 (bits s)) c.args.a _ _ c.new-m.ensures c.sum_modulo-sum.ensures c.subtract-for_zero.ensures in
    let is = sym c.in-Some.is ∙ c.other_after.ensures in
    let first = zero-other-first (bits s) s.len (range_length _ _ _) _ _ c.ones_of-w.ensures _ (Some c.in-Some.zero) c.checked_sub.ensures is in
    take-place-zero (bits s) s.len c.args.a _ _ _ (range_length _ _ _) c.if-s-a.false refl fall c.one_fall-for_one.ensures _ first (other-within _ _ (Some c.in-Some.zero) (bits s) s.len (range_length _ _ _) is)

pub returns-in-Some-clause-within : goal.returns-in-Some-clause-within
returns-in-Some-clause-within c = let s = c.args.s in
    other-within _ _ (Some c.in-Some.zero) (bits s) s.len (range_length _ _ _) (sym c.in-Some.is ∙ c.other_after.ensures)

pub returns-clause-first : goal.returns-clause-first
returns-clause-first c = let s = c.args.s in
    let fall = zero-fall-is s.len _ (weighted_sum 1 (bits s)) c.args.a _ _ c.new-m.ensures c.sum_modulo-sum.ensures c.subtract-for_zero.ensures in
    let zero = zero-other-first (bits s) s.len (range_length _ _ _) _ _ c.ones_of-w.ensures _ None c.checked_sub.ensures (sym c.in_default.is ∙ c.other_after.ensures) in
    let one = one-other-first (bits s) s.len (range_length _ _ _) _ _ c.ones_of-w.ensures _ _ c.checked_sub-2.ensures c.other_after-2.ensures in
    take-place-one (bits s) s.len c.args.a _ _ _ (range_length _ _ _) c.if-s-a.false refl fall c.one_fall-for_one.ensures s.len zero _ (le_refl s.len) one

pub returns-clause-within : goal.returns-clause-within
returns-clause-within c = let s = c.args.s in
    other-within _ _ _ (bits s) s.len (range_length _ _ _) c.other_after-2.ensures
