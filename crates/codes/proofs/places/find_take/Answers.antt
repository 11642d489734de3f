-- `codes::find_take` meets its contract. Assumes nothing.
use native.Mathlib.Nat.{le_refl}
use Rattle.strings.specs.Ranges.{bits}
use Rattle.strings.proofs.laws.RangeLaws.{range_length}
use Rattle.codes.specs.laws.EditLaws.{take-repair, take_none}
use Rattle.codes.proofs.places.find_take.Goals as goal

pub returns-in_err-i-clause-len_value : goal.returns-in_err-i-clause-len_value
returns-in_err-i-clause-len_value c = rw c.from_residual.ensures (take_none c.args.a (bits c.args.s) c.args.s.len (range_length _ _ _) _ c.in_err-i.ensures.first (le_refl c.args.s.len))

pub returns-clause-len_value : goal.returns-clause-len_value
returns-clause-len_value c = take-repair c.args.a (bits c.args.s) c.args.s.len (range_length _ _ _) _ c.in_ok-i.ensures.first c.in_ok-i.ensures.within
