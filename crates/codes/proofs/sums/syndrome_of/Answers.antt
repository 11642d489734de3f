-- `codes::syndrome_of` meets its contract. Assumes nothing.
use Rattle.strings.specs.Ranges.{bits}
use Rattle.strings.proofs.laws.RangeLaws.{range_length}
use Rattle.codes.specs.laws.SumLaws.{syndrome-residue}
use Rattle.codes.proofs.sums.syndrome_of.Goals as goal

pub returns : goal.returns
returns c = syndrome-residue (bits c.args.s) c.args.s.len _ _ (range_length _ _ _) c.new.ensures c.sum_modulo.ensures
