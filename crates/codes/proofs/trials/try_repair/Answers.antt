-- `codes::try_repair` meets its contract: a repair has n bits. Assumes nothing.
use Rattle.strings.specs.Ranges.{bits}
use Rattle.strings.proofs.laws.RangeLaws.{range_length}
use Rattle.codes.specs.laws.RepairLaws.{repair-length}
use Rattle.codes.specs.laws.EditLaws.{found-is}
use Rattle.codes.proofs.trials.try_repair.Goals as goal

pub try_candidate-requires : goal.try_candidate-requires
try_candidate-requires c = let args = c.args in
    let is = found-is c.find_repair.result (bits args.s) _ c.find_repair.ensures.len_value c.in-Some.edit c.in-Some.is in
    rw (repair-length args.n args.a args.s.len (bits args.s) _ (range_length _ _ _) c.requires.one_apart is) c.requires.part
