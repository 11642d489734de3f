-- `codes::try_copy` meets its contract: a range has as many bits as it says. Assumes nothing.
use Rattle.strings.proofs.laws.RangeLaws.{range_length}
use Rattle.codes.proofs.trials.try_copy.Goals as goal

pub try_candidate-requires : goal.try_candidate-requires
try_candidate-requires c = rw (range_length c.args.s.bytes.now c.args.s.start c.args.s.len) c.requires
