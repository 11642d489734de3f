-- `codes::BitRangeCandidate::copy` meets its contract: a range has as many bits as it says. Assumes nothing.
use Rattle.strings.proofs.laws.RangeLaws.{range_length}
use Rattle.codes.proofs.candidates.BitRangeCandidate.copy.Goals as goal

pub copy_bits-requires : goal.copy_bits-requires
copy_bits-requires c = let s = c.args.self.now in
    rw (range_length s.bytes.now s.start s.len) at c.requires
