-- `codes::Hashing::over` meets its contract. Assumes nothing.
use Rattle.strings.proofs.laws.ByteLaws.{eight-rest}
use Rattle.codes.specs.laws.HashLaws.{went_on, went-as}
use Rattle.codes.proofs.rows.Hashing.over.Goals as goal

pub returns : goal.returns
returns c = let args = c.args in
    went-as args.self.sum args.self.row _ _ _ _ (eight-rest args.s.bytes.now args.s.start args.s.len) (went_on args.self.sum args.self.row _ _ _ _ _ _ c.over_bytes.ensures (went-as _ _ _ _ _ _ c.skip.ensures.left c.over_bits.ensures))
