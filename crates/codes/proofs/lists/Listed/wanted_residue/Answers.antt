-- `Listed::wanted_residue` meets its contract. Assumes nothing.
use Rattle.codes.specs.laws.LinkingLaws.{wanted-is}
use Rattle.codes.proofs.lists.Listed.wanted_residue.Goals as goal

pub returns : goal.returns
returns c = let s = c.args.self in wanted-is s.n s.a c.args.h c.new-m.ensures c.residue_of-high.ensures.0 c.subtract.ensures
