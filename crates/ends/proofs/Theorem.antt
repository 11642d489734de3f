-- 01, demand 3, as a theorem, and that runs end. Statement has the claims; what leads to them is in laws/.
use Rattle.ends.specs.Statement.{DemandThree, RunsEnd}
use Rattle.ends.proofs.laws.Claimed.{all-lists}
use Rattle.ends.proofs.laws.RunEnds.{all_end}

pub demand3 : DemandThree
demand3 = all-lists

-- a consequence: the holder's answers are taken, and no more than demand 3 allows are asked for
pub runs-end : RunsEnd
runs-end = all_end
