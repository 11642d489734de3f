-- Demand 3 on bytes, as a theorem: what the lab links keeps it.
use Rattle.cabi.specs.ByteWorlds.{DemandThreeOnBytes}
use Rattle.cabi.specs.laws.OnBytes.{all-on-bytes}

pub demand3-on-bytes : DemandThreeOnBytes
demand3-on-bytes = all-on-bytes
