-- 02, CR 11, as theorems: Counting has the claims; what leads to them is in laws/.
use Rattle.codes.specs.Counting.{FromExactlyOne, RunsOfSyndrome, PutInsAreAll}
use Rattle.codes.specs.laws.CountingLaws.{exactly-one, runs-summed, all-put-ins}

pub from-exactly-one : FromExactlyOne
from-exactly-one = exactly-one

pub runs-of-syndrome : RunsOfSyndrome
runs-of-syndrome = runs-summed

pub put-ins-are-all : PutInsAreAll
put-ins-are-all = all-put-ins
