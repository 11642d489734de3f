-- `codes::ones_byte` meets its contract. Assumes nothing.
use Rattle.codes.specs.laws.SumLaws.{ones-counted}
use Rattle.codes.proofs.sums.ones_byte.Goals as goal

pub returns : goal.returns
returns c = ones-counted c.args.v c.ranges.v.fits
