-- `Powers::of_word` meets its contract. Assumes nothing.
use Rattle.codes.specs.laws.PowerLaws.{power-one}
use Rattle.codes.proofs.markers.Powers.of_word.Goals as goal

pub invariant_of-result : goal.invariant_of-result
invariant_of-result c = record { power = power-one; few = c.requires }
