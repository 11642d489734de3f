-- `next` of `Powers` meets its contract. Assumes nothing.
use Rattle.codes.specs.laws.PowerLaws.{power-double, power_pos}
use borrow.Author.Rules.{rules}
use Rattle.codes.proofs.markers.PowersIterator.next.Goals as goal

pub invariant_of-self : goal.invariant_of-self
invariant_of-self c = let s = c.args.self.now in record { power = power-double s.p s.power; few = s.few }

pub returns-clause-goes : goal.returns-clause-goes
returns-clause-goes c = let h = power_pos c.args.self.now.p c.args.self.now.power in search rules
