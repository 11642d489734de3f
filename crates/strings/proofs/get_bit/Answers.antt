use Rattle.strings.specs.Bits.{bit_at}
use borrow.Author.Rules.{rules}
use Rattle.strings.proofs.get_bit.Goals as goal

pub returns : goal.returns
unfolding bit_at
returns c = search rules
