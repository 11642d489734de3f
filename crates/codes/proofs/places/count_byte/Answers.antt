-- `codes::count_byte` meets its contract. Assumes nothing.
use Rattle.std.proofs.Common.{refl, ap}
use Rattle.std.specs.Prelude.{not, nat_eq}
use Rattle.strings.specs.Bits.{byte_bits}
use Rattle.codes.specs.laws.PlaceLaws.{count-rest}
use Rattle.codes.proofs.places.count_byte.Goals as goal

pub returns-else-this-ne0 : goal.returns-else-this-ne0
returns-else-this-ne0 g c = count-rest _ (byte_bits c.args.v) 8 _ refl c.ones_byte-ones.ensures (ap (λ x. not (nat_eq x 0)) c.if-this-ne0.false)
