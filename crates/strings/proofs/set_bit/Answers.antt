use Rattle.strings.proofs.laws.BitLaws.{set-turned}
use Rattle.strings.proofs.set_bit.Goals as goal

pub returns : goal.returns
returns c = set-turned _ _ c.get_bit.result _ c.get_bit.ensures
