use Rattle.std.proofs.Common.{◌∙◌}
use Rattle.layout.proofs.Stores.{number-stored}
use Rattle.layout.proofs.numbers.write_u32.Goals as goal

pub returns : goal.returns
returns c = number-stored _ _ c.args.at c.args.v c.requires (c.copy_from_slice.ensures.after ∙ c.to_le_bytes.ensures)
