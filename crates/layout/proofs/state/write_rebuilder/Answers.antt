use Rattle.layout.specs.laws.LayoutLaws.{rebuilder-stored}
use Rattle.layout.proofs.state.write_rebuilder.Goals as goal

pub returns : goal.returns
returns c = rebuilder-stored _ _ _ c.args.st c.requires c.write_fields.ensures c.write_pieces.ensures
