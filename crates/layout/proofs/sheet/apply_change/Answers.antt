use Rattle.layout.specs.laws.SheetLaws.{one-row-left}
use Rattle.layout.proofs.sheet.apply_change.Goals as goal

pub returns-in-OneRow : goal.returns-in-OneRow
returns-in-OneRow c = one-row-left _ _ _ _ _ _ c.in-OneRow.is c.write_row-in-OneRow.ensures c.clear_rows.ensures
