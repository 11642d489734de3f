use Rattle.std.proofs.Common.{◌≡◌, ◌*◌, ◌-◌, replicate, rules}
use Rattle.layout.specs.laws.SheetLaws.{clear_none}
use Rattle.layout.proofs.Stores.{rows-cleared}
use Rattle.layout.proofs.sheet.clear_rows.Goals as goal

pub returns-then-from-to : goal.returns-then-from-to
returns-then-from-to c =
    let a = c.args in
    let e : c.fill.new.self ≡ replicate (12 * a.to - 12 * a.from) 0 = search rules in
    rows-cleared _ _ a.from a.to c.if-from-to.true c.requires e

pub returns-else-from-to : goal.returns-else-from-to
returns-else-from-to c = clear_none _ c.args.from c.args.to c.if-from-to.false
