use Rattle.std.proofs.Common.{◌≡◌, ◌-◌, replicate, rules}
use Rattle.ends.specs.RebuilderCall.{no_row}
use Rattle.ends.proofs.code.SheetCallLaws.{rows-cleared}
use Rattle.ends.proofs.sheet.clear_rows.Goals as goal

pub returns-then-from-to : goal.returns-then-from-to
returns-then-from-to c =
    let e : c.fill.new.self ≡ replicate (c.args.to - c.args.from) no_row = search rules in
    rows-cleared _ _ c.args.from c.args.to c.if-from-to.true c.requires e
