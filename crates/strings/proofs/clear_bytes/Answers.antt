use Rattle.strings.proofs.laws.WriteLaws.{cleared-filled}
use Rattle.strings.proofs.clear_bytes.Goals as goal

pub returns : goal.returns
returns c = cleared-filled c.args.s.now _ c.args.at c.args.count c.requires (c.fill.ensures.after (λ y p. p))
