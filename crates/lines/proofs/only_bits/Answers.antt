use Rattle.std.proofs.Common.{rules, tests, ◌∙◌}
use Rattle.std.proofs.lemmas.Iterator.{YieldsList-from_slice}
use Rattle.std.proofs.lemmas.Iterator.Search.{all_from_yields_List}
use Rattle.lines.specs.StringLine.{is_bit}
use Rattle.lines.specs.laws.StringLaws.{bits_all}
use Rattle.lines.proofs.only_bits.Goals as goal

pub returns : goal.returns
returns c = all_from_yields_List is_bit _ _ c.all.result c.all.ensures.ran (YieldsList-from_slice c.args.s.now c.iter.ensures.rest) (λ x b q k. search (rules, tests)) ∙ bits_all c.args.s.now
