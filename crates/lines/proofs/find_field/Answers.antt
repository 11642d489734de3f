use Rattle.std.proofs.Common.{rules, tests}
use Rattle.std.proofs.lemmas.Iterator.Consumers.{nth_from_yields_List}
use Rattle.std.proofs.lemmas.Iterator.Splits.{YieldsList-from_slice_split}
use Rattle.lines.specs.laws.FieldLaws.{field-part}
use Rattle.lines.proofs.find_field.Goals as goal

pub returns : goal.returns
returns c =
    field-part c.args.separator c.args.s.now c.args.index _
    (nth_from_yields_List _ _ c.args.index c.nth.ensures.ran (YieldsList-from_slice_split _ _ c.args.s.now c.split.ensures.rest c.split.ensures.done c.split.ensures.closure (λ x r q k. search (rules, tests))))
