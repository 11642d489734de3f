use Rattle.std.proofs.Common.{rules, tests, ◌∙◌, ℕ, length}
use Rattle.std.proofs.lemmas.Iterator.{YieldsList-from_slice, YieldsList-from_map}
use Rattle.std.proofs.lemmas.Iterator.Consumers.{YieldsList-at, YieldsList-from_copied, sum_by_from_yields_List, fits_by_from_yields_list}
use Rattle.messages.specs.Numbers.{number}
use Rattle.messages.specs.code.Reading.{sizes-are, sizes-fit}
use Rattle.messages.proofs.writing.numbers_size.Goals as goal

abbrev size : ℕ → ℕ
size v = length (number v)

pub sum-requires-clause-fits : goal.sum-requires-clause-fits
sum-requires-clause-fits c = let l = c.args.numbers.now in
    fits_by_from_yields_list size l c.map.result _
    (YieldsList-from_map _ size (YieldsList-at c.map.ensures.source (YieldsList-from_copied (YieldsList-from_slice l cc))) c.map.ensures.closure (λ x r q k. search (rules, tests)))
    (sizes-fit l c.requires)

pub returns : goal.returns
returns c = let l = c.args.numbers.now in
    sum_by_from_yields_List size l c.map.result _ c.sum.ensures.ran
    (YieldsList-from_map _ size (YieldsList-at c.map.ensures.source (YieldsList-from_copied (YieldsList-from_slice l cc))) c.map.ensures.closure (λ x r q k. search (rules, tests)))
    ∙ sizes-are l
