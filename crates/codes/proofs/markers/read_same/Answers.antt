-- `codes::read_same` meets its contract. Assumes nothing.
use Rattle.std.specs.Prelude.{Ok}
use mathlib.Core.Path.{refl, ap, sym, ◌∙◌}
use mathlib.Core.Bool.{Bool}
use mathlib.Core.List.{List}
use mathlib.Core.Option.{Option}
use borrow.Author.Tests.{ne_eqb}
use Rattle.strings.specs.Ranges.{bits}
use Rattle.strings.specs.Results.{value}
use Rattle.strings.proofs.laws.RangeLaws.{range_length}
use Rattle.codes.specs.Entries.{said_repair, repair_left}
use Rattle.codes.specs.laws.MarkerEntryLaws.{read-wrong, read_right}
use Rattle.codes.proofs.markers.read_same.Goals as goal

pub returns-then-syndrome_of-a : goal.returns-then-syndrome_of-a
returns-then-syndrome_of-a c = let s = c.args.s in
    let is = read_right s.len c.args.a (bits s) s.len (range_length _ _ _) c.syndrome_of.result refl c.syndrome_of.ensures c.if-syndrome_of-a.true in
    c.read_word.ensures ∙ sym (ap (λ (o : Option (List Bool)). repair_left c.args.out.now (value o)) is)

pub returns-else-syndrome_of-a : goal.returns-else-syndrome_of-a
returns-else-syndrome_of-a c = let s = c.args.s in
    let is = read-wrong s.len c.args.a (bits s) s.len (range_length _ _ _) c.syndrome_of.result refl c.syndrome_of.ensures c.if-syndrome_of-a.false in
    ap (λ (b : Bool). said_repair (Ok b) c.args.out.now) (ne_eqb _ _ c.if-syndrome_of-a.false) ∙ sym (ap (λ (o : Option (List Bool)). repair_left c.args.out.now (value o)) is)
