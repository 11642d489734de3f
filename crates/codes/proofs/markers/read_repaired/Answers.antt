-- `codes::read_repaired` meets its contract. Assumes nothing.
use mathlib.Core.Path.{ap, sym, ◌∙◌}
use mathlib.Core.Bool.{Bool}
use mathlib.Core.List.{List}
use mathlib.Core.Option.{Option, none, some}
use Rattle.strings.specs.Ranges.{bits}
use Rattle.strings.specs.Results.{value}
use Rattle.strings.proofs.laws.RangeLaws.{range_length}
use Rattle.codes.specs.Entries.{repair_left}
use Rattle.codes.specs.code.Edits.{edited}
use Rattle.codes.specs.laws.EditLaws.{found-is, nothing_is}
use Rattle.codes.specs.laws.RepairLaws.{repair-length}
use Rattle.codes.specs.laws.MarkerEntryLaws.{read-other}
use Rattle.codes.proofs.markers.read_repaired.Goals as goal

pub read_edited-requires-clause-bits_len : goal.read_edited-requires-clause-bits_len
read_edited-requires-clause-bits_len c = let found = c.find_repair in
    let args = c.args in
    let l = bits args.s in
    let is = found-is found.result l _ found.ensures.len_value c.in-Some.edit c.in-Some.is in
    repair-length args.w.n args.a args.s.len l (edited c.in-Some.edit l) (range_length _ _ _) c.requires.one_apart is

pub returns-in-None : goal.returns-in-None
returns-in-None c = let found = c.find_repair in
    let args = c.args in
    let l = bits args.s in
    let is = nothing_is found.result l _ found.ensures.len_value c.in-None.is in
    let reads = read-other args.w.n args.a l args.s.len (range_length _ _ _) c.requires.one_apart none is in
    sym (ap (λ (o : Option (List Bool)). repair_left args.out.now (value o)) reads)

pub returns-in-Some : goal.returns-in-Some
returns-in-Some c = let found = c.find_repair in
    let args = c.args in
    let l = bits args.s in
    let is = found-is found.result l _ found.ensures.len_value c.in-Some.edit c.in-Some.is in
    let reads = read-other args.w.n args.a l args.s.len (range_length _ _ _) c.requires.one_apart (some (edited c.in-Some.edit l)) is in
    c.read_edited.ensures ∙ sym (ap (λ (o : Option (List Bool)). repair_left args.out.now (value o)) reads)
