-- `codes::repair` meets its contract: a repair has n bits. Assumes nothing.
use mathlib.Core.Path.{sym, ◌∙◌}
use Rattle.strings.specs.Bits.{range}
use Rattle.strings.proofs.laws.RangeLaws.{range_length}
use Rattle.codes.specs.laws.EditLaws.{found-is}
use Rattle.codes.specs.laws.RepairLaws.{repair-length}
use Rattle.codes.specs.laws.EntryLaws.{repair-range-is}
use Rattle.codes.proofs.entries.repair.Goals as goal

pub pack-requires-clause-len_len : goal.pack-requires-clause-len_len
pack-requires-clause-len_len c = let args = c.args in
    let apart = repair-range-is args.bits args.n args.a (sym c.keeps_repair_range.ensures ∙ c.if-not-keeps_repair_range.false) in
    let whole = range args.s.now 0 args.bits in
    repair-length args.n args.a args.bits whole _ (range_length _ _ _) apart.one (found-is c.find_repair.result whole _ c.find_repair.ensures.len_value c.in-Some.edit c.in-Some.is)
