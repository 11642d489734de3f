-- `codes::syndrome` meets its contract: a syndrome is at most the length of its string. Assumes nothing.
use mathlib.Core.Path.{sym, ◌∙◌}
use native.Mathlib.Omega.{arith}
use Rattle.strings.specs.Bits.{range}
use Rattle.strings.proofs.laws.RangeLaws.{range_length}
use Rattle.codes.specs.laws.SyndromeLaws.{syndrome-most}
use Rattle.codes.specs.laws.EntryLaws.{string-few}
use Rattle.codes.proofs.entries.syndrome.Goals as goal

pub overflow_cast-result : goal.overflow_cast-result
overflow_cast-result c = let args = c.args in
    let m = syndrome-most (range args.s.now 0 args.bits) in
    let l = range_length args.s.now 0 args.bits in
    let f = string-few args.s.now args.bits (sym c.keeps_string_rule.ensures ∙ c.if-not-keeps_string_rule.false) in
    let e = c.syndrome_of-a.ensures in
    omega arith
