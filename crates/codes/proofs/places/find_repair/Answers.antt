-- `codes::find_repair` meets its contract. Assumes nothing.
use mathlib.Core.Path.{sym, ◌∙◌}
use native.Mathlib.Omega.{arith}
use Rattle.strings.specs.Ranges.{bits}
use Rattle.strings.proofs.laws.RangeLaws.{range_length}
use Rattle.codes.specs.laws.RepairLaws.{repair-put-in, repair-take-out}
use Rattle.codes.proofs.places.find_repair.Goals as goal

pub returns-then-s-n-clause-len_value : goal.returns-then-s-n-clause-len_value
returns-then-s-n-clause-len_value c = let m = range_length c.args.s.bytes.now c.args.s.start c.args.s.len in
    c.find_put.ensures.len_value ∙ sym (repair-put-in c.args.n c.args.a (bits c.args.s) (omega arith))

pub returns-clause-len_value : goal.returns-clause-len_value
returns-clause-len_value c = let m = range_length c.args.s.bytes.now c.args.s.start c.args.s.len in
    let f = c.if-s-n.false in
    c.find_take.ensures.len_value ∙ sym (repair-take-out c.args.n c.args.a (bits c.args.s) (λ z. f (omega arith)))
