use Rattle.ends.specs.code.RebuilderCallLaws.{whole-counts, whole-text, whole-next, whole-said}
use Rattle.ends.proofs.steps.take_whole.Goals as goal

pub whole_state-s-requires : goal.whole_state-s-requires
whole_state-s-requires c = whole-counts c.args.st _ _ c.requires.whole_due

pub invariant_of-copy_bits : goal.invariant_of-copy_bits
invariant_of-copy_bits c = record { part = whole-text c.args.st _ _ c.requires.whole_due _ c.requires.n_bound.1 }

pub copy_bits-requires : goal.copy_bits-requires
copy_bits-requires c = whole-text c.args.st _ _ c.requires.whole_due _ c.requires.n_bound.0

pub finish-requires : goal.finish-requires
finish-requires c = (rw c.whole_state-s.ensures (whole-next c.args.st _ _ c.requires.whole_due), c.requires.whole_due.enough)

pub returns : goal.returns
returns c = λ y. whole-said c.args.st _ _ c.requires.whole_due c.whole_state-s.ensures y _ _ c.copy_bits.ensures c.from.ensures c.finish.ensures
