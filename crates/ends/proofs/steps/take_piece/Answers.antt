use Rattle.ends.specs.code.RebuilderCodeLaws.{text-part, piece-part, piece-text, step-said, step-bits, settled-said}
use Rattle.ends.proofs.steps.take_piece.Goals as goal

pub invariant_of-copy_bits : goal.invariant_of-copy_bits
invariant_of-copy_bits c = record { part = piece-part c.args.turn.st _ _ c.args.turn.acting c.args.turn.leftmost _ c.requires.st_bound }

pub copy_bits-requires : goal.copy_bits-requires
copy_bits-requires c = text-part c.args.turn.st _ _ c.args.turn.acting c.args.turn.leftmost _ c.requires.string_room

pub returns : goal.returns
returns c = λ y. step-said c.args.turn.st _ _ (step-bits c.args.turn.st y _ c.args.turn.acting.phase _ c.requires.stage_value) (settled-said c.args.turn.st _ _ _ _ c.settle.ensures (piece-text c.args.turn.st _ _ c.args.turn.acting c.args.turn.leftmost _ _ c.copy_bits.ensures))
