use Rattle.ends.specs.code.RebuilderCodeLaws.{offsets, search-limits, anchor-start, anchor-text, anchor-written, anchor-part, place-splits, place-small, anchor-placed, anchor-unplaced, waiting-said, split-said, step-said}
use Rattle.ends.proofs.steps.take_anchor.Goals as goal

pub anchor_offset-s-requires : goal.anchor_offset-s-requires
anchor_offset-s-requires c = offsets c.args.turn.acting c.requires.stage_value c.args.turn.leftmost

pub invariant_of-anchor : goal.invariant_of-anchor
invariant_of-anchor c = record { part = anchor-part c.args.turn.st _ _ c.args.turn.acting c.args.turn.leftmost _ c.requires.m_bound }

pub place_anchor-requires : goal.place_anchor-requires
place_anchor-requires c = search-limits c.args.turn.acting c.requires.stage_value c.args.turn.leftmost c.anchor_offset-s.ensures

pub overflow_add-x : goal.overflow_add-x
overflow_add-x c = record { fits = anchor-start c.args.turn.acting c.requires.stage_value c.args.turn.leftmost c.anchor_offset-s.ensures }

pub copy_bits-requires : goal.copy_bits-requires
copy_bits-requires c = anchor-text c.args.turn.acting c.requires.stage_value c.args.turn.leftmost c.anchor_offset-s.ensures _ c.requires.string_room

pub overflow_cast-r : goal.overflow_cast-r
overflow_cast-r c = record { fits = place-small c.args.turn.acting c.requires.stage_value c.args.turn.leftmost c.anchor_offset-s.ensures _ _ (let x = c.place_anchor.ensures in rw (c.copy.ensures.bits, ← c.args.turn.leftmost) at x) c.in-Some.is }

pub split-requires : goal.split-requires
split-requires c = record { question_room = c.requires.question_room; splitting = place-splits c.args.turn.acting c.requires.stage_value c.args.turn.leftmost c.anchor_offset-s.ensures _ _ (let x = c.place_anchor.ensures in rw (c.copy.ensures.bits, ← c.args.turn.leftmost) at x) c.in-Some.is }

pub returns-in-None : goal.returns-in-None
returns-in-None c = step-said c.args.turn.st _ _ (anchor-unplaced c.args.turn.acting c.requires.stage_value c.args.turn.leftmost c.anchor_offset-s.ensures _ _ (let x = c.place_anchor.ensures in rw (c.copy.ensures.bits, ← c.args.turn.leftmost) at x) c.in-None.is) (waiting-said c.args.turn.st _ _ _ c.leave_waiting.ensures)

pub returns-in-Some : goal.returns-in-Some
returns-in-Some c =
    step-said c.args.turn.st _ _ (anchor-placed c.args.turn.acting c.requires.stage_value c.args.turn.leftmost c.anchor_offset-s.ensures _ _ (let x = c.place_anchor.ensures in rw (c.copy.ensures.bits, ← c.args.turn.leftmost) at x) c.in-Some.is)
    (split-said c.args.turn.st _ _ _ _ _ c.split.ensures (anchor-written c.args.turn.acting c.requires.stage_value c.args.turn.leftmost c.anchor_offset-s.ensures _ _ c.copy_bits.ensures))
