use mathlib.Core.Path.{refl}
use Rattle.ends.specs.code.RebuilderCodeLaws.{added-out, holds, popped-stages, settled-counts, settled-rows, settled-sound}
use Rattle.ends.proofs.steps.settle.Goals as goal

pub pop-rest-requires : goal.pop-rest-requires
pop-rest-requires c = holds c.args.turn.st _ _ c.args.turn.acting

pub restage-requires : goal.restage-requires
restage-requires c = rw c.pop-rest.ensures (popped-stages c.args.turn.st _ _ c.args.turn.acting)

pub add_row-requires : goal.add_row-requires
add_row-requires c = record {
  question_room = c.requires;
  counts = rw (c.restage.ensures, c.pop-rest.ensures) (settled-counts c.args.turn.st _ _ c.args.turn.acting);
  sound_next = rw (c.restage.ensures, c.pop-rest.ensures) (settled-sound c.args.turn.st _ _ c.args.turn.acting);
}

pub returns : goal.returns
returns c =
    added-out c.args.turn.st _ (rw (c.restage.ensures, c.pop-rest.ensures) refl) (settled-rows c.args.turn.st _ _ c.args.turn.acting) (rw (c.args.turn.leftmost, c.from.ensures) refl) c.add_row.ensures
