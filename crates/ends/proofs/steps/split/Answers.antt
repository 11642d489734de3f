use mathlib.Core.Path.{refl}
use Rattle.ends.specs.code.RebuilderCodeLaws.{added-out, splitting, split-counts, split-rows, split-sound, split-start}
use Rattle.ends.proofs.steps.split.Goals as goal

pub overflow_add-line : goal.overflow_add-line
overflow_add-line c = rw c.args.turn.leftmost (record { fits = split-start c.args.turn.st _ _ c.args.turn.acting c.args.s c.args.r c.requires.splitting })

pub split_at-requires : goal.split_at-requires
split_at-requires c = splitting c.args.turn.st _ _ c.args.turn.acting c.args.s c.args.r c.requires.splitting

pub add_row-requires : goal.add_row-requires
add_row-requires c = record {
  question_room = c.requires.question_room;
  counts = rw c.split_at.ensures (split-counts c.args.turn.st _ _ c.args.turn.acting c.args.s c.args.r c.requires.splitting);
  sound_next = rw c.split_at.ensures (split-sound c.args.turn.st _ _ c.args.turn.acting c.args.s c.args.r c.requires.splitting);
}

pub returns : goal.returns
returns c =
    added-out c.args.turn.st _ c.split_at.ensures (split-rows c.args.turn.st _ _ c.args.turn.acting c.args.s c.args.r c.requires.splitting) (rw (c.args.turn.leftmost, c.from.ensures) refl) c.add_row.ensures
