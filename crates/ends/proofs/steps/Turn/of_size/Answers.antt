use Rattle.ends.specs.code.RebuilderCodeLaws.{holds}
use Rattle.ends.proofs.steps.Turn.of_size.Goals as goal

pub top-requires : goal.top-requires
top-requires c = holds c.args.st _ _ c.requires.acting
