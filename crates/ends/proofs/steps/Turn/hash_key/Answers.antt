use Rattle.ends.specs.code.RebuilderCodeLaws.{framed}
use Rattle.ends.proofs.steps.Turn.hash_key.Goals as goal

pub invariant_of-result : goal.invariant_of-result
invariant_of-result c = record { width = (framed c.args.self.st _ _ c.args.self.acting).limits.h-most }
