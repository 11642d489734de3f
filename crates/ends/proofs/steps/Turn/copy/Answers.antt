use Rattle.ends.specs.code.RebuilderCodeLaws.{copy-part}
use Rattle.ends.proofs.steps.Turn.copy.Goals as goal

pub invariant_of-result : goal.invariant_of-result
invariant_of-result c = record { part = copy-part c.args.self.st _ _ c.args.self.acting c.args.self.leftmost _ c.args.self.copy }
