use Rattle.ends.specs.code.SoundLaws.{sound-plans}
use Rattle.ends.proofs.steps.finish.Goals as goal

pub plan_next-requires : goal.plan_next-requires
plan_next-requires c = sound-plans c.args.s c.requires.0
