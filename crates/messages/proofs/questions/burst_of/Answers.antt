use Rattle.std.proofs.Common.{rules}
use Rattle.messages.specs.declared.Question.TheVariants.{AskBurst}
use Rattle.messages.proofs.questions.burst_of.Goals as goal

pub returns : goal.returns
returns c =
    let is-range = c.range_of.ensures (λ start len. AskBurst start len c.args.b) (λ start len q s l e. search rules) in
    search rules
