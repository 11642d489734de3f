use Rattle.ends.specs.code.RebuilderCallLaws.{opening-ready, opening-next, opening-said}
use Rattle.ends.proofs.steps.take_size.Goals as goal

pub open_state-s-requires : goal.open_state-s-requires
open_state-s-requires c = opening-ready c.args.st c.args.n _ c.requires.opening

pub finish-requires : goal.finish-requires
finish-requires c = (rw c.open_state-s.ensures (opening-next c.args.st c.args.n _ c.requires.opening), c.requires.opening.enough)

pub returns : goal.returns
returns c = λ y size. opening-said c.args.st c.args.n _ c.requires.opening c.open_state-s.ensures y size _ (let x = c.clear_bytes.ensures in rw c.bytes_for.ensures at x) c.finish.ensures
