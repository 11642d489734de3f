-- `codes::hash_put` meets its contract. Assumes nothing.
use mathlib.Core.Path.{◌∙◌}
use Rattle.codes.specs.laws.HashLaws.{went-start, went-as}
use Rattle.codes.specs.laws.EditLaws.{put-hashed}
use Rattle.codes.proofs.edits.hash_put.Goals as goal

pub returns : goal.returns
returns c = let s = c.args.s in
    let front = went-start _ _ _ _ _ _ c.start.ensures c.first.ensures.taken c.over-before.ensures in
    c.cut.ensures ∙ put-hashed s.bytes.now s.start s.len c.args.i c.args.k.h c.args.k.key _ _ front _ _ _ _ c.args.b c.requires c.bit-here.ensures (went-as _ _ _ _ _ _ c.skip.ensures.left c.over.ensures)
