use Rattle.std.proofs.Common.{◌≡◌, refl, rules}
use Rattle.layout.proofs.Pieces.{read_by}
use Rattle.layout.proofs.state.read_pieces.Goals as goal

pub returns : goal.returns
returns c =
    let s = c.args.s.now in
    read_by s (λ f. f.0.now ≡ s) (λ f q i y k e. (search rules, search rules)) refl c.from_fn.ensures.items
