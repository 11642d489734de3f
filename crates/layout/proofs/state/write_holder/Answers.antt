use Rattle.std.proofs.Common.{◌∙◌}
use Rattle.layout.specs.laws.CaseLaws.{opened-converted}
use Rattle.layout.specs.laws.LayoutLaws.{holder-stored-whole}
use Rattle.layout.proofs.state.write_holder.Goals as goal

pub returns : goal.returns
returns c = let st = c.args.st in
    holder-stored-whole _ _ st _ c.requires (c.from.ensures ∙ opened-converted st.opened) c.write_words.ensures
