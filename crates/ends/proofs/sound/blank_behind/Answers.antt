use Rattle.ends.specs.code.SoundCode.{blank-turn, blank-done}
use Rattle.std.proofs.Common.{rules, sym, ◌∙◌}
use Rattle.ends.proofs.sound.blank_behind.Goals as goal

pub loop-pc-preserved : goal.loop-pc-preserved
loop-pc-preserved c =
    blank-turn c.args.st.pieces c.args.st.waiting c.loop-pc.pc-index (search rules) c.loop-pc-test.true _ _ c.is_blank-blank.ensures
    ∙ c.loop-pc.invariant

pub returns : goal.returns
returns c = sym (blank-done c.args.st.pieces c.args.st.waiting c.loop-pc.pc-index (search rules) c.loop-pc-test.false _) ∙ c.loop-pc.invariant
