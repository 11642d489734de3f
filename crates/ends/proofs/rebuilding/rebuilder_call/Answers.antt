use mathlib.Core.Path.{sym, ◌∙◌}
use Rattle.ends.specs.code.SoundLaws.{sound-plans}
use Rattle.ends.specs.code.RebuilderCodeLaws.{none-planned, some-planned}
use Rattle.ends.specs.code.RebuilderCallLaws.{call-bad-string, call-unsound, call-awaits, copy-there, copy-kept, copy-lost, taken-said, refused-said}
use mathlib.Core.Logic.{inl, inr}
use Rattle.ends.proofs.rebuilding.rebuilder_call.Goals as goal
use Rattle.ends.proofs.rebuilding.rebuilder_call.Goals.{then-not-keeps_string_rule-via-then-not-keeps_string_rule as bad_string, then-not-keeps_string_rule-via-else-not-keeps_string_rule+then-st-bits as other_count}

pub returns-then-not-keeps_string_rule : goal.returns-then-not-keeps_string_rule
returns-then-not-keeps_string_rule c = let a = c.args in
    refused-said a.st _ _ _ c.refuse.ensures (call-bad-string a.st _ a.bits _ _ (copy-lost a.st.ybits _ _ c.keeps_string_rule.ensures (elim c.then-not-keeps_string_rule.branch [ bad_string w ↦ inl w.if-not-keeps_string_rule.true | other_count w ↦ inr (w.if-not-keeps_string_rule.false, w.if-st-bits.true) ])))

pub returns-then-not-rebuilder_is_sound : goal.returns-then-not-rebuilder_is_sound
returns-then-not-rebuilder_is_sound c = let a = c.args in
    let kept = copy-kept c.args.st.ybits _ _ c.keeps_string_rule.ensures c.if-not-keeps_string_rule.false c.if-st-bits.false in
    refused-said a.st _ _ _ c.refuse-then-not-rebuilder_is_sound.ensures (call-unsound a.st _ a.bits _ _ kept (sym c.rebuilder_is_sound.ensures ∙ c.if-not-rebuilder_is_sound.true))

pub plan_next-requires : goal.plan_next-requires
plan_next-requires c = sound-plans c.args.st (sym c.rebuilder_is_sound.ensures ∙ c.if-not-rebuilder_is_sound.false)

pub hear-requires : goal.hear-requires
hear-requires c = let a = c.args in
    let kept = copy-kept c.args.st.ybits _ _ c.keeps_string_rule.ensures c.if-not-keeps_string_rule.false c.if-st-bits.false in
    (sym c.rebuilder_is_sound.ensures ∙ c.if-not-rebuilder_is_sound.false, some-planned _ _ (sym c.plan_next.ensures ∙ c.in-Some.is), copy-there a.st _ a.bits kept)

pub returns-in-None : goal.returns-in-None
returns-in-None c =
    let kept = copy-kept c.args.st.ybits _ _ c.keeps_string_rule.ensures c.if-not-keeps_string_rule.false c.if-st-bits.false in
    let is_sound = sym c.rebuilder_is_sound.ensures ∙ c.if-not-rebuilder_is_sound.false in
    refused-said c.args.st _ _ _ c.refuse-in-None.ensures (call-awaits _ _ _ _ _ kept is_sound (none-planned _ (sym c.plan_next.ensures ∙ c.in-None.is)))

pub returns-in-Some : goal.returns-in-Some
returns-in-Some c =
    let kept = copy-kept c.args.st.ybits _ _ c.keeps_string_rule.ensures c.if-not-keeps_string_rule.false c.if-st-bits.false in
    let is_sound = sym c.rebuilder_is_sound.ensures ∙ c.if-not-rebuilder_is_sound.false in
    taken-said c.args.st _ _ (call-awaits _ _ _ _ _ kept is_sound (some-planned _ _ (sym c.plan_next.ensures ∙ c.in-Some.is))) c.hear.ensures
