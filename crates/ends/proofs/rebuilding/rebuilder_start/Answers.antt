use Rattle.std.proofs.Common.{◌≡◌, true, refl, sym, ◌∙◌, arith}
use Rattle.strings.specs.declared.Refusal.TheVariants.{BadSetting, BadString, BufferTooShort}
use Rattle.strings.specs.StringRule.{string_rule}
use Rattle.strings.specs.SettingLimits.{within_limits}
use Rattle.ends.specs.code.RebuilderCallLaws.{start-refused, start-bad-setting, start-bad-string, start-too-short, start_small, start_fits, start-begun}
use Rattle.ends.proofs.rebuilding.rebuilder_start.Goals as goal

pub returns-then-not-is_within_limits : goal.returns-then-not-is_within_limits
returns-then-not-is_within_limits c = let a = c.args in
    start-refused a.settings a.y.now a.bits a.question.now BadSetting refl (start-bad-setting a.settings a.y.now a.bits a.question.now (sym c.is_within_limits.ensures ∙ c.if-not-is_within_limits.true))

pub returns-then-not-keeps_string_rule : goal.returns-then-not-keeps_string_rule
returns-then-not-keeps_string_rule c = let a = c.args in
    let kept : within_limits a.settings ≡ true = sym c.is_within_limits.ensures ∙ c.if-not-is_within_limits.false in
    start-refused a.settings a.y.now a.bits a.question.now BadString refl (start-bad-string a.settings a.y.now a.bits a.question.now kept (sym c.keeps_string_rule.ensures ∙ c.if-not-keeps_string_rule.true))

pub returns-then-question-lt-QUESTION_BYTES : goal.returns-then-question-lt-QUESTION_BYTES
returns-then-question-lt-QUESTION_BYTES c = let a = c.args in
    let kept : within_limits a.settings ≡ true = sym c.is_within_limits.ensures ∙ c.if-not-is_within_limits.false in
    let rule : string_rule a.y.now a.bits ≡ true = sym c.keeps_string_rule.ensures ∙ c.if-not-keeps_string_rule.false in
    start-refused a.settings a.y.now a.bits a.question.now BufferTooShort refl (start-too-short a.settings a.y.now a.bits a.question.now kept rule c.if-question-lt-QUESTION_BYTES.true)

pub returns-in_err-size : goal.returns-in_err-size
returns-in_err-size c = let a = c.args in
    let kept : within_limits a.settings ≡ true = sym c.is_within_limits.ensures ∙ c.if-not-is_within_limits.false in
    let rule : string_rule a.y.now a.bits ≡ true = sym c.keeps_string_rule.ensures ∙ c.if-not-keeps_string_rule.false in
    absurd (start_fits a.settings a.y.now a.bits a.question.now kept rule (let h = c.if-question-lt-QUESTION_BYTES.false in omega arith) _ _ c.write_question.ensures c.in_err-size.was)

pub overflow_cast-bits : goal.overflow_cast-bits
overflow_cast-bits c = let a = c.args in
    let kept : within_limits a.settings ≡ true = sym c.is_within_limits.ensures ∙ c.if-not-is_within_limits.false in
    let rule : string_rule a.y.now a.bits ≡ true = sym c.keeps_string_rule.ensures ∙ c.if-not-keeps_string_rule.false in
    record { fits = start_small a.settings a.y.now a.bits a.question.now kept rule }

pub returns : goal.returns
returns c = let a = c.args in
    let kept : within_limits a.settings ≡ true = sym c.is_within_limits.ensures ∙ c.if-not-is_within_limits.false in
    let rule : string_rule a.y.now a.bits ≡ true = sym c.keeps_string_rule.ensures ∙ c.if-not-keeps_string_rule.false in
    start-begun a.settings a.y.now a.bits a.question.now kept rule (let h = c.if-question-lt-QUESTION_BYTES.false in omega arith) _ _ c.write_question.ensures c.in_ok-size.was c.fresh_rebuilder-state.ensures
