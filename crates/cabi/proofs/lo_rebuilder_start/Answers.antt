use mathlib.Core.Path.{sym, ap, ◌∙◌}
use native.Mathlib.Omega.{arith}
use Rattle.strings.specs.SettingLimits.{within_limits}
use Rattle.cabi.specs.laws.RebuilderBytesLaws.{start-bad-setting, start-bad-string, start-short, start_called, start_small, start-declined, start-begun}
use Rattle.cabi.proofs.lo_rebuilder_start.Goals as goal

pub returns-then-not-is_within_limits : goal.returns-then-not-is_within_limits
returns-then-not-is_within_limits c = start-bad-setting _ _ _ _ _ c.pack_refusal.ensures (ap within_limits (sym c.new-s.ensures) ∙ sym c.is_within_limits.ensures ∙ c.if-not-is_within_limits.true)

pub returns-then-not-keeps_string_rule : goal.returns-then-not-keeps_string_rule
returns-then-not-keeps_string_rule c =
    start-bad-string _ _ _ _ _ c.pack_refusal-then-not-keeps_string_rule.ensures (ap within_limits (sym c.new-s.ensures) ∙ sym c.is_within_limits.ensures ∙ c.if-not-is_within_limits.false) (sym c.keeps_string_rule.ensures ∙ c.if-not-keeps_string_rule.true)

pub returns-then-capacity-lt-REBUILDER_BYTES : goal.returns-then-capacity-lt-REBUILDER_BYTES
returns-then-capacity-lt-REBUILDER_BYTES c =
    start-short _ _ _ _ _ (ap within_limits (sym c.new-s.ensures) ∙ sym c.is_within_limits.ensures ∙ c.if-not-is_within_limits.false) (sym c.keeps_string_rule.ensures ∙ c.if-not-keeps_string_rule.false) c.pack_refusal-then-capacity-lt-REBUILDER_BYTES.ensures c.if-capacity-lt-REBUILDER_BYTES.true

pub pack_value-requires : goal.pack_value-requires
pack_value-requires c =
    let called = start_called (record { m = c.args.m; h = c.args.h; k = c.args.k; key = c.args.key; ceiling = c.args.ceiling }) c.args.y.now c.args.bits c.args.state.now c.args.question.now _ c.rebuilder_start.result c.new-s.ensures (sym c.is_within_limits.ensures ∙ c.if-not-is_within_limits.false) (sym c.keeps_string_rule.ensures ∙ c.if-not-keeps_string_rule.false) (let w = c.if-capacity-lt-REBUILDER_BYTES.false in omega arith) c.rebuilder_start.ensures in
    let small = start_small called c.in-Ok.is in omega arith

pub returns-in-Err : goal.returns-in-Err
returns-in-Err c =
    let called = start_called (record { m = c.args.m; h = c.args.h; k = c.args.k; key = c.args.key; ceiling = c.args.ceiling }) c.args.y.now c.args.bits c.args.state.now c.args.question.now _ c.rebuilder_start.result c.new-s.ensures (sym c.is_within_limits.ensures ∙ c.if-not-is_within_limits.false) (sym c.keeps_string_rule.ensures ∙ c.if-not-keeps_string_rule.false) (let w = c.if-capacity-lt-REBUILDER_BYTES.false in omega arith) c.rebuilder_start.ensures in
    start-declined called c.in-Err.is c.pack_refusal-in-Err.ensures

pub returns-in-Ok : goal.returns-in-Ok
returns-in-Ok c =
    let called = start_called (record { m = c.args.m; h = c.args.h; k = c.args.k; key = c.args.key; ceiling = c.args.ceiling }) c.args.y.now c.args.bits c.args.state.now c.args.question.now _ c.rebuilder_start.result c.new-s.ensures (sym c.is_within_limits.ensures ∙ c.if-not-is_within_limits.false) (sym c.keeps_string_rule.ensures ∙ c.if-not-keeps_string_rule.false) (let w = c.if-capacity-lt-REBUILDER_BYTES.false in omega arith) c.rebuilder_start.ensures in
    rw c.pack_value.ensures (start-begun called c.in-Ok.is c.write_rebuilder.ensures)
