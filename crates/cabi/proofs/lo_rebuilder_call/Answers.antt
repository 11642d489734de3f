use mathlib.Core.Path.{◌≡◌, sym, ap, ◌∙◌}
use mathlib.Core.Bool.{true}
use Prim.Native.Nat.{ℕ, ◌*◌}
use Rattle.cabi.specs.Packing.{value_unit}
use Rattle.layout.specs.Layout.{is_rebuilder}
use Rattle.layout.specs.laws.LayoutLaws.{rebuilder-long}
use Rattle.cabi.specs.laws.RebuilderBytesLaws.{call-bad-string, rebuilder_called, call_rows, call-ok-small, call-declined, call-ok-taken}
use borrow.Author.Rules.{rules}
use Rattle.cabi.proofs.lo_rebuilder_call.Goals as goal

pub returns-then-not-keeps_string_rule : goal.returns-then-not-keeps_string_rule
returns-then-not-keeps_string_rule c = call-bad-string _ _ _ _ _ _ _ c.pack_refusal.ensures (sym c.keeps_string_rule.ensures ∙ c.if-not-keeps_string_rule.true)

pub read_rebuilder-st-requires : goal.read_rebuilder-st-requires
read_rebuilder-st-requires c =
    let held : (is_rebuilder c.args.state.now ≡ true) = search rules in
    rebuilder-long _ held

pub keep-requires : goal.keep-requires
keep-requires c =
    let held : (is_rebuilder c.args.state.now ≡ true) = search rules in
    let called = rebuilder_called c.args.state.now c.args.y.now c.args.bits c.args.msg.now c.args.string.now c.args.sheet.now c.args.question.now c.rebuilder_call-out.result (sym c.keeps_string_rule.ensures ∙ c.if-not-keeps_string_rule.false) held c.read_rebuilder-st.ensures c.rebuilder_call-out.ensures in
    let long = rebuilder-long _ held in record { rebuilder_size_in_bounds = search rules; change_in_bounds = call_rows called; size_bound = rw c.unwrap_or.ensures (call-ok-small called c.in-Ok.is) }

pub returns-in-Err : goal.returns-in-Err
returns-in-Err c =
    let held : (is_rebuilder c.args.state.now ≡ true) = search rules in
    let called = rebuilder_called c.args.state.now c.args.y.now c.args.bits c.args.msg.now c.args.string.now c.args.sheet.now c.args.question.now c.rebuilder_call-out.result (sym c.keeps_string_rule.ensures ∙ c.if-not-keeps_string_rule.false) held c.read_rebuilder-st.ensures c.rebuilder_call-out.ensures in
    call-declined called c.in-Err.is c.pack_refusal-in-Err.ensures

pub returns-in-Ok : goal.returns-in-Ok
returns-in-Ok c =
    let held : (is_rebuilder c.args.state.now ≡ true) = search rules in
    let called = rebuilder_called c.args.state.now c.args.y.now c.args.bits c.args.msg.now c.args.string.now c.args.sheet.now c.args.question.now c.rebuilder_call-out.result (sym c.keeps_string_rule.ensures ∙ c.if-not-keeps_string_rule.false) held c.read_rebuilder-st.ensures c.rebuilder_call-out.ensures in
    let keep = c.keep.ensures in
    call-ok-taken called c.in-Ok.is (keep.value ∙ ap (λ (n : ℕ). n * value_unit) c.unwrap_or.ensures) keep.state_after keep.sheet_after
