use mathlib.Core.Path.{sym, ◌∙◌}
use Rattle.layout.specs.laws.LayoutLaws.{holder-long}
use Rattle.cabi.specs.laws.HolderBytesLaws.{holder-bad-string, holder-no-state, on_state, answer-declined, answer-small, answer-replied}
use borrow.Author.Rules.{rules}
use Rattle.cabi.proofs.lo_holder_answer.Goals as goal

pub returns-then-not-keeps_string_rule : goal.returns-then-not-keeps_string_rule
returns-then-not-keeps_string_rule c = holder-bad-string _ _ _ _ _ c.pack_refusal.ensures (sym c.keeps_string_rule.ensures ∙ c.if-not-keeps_string_rule.true)

pub returns-then-not-holds_holder : goal.returns-then-not-holds_holder
returns-then-not-holds_holder c =
    holder-no-state _ _ _ _ _ c.pack_refusal-then-not-holds_holder.ensures
    (sym c.keeps_string_rule.ensures ∙ c.if-not-keeps_string_rule.false) (sym c.holds_holder.ensures ∙ c.if-not-holds_holder.true)

pub read_holder-st-requires : goal.read_holder-st-requires
read_holder-st-requires c = holder-long _ (sym c.holds_holder.ensures ∙ c.if-not-holds_holder.false)

pub write_holder-requires : goal.write_holder-requires
write_holder-requires c = let long = holder-long _ (sym c.holds_holder.ensures ∙ c.if-not-holds_holder.false) in search rules

pub pack_value-requires : goal.pack_value-requires
pack_value-requires c = answer-small
    (on_state _ _ _ _ c.args.reply.now _ _ c.holder_call-out.result (sym c.keeps_string_rule.ensures ∙ c.if-not-keeps_string_rule.false) (sym c.holds_holder.ensures ∙ c.if-not-holds_holder.false)
    c.read_holder-st.ensures c.holder_call-out.ensures)
    c.in-Ok.is

pub returns-in-Err : goal.returns-in-Err
returns-in-Err c = answer-declined
    (on_state _ _ _ _ c.args.reply.now _ _ c.holder_call-out.result (sym c.keeps_string_rule.ensures ∙ c.if-not-keeps_string_rule.false) (sym c.holds_holder.ensures ∙ c.if-not-holds_holder.false)
    c.read_holder-st.ensures c.holder_call-out.ensures)
    c.in-Err.is c.pack_refusal-in-Err.ensures

pub returns-in-Ok : goal.returns-in-Ok
returns-in-Ok c = answer-replied
    (on_state _ _ _ _ c.args.reply.now _ _ c.holder_call-out.result (sym c.keeps_string_rule.ensures ∙ c.if-not-keeps_string_rule.false) (sym c.holds_holder.ensures ∙ c.if-not-holds_holder.false)
    c.read_holder-st.ensures c.holder_call-out.ensures)
    c.in-Ok.is c.pack_value.ensures c.write_holder.ensures
