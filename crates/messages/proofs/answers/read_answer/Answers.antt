use Rattle.std.proofs.Common.{rules, ◌≡◌, refl, ap, ◌∙◌, arith, Err}
use Rattle.std.specs.Prelude.{List, ℕ}
use Rattle.strings.specs.Results.{value}
use Rattle.messages.specs.declared.Kind.TheVariants.{Open, Hash, Syndrome}
use Rattle.messages.specs.Kinds.{kind_number}
use Rattle.messages.specs.Numbers.{number_at}
use Rattle.messages.specs.Questions.{question_kind, question_length, question_burst}
use Rattle.messages.specs.Answers.{burst_answer, read_answer, answer_fields}
use Rattle.messages.specs.code.Reading.{said_next, syndromes-behind}
use Rattle.messages.specs.laws.NumberLaws.{number-inside}
use Rattle.messages.specs.laws.AnswerLaws.{answer-other, answer-fields, not-bits}
use Rattle.messages.proofs.answers.read_answer.Goals as goal

pub returns-in_err-v-clause-result_value : goal.returns-in_err-v-clause-result_value
unfolding read_answer
returns-in_err-v-clause-result_value c =
    let q : c.from_residual.result ≡ Err c.in_err-v.field-0.0 = search rules in
    let n : number_at c.args.s.now 0 ≡ said_next (Err c.in_err-v.field-0.0) 0 = search rules in
    rw (q, n) refl

pub returns-then-v-from-clause-result_value : goal.returns-then-v-from-clause-result_value
returns-then-v-from-clause-result_value c =
    let n : number_at c.args.s.now 0 ≡ value (c.in_ok-v.v, c.next.new.self.at) = search rules in
    answer-other (question_kind c.args.q) _ _ _ _ n (c.from.ensures ∙ ap kind_number c.kind.ensures) c.if-v-from.true

pub read_bits-requires : goal.read_bits-requires
read_bits-requires c =
    let n : number_at c.args.s.now 0 ≡ value (c.in_ok-v.v, c.next.new.self.at) = search rules in
    (number-inside _ _ _ _ n).1

pub returns-in-AskOpen-clause-result_value : goal.returns-in-AskOpen-clause-result_value
unfolding answer_fields
returns-in-AskOpen-clause-result_value c =
    let n : number_at c.args.s.now 0 ≡ value (c.in_ok-v.v, c.next.new.self.at) = search rules in
    let src = c.next.ensures.same ∙ c.new-r.ensures.0 in
    let k = c.from.ensures ∙ ap kind_number c.kind.ensures in
    answer-fields (question_kind c.args.q) _ _ _ _ n k c.if-v-from.false (ap question_kind c.in-AskOpen.is) (rw c.in-AskOpen.is (rw (src, c.in-AskOpen.is) at (c.read_size.ensures (question_length c.args.q) (question_burst c.args.q))))

pub returns-in-AskHash-clause-result_value : goal.returns-in-AskHash-clause-result_value
unfolding answer_fields
returns-in-AskHash-clause-result_value c =
    let n : number_at c.args.s.now 0 ≡ value (c.in_ok-v.v, c.next.new.self.at) = search rules in
    let src = c.next.ensures.same ∙ c.new-r.ensures.0 in
    let k = c.from.ensures ∙ ap kind_number c.kind.ensures in
    answer-fields (question_kind c.args.q) _ _ _ _ n k c.if-v-from.false (ap question_kind c.in-AskHash.is) (rw c.in-AskHash.is (rw (src, c.in-AskHash.is) at (c.read_hash.ensures (question_length c.args.q) (question_burst c.args.q))))

pub returns-in-AskSyndrome-clause-result_value : goal.returns-in-AskSyndrome-clause-result_value
unfolding answer_fields
returns-in-AskSyndrome-clause-result_value c =
    let n : number_at c.args.s.now 0 ≡ value (c.in_ok-v.v, c.next.new.self.at) = search rules in
    let src = c.next.ensures.same ∙ c.new-r.ensures.0 in
    let k = c.from.ensures ∙ ap kind_number c.kind.ensures in
    answer-fields (question_kind c.args.q) _ _ _ _ n k c.if-v-from.false (ap question_kind c.in-AskSyndrome.is) (rw c.in-AskSyndrome.is (rw (src, c.in-AskSyndrome.is) at (c.read_syndrome.ensures (question_burst c.args.q))))

pub returns-in-AskBits-clause-result_value : goal.returns-in-AskBits-clause-result_value
unfolding answer_fields
returns-in-AskBits-clause-result_value c =
    let n : number_at c.args.s.now 0 ≡ value (c.in_ok-v.v, c.next.new.self.at) = search rules in
    let k = c.from.ensures ∙ ap kind_number c.kind.ensures in
    answer-fields (question_kind c.args.q) _ _ _ _ n k c.if-v-from.false (ap question_kind c.in-AskBits.is) (rw c.in-AskBits.is (c.read_bits.ensures.by_index _))

pub returns-in_err-read_burst-in-AskBurst-clause-result_value : goal.returns-in_err-read_burst-in-AskBurst-clause-result_value
unfolding answer_fields
returns-in_err-read_burst-in-AskBurst-clause-result_value c =
    let n : number_at c.args.s.now 0 ≡ value (c.in_ok-v.v, c.next.new.self.at) = search rules in
    let src = c.next.ensures.same ∙ c.new-r.ensures.0 in
    let k = c.from.ensures ∙ ap kind_number c.kind.ensures in
    let q : c.from_residual-in_err-read_burst-in-AskBurst.result ≡ Err c.in_err-read_burst-in-AskBurst.field-0.0 = search rules in
    let e = rw (src, c.in_err-read_burst-in-AskBurst.was) at c.read_burst.ensures in
    rw q (answer-fields (question_kind c.args.q) _ _ _ _ n k c.if-v-from.false (ap question_kind c.in-AskBurst.is) (rw c.in-AskBurst.is e))

pub returns-in_ok-read_burst-in-AskBurst-clause-result_value : goal.returns-in_ok-read_burst-in-AskBurst-clause-result_value
unfolding answer_fields
returns-in_ok-read_burst-in-AskBurst-clause-result_value c =
    let n : number_at c.args.s.now 0 ≡ value (c.in_ok-v.v, c.next.new.self.at) = search rules in
    let src = c.next.ensures.same ∙ c.new-r.ensures.0 in
    let k = c.from.ensures ∙ ap kind_number c.kind.ensures in
    let e = rw (src, c.in_ok-read_burst-in-AskBurst.was) at c.read_burst.ensures in
    let l = ap (λ (l : List ℕ). value (burst_answer l c.in_ok-read_burst-in-AskBurst.field-0)) (syndromes-behind c.in-AskBurst.b c.args.s.now n) in
    answer-fields (question_kind c.args.q) _ _ _ _ n k c.if-v-from.false (ap question_kind c.in-AskBurst.is) (rw c.in-AskBurst.is (l ∙ e))

pub returns-in-AskOpen-clause-bits_there : goal.returns-in-AskOpen-clause-bits_there
unfolding answer_fields
returns-in-AskOpen-clause-bits_there c =
    let src = c.next.ensures.same ∙ c.new-r.ensures.0 in
    rw c.in-AskOpen.is (not-bits Open 0 0 c.args.h c.args.s.now c.next.new.self.at _ (λ e. omega arith) (rw src at (c.read_size.ensures 0 0)))

pub returns-in-AskHash-clause-bits_there : goal.returns-in-AskHash-clause-bits_there
unfolding answer_fields
returns-in-AskHash-clause-bits_there c =
    let src = c.next.ensures.same ∙ c.new-r.ensures.0 in
    rw c.in-AskHash.is (not-bits Hash _ 0 c.args.h c.args.s.now c.next.new.self.at _ (λ e. omega arith) (rw src at (c.read_hash.ensures c.in-AskHash.field-1 0)))

pub returns-in-AskSyndrome-clause-bits_there : goal.returns-in-AskSyndrome-clause-bits_there
unfolding answer_fields
returns-in-AskSyndrome-clause-bits_there c =
    let src = c.next.ensures.same ∙ c.new-r.ensures.0 in
    rw c.in-AskSyndrome.is (not-bits Syndrome _ 0 c.args.h c.args.s.now c.next.new.self.at _ (λ e. omega arith) (rw src at (c.read_syndrome.ensures 0)))
