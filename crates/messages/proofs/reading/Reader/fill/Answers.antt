use Rattle.std.proofs.Common.{rules, ◌≡◌, refl, sym, ◌∙◌, arith, length, Err}
use Rattle.messages.specs.code.Reading.{many-first, many-none, many-next, many-whole}
use Rattle.messages.proofs.reading.Reader.fill.Goals as goal

pub loop-v-init : goal.loop-v-init
loop-v-init c = let s = c.args.self.now in record { same = refl; read = many-first s.src.now (length c.args.list.now) s.at }

pub returns-in_err-v : goal.returns-in_err-v
returns-in_err-v c =
    let s = c.args.self.now in
    let l = c.loop-v in
    let q : c.from_residual.result ≡ Err c.in_err-v.field-0.0 = search rules in
    let src : l.self.src ≡ s.src = l.invariant.same in
    let n = sym (rw c.in_err-v.was at c.next.ensures.read) in
    record { same = c.next.ensures.same ∙ l.invariant.same; read = rw q (many-none s.src.now (length c.args.list.now) l.v-index l.self.at l.list _ l.invariant.read c.loop-v-test.true _ (rw (← src) n)) }

pub loop-v-preserved : goal.loop-v-preserved
loop-v-preserved c =
    let s = c.args.self.now in
    let l = c.loop-v in
    let src : l.self.src ≡ s.src = l.invariant.same in
    let n = sym (rw c.in_ok-v.was at c.next.ensures.read) in
    record { same = c.next.ensures.same ∙ l.invariant.same; read = many-next s.src.now (length c.args.list.now) l.v-index l.self.at l.list _ l.invariant.read c.loop-v-test.true (omega arith) _ _ (rw (← src) n) }

pub returns : goal.returns
returns c =
    let s = c.args.self.now in
    let l = c.loop-v in
    record { same = l.invariant.same; read = many-whole s.src.now (length c.args.list.now) l.v-index l.self.at l.list _ l.invariant.read c.loop-v-test.false (omega arith) }
