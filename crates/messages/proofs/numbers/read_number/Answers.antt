use Rattle.std.proofs.Common.{rules, ◌≡◌, ℕ, ◌+◌, ◌-◌, ◌*◌, min, ◌≤◌, ◌<◌, List, length, sym, ap, ◌∙◌, arith}
use native.Mathlib.Decide.{dec_le}
use Rattle.messages.specs.Numbers.{next_byte}
use Rattle.messages.specs.laws.NumberLaws.{weight, read_first, turn-fits, read-cut, read-zero, read-last, read_next, read_none, read_short, read-end}
use Rattle.strings.specs.Results.{value}
use Rattle.messages.proofs.numbers.read_number.Goals as goal

-- where the loop ends, the fifth byte is next, or there is none
fifth : (s : List ℕ) (at i w v end : ℕ) → i ≤ end → end ≡ min (at + 4) (length s) → w ≡ weight (at + 4 - i) → v < w → end ≤ i → next_byte 0 s i 268435456 v ≡ next_byte (at + 4 - i) s i w v
fifth s at i w v end a b e l d = go (dec_le (length s) i)
  where
    go : Dec (length s ≤ i) → next_byte 0 s i 268435456 v ≡ next_byte (at + 4 - i) s i w v
    go (yes h) = read-cut s 0 i 268435456 v h ∙ sym (read-cut s (at + 4 - i) i w v h)
    go (no h) = (read-end s (at + 4 - i) i w v (omega arith) e l).1

pub returns-in_default : goal.returns-in_default
returns-in_default c = sym (read_none _ _ (search rules))

pub returns-then-first-lt128 : goal.returns-then-first-lt128
returns-then-first-lt128 c = let a = c.args in
    let first = c.in-Some.ensures.lookup.3 in
    ap (λ (n : ℕ). value (n, a.at + 1)) c.wide.ensures.0 ∙ sym (read_short _ a.at _ first.0 (sym (first.1 0)) c.if-first-lt128.true)

pub loop-i-init : goal.loop-i-init
loop-i-init c = let a = c.args in
    let first = c.in-Some.ensures.lookup.3 in
    let is-first = first.1 0 in
    let k : 3 ≡ a.at + 4 - (a.at + 1) = omega arith in
    record {
      weight = ap weight k;
      small = omega (arith, c.wide-v.ensures.0, c.type_inv.s a.at);
      rest = ap (λ (n : ℕ). next_byte n a.s.now (a.at + 1) 128 c.wide-v.result) (sym k)
          ∙ read_first a.s.now a.at _ first.0 (omega arith) (c.wide-v.ensures.0 ∙ ap (λ (b : ℕ). b - 128) is-first);
    }

pub returns-then-b-eq0 : goal.returns-then-b-eq0
returns-then-b-eq0 c = let l = c.loop-i in sym (read-zero _ _ l.i l.w l.v (omega arith) c.if-b-eq0.true) ∙ l.invariant.rest

pub returns-then-b-lt128 : goal.returns-then-b-lt128
returns-then-b-lt128 c = let l = c.loop-i in
    ap (λ (n : ℕ). value (l.v + l.w * n, l.i + 1)) c.wide-then-b-lt128.ensures.0 ∙ sym (read-last _ _ l.i l.w l.v (omega arith) (omega arith) c.if-b-eq0.false c.if-b-lt128.true) ∙ l.invariant.rest

pub loop-i-preserved : goal.loop-i-preserved
loop-i-preserved c = let l = c.loop-i in
    let at = c.args.at in
    let s = c.args.s.now in
    let t = turn-fits (at + 4 - l.i) l.w l.v c.wide-in-loop-i.result (omega arith) (omega arith) l.invariant.weight l.invariant.small (omega (arith, c.wide-in-loop-i.ensures.0, c.type_inv.s l.i)) in
    let k : at + 4 - l.i - 1 ≡ at + 4 - (l.i + 1) = omega arith in
    record {
      weight = t.3 ∙ ap weight k;
      small = t.2;
      rest = ap (λ (n : ℕ). next_byte n s (l.i + 1) (l.w * 128) (l.v + l.w * c.wide-in-loop-i.result)) (sym k)
          ∙ ap (λ (n : ℕ). next_byte (at + 4 - l.i - 1) s (l.i + 1) (l.w * 128) (l.v + l.w * n)) c.wide-in-loop-i.ensures.0
          ∙ sym (read_next s (at + 4 - l.i) l.i l.w l.v (omega arith) (omega arith) c.if-b-eq0.false c.if-b-lt128.false) ∙ l.invariant.rest;
    }

pub returns : goal.returns
returns c = let l = c.loop-i in
    let at = c.args.at in
    let h : at < length c.args.s.now = c.in-Some.ensures.lookup.3.0 in
    let e : l.i ≡ c.min-end.result = omega arith in
    c.read_fifth.ensures
    ∙ ap (λ (i : ℕ). next_byte 0 c.args.s.now i 268435456 l.v) (sym e)
    ∙ fifth c.args.s.now at l.i l.w l.v c.min-end.result (omega arith) c.min-end.ensures l.invariant.weight l.invariant.small (omega arith) ∙ l.invariant.rest
