use mathlib.Core.Path.{◌≡◌, sym, ◌∙◌}
use mathlib.Core.Bool.{Bool}
use Prim.Native.Nat.{ℕ, ◌-◌, ◌*◌, ◌%◌, ◌^◌, ◌<◌}
use lib.Dec.{eqb}
use native.Mathlib.Omega.{arith}
use lib.Pow.{pow_pos}
use Rattle.strings.proofs.laws.BitLaws.{one_shl}
use Rattle.strings.proofs.laws.RuleLaws.{rule-many, rule-length, rule-even, rule-odd}
use Rattle.strings.proofs.keeps_string_rule.Goals as goal

pub returns-then-bits-gt-MAX_BITS : goal.returns-then-bits-gt-MAX_BITS
returns-then-bits-gt-MAX_BITS c = rule-many _ _ c.if-bits-gt-MAX_BITS.true

pub returns-then-s-bytes_for : goal.returns-then-s-bytes_for
returns-then-s-bytes_for c = rule-length _ _ (λ e. c.if-s-bytes_for.true (e ∙ sym c.bytes_for.ensures))

pub returns-then-used-eq0 : goal.returns-then-used-eq0
returns-then-used-eq0 c = rule-even _ _ c.if-bits-gt-MAX_BITS.false (c.if-s-bytes_for.false ∙ c.bytes_for.ensures) c.if-used-eq0.true

-- the power of two that the code divides by: it is not 0, and a remainder by it is one by the power
divisor : (bits : ℕ) → (bits % 8 ≡ 0 → ⊥) → (1 * 2 ^ (8 - bits % 8)) % 256 ≡ 2 ^ (8 - bits % 8)
divisor bits h = one_shl (8 - bits % 8) (omega arith)

divisor-some : (bits : ℕ) → (bits % 8 ≡ 0 → ⊥) → 0 < (1 * 2 ^ (8 - bits % 8)) % 256
divisor-some bits h = rw (divisor bits h) (pow_pos (8 - bits % 8))

divided : (bits b : ℕ) (r : Bool) → (bits % 8 ≡ 0 → ⊥) → eqb (b % 2 ^ (8 - bits % 8)) 0 ≡ r → eqb (b % ((1 * 2 ^ (8 - bits % 8)) % 256)) 0 ≡ r
divided bits b r h e = rw (divisor bits h) e

pub nonzero_rem-result : goal.nonzero_rem-result
nonzero_rem-result c = divisor-some c.args.bits c.if-used-eq0.false

pub returns : goal.returns
returns c = divided c.args.bits _ _ c.if-used-eq0.false
    (rule-odd _ _ c.if-bits-gt-MAX_BITS.false (c.if-s-bytes_for.false ∙ c.bytes_for.ensures) c.if-used-eq0.false)
