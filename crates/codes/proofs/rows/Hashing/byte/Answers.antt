use mathlib.Core.Path.{refl, ap}
use mathlib.Core.List.{[], ◌∷◌, ◌++◌}
use Prim.Native.Nat.{ℕ, zero, suc, ◌+◌, ◌-◌, ◌/◌, ◌%◌, ◌^◌, ◌<◌}
use native.Mathlib.Omega.{arith}
use Rattle.std.specs.Prelude.{◌≡◌, take, eqb}
use Rattle.strings.specs.Bits.{byte_bits}
use Rattle.codes.specs.laws.HashLaws.{went_none, went_on, went-as}
use Rattle.codes.proofs.rows.Hashing.byte.Goals as goal

-- the first k + 1 bits of a byte
first_bits : (v k : ℕ) → k < 8 → take k (byte_bits v) ++ (eqb (v / 2 ^ (7 - k) % 2) 1 ∷ []) ≡ take (k + 1) (byte_bits v)
first_bits v zero h = refl
first_bits v (suc zero) h = refl
first_bits v (suc (suc zero)) h = refl
first_bits v (suc (suc (suc zero))) h = refl
first_bits v (suc (suc (suc (suc zero)))) h = refl
first_bits v (suc (suc (suc (suc (suc zero))))) h = refl
first_bits v (suc (suc (suc (suc (suc (suc zero)))))) h = refl
first_bits v (suc (suc (suc (suc (suc (suc (suc zero))))))) h = refl
first_bits v (suc (suc (suc (suc (suc (suc (suc (suc k)))))))) h = absurd (omega arith)

pub loop-k-init : goal.loop-k-init
loop-k-init c = went_none c.args.self.sum c.args.self.row

pub loop-k-preserved : goal.loop-k-preserved
loop-k-preserved c = let loop = c.loop-k in
    let self = c.args.self in
    went-as self.sum self.row _ _ _ _ (first_bits c.args.v loop.k c.loop-k-test.true) (went_on self.sum self.row _ _ _ _ _ _ loop.invariant c.bit-all.ensures)

pub returns : goal.returns
returns c = let loop = c.loop-k in
    let self = c.args.self in
    let e : loop.k ≡ 8 = omega arith in
    went-as self.sum self.row _ _ _ _ (ap (λ (n : ℕ). take n (byte_bits c.args.v)) e) loop.invariant
