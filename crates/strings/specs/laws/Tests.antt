-- Laws of tests: what a Bool that came out true or false says.
use Rattle.std.specs.Prelude.{◌≡◌, refl, Bool, true, false, cond, ◌&&◌, ℕ}
use Rattle.std.proofs.Common.{sym, ap₂, ◌∙◌, arith}

pub true-false : true ≡ false → ⊥
true-false e = let z : ◌≡◌ {A = ℕ} 0 1 = cc in omega arith

pub and_left : (a b : Bool) → a && b ≡ true → a ≡ true
and_left true b e = refl
and_left false b e = e

pub and_right : (a b : Bool) → a && b ≡ true → b ≡ true
and_right true b e = e
and_right false b e = absurd (true-false (sym e))

pub both : (a b : Bool) → a && b ≡ true → (a ≡ true) × (b ≡ true)
both a b e = (and_left a b e, and_right a b e)

pub and-true : (a b : Bool) → a ≡ true → b ≡ true → a && b ≡ true
and-true a b e f = rw (e, f) refl

-- two tests taken together
pub test-is : {a b a' b' t u : Bool} → a ≡ a' → b ≡ b' → t ≡ (a && b) → t ≡ u → a' && b' ≡ u
test-is e f g k = ap₂ ◌&&◌ (sym e) (sym f) ∙ sym g ∙ k

-- to prove P of what a test chooses
pub by-test {ℓ κ} : {A : Type ℓ} (P : A → Type κ) (t : Bool) {a b : A} → (t ≡ true → P a) → (t ≡ false → P b) → P (cond t a b)
by-test P true f g = f refl
by-test P false f g = g refl
