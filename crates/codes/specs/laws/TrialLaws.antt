-- Laws of trials, for the layers above: the candidate that counts, and what a trial's answer tells. RepairLaws has what the candidate of a repair is
-- (repair-put-in, repair-take-out, repair-length).
use Rattle.std.proofs.Math.Path.{◌≡◌, refl, ap}
use Rattle.std.proofs.Common.{sym, ◌∙◌, arith}
use Rattle.std.specs.Prelude.{Bool, List, ℕ}
use Rattle.std.proofs.Math.Bool.{true, false, cond}
use Rattle.std.proofs.Math.Option.{Option, none, some}
use Rattle.std.proofs.Math.Dec.{eqb}
use borrow.Author.Tests.{eq-eqb, ne_eqb, eqb-true}
use Rattle.strings.specs.Bits.{write_bits}
use Rattle.strings.specs.laws.Tests.{true-false}
use Rattle.codes.specs.Hash.{hash}
use Rattle.codes.specs.Trials.{agreeing, Tried, tried_at}

module _ (h key v : ℕ) where
  pub agreeing-none : agreeing h key v none ≡ none
  unfolding agreeing
  agreeing-none = refl

  pub agreeing-some : (x : List Bool) → hash h key x ≡ v → agreeing h key v (some x) ≡ some x
  unfolding agreeing
  agreeing-some x e = rw (eq-eqb (hash h key x) v e) refl

  pub agreeing-other : (x : List Bool) → (hash h key x ≡ v → ⊥) → agreeing h key v (some x) ≡ none
  unfolding agreeing
  agreeing-other x n = rw (ne_eqb (hash h key x) v n) refl

  -- a candidate that counts is the one tried, and has the hash; where none counts, the one tried has another hash
  pub agreed-some : (o : Option (List Bool)) (x : List Bool) → agreeing h key v o ≡ some x → (o ≡ some x) × (hash h key x ≡ v)
  unfolding agreeing
  agreed-some none x e = let z : ◌≡◌ {A = ℕ} 0 1 = cc in absurd (omega arith)
  agreed-some (some y) x e = go (eqb (hash h key y) v) refl e
    where
      go : (t : Bool) → eqb (hash h key y) v ≡ t → cond t (some y) none ≡ some x → (some y ≡ some x) × (hash h key x ≡ v)
      go true f e = let z : y ≡ x = cc in (e, ap (hash h key) (sym z) ∙ eqb-true (hash h key y) v f)
      go false f e = let z : ◌≡◌ {A = ℕ} 0 1 = cc in absurd (omega arith)

  pub agreed-none : (x : List Bool) → agreeing h key v (some x) ≡ none → hash h key x ≡ v → ⊥
  agreed-none x e f = let s = agreeing-some x f in let z : ◌≡◌ {A = ℕ} 0 1 = cc in omega arith

-- what the answer of a trial says of the candidate o that counts and of the buffer t, which is t' after it
module _ (t t' : List ℕ) (at : ℕ) where
  pub tried-settled : (o : Option (List Bool)) (r : Bool) → record { settled = r; buffer = t' } ≡ tried_at t at o → r ≡ true
      → (x : List Bool) × (o ≡ some x) × (t' ≡ write_bits t at x)
  tried-settled none r e f = absurd (true-false (sym f ∙ ap (λ (z : Tried). z.settled) e))
  tried-settled (some x) r e f = (x, refl, ap (λ (z : Tried). z.buffer) e)

  pub tried-left : (o : Option (List Bool)) (r : Bool) → record { settled = r; buffer = t' } ≡ tried_at t at o → r ≡ false → (o ≡ none) × (t' ≡ t)
  tried-left none r e f = (refl, ap (λ (z : Tried). z.buffer) e)
  tried-left (some x) r e f = absurd (true-false (sym (ap (λ (z : Tried). z.settled) e) ∙ f))

-- ---- what the code's trials answer, for a candidate x and its hash g
module _ (h key v : ℕ) (x : List Bool) (g : ℕ) (e : g ≡ hash h key x) (t : List ℕ) (at : ℕ) where
  pub trial-settles : (t' : List ℕ) → g ≡ v → t' ≡ write_bits t at x → record { settled = true; buffer = t' } ≡ tried_at t at (agreeing h key v (some x))
  trial-settles t' f w = rw (w, agreeing-some h key v x (sym e ∙ f)) refl

  pub trial-leaves : (g ≡ v → ⊥) → record { settled = false; buffer = t } ≡ tried_at t at (agreeing h key v (some x))
  trial-leaves n = rw (agreeing-other h key v x (λ f. n (e ∙ f))) refl
