-- The place of an anchor is the one that 01 names.
use Rattle.std.specs.Prelude.{◌≡◌, refl, Bool, true, false, cond, List, ℕ, zero, suc, ◌+◌, ◌-◌, ◌≤◌, ◌<◌, length, leb}
use Rattle.std.proofs.Common.{sym, ap, ◌∙◌, le_refl, arith, leb-true, leb-false}
use Rattle.std.proofs.Math.Option.{Option, none, some}
use Rattle.std.proofs.Math.Decide.{ℕ_discrete}
use Rattle.ends.specs.Anchors.{Best, place_distance, fits, nearer, nearest, place, places}
use Rattle.strings.specs.laws.Tests.{true-false}

nearest-best : (f : ℕ → Bool) (d : ℕ → ℕ) (i n : ℕ) → Best f d i n (nearest f d (places i n))
nearest-best f d i zero = λ r a b e. absurd (omega arith)
nearest-best f d i (suc n) = go (f i) refl (nearest f d (places (suc i) n)) (nearest-best f d (suc i) n)
  where
    go : (t : Bool) → f i ≡ t → (o : Option ℕ) → Best f d (suc i) n o → Best f d i (suc n) (cond t (some (nearer d i o)) o)
    go true e none h = (le_refl i, omega arith, e, λ r a b q. first_stage r a b q (ℕ_discrete r i))
      where
        first_stage : (r : ℕ) → i ≤ r → r < i + suc n → f r ≡ true → Dec (r ≡ i) → (d i ≤ d r) × (d i ≡ d r → i ≤ r)
        first_stage r a b q (yes z) = (rw z (le_refl (d i)), λ w. a)
        first_stage r a b q (no z) = absurd (h r (omega arith) (omega arith) q)
    go true e (some c) h = pick (leb (d i) (d c)) refl
      where
        other : (r : ℕ) → i ≤ r → r < i + suc n → f r ≡ true → (r ≡ i → ⊥) → (d c ≤ d r) × (d c ≡ d r → c ≤ r)
        other r a b q z = h.3 r (omega arith) (omega arith) q

        pick : (t : Bool) → leb (d i) (d c) ≡ t → Best f d i (suc n) (some (cond t i c))
        pick true l = (le_refl i, omega arith, e, λ r a b q. near r a b q (ℕ_discrete r i))
          where
            near : (r : ℕ) → i ≤ r → r < i + suc n → f r ≡ true → Dec (r ≡ i) → (d i ≤ d r) × (d i ≡ d r → i ≤ r)
            near r a b q (yes z) = (rw z (le_refl (d i)), λ w. a)
            near r a b q (no z) = let o = (other r a b q z).0 in let k = leb-true (d i) (d c) l in (omega arith, λ w. a)
        pick false l = ((let k = h.0 in omega arith), (let k = h.1 in omega arith), h.2, λ r a b q. far r a b q (ℕ_discrete r i))
          where
            far : (r : ℕ) → i ≤ r → r < i + suc n → f r ≡ true → Dec (r ≡ i) → (d c ≤ d r) × (d c ≡ d r → c ≤ r)
            far r a b q (yes z) = let k = leb-false (d i) (d c) l in rw z (omega arith, λ w. absurd (omega arith))
            far r a b q (no z) = other r a b q z
    go false e none h = λ r a b q. late r a b q (ℕ_discrete r i)
      where
        late : (r : ℕ) → i ≤ r → r < i + suc n → f r ≡ true → Dec (r ≡ i) → ⊥
        late r a b q (yes z) = true-false (sym q ∙ ap f z ∙ e)
        late r a b q (no z) = h r (omega arith) (omega arith) q
    go false e (some c) h = ((let k = h.0 in omega arith), (let k = h.1 in omega arith), h.2, λ r a b q. late r a b q (ℕ_discrete r i))
      where
        late : (r : ℕ) → i ≤ r → r < i + suc n → f r ≡ true → Dec (r ≡ i) → (d c ≤ d r) × (d c ≡ d r → c ≤ r)
        late r a b q (yes z) = absurd (true-false (sym q ∙ ap f z ∙ e))
        late r a b q (no z) = h.3 r (omega arith) (omega arith) q

-- of all places 0 to q - m
pub place-best : (m k p s : ℕ) (ys b : List Bool) → Best (fits m k p s ys b) (place_distance p (length ys) s) 0 (length ys + 1 - m) (place m k p s ys b)
unfolding place
place-best m k p s ys b = nearest-best (fits m k p s ys b) (place_distance p (length ys) s) 0 (length ys + 1 - m)
