-- Laws of powers of two: which numbers are powers, the next power from a number on, and ceil(log2(x)).
use Rattle.std.specs.Prelude.{◌≡◌, refl, Bool, true, false, cond, ℕ, zero, suc, ◌+◌, ◌*◌, ◌^◌, ◌≤◌, ◌<◌, eqb, leb}
use Rattle.std.proofs.Common.{sym, ap, ◌∙◌, subst, true≢false, pow-suc, arith, pow_mono, eq-eqb, eqb-true, leb-true, leb-false}
use Rattle.std.proofs.lemmas.Bool.{false≢true}
use Rattle.std.proofs.Math.Decide.{dec_lt, dec_le, ℕ_discrete}
use Rattle.codes.specs.Markers.{power_below, is_power, log_from, ceil_log2}

-- ---- powers of two
pow-above : (j : ℕ) → j < 2 ^ j
pow-above zero = omega arith
pow-above (suc j) = let h = pow-above j in let e = pow-suc 2 j in omega arith

below-is : (j k : ℕ) → power_below j k ≡ true → (i : ℕ) × (k ≡ 2 ^ i)
unfolding power_below
below-is zero k e = absurd (false≢true e)
below-is (suc j) k e = go (eqb k (2 ^ j)) refl (below-is j k) e
  where
    go : (t : Bool) → eqb k (2 ^ j) ≡ t → (power_below j k ≡ true → (i : ℕ) × (k ≡ 2 ^ i)) → cond t true (power_below j k) ≡ true → (i : ℕ) × (k ≡ 2 ^ i)
    go true f ih e = (j, eqb-true k (2 ^ j) f)
    go false f ih e = ih e

is_below : (j i : ℕ) → i < j → power_below j (2 ^ i) ≡ true
unfolding power_below
is_below zero i h = absurd (omega arith)
is_below (suc j) i h = go (ℕ_discrete i j) (is_below j i)
  where
    other : (t : Bool) → power_below j (2 ^ i) ≡ true → cond t true (power_below j (2 ^ i)) ≡ true
    other true h = refl
    other false h = h

    go : Dec (i ≡ j) → (i < j → power_below j (2 ^ i) ≡ true) → cond (eqb (2 ^ i) (2 ^ j)) true (power_below j (2 ^ i)) ≡ true
    go (yes e) ih = rw (eq-eqb (2 ^ i) (2 ^ j) (ap (λ (u : ℕ). 2 ^ u) e)) refl
    go (no e) ih = other (eqb (2 ^ i) (2 ^ j)) (ih (omega arith))

-- a power of two is one, and nothing else is
pub power-is : (k : ℕ) → is_power k ≡ true → (i : ℕ) × (k ≡ 2 ^ i)
unfolding is_power
power-is k e = below-is k k e

pub is-power : (i : ℕ) → is_power (2 ^ i) ≡ true
unfolding is_power
is-power i = is_below (2 ^ i) i (pow-above i)

pub power-one : is_power 1 ≡ true
power-one = is-power 0

pub power_pos : (p : ℕ) → is_power p ≡ true → 0 < p
power_pos p e = let w = power-is p e in let f = w.1 in let h = pow-above w.0 in omega arith

pub power-double : (p : ℕ) → is_power p ≡ true → is_power (2 * p) ≡ true
power-double p e =
    let w = power-is p e in
    subst (λ (x : ℕ). is_power x ≡ true) (pow-suc 2 w.0 ∙ (let f = w.1 in omega arith)) (is-power (suc w.0))

-- none stands between a power of two and its double
pub power-between : (p k : ℕ) → is_power p ≡ true → p < k → k < 2 * p → is_power k ≡ false
power-between p k e h g = go (is_power k) refl
  where
    go : (t : Bool) → is_power k ≡ t → is_power k ≡ false
    go false f = f
    go true f =
        let u = power-is p e in
        let v = power-is k f in
        let x = u.1 in
        let y = v.1 in
        clash u.0 v.0 x y (dec_le v.0 u.0)
      where
        clash : (i j : ℕ) → p ≡ 2 ^ i → k ≡ 2 ^ j → Dec (j ≤ i) → is_power k ≡ false
        clash i j x y (yes q) = let m : 2 ^ j ≤ 2 ^ i = pow_mono q in absurd (omega arith)
        clash i j x y (no q) = let m : 2 ^ suc i ≤ 2 ^ j = pow_mono (let w : suc i ≤ j = omega arith in w) in let z = pow-suc 2 i in absurd (omega arith)

-- ---- the next power of two, from place k on
pub record Next (k p : ℕ) : Type 0 where
  pub power : is_power p ≡ true
  pub least : k ≤ p
  pub between : (i : ℕ) → k ≤ i → i < p → is_power i ≡ false

pub next_one : Next 1 1
next_one = record { power = power-one; least = omega arith; between = λ i h g. absurd (omega arith) }

pub next_here : (k p : ℕ) → Next k p → is_power k ≡ true → k ≡ p
next_here k p x e = go (dec_lt k p)
  where
    go : Dec (k < p) → k ≡ p
    go (yes h) = absurd (true≢false (sym e ∙ x.between k (omega arith) h))
    go (no h) = let l = x.least in omega arith

pub next-after : (k : ℕ) → is_power k ≡ true → Next (suc k) (2 * k)
next-after k e =
    let h = power_pos k e in
    record { power = power-double k e; least = omega arith; between = λ i f g. power-between k i e (omega arith) g }

pub next-on : (k p : ℕ) → Next k p → is_power k ≡ false → Next (suc k) p
next-on k p x e = record { power = x.power; least = go (ℕ_discrete k p); between = λ i f g. x.between i (omega arith) g }
  where
    go : Dec (k ≡ p) → suc k ≤ p
    go (yes h) = absurd (true≢false (sym x.power ∙ ap is_power (sym h) ∙ e))
    go (no h) = let l = x.least in omega arith

-- ---- ceil(log2(x)) is the least t with x ≤ 2 ^ t
pub pow-past : (t u x : ℕ) → 2 ^ t < x → x ≤ 2 ^ u → t < u
pow-past t u x h g = go (dec_lt t u)
  where
    go : Dec (t < u) → t < u
    go (yes l) = l
    go (no l) = let m : 2 ^ u ≤ 2 ^ t = pow_mono (let w : u ≤ t = omega arith in w) in absurd (omega arith)

log-enough : (count t x u : ℕ) → t ≤ u → u < t + count → x ≤ 2 ^ u → x ≤ 2 ^ log_from count t x
unfolding log_from
log-enough zero t x u h g f = absurd (omega arith)
log-enough (suc count) t x u h g f = go (leb x (2 ^ t)) refl (log-enough count (suc t) x u)
  where
    go : (b : Bool) → leb x (2 ^ t) ≡ b → (suc t ≤ u → u < suc t + count → x ≤ 2 ^ u → x ≤ 2 ^ log_from count (suc t) x) → x ≤ 2 ^ cond b t (log_from count (suc t) x)
    go true e ih = leb-true x (2 ^ t) e
    go false e ih = let p = pow-past t u x (leb-false x (2 ^ t) e) f in ih (omega arith) (omega arith) f

log-least : (count t x u : ℕ) → t ≤ u → x ≤ 2 ^ u → log_from count t x ≤ u
unfolding log_from
log-least zero t x u h f = h
log-least (suc count) t x u h f = go (leb x (2 ^ t)) refl (log-least count (suc t) x u)
  where
    go : (b : Bool) → leb x (2 ^ t) ≡ b → (suc t ≤ u → x ≤ 2 ^ u → log_from count (suc t) x ≤ u) → cond b t (log_from count (suc t) x) ≤ u
    go true e ih = h
    go false e ih = let p = pow-past t u x (leb-false x (2 ^ t) e) f in ih (omega arith) f

pub ceil-log2-enough : (x : ℕ) → x ≤ 2 ^ ceil_log2 x
unfolding ceil_log2
ceil-log2-enough zero = omega arith
ceil-log2-enough (suc y) = let h = pow-above y in log-enough (suc y) 0 (suc y) y (omega arith) (omega arith) (omega arith)

pub ceil-log2-least : (x t : ℕ) → x ≤ 2 ^ t → ceil_log2 x ≤ t
unfolding ceil_log2
ceil-log2-least x t h = log-least x 0 x t (omega arith) h
