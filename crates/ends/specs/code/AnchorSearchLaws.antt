-- Laws of the anchor search.
use Rattle.std.specs.Prelude.{◌≡◌, Bool, true, false, cond, not, List, ℕ, zero, suc, ◌+◌, ◌-◌, ◌*◌, ◌≤◌, ◌<◌, get_or, length, Option as Found, Some, None, Ok}
use Rattle.std.proofs.Math.Path.{refl, ap₂}
use Rattle.std.proofs.Common.{subst, sym, ap, ◌∙◌, le_refl, mul-le-mul, mul-add, add-mul, one-mul, mul-one, below_more}
use Rattle.std.proofs.Math.Bool.{◌&&◌}
use Rattle.std.specs.Bool.{beq}
use Rattle.std.proofs.Math.Option.{Option, none, some}
use Rattle.std.proofs.Math.Decide.{ℕ_discrete, dec_lt, dec_le}
use native.Mathlib.Omega.{arith}
use Rattle.std.proofs.Math.Dec.{leb}
use borrow.Author.Tests.{leb-true, leb-false, le-leb, lt-leb}
use Rattle.strings.specs.Bits.{range, bit_at, same_bits, max_bits, Part}
use Rattle.strings.specs.StringRule.{string_rule}
use Rattle.strings.specs.SettingLimits.{anchor_limits, factor_limits}
use Rattle.strings.proofs.laws.RuleLaws.{rule-is}
use Rattle.strings.proofs.laws.RangeLaws.{range_length, range_at, range-equal, range-part, same_refl, same-is}
use Rattle.strings.specs.laws.Tests.{true-false, and_left, and_right}
use Rattle.strings.specs.Results.{Result, refusal, value}
use Rattle.strings.specs.Refusals.{refusal_number}
use Rattle.codes.specs.laws.EntryLaws.{whole_part}
use Rattle.strings.specs.declared.Refusal.TheVariants.{BadSetting, BadString, OutOfRange}
use Rattle.strings.specs.laws.ResultLaws.{by-unless}
use Rattle.ends.specs.Anchors.{isqrt, distance, place_distance, part, fits, Best, place}
use Rattle.ends.specs.laws.AnchorLaws.{place-best}
use Rattle.ends.specs.AnchorSearch.{place_in, anchor_settings, anchor_range, said_anchor, anchor_search}
use Rattle.ends.specs.code.Window.{SearchBounds, Searching, window_start, window_end}

-- ---- the square root: r is the root of n
abbrev pub Root : ℕ → ℕ → Type 0
Root n r = (r * r ≤ n) × (n < (r + 1) * (r + 1))

square-next : (r : ℕ) → (r + 1 + 1) * (r + 1 + 1) ≡ (r + 1) * (r + 1) + (r + r + 3)
square-next r = simp (mul-add, add-mul, one-mul, mul-one) (omega arith)

pub isqrt-root : (n : ℕ) → Root n (isqrt n)
unfolding isqrt
isqrt-root zero = (omega arith, omega arith)
isqrt-root (suc n) = go (leb ((isqrt n + 1) * (isqrt n + 1)) (suc n)) refl (isqrt-root n)
  where
    go : (t : Bool) → leb ((isqrt n + 1) * (isqrt n + 1)) (suc n) ≡ t → Root n (isqrt n) → Root (suc n) (cond t (isqrt n + 1) (isqrt n))
    go true e i =
        let l = leb-true ((isqrt n + 1) * (isqrt n + 1)) (suc n) e in
        let h = i.1 in
        let k = square-next (isqrt n) in
        (l, omega arith)
    go false e i =
        let l = leb-false ((isqrt n + 1) * (isqrt n + 1)) (suc n) e in
        let h = i.0 in
        (omega arith, omega arith)

-- there is no other
pub root_is : (n r : ℕ) → Root n r → r ≡ isqrt n
root_is n r i = go (dec_lt r (isqrt n)) (dec_lt (isqrt n) r)
  where
    go : Dec (r < isqrt n) → Dec (isqrt n < r) → r ≡ isqrt n
    go (yes l) d =
        let a = i.1 in
        let h = (isqrt-root n).0 in
        let m : (r + 1) * (r + 1) ≤ isqrt n * isqrt n = mul-le-mul (omega arith) (omega arith) in
        absurd (omega arith)
    go (no l) (yes k) =
        let a = i.0 in
        let h = (isqrt-root n).1 in
        let m : (isqrt n + 1) * (isqrt n + 1) ≤ r * r = mul-le-mul (omega arith) (omega arith) in
        absurd (omega arith)
    go (no l) (no k) = omega arith

pub square-grows : (n : ℕ) → n ≤ n * n
square-grows zero = omega arith
square-grows (suc n) =
    let h : suc n * 1 ≤ suc n * suc n = mul-le-mul {n₁ = suc n} {m₁ = 1} {n₂ = suc n} {m₂ = suc n} (le_refl (suc n)) (omega arith) in
    omega arith

pub isqrt-le : (n : ℕ) → isqrt n ≤ n
isqrt-le n =
    let h = (isqrt-root n).0 in
    let g = square-grows (isqrt n) in
    omega arith

pub square-fits : (n : ℕ) → n ≤ 65537 → n * n ≤ 4295098369
square-fits n h = mul-le-mul {n₁ = n} {m₁ = n} {n₂ = 65537} {m₂ = 65537} h h

pub reach-fits : (k r : ℕ) → k ≤ 8 → r ≤ max_bits → 2 * k * r ≤ 1048576
reach-fits k r h l = mul-le-mul {n₁ = 2 * k} {m₁ = r} {n₂ = 16} {m₂ = max_bits} (omega arith) l

-- how far an anchor may stand from its due place: the root of std is the root
pub reach_is : (q k r : ℕ) → r * r ≤ q → q < (r + 1) * (r + 1) → 2 * k * r ≡ 2 * k * isqrt q
reach_is q k r l h = ap (λ (n : ℕ). 2 * k * n) (root_is q r (l, h))

-- ---- the search over any test f and distance d. `least` is one more than any distance that is still of use
abbrev pub found : Found ℕ → Option ℕ
found None = none
found (Some r) = some r

abbrev pub least_of : (ℕ → ℕ) → ℕ → Found ℕ → ℕ
least_of d reach None = reach + 1
least_of d reach (Some b) = d b

-- `best` is the choice among the places below r
pub record Chosen (f : ℕ → Bool) (d : ℕ → ℕ) (reach r least : ℕ) (best : Found ℕ) : Type 0 where
  pub choice : Best f d 0 r (found best)
  pub least-is : least ≡ least_of d reach best

module _ (f : ℕ → Bool) (d : ℕ → ℕ) (reach : ℕ) (near : (k : ℕ) → f k ≡ true → d k ≤ reach) where
  -- all places in front are too far
  chosen_none : (r : ℕ) → ((k : ℕ) → k < r → reach < d k) → Chosen f d reach r (reach + 1) None
  chosen_none r far = record {
    choice = λ k a h e. let l = far k (omega arith) in let n = near k e in absurd (omega arith);
    least-is = refl;
  }

  chosen-most : (r least : ℕ) (best : Found ℕ) → Chosen f d reach r least best → least ≤ reach + 1
  chosen-most r least None s = let e = s.least-is in omega arith
  chosen-most r least (Some b) s = let e = s.least-is in let n = near b s.choice.2 in omega arith

  chosen-least : (r least : ℕ) (best : Found ℕ) → Chosen f d reach r least best → (k : ℕ) → k < r → f k ≡ true → least ≤ d k
  chosen-least r least None s k h e = absurd (s.choice k (omega arith) (omega arith) e)
  chosen-least r least (Some b) s k h e = let l = s.least-is in let c = (s.choice.3 k (omega arith) (omega arith) e).0 in omega arith

  -- none of the places from r to n - 1 is nearer
  chosen_to : (r n least : ℕ) (best : Found ℕ) → r ≤ n → ((k : ℕ) → r ≤ k → k < n → f k ≡ true → least ≤ d k) → Chosen f d reach r least best → Chosen f d reach n least best
  chosen_to r n least best few far s = record { choice = go best s.choice s.least-is; least-is = s.least-is }
    where
      go : (b : Found ℕ) → Best f d 0 r (found b) → least ≡ least_of d reach b → Best f d 0 n (found b)
      go None c e = λ k a h t. elim (dec_lt k r) [
        | yes l ↦ c k a (omega arith) t
        | no l ↦ let u = far k (omega arith) (omega arith) t in let n = near k t in absurd (omega arith)
      ]
      go (Some b) c e = (
        c.0,
        (let b1 = c.1 in omega arith),
        c.2,
        λ k a h t. elim (dec_lt k r) [
          | yes l ↦ c.3 k a (omega arith) t
          | no l ↦ let u = far k (omega arith) (omega arith) t in let b1 = c.1 in (omega arith, λ w. omega arith)
        ],
      )

  chosen-best : (r least : ℕ) (best : Found ℕ) → f r ≡ true → d r < least → Chosen f d reach r least best → Chosen f d reach (r + 1) (d r) (Some r)
  chosen-best r least best e l s = record { choice = (omega arith, omega arith, e, λ k a h i. go k (omega arith) i (ℕ_discrete k r)); least-is = refl }
    where
      go : (k : ℕ) → k < r + 1 → f k ≡ true → Dec (k ≡ r) → (d r ≤ d k) × (d r ≡ d k → r ≤ k)
      go k h i (yes z) = rw z (le_refl (d r), λ w. le_refl r)
      go k h i (no z) = let a = chosen-least r least best s k (omega arith) i in (omega arith, λ w. absurd (omega arith))

  -- there is one choice among all places
  chosen_is : (n least : ℕ) (best : Found ℕ) → Chosen f d reach n least best → (o : Option ℕ) → Best f d 0 n o → best ≡ place_in o
  chosen_is n least None s none b = refl
  chosen_is n least None s (some c) b = absurd (s.choice c b.0 b.1 b.2)
  chosen_is n least (Some c) s none b = absurd (b c s.choice.0 s.choice.1 s.choice.2)
  chosen_is n least (Some c) s (some e) b =
      let x = s.choice.3 e b.0 b.1 b.2 in
      let z = b.3 c s.choice.0 s.choice.1 s.choice.2 in
      let x0 = x.0 in
      let z0 = z.0 in
      let x1 = x.1 (omega arith) in
      let z1 = z.1 (omega arith) in
      ap Some (omega arith)

-- ---- the same search with a number for the best place: after the places below r the least distance is that of the best place; with none yet it is one more than the reach
pub record Seen (f : ℕ → Bool) (d : ℕ → ℕ) (reach r least best : ℕ) : Type 0 where
  pub bound : least ≤ reach + 1
  pub hit : least ≤ reach → (best < r) × (f best ≡ true) × (d best ≡ least)
  pub rest : (k : ℕ) → k < r → f k ≡ true → (least ≤ d k) × (least ≡ d k → best ≤ k)

module _ (f : ℕ → Bool) (d : ℕ → ℕ) (reach : ℕ) where
  -- all places in front are too far
  seen_none : (r : ℕ) → ((k : ℕ) → k < r → reach < d k) → Seen f d reach r (reach + 1) 0
  seen_none r far = record {
    bound = le_refl (reach + 1);
    hit = λ h. absurd (omega arith);
    rest = λ k h e. let l = far k h in (omega arith, λ i. omega arith);
  }

  -- one place more, which leaves least and best as they are
  seen-on : (r least best : ℕ) → (f r ≡ true → (least ≤ d r) × (least ≡ d r → best ≤ r)) → Seen f d reach r least best → Seen f d reach (r + 1) least best
  seen-on r least best l s = record {
    bound = s.bound;
    hit = λ h. let a = s.hit h in ((let a0 = a.0 in omega arith), a.1, a.2);
    rest = λ k h e. go k h e (ℕ_discrete k r);
  }
    where
      go : (k : ℕ) → k < r + 1 → f k ≡ true → Dec (k ≡ r) → (least ≤ d k) × (least ≡ d k → best ≤ k)
      go k h e (yes z) = rw z (l (sym (ap f z) ∙ e))
      go k h e (no z) = s.rest k (omega arith) e

  seen-best : (r least best : ℕ) → f r ≡ true → d r < least → Seen f d reach r least best → Seen f d reach (r + 1) (d r) r
  seen-best r least best e l s = record {
    bound = (let b = s.bound in omega arith);
    hit = λ h. (omega arith, e, refl);
    rest = λ k h i. go k h i (ℕ_discrete k r);
  }
    where
      go : (k : ℕ) → k < r + 1 → f k ≡ true → Dec (k ≡ r) → (d r ≤ d k) × (d r ≡ d k → r ≤ k)
      go k h i (yes z) = rw z (le_refl (d r), λ w. le_refl r)
      go k h i (no z) = let a = (s.rest k (omega arith) i).0 in (omega arith, λ w. absurd (omega arith))

  -- no place from r to n - 1 is nearer, and none as near stands in front of the best
  seen_end : (r n least best : ℕ) → r ≤ n → ((k : ℕ) → r ≤ k → k < n → f k ≡ true → (least ≤ d k) × (least ≡ d k → best ≤ k)) → Seen f d reach r least best → Seen f d reach n least best
  seen_end r n least best l far s = record {
    bound = s.bound;
    hit = λ h. let a = s.hit h in ((let a0 = a.0 in omega arith), a.1, a.2);
    rest = λ k h e. go k h e (dec_lt k r);
  }
    where
      go : (k : ℕ) → k < n → f k ≡ true → Dec (k < r) → (least ≤ d k) × (least ≡ d k → best ≤ k)
      go k h e (yes z) = s.rest k z e
      go k h e (no z) = far k (omega arith) h e

  module _ (near : (k : ℕ) → f k ≡ true → d k ≤ reach) where
    -- what was seen of all places is what is best of them
    seen_at : (n least best : ℕ) → Seen f d reach n least best → least ≤ reach → (o : Option ℕ) → Best f d 0 n o → o ≡ some best
    seen_at n least best s l none b = absurd (b best (omega arith) (let a = (s.hit l).0 in omega arith) (s.hit l).1)
    seen_at n least best s l (some c) b =
        let a = s.hit l in
        let a0 = a.0 in
        let a2 = a.2 in
        let c1 = b.1 in
        let x = s.rest c (omega arith) b.2 in
        let z = b.3 best (omega arith) (omega arith) a.1 in
        let x0 = x.0 in
        let z0 = z.0 in
        let x1 = x.1 (omega arith) in
        let z1 = z.1 (omega arith) in
        ap some (omega arith)

    seen-nowhere : (n least best : ℕ) → Seen f d reach n least best → reach < least → (o : Option ℕ) → Best f d 0 n o → o ≡ none
    seen-nowhere n least best s l none b = refl
    seen-nowhere n least best s l (some c) b =
        let c1 = b.1 in
        let x = (s.rest c (omega arith) b.2).0 in
        let z = near c b.2 in
        absurd (omega arith)

-- ---- the window: places in front of it and behind it are too far
module _ (q m p s : ℕ) where
  pub end-most : (least : ℕ) → window_end q m p (2 * s + q) least ≤ q + 1 - m
  unfolding window_end
  end-most least = omega arith

  end-far : (least k : ℕ) → window_end q m p (2 * s + q) least ≤ k → k < q + 1 - m → 2 * s + q + least ≤ 2 * k + p
  unfolding window_end
  end-far least k h l = omega arith

  -- a place in the window, and not too far to the left, is nearer
  pub end-near : (least k d : ℕ) → k < window_end q m p (2 * s + q) least → 2 * s + q < 2 * k + p + least → d ≡ distance (2 * k + p) (2 * s + q) → d < least
  unfolding window_end
  end-near least k d h l e = omega arith

  -- a nearer place leaves no more of the window
  pub end-less : (least d : ℕ) → d < least → window_end q m p (2 * s + q) d ≤ window_end q m p (2 * s + q) least
  unfolding window_end
  end-less least d h = omega arith

module _ (q p s reach : ℕ) where
  pub start-most : (end : ℕ) → window_start p (2 * s + q) reach end ≤ end
  unfolding window_start
  start-most end = omega arith

  pub start-near : (end : ℕ) → window_start p (2 * s + q) reach end < end → 2 * s + q < 2 * window_start p (2 * s + q) reach end + p + (reach + 1)
  unfolding window_start
  start-near end h = omega arith

  start-far : (end k : ℕ) → k < window_start p (2 * s + q) reach end → reach < place_distance p q s k
  unfolding window_start
  start-far end k h = omega arith

-- ---- comparing a place: the first j bits of the anchor stand at place r
abbrev pub Alike : (y : List ℕ) (start : ℕ) (a : List ℕ) (at r j : ℕ) → Type 0
Alike y start a at r j = (i : ℕ) → i < j → bit_at y (start + (r + i)) ≡ bit_at a (at + i)

-- what a test of two bits shows
bits-differ : (x z : Bool) → not (beq x z) ≡ true → x ≡ z → ⊥
bits-differ true true t h = true-false (sym t)
bits-differ true false t h = true-false h
bits-differ false true t h = true-false (sym h)
bits-differ false false t h = true-false (sym t)

bits-agree : (x z : Bool) → not (beq x z) ≡ false → x ≡ z
bits-agree true true t = refl
bits-agree true false t = absurd (true-false t)
bits-agree false true t = absurd (true-false t)
bits-agree false false t = refl

module _ (y : List ℕ) (start : ℕ) (a : List ℕ) (at r : ℕ) where
  pub alike-none : Alike y start a at r 0
  alike-none i h = absurd (omega arith)

  pub alike_next : (j : ℕ) (x z : Bool) → x ≡ bit_at y (start + (r + j)) → z ≡ bit_at a (at + j) → not (beq x z) ≡ false → Alike y start a at r j → Alike y start a at r (j + 1)
  alike_next j x z e f t h = below_more _ j h (sym e ∙ bits-agree x z t ∙ f)

  module _ (q m : ℕ) (within : r + m ≤ q) where
    pub alike_same : Alike y start a at r m → same_bits (part (range y start q) r m) (range a at m) ≡ true
    alike_same h =
        ap (λ (l : List Bool). same_bits l (range a at m)) (range-part y start q r m within ∙ range-equal y a (start + r) at m (λ j l. ap (bit_at y) (omega arith) ∙ h j l))
        ∙ same_refl (range a at m)

    unlike-same : (j : ℕ) → j < m → (bit_at y (start + (r + j)) ≡ bit_at a (at + j) → ⊥) → same_bits (part (range y start q) r m) (range a at m) ≡ false
    unlike-same j l ne = go (same_bits (part (range y start q) r m) (range a at m)) refl
      where
        go : (t : Bool) → same_bits (part (range y start q) r m) (range a at m) ≡ t → t ≡ false
        go true e =
            let z = sym (range-part y start q r m within) ∙ same-is (part (range y start q) r m) (range a at m) e in
            absurd (ne (ap (bit_at y) (omega arith) ∙ sym (range_at y (start + r) m j l) ∙ ap (λ (x : List Bool). get_or x j false) z ∙ range_at a at m j l))
        go false e = refl

    pub unlike-bits : (j : ℕ) (x z : Bool) → j < m → x ≡ bit_at y (start + (r + j)) → z ≡ bit_at a (at + j) → not (beq x z) ≡ true → same_bits (part (range y start q) r m) (range a at m) ≡ false
    unlike-bits j x z l e f t = unlike-same j l (λ i. bits-differ x z t (e ∙ i ∙ sym f))

-- ---- the search of place_anchor for the anchor b of m bits in the copy ys of q bits: it has looked at the places below r
abbrev pub ChosenBelow : (ys b : List Bool) (q m k p s r least : ℕ) (best : Found ℕ) → Type 0
ChosenBelow ys b q m k p s r least best = Chosen (fits m k p s ys b) (place_distance p q s) (2 * k * isqrt q) r least best

module _ (ys b : List Bool) (q m k p s : ℕ) (len : length ys ≡ q) where
  choice-near : (r : ℕ) → fits m k p s ys b r ≡ true → place_distance p q s r ≤ 2 * k * isqrt q
  choice-near r e = leb-true (place_distance p q s r) (2 * k * isqrt q) (and_right (same_bits (part ys r m) b) (leb (place_distance p q s r) (2 * k * isqrt q)) (rw len at e))

  choice_fits : (r : ℕ) → same_bits (part ys r m) b ≡ true → place_distance p q s r ≤ 2 * k * isqrt q → fits m k p s ys b r ≡ true
  choice_fits r e l = rw (e, len) (le-leb (place_distance p q s r) (2 * k * isqrt q) l)

  pub choice-start : (end : ℕ) → ChosenBelow ys b q m k p s (window_start p (2 * s + q) (2 * k * isqrt q) end) (2 * k * isqrt q + 1) None
  choice-start end = chosen_none _ _ _ choice-near (window_start p (2 * s + q) (2 * k * isqrt q) end) (start-far q p s (2 * k * isqrt q) end)

  choice_is : Best (fits m k p s ys b) (place_distance p q s) 0 (q + 1 - m) (place m k p s ys b)
  choice_is = subst (λ (n : ℕ). Best (fits m k p s ys b) (place_distance p n s) 0 (n + 1 - m) (place m k p s ys b)) len (place-best m k p s ys b)

  module _ (r least : ℕ) (best : Found ℕ) (h : ChosenBelow ys b q m k p s r least best) where
    pub choice-bound : least ≤ 2 * k * isqrt q + 1
    choice-bound = chosen-most _ _ _ choice-near r least best h

    -- a place whose bits differ, and one that is the best so far
    pub choice-differs : same_bits (part ys r m) b ≡ false → ChosenBelow ys b q m k p s (r + 1) least best
    choice-differs u = chosen_to _ _ _ choice-near r (r + 1) least best (omega arith) (λ i g l t. let z : i ≡ r = omega arith in absurd (true-false (sym (and_left _ _ t) ∙ ap (λ (j : ℕ). same_bits (part ys j m) b) z ∙ u))) h

    pub choice-agrees : (d : ℕ) → d ≡ distance (2 * r + p) (2 * s + q) → d < least → same_bits (part ys r m) b ≡ true → ChosenBelow ys b q m k p s (r + 1) d (Some r)
    choice-agrees d e l f = rw e (chosen-best _ _ _ choice-near r least best (choice_fits r f (let g = choice-bound in omega arith)) (rw (← e) l) h)

    -- at the window's end
    pub choice-end : r ≤ q + 1 - m → window_end q m p (2 * s + q) least ≤ r → best ≡ place_in (place m k p s ys b)
    choice-end few done =
        chosen_is _ _ _ choice-near (q + 1 - m) least best
        (chosen_to _ _ _ choice-near r (q + 1 - m) least best few (λ i g l t. let f = end-far q m p s least i (omega arith) l in omega arith) h)
        (place m k p s ys b) choice_is

-- ---- the same search by the bytes that hold the bits: it has looked at the places below r
abbrev pub Searched : (y : List ℕ) (start q p s m k : ℕ) (a : List ℕ) (at r least best : ℕ) → Type 0
Searched y start q p s m k a at r least best = Seen (fits m k p s (range y start q) (range a at m)) (place_distance p q s) (2 * k * isqrt q) r least best

module _ (y : List ℕ) (start q p s m k : ℕ) (a : List ℕ) (at : ℕ) where
  fits-near : (r : ℕ) → fits m k p s (range y start q) (range a at m) r ≡ true → place_distance p q s r ≤ 2 * k * isqrt q
  fits-near r e =
      leb-true (place_distance p q s r) (2 * k * isqrt q) (and_right (same_bits (part (range y start q) r m) (range a at m)) (leb (place_distance p q s r) (2 * k * isqrt q)) (rw (range_length y start q) at e))

  near_fits : (r : ℕ) → same_bits (part (range y start q) r m) (range a at m) ≡ true → place_distance p q s r ≤ 2 * k * isqrt q → fits m k p s (range y start q) (range a at m) r ≡ true
  near_fits r e l = rw (e, range_length y start q) (le-leb (place_distance p q s r) (2 * k * isqrt q) l)

  pub search-start : (end : ℕ) → Searched y start q p s m k a at (window_start p (2 * s + q) (2 * k * isqrt q) end) (2 * k * isqrt q + 1) 0
  search-start end = seen_none _ _ _ (window_start p (2 * s + q) (2 * k * isqrt q) end) (start-far q p s (2 * k * isqrt q) end)

  -- a place whose bits differ, and one that is the best so far
  module _ (r least best : ℕ) (h : Searched y start q p s m k a at r least best) where
    module _ (within : r + m ≤ q) where
      pub search-differs : (j : ℕ) (x z : Bool) → j < m → x ≡ bit_at y (start + (r + j)) → z ≡ bit_at a (at + j) → not (beq x z) ≡ true → Searched y start q p s m k a at (r + 1) least best
      search-differs j x z l e f t =
          let u = unlike-same y start a at r q m within j l (λ i. bits-differ x z t (e ∙ i ∙ sym f)) in
          seen-on _ _ _ r least best (λ i. absurd (true-false (sym (and_left _ _ i) ∙ u))) h

      pub search-agrees : (d : ℕ) → d ≡ distance (2 * r + p) (2 * s + q) → d < least → Alike y start a at r m → Searched y start q p s m k a at (r + 1) d r
      search-agrees d e l f =
          rw e (seen-best _ _ _ r least best (near_fits r (alike_same y start a at r q m within f) (let g = h.bound in omega arith)) (rw (← e) l) h)

  -- at the window's end
  best_of : Best (fits m k p s (range y start q) (range a at m)) (place_distance p q s) 0 (q + 1 - m) (place m k p s (range y start q) (range a at m))
  best_of =
      subst (λ (n : ℕ). Best (fits m k p s (range y start q) (range a at m)) (place_distance p n s) 0 (n + 1 - m) (place m k p s (range y start q) (range a at m))) (range_length y start q)
      (place-best m k p s (range y start q) (range a at m))

  module _ (r least best : ℕ) (h : Searched y start q p s m k a at r least best) (few : r ≤ q + 1 - m) (done : window_end q m p (2 * s + q) least ≤ r) where
    search-end : Searched y start q p s m k a at (q + 1 - m) least best
    search-end = seen_end _ _ _ r (q + 1 - m) least best few passed h
      where
        passed : (i : ℕ) → r ≤ i → i < q + 1 - m → fits m k p s (range y start q) (range a at m) i ≡ true → (least ≤ place_distance p q s i) × (least ≡ place_distance p q s i → best ≤ i)
        passed i g l t =
            let f = end-far q m p s least i (omega arith) l in
            let n = fits-near i t in
            (omega arith, λ e. let b = (h.hit (omega arith)).2 in omega arith)

    pub search-at : least ≤ 2 * k * isqrt q → Some best ≡ place_in (place m k p s (range y start q) (range a at m))
    search-at l = sym (ap place_in (seen_at _ _ _ fits-near (q + 1 - m) least best search-end l (place m k p s (range y start q) (range a at m)) best_of))

    pub search-nowhere : 2 * k * isqrt q < least → None ≡ place_in (place m k p s (range y start q) (range a at m))
    search-nowhere l = sym (ap place_in (seen-nowhere _ _ _ fits-near (q + 1 - m) least best search-end l (place m k p s (range y start q) (range a at m)) best_of))

-- ---- the host's call: its tests
module _ (start len end : ℕ) where
  pub ends-late : end < len → false ≡ leb (start + len) end
  ends-late h = sym (lt-leb (start + len) end (omega arith))

  pub ends-by-rest : len ≤ end → leb start (end - len) ≡ leb (start + len) end
  ends-by-rest h = go (dec_le start (end - len))
    where
      go : Dec (start ≤ end - len) → leb start (end - len) ≡ leb (start + len) end
      go (yes l) = le-leb start (end - len) l ∙ sym (le-leb (start + len) end (omega arith))
      go (no l) = lt-leb start (end - len) (omega arith) ∙ sym (lt-leb (start + len) end (omega arith))

module _ (m k : ℕ) where
  pub anchor-settings-are : (a b r : Bool) → a ≡ anchor_limits m → b ≡ factor_limits k → r ≡ (a && b) → r ≡ anchor_settings m k
  unfolding anchor_settings
  anchor-settings-are a b r e f g = g ∙ ap₂ ◌&&◌ e f

module _ (bits start q p s m : ℕ) (piece : Bool) (e : piece ≡ leb (start + q) bits) where
  pub range-piece : piece ≡ false → false ≡ anchor_range bits start q p s m
  unfolding anchor_range
  range-piece f = rw (← e, f) refl

  module _ (f : piece ≡ true) where
    pub range-length-high : max_bits < p → false ≡ anchor_range bits start q p s m
    unfolding anchor_range
    range-length-high h = rw (← e, f, lt-leb p max_bits h) refl

    pub range-offset : (inside : Bool) → inside ≡ leb (s + m) p → p ≤ max_bits → inside ≡ anchor_range bits start q p s m
    unfolding anchor_range
    range-offset inside g h = rw (← e, f, le-leb p max_bits h, ← g) refl

-- ---- the host's call: what holds behind the tests, and its returns
-- a refusal's number is at most 9, and a place is one of a string
abbrev pub AnswerMost : Result (Option ℕ) → Type 0
AnswerMost (refusal e) = e ≤ 9
AnswerMost (value none) = Unit {0}
AnswerMost (value (some r)) = r ≤ max_bits

pub said_place : (o : Option ℕ) → said_anchor (Ok (place_in o)) ≡ value o
said_place none = refl
said_place (some r) = refl

-- what holds behind the tests
pub copy_part : (y : List ℕ) (bits start q p s m : ℕ) → string_rule y bits ≡ true → anchor_range bits start q p s m ≡ true → Part y start q
unfolding anchor_range
copy_part y bits start q p s m e h =
    let piece = leb-true (start + q) bits (and_left (leb (start + q) bits) (leb p max_bits && leb (s + m) p) h) in
    let r = whole_part y bits e in
    let there = r.there in
    let few = r.few in
    record { there = omega arith; few = omega arith }

pub anchor_part : (a : List ℕ) (m : ℕ) → string_rule a m ≡ true → Part a 0 m
anchor_part = whole_part

pub tested_ready : (bits start q p s m k : ℕ) → anchor_settings m k ≡ true → anchor_range bits start q p s m ≡ true → SearchBounds p s m k
unfolding anchor_settings anchor_range
tested_ready bits start q p s m k e h =
    let ek = and_right (leb 8 m && leb m 64) (leb 1 k && leb k 8) e in
    let hp = and_right (leb (start + q) bits) (leb p max_bits && leb (s + m) p) h in
    let p-most = leb-true p max_bits (and_left (leb p max_bits) (leb (s + m) p) hp) in
    let s-most = leb-true (s + m) p (and_right (leb p max_bits) (leb (s + m) p) hp) in
    record { length_most = p-most; offset-most = omega arith; m-most = leb-true m 64 (and_right (leb 8 m) (leb m 64) (and_left (leb 8 m && leb m 64) (leb 1 k && leb k 8) e)); k-most = leb-true k 8 (and_right (leb 1 k) (leb k 8) ek) }

module _ (y : List ℕ) (bits start q p s m k : ℕ) (a : List ℕ) where
  pub bad-setting : anchor_settings m k ≡ false → refusal (refusal_number BadSetting) ≡ anchor_search y bits start q p s m k a
  unfolding anchor_search
  bad-setting e = rw e refl

  module _ (e : anchor_settings m k ≡ true) where
    pub bad-copy : string_rule y bits ≡ false → refusal (refusal_number BadString) ≡ anchor_search y bits start q p s m k a
    unfolding anchor_search
    bad-copy f = rw (e, f) refl

    module _ (f : string_rule y bits ≡ true) where
      pub bad-anchor : string_rule a m ≡ false → refusal (refusal_number BadString) ≡ anchor_search y bits start q p s m k a
      unfolding anchor_search
      bad-anchor g = rw (e, f, g) refl

      module _ (g : string_rule a m ≡ true) where
        pub out_of_range : anchor_range bits start q p s m ≡ false → refusal (refusal_number OutOfRange) ≡ anchor_search y bits start q p s m k a
        unfolding anchor_search
        out_of_range h = rw (e, f, g, h) refl

        module _ (h : anchor_range bits start q p s m ≡ true) where
          pub tested-ready : Searching y start q p s m k a 0
          unfolding anchor_settings anchor_range
          tested-ready =
              let em = and_left (leb 8 m && leb m 64) (leb 1 k && leb k 8) e in
              let ek = and_right (leb 8 m && leb m 64) (leb 1 k && leb k 8) e in
              let m-most = leb-true m 64 (and_right (leb 8 m) (leb m 64) em) in
              let k-most = leb-true k 8 (and_right (leb 1 k) (leb k 8) ek) in
              let piece = leb-true (start + q) bits (and_left (leb (start + q) bits) (leb p max_bits && leb (s + m) p) h) in
              let hp = and_right (leb (start + q) bits) (leb p max_bits && leb (s + m) p) h in
              let p-most = leb-true p max_bits (and_left (leb p max_bits) (leb (s + m) p) hp) in
              let s-most = leb-true (s + m) p (and_right (leb p max_bits) (leb (s + m) p) hp) in
              let ry = rule-is y bits f in
              let ra = rule-is a m g in
              let bits_most = ry.few in
              let y-bytes = ry.bytes in
              let a-bytes = ra.bytes in
              record {
                piece = omega arith;
                few = omega arith;
                length_most = p-most;
                offset-most = omega arith;
                m-most = m-most;
                k-most = k-most;
                anchor = omega arith;
                anchor-few = omega arith;
              }

          searched : (o : Option ℕ) → place m k p s (range y start q) (range a 0 m) ≡ o → value o ≡ anchor_search y bits start q p s m k a
          unfolding anchor_search
          searched o i = rw (e, f, g, h, i) refl

          pub answers_at : (found : Found ℕ) (r : ℕ) → found ≡ place_in (place m k p s (range y start q) (range a 0 m)) → found ≡ Some r → value (some r) ≡ anchor_search y bits start q p s m k a
          answers_at found r i j = searched (some r) (go (place m k p s (range y start q) (range a 0 m)) (sym i ∙ j))
            where
              go : (o : Option ℕ) → place_in o ≡ Some r → o ≡ some r
              go none e = cc
              go (some x) e = cc

          pub answers-nowhere : (found : Found ℕ) → found ≡ place_in (place m k p s (range y start q) (range a 0 m)) → found ≡ None → value none ≡ anchor_search y bits start q p s m k a
          answers-nowhere found i j = searched none (go (place m k p s (range y start q) (range a 0 m)) (sym i ∙ j))
            where
              go : (o : Option ℕ) → place_in o ≡ None → o ≡ none
              go none e = refl
              go (some x) e = cc

  -- what is answered
  pub search-most : AnswerMost (anchor_search y bits start q p s m k a)
  unfolding anchor_search
  search-most =
      by-unless AnswerMost (anchor_settings m k) BadSetting (omega arith) (λ e.
      by-unless AnswerMost (string_rule y bits && string_rule a m) BadString (omega arith) (λ f.
      by-unless AnswerMost (anchor_range bits start q p s m) OutOfRange (omega arith) (λ h.
      go (copy_part y bits start q p s m (and_left (string_rule y bits) (string_rule a m) f) h).few (place m k p s (range y start q) (range a 0 m)) (choice_is (range y start q) (range a 0 m) q m k p s (range_length y start q)))))
    where
      go : start + q ≤ max_bits → (o : Option ℕ) → Best (fits m k p s (range y start q) (range a 0 m)) (place_distance p q s) 0 (q + 1 - m) o → AnswerMost (value o)
      go few none b = tt
      go few (some r) b = let c = b.1 in omega arith
