-- Laws of the soundness test: what each part of it says.
use Rattle.std.specs.Prelude.{◌≡◌, refl, Bool, true, false, cond, ◌&&◌, List, [], ◌∷◌, ℕ, zero, suc, ◌+◌, ◌-◌, ◌≤◌, ◌<◌, length, get_or, leb, ltb, eqb}
use Rattle.std.proofs.Common.{arith, eqb-true, ltb-true, leb-true, le-leb, lt-ltb}
use Rattle.std.proofs.Math.Decide.{ℕ_discrete}
use Rattle.std.proofs.lemmas.Bool.{not-true}
use Rattle.ends.specs.Soundness.{bound, blank_from, in_order, is_blank, piece_fits, stage_fits}
use Rattle.strings.specs.SettingLimits.{Limits}
use Rattle.ends.specs.laws.Moves.{Blank}
use Rattle.ends.specs.laws.Right.{StageOk, long-is, burst-is}
use Rattle.ends.specs.Segments.{later_stage, too_small, after_anchor, next_stage, first_stage, is_burst}
use Rattle.ends.specs.States.{no_piece}
use Rattle.ends.specs.declared.Piece.{Piece}
use Rattle.strings.specs.declared.settings.Settings.{Settings}
use Rattle.strings.specs.laws.Tests.{and_left, and_right, both, and-true}
use Rattle.ends.specs.declared.Stage.{Stage}
use Rattle.ends.specs.declared.Stage.TheVariants.{Hashing, PuttingIn, TakingOut, Anchor, AllBits, Columns}
use Rattle.ends.specs.declared.Attempt.{Attempt}
use Rattle.ends.specs.declared.Attempt.TheVariants.{First, Second, Third}

-- ---- entries behind the waiting pieces
blank-piece : (pc : Piece) → is_blank pc ≡ true → pc ≡ no_piece
unfolding is_blank
blank-piece pc e =
    let a = both (eqb pc.x 0) (eqb pc.p 0 && (eqb pc.y 0 && eqb pc.q 0)) e in
    let b = both (eqb pc.p 0) (eqb pc.y 0 && eqb pc.q 0) a.1 in
    let c = both (eqb pc.y 0) (eqb pc.q 0) b.1 in
    (λ i. record { x = eqb-true pc.x 0 a.0 i; p = eqb-true pc.p 0 b.0 i; y = eqb-true pc.y 0 c.0 i; q = eqb-true pc.q 0 c.1 i })

piece-blank : (pc : Piece) → pc ≡ no_piece → is_blank pc ≡ true
unfolding is_blank
piece-blank pc e = rw e refl

from-blank : (arr : List Piece) (k i : ℕ) → blank_from arr k i ≡ true → (j : ℕ) → i ≤ j → j < i + k → get_or arr j no_piece ≡ no_piece
unfolding blank_from
from-blank arr zero i e j a b = absurd (omega arith)
from-blank arr (suc k) i e j a b = go (ℕ_discrete j i) (from-blank arr k (suc i) (and_right (is_blank (get_or arr i no_piece)) _ e) j)
  where
    go : Dec (j ≡ i) → (suc i ≤ j → j < suc i + k → get_or arr j no_piece ≡ no_piece) → get_or arr j no_piece ≡ no_piece
    go (yes z) f = rw z (blank-piece (get_or arr i no_piece) (and_left (is_blank (get_or arr i no_piece)) (blank_from arr k (suc i)) e))
    go (no z) f = f (omega arith) (omega arith)

blank-from : (arr : List Piece) (k i : ℕ) → ((j : ℕ) → i ≤ j → j < i + k → get_or arr j no_piece ≡ no_piece) → blank_from arr k i ≡ true
unfolding blank_from
blank-from arr zero i h = refl
blank-from arr (suc k) i h =
    and-true (is_blank (get_or arr i no_piece)) (blank_from arr k (suc i)) (piece-blank (get_or arr i no_piece) (h i (omega arith) (omega arith))) (blank-from arr k (suc i) (λ j a b. h j (omega arith) (omega arith)))

pub blank-is : (arr : List Piece) (w : ℕ) → w ≤ 32 → blank_from arr (32 - w) w ≡ true → Blank arr w
blank-is arr w h e i a b = from-blank arr (32 - w) w e i a (omega arith)

pub is-blank : (arr : List Piece) (w : ℕ) → w ≤ 32 → Blank arr w → blank_from arr (32 - w) w ≡ true
is-blank arr w h e = blank-from arr (32 - w) w (λ j a b. e j a (omega arith))

-- ---- the order of the pieces
abbrev pub Ordered : (n e x y : ℕ) → List Piece → Type 0
Ordered n e x y [] = Unit {0}
Ordered n e x y (pc ∷ l) =
    (x ≤ pc.x) × (y ≤ pc.y) × (0 < pc.p) × (pc.x + pc.p ≤ n) × (pc.y + pc.q ≤ e) × (pc.p ≤ bound (length l)) × Ordered n e (pc.x + pc.p) (pc.y + pc.q) l

pub order_is : (n e x y : ℕ) (l : List Piece) → in_order n e x y l ≡ true → Ordered n e x y l
unfolding in_order piece_fits
order_is n e x y [] t = tt
order_is n e x y (pc ∷ l) t =
    let z = both (piece_fits n e x y (length l) pc) (in_order n e (pc.x + pc.p) (pc.y + pc.q) l) t in
    let a = both (leb x pc.x) (leb y pc.y && (ltb 0 pc.p && (leb (pc.x + pc.p) n && (leb (pc.y + pc.q) e && leb pc.p (bound (length l)))))) z.0 in
    let b = both (leb y pc.y) (ltb 0 pc.p && (leb (pc.x + pc.p) n && (leb (pc.y + pc.q) e && leb pc.p (bound (length l))))) a.1 in
    let c = both (ltb 0 pc.p) (leb (pc.x + pc.p) n && (leb (pc.y + pc.q) e && leb pc.p (bound (length l)))) b.1 in
    let d = both (leb (pc.x + pc.p) n) (leb (pc.y + pc.q) e && leb pc.p (bound (length l))) c.1 in
    let f = both (leb (pc.y + pc.q) e) (leb pc.p (bound (length l))) d.1 in (
      leb-true x pc.x a.0,
      leb-true y pc.y b.0,
      ltb-true 0 pc.p c.0,
      leb-true (pc.x + pc.p) n d.0,
      leb-true (pc.y + pc.q) e f.0,
      leb-true pc.p (bound (length l)) f.1,
      order_is n e (pc.x + pc.p) (pc.y + pc.q) l z.1,
    )

pub is-order : (n e x y : ℕ) (l : List Piece) → Ordered n e x y l → in_order n e x y l ≡ true
unfolding in_order piece_fits
is-order n e x y [] o = refl
is-order n e x y (pc ∷ l) o =
    rw (le-leb x pc.x o.0, le-leb y pc.y o.1, lt-ltb 0 pc.p o.2, le-leb (pc.x + pc.p) n o.3, le-leb (pc.y + pc.q) e o.4, le-leb pc.p (bound (length l)) o.5)
    (is-order n e (pc.x + pc.p) (pc.y + pc.q) l o.6)

pub ordered-from : (n e x y x' y' : ℕ) (l : List Piece) → x' ≤ x → y' ≤ y → Ordered n e x y l → Ordered n e x' y' l
ordered-from n e x y x' y' [] h k o = tt
ordered-from n e x y x' y' (pc ∷ l) h k o = ((let a = o.0 in omega arith), (let a = o.1 in omega arith), o.2, o.3, o.4, o.5, o.6)

-- ---- stages
pub later-fits : (S : Settings) (p q : ℕ) → stage_fits S p q (later_stage S p q) ≡ true
unfolding stage_fits later_stage
later-fits S p q = go (too_small S p q) refl
  where
    go : (t : Bool) → too_small S p q ≡ t → stage_fits S p q (cond t AllBits (Anchor First)) ≡ true
    go true e = refl
    go false e = rw e refl

pub first_fits : (S : Settings) (p q : ℕ) → stage_fits S p q (first_stage S p q) ≡ true
unfolding stage_fits first_stage
first_fits S p q = go (eqb q p) refl (eqb (q + 1) p) refl (eqb q (p + 1)) refl (is_burst p q) refl
  where
    go : (a : Bool) → eqb q p ≡ a → (b : Bool) → eqb (q + 1) p ≡ b → (c : Bool) → eqb q (p + 1) ≡ c → (d : Bool) → is_burst p q ≡ d
        → stage_fits S p q (cond a Hashing (cond b PuttingIn (cond c TakingOut (cond d Columns (later_stage S p q))))) ≡ true
    go true e b f c g d h = e
    go false e true f c g d h = f
    go false e false f true g d h = g
    go false e false f false g true h = h
    go false e false f false g false h = later-fits S p q

after-fits : (S : Settings) (p q : ℕ) (i : Attempt) → stage_fits S p q (Anchor i) ≡ true → stage_fits S p q (after_anchor i) ≡ true
unfolding stage_fits
after-fits S p q First e = e
after-fits S p q Second e = e
after-fits S p q Third e = refl

pub next_fits : (S : Settings) (p q : ℕ) (t : Stage) → stage_fits S p q t ≡ true → stage_fits S p q (next_stage S p q t) ≡ true
next_fits S p q Hashing e = later-fits S p q
next_fits S p q PuttingIn e = later-fits S p q
next_fits S p q TakingOut e = later-fits S p q
next_fits S p q Columns e = later-fits S p q
next_fits S p q (Anchor i) e = after-fits S p q i e
next_fits S p q AllBits e = e

-- a stage that fits is one that the protocol can have
pub fits-stage : (S : Settings) → Limits S → (p q : ℕ) (t : Stage) → stage_fits S p q t ≡ true → StageOk S p q t
unfolding stage_fits
fits-stage S L p q Hashing e = eqb-true q p e
fits-stage S L p q PuttingIn e = eqb-true (q + 1) p e
fits-stage S L p q TakingOut e = eqb-true q (p + 1) e
fits-stage S L p q Columns e = burst-is p q e
fits-stage S L p q (Anchor i) e = long-is S L p q (not-true (too_small S p q) e)
fits-stage S L p q AllBits e = tt
