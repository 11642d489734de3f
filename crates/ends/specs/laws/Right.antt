-- What a settled piece has of the bits of X.
use Rattle.std.specs.Prelude.{◌≡◌, Bool, true, false, ◌||◌, List, [], ◌∷◌, length, take, drop, ltb, eqb, leb}
use Rattle.std.proofs.Math.Path.{refl, sym}
use Rattle.std.proofs.Common.{ap, subst, ◌∙◌, length-take, length-drop, eqb-true, ltb-false, leb-true, inl, inr}
use Rattle.std.proofs.Math.Option.{Option, none, some}
use Prim.Native.Nat.{ℕ, zero, suc, ◌+◌, ◌-◌, ◌*◌, ◌≤◌, ◌<◌}
use native.Mathlib.Omega.{arith}
use Rattle.codes.specs.Repair.{Deletion, put_in, take_out}
use Rattle.codes.specs.laws.RepairLaws.{put-in-found, put-in-length, put-in-repairs, take-out-found, take-out-length, take-out-repairs}
use Rattle.codes.specs.Syndrome.{syndrome}
use Rattle.ends.specs.Anchors.{part, place, distance}
use Rattle.strings.specs.SettingLimits.{Limits}
use Rattle.ends.specs.Runs.{honest_answer}
use Rattle.ends.specs.laws.SegmentLaws.{Chain}
use Rattle.ends.specs.Segments.{Effect, Segment, asks, begin, dropped, effect, first_stage, hash_of, later_stage, made, placed, retry, settled, span, too_small, trial, trial_of, waiting, work, after_anchor, offset, is_burst}
use Rattle.ends.specs.declared.How.{How}
use Rattle.ends.specs.declared.How.TheVariants.{ByAnchor, ByBits, ByHash, ByPutIn, ByTakeOut, ByBurst}
use Rattle.strings.specs.declared.settings.Settings.{Settings}
use Rattle.strings.specs.laws.Tests.{by-test, and_left, and_right}
use Rattle.ends.specs.Claims.{Agrees, Near, Settled, run_gained, run_lost, unchanged}
use Rattle.ends.specs.declared.Stage.TheVariants.{Hashing, PuttingIn, TakingOut, Anchor, AllBits, Columns}
use Rattle.ends.specs.declared.Attempt.{Attempt}
use Rattle.ends.specs.declared.Attempt.TheVariants.{First, Second, Third}
use Rattle.ends.specs.declared.Stage.{Stage}
use Rattle.codes.specs.Columns.{repair_run, syndromes, RunLost, RunApart}
use Rattle.codes.specs.laws.ColumnLaws.{lost-run-repaired, gained-run-repaired, run-lost-length, repair-run-found, syndromes-length, run-one}
use Rattle.std.proofs.Math.Decide.{dec_le}

-- a right piece, whatever its copy
pub settled-right : (S : Settings) (x : List Bool) (w : How) (ys b : List Bool) → Agrees S w x ys b → b ≡ x → Settled S x w ys b
settled-right S x w ys b a e = record { len = ap length e; agrees = a; exact = λ n. e }

near_same : (x y : List Bool) → length y ≡ length x → Near x y → y ≡ x
near_same x y e (unchanged h) = h
near_same x y e (run_lost B l d) = let k = run-lost-length B y x d in absurd (omega arith)
near_same x y e (run_gained B l d) = let k = run-lost-length B x y d in absurd (omega arith)

near-lost : (x y : List Bool) → length y + 1 ≡ length x → Near x y → Deletion y x
near-lost x y e (unchanged h) = let k : length y ≡ length x = ap length h in absurd (omega arith)
near-lost x y e (run_lost B l d) = let k = run-lost-length B y x d in run-one y x (subst (RunLost y x) (omega arith) d)
near-lost x y e (run_gained B l d) = let k = run-lost-length B x y d in absurd (omega arith)

near-added : (x y : List Bool) → length y ≡ length x + 1 → Near x y → Deletion x y
near-added x y e (unchanged h) = let k : length y ≡ length x = ap length h in absurd (omega arith)
near-added x y e (run_lost B l d) = let k = run-lost-length B y x d in absurd (omega arith)
near-added x y e (run_gained B l d) = let k = run-lost-length B x y d in run-one x y (subst (RunLost x y) (omega arith) d)

-- one run lost or gained, and lengths B apart: the columns' repair is right
near-run : (x y : List Bool) → 2 ≤ distance (length x) (length y) → Near x y
    → repair_run (distance (length x) (length y)) (length x) (syndromes (distance (length x) (length y)) x) y ≡ some x
near-run x y h (unchanged e) = let k : length y ≡ length x = ap length e in absurd (omega arith)
near-run x y h (run_lost B l d) =
    let k = run-lost-length B y x d in
    let e : B ≡ distance (length x) (length y) = omega arith in
    lost-run-repaired (distance (length x) (length y)) y x (omega arith) (subst (RunLost y x) e d)
near-run x y h (run_gained B l d) =
    let k = run-lost-length B x y d in
    let e : B ≡ distance (length x) (length y) = omega arith in
    gained-run-repaired (distance (length x) (length y)) y x (omega arith) (subst (RunLost x y) e d)

-- ---- what is known of a waiting piece
-- an anchor at offset s of a piece of length p
pub record Fit (S : Settings) (p s : ℕ) : Type 0 where
  pub big : 64 ≤ p
  pub inside : s + S.m ≤ p
  pub left : 8 * s ≤ 5 * p
  pub right : 8 * (p - (s + S.m)) ≤ 5 * p

-- a piece that is long enough for anchors
abbrev pub Long : Settings → ℕ → Type 0
Long S p = 4 * (S.m + S.h) ≤ p

abbrev pub StageOk : Settings → ℕ → ℕ → Stage → Type 0
StageOk S p q Hashing = q ≡ p
StageOk S p q PuttingIn = q + 1 ≡ p
StageOk S p q TakingOut = q ≡ p + 1
StageOk S p q Columns = (2 ≤ distance p q) × (distance p q ≤ 32)
StageOk S p q (Anchor i) = Long S p
StageOk S p q AllBits = Unit {0}

-- the piece that starts at x of the reference X
abbrev pub Good : Settings → List Bool → ℕ → Segment → Type 0
Good S X x (dropped ys) = Unit {0}
Good S X x (waiting p ys t) = (x + p ≤ length X) × StageOk S p (length ys) t × (0 < p)
Good S X x (settled w ys b) = (x + length b ≤ length X) × Settled S (part X x (length b)) w ys b

pub or-false : (a b : Bool) → (a || b) ≡ false → (a ≡ false) × (b ≡ false)
or-false true b e = let z : ◌≡◌ {A = ℕ} 0 1 = cc in absurd (omega arith)
or-false false true e = let z : ◌≡◌ {A = ℕ} 0 1 = cc in absurd (omega arith)
or-false false false e = (refl, refl)

-- the lengths of a piece and its copy are as far apart as they are
pub run-apart : (p q : ℕ) → RunApart (distance p q) q p
run-apart p q = go (dec_le q p)
  where
    go : Dec (q ≤ p) → RunApart (distance p q) q p
    go (yes h) = inl (omega arith)
    go (no h) = inr (omega arith)

pub burst-is : (p q : ℕ) → is_burst p q ≡ true → (2 ≤ distance p q) × (distance p q ≤ 32)
unfolding is_burst
burst-is p q e =
    (leb-true 2 (distance p q) (and_left (leb 2 (distance p q)) (leb (distance p q) 32) e), leb-true (distance p q) 32 (and_right (leb 2 (distance p q)) (leb (distance p q) 32) e))

module _ (S : Settings) (L : Limits S) where
  pub long-is : (p q : ℕ) → too_small S p q ≡ false → Long S p
  long-is p q e = ltb-false p (4 * (S.m + S.h)) (or-false (ltb p (4 * (S.m + S.h))) (ltb q S.m) e).0

  pub offset-fits : (p : ℕ) (i : Attempt) → Long S p → Fit S p (offset S.m p i)
  offset-fits p First k = let a = L.m-least in let b = L.h-least in record { big = omega arith; inside = omega arith; left = omega arith; right = omega arith }
  offset-fits p Second k = let a = L.m-least in let b = L.h-least in record { big = omega arith; inside = omega arith; left = omega arith; right = omega arith }
  offset-fits p Third k = let a = L.m-least in let b = L.h-least in record { big = omega arith; inside = omega arith; left = omega arith; right = omega arith }

  pub after-ok : (p q : ℕ) (i : Attempt) → Long S p → StageOk S p q (after_anchor i)
  after-ok p q First k = k
  after-ok p q Second k = k
  after-ok p q Third k = tt

  pub later-ok : (p q : ℕ) → StageOk S p q (later_stage S p q)
  unfolding later_stage
  later-ok p q = by-test (StageOk S p q) (too_small S p q) {a = AllBits} {b = Anchor First} (λ e. tt) (λ e. long-is p q e)

  pub first-ok : (p q : ℕ) → StageOk S p q (first_stage S p q)
  unfolding first_stage
  first-ok p q =
      by-test (StageOk S p q) (eqb q p) (eqb-true q p) (λ e.
      by-test (StageOk S p q) (eqb (q + 1) p) (eqb-true (q + 1) p) (λ f.
      by-test (StageOk S p q) (eqb q (p + 1)) (eqb-true q (p + 1)) (λ g.
      by-test (StageOk S p q) (is_burst p q) {a = Columns} (burst-is p q) (λ i. later-ok p q))))

  pub begin-span : (p : ℕ) (ys : List Bool) → span (begin S p ys) ≡ p
  unfolding begin
  begin-span zero ys = refl
  begin-span (suc p) ys = refl

  pub begin-ok : (X : List Bool) (x p : ℕ) (ys : List Bool) → x + p ≤ length X → Good S X x (begin S p ys)
  unfolding begin
  begin-ok X x zero ys h = tt
  begin-ok X x (suc p) ys h = (h, first-ok (suc p) (length ys), omega arith)

  -- ---- what the holder's answer makes of a waiting piece
  module _ (X : List Bool) where
    pub part_length : (x p : ℕ) → x + p ≤ length X → length (part X x p) ≡ p
    part_length x p h = simp (length-take, length-drop) (omega arith)

    -- one settled piece of length p
    pub one : (x p : ℕ) (w : How) (ys b : List Bool) → x + p ≤ length X → length b ≡ p → Settled S (part X x p) w ys b → Chain (Good S X) x (settled w ys b ∷ []) (x + p)
    one x p w ys b h e k = ((omega arith, rw e k), ap (λ (n : ℕ). x + n) e)

    -- what an effect makes is as it should be
    abbrev Fine : ℕ → ℕ → List Bool → Effect → Type 0
    Fine x p ys e = Chain (Good S X) x (made S p ys e) (x + p)

    again : (x p : ℕ) (ys : List Bool) → x + p ≤ length X → 0 < p → Fine x p ys (retry S p ys)
    again x p ys h o = ((h, later-ok p (length ys), o), refl)

    trial-ok : (x p : ℕ) (w : How) (ys b : List Bool) → x + p ≤ length X → 0 < p → length b ≡ p
        → (hash_of S b ≡ hash_of S (part X x p) → Settled S (part X x p) w ys b)
        → Fine x p ys (trial S (hash_of S (part X x p)) w b (retry S p ys))
    trial-ok x p w ys b h o e k =
        by-test (Fine x p ys) (eqb (hash_of S b) (hash_of S (part X x p)))
        (λ q. one x p w ys b h e (k (eqb-true (hash_of S b) (hash_of S (part X x p)) q)))
        (λ q. again x p ys h o)

    trial_of-ok : (x p : ℕ) (w : How) (ys : List Bool) (o : Option (List Bool)) → x + p ≤ length X → 0 < p
        → ((b : List Bool) → o ≡ some b → (length b ≡ p) × (hash_of S b ≡ hash_of S (part X x p) → Settled S (part X x p) w ys b))
        → Fine x p ys (trial_of S (hash_of S (part X x p)) w o (retry S p ys))
    trial_of-ok x p w ys none h o k = again x p ys h o
    trial_of-ok x p w ys (some b) h o k = trial-ok x p w ys b h o (k b refl).0 (k b refl).1

    placed-ok : (x p s : ℕ) (ys : List Bool) (u : Stage) (o : Option ℕ) → x + p ≤ length X → 0 < p → Fit S p s → StageOk S p (length ys) u
        → Fine x p ys (placed s (part X (x + s) S.m) u o)
    placed-ok x p s ys u none h o f k = ((h, k, o), refl)
    placed-ok x p s ys u (some r) h o f k =
        let m = S.m in
        let b = part X (x + s) m in
        let q = f.inside in
        let e : length b ≡ m = part_length (x + s) m (omega arith) in
        let c = begin-span s (take r ys) in
        let v = begin-span (p - (s + m)) (drop (r + m) ys) in (
          begin-ok X x s (take r ys) (omega arith),
          (
            (omega arith, rw (c, e) (settled-right S (part X (x + s) S.m) ByAnchor (part ys r S.m) (part X (x + s) S.m) refl refl)),
            (
              begin-ok X (x + span (begin S s (take r ys)) + length b) (p - (s + m)) (drop (r + m) ys) (omega arith),
              omega arith,
            ),
          ),
        )

    pub work-ok : (x p : ℕ) (ys : List Bool) (t : Stage) → Good S X x (waiting p ys t)
        → Chain (Good S X) x (work S (honest_answer S X (asks S x p (length ys) t)) p ys t) (x + p)
    unfolding effect hash_of
    work-ok x p ys Hashing h =
        let l = part_length x p h.0 in let e = h.1 in
        trial-ok x p ByHash ys ys h.0 h.2 h.1 (λ q. record { len = omega arith; agrees = q; exact = near_same (part X x p) ys (omega arith) })
    work-ok x p ys PuttingIn h =
        let l = part_length x p h.0 in let e = h.1 in
        let a = syndrome (part X x p) in
        trial_of-ok x p ByPutIn ys (put_in a ys) h.0 h.2 (λ b k.
        let n = put-in-length a ys b k in (
          omega arith,
          λ q. record {
            len = omega arith;
            agrees = ((put-in-found a ys b k).1, q);
            exact = λ d. let r = put-in-repairs ys (part X x p) (near-lost (part X x p) ys (omega arith) d) in cc;
          },
        ))
    work-ok x p ys TakingOut h =
        let l = part_length x p h.0 in let e = h.1 in
        let a = syndrome (part X x p) in
        trial_of-ok x p ByTakeOut ys (take_out a ys) h.0 h.2 (λ b k.
        let n = take-out-length a ys b k in (
          omega arith,
          λ q. record {
            len = omega arith;
            agrees = ((take-out-found a ys b k).1, q);
            exact = λ d. let r = take-out-repairs (part X x p) ys (near-added (part X x p) ys (omega arith) d) in cc;
          },
        ))
    work-ok x p ys Columns h =
        let l = part_length x p h.0 in
        let B = distance p (length ys) in
        let a = syndromes B (part X x p) in
        trial_of-ok x p ByBurst ys (repair_run (distance p (length ys)) p (syndromes (distance p (length ys)) (part X x p)) ys) h.0 h.2 (λ b k.
        let f = repair-run-found (distance p (length ys)) p (syndromes (distance p (length ys)) (part X x p)) ys b (omega (arith, h.1.0)) (syndromes-length (distance p (length ys)) (part X x p)) (run-apart p (length ys)) k in (
          f.0,
          λ q. record {
            len = f.0 ∙ sym l;
            agrees = rw l (f.1, q);
            exact = λ d. let r = near-run (part X x p) ys (rw l h.1.0) d in let r' = rw l at r in cc;
          },
        ))
    work-ok x p ys AllBits h =
        let l = part_length x p h.0 in
        one x p ByBits ys (part X x p) h.0 l (settled-right S (part X x p) ByBits ys (part X x p) refl refl)
    work-ok x p ys (Anchor i) h =
        let s = offset S.m p i in
        placed-ok x p s ys (after_anchor i) (place S.m S.k p s ys (part X (x + s) S.m)) h.0 h.2 (offset-fits p i h.1) (after-ok p (length ys) i h.1)
