-- How many questions, rows and waiting pieces there can be.
use Rattle.std.specs.Prelude.{◌≡◌, Bool, List, [], ◌∷◌, ◌++◌, length, take, drop, eqb}
use Rattle.std.proofs.Math.Path.{refl}
use Rattle.std.proofs.Common.{append-nil, zero-add, div-mul-le_self, le-div_iff_mul-le, take-append-drop, drop-drop}
use Rattle.std.proofs.Math.Option.{Option, none, some}
use Prim.Native.Nat.{ℕ, zero, suc, ◌+◌, ◌-◌, ◌*◌, ◌/◌, ◌≤◌, ◌<◌}
use Rattle.std.proofs.Math.Nat.{le_refl}
use native.Mathlib.Omega.{arith}
use Rattle.std.proofs.Math.Decide.{dec_le}
use Rattle.std.proofs.Math.Dec.{lit≤}
use Rattle.codes.specs.Repair.{put_in, take_out}
use Rattle.messages.specs.Answers.{Answer}
use Rattle.ends.specs.Anchors.{part, place, distance}
use Rattle.strings.specs.SettingLimits.{Limits}
use Rattle.ends.specs.laws.Right.{Fit, StageOk, offset-fits}
use Rattle.ends.specs.Runs.{copies, copy_of}
use Rattle.ends.specs.laws.SegmentLaws.{Chain}
use Rattle.ends.specs.Segments.{Effect, Segment, begin, dropped, effect, first_stage, hash_of, later_stage, made, placed, retry, rows_of, settled, settles, splits, stays, step, the_bits, the_hash, the_syndrome, too_small, trial, trial_of, waiting, offset, after_anchor, is_burst, the_syndromes}
use Rattle.ends.specs.laws.Shape.{Shape}
use Rattle.ends.specs.declared.How.{How}
use Rattle.ends.specs.declared.How.TheVariants.{ByAnchor, ByHash, ByPutIn, ByTakeOut, ByBurst}
use Rattle.strings.specs.declared.settings.Settings.{Settings}
use Rattle.strings.specs.laws.Tests.{by-test}
use Rattle.ends.specs.Claims.{is_wait, total}
use Rattle.ends.specs.Soundness.{bound, asks_before}
use Rattle.ends.specs.declared.Stage.TheVariants.{Hashing, PuttingIn, TakingOut, Anchor, AllBits, Columns}
use Rattle.ends.specs.declared.Attempt.{Attempt}
use Rattle.ends.specs.declared.Attempt.TheVariants.{First, Second, Third}
use Rattle.ends.specs.declared.Stage.{Stage}
use Rattle.codes.specs.Columns.{repair_run}

-- two parts and an anchor between them
pub split-div : (m a b p : ℕ) → 0 < m → a + (m + b) ≡ p → a / m + b / m + 1 ≤ p / m
split-div m a b p h e =
    (le-div_iff_mul-le h).1 (let i = div-mul-le_self a m in let j = div-mul-le_self b m in omega arith)

-- ---- the questions that a stage can still bring for a piece that is not split
abbrev pub cost : Stage → ℕ
cost t = 5 - asks_before t

pub before-most : (t : Stage) → asks_before t ≤ 4
before-most Hashing = lit≤ tt
before-most PuttingIn = lit≤ tt
before-most TakingOut = lit≤ tt
before-most Columns = lit≤ tt
before-most (Anchor First) = lit≤ tt
before-most (Anchor Second) = lit≤ tt
before-most (Anchor Third) = lit≤ tt
before-most AllBits = lit≤ tt

after-later : (i : Attempt) → asks_before (after_anchor i) ≡ asks_before (Anchor i) + 1
after-later First = refl
after-later Second = refl
after-later Third = refl

-- what is known of an effect on a piece of length p at stage t: a settled one, a later stage, an anchor that fits
abbrev pub Sane : Settings → ℕ → Stage → Effect → Type 0
Sane S p t (settles w b) = Unit {0}
Sane S p t (stays u) = cost u < cost t
Sane S p t (splits s r b) = Fit S p s × (2 ≤ cost t)

three : (r m : ℕ) (ys : List Bool) → take r ys ++ (part ys r m ++ drop (r + m) ys) ≡ ys
three r m ys = rw (← drop-drop m r ys, take-append-drop m (drop r ys)) (take-append-drop r ys)

module _ (S : Settings) where
  later-cost : (p q : ℕ) → cost (later_stage S p q) ≤ 4
  unfolding later_stage
  later-cost p q = by-test (λ (t : Stage). cost t ≤ 4) (too_small S p q) {a = AllBits} {b = Anchor First} (λ e. lit≤ tt) (λ e. lit≤ tt)

  first-cost : (p q : ℕ) → cost (first_stage S p q) ≤ 5
  unfolding first_stage
  first-cost p q =
      by-test (λ (t : Stage). cost t ≤ 5) (eqb q p) (λ e. lit≤ tt) (λ e.
      by-test (λ (t : Stage). cost t ≤ 5) (eqb (q + 1) p) (λ e. lit≤ tt) (λ e.
      by-test (λ (t : Stage). cost t ≤ 5) (eqb q (p + 1)) (λ e. lit≤ tt) (λ e.
      by-test (λ (t : Stage). cost t ≤ 5) (is_burst p q) {a = Columns} (λ e. lit≤ tt) (λ e. let h = later-cost p q in omega arith))))

  trial-sane : (v p : ℕ) (w : How) (ys b : List Bool) (t : Stage) → cost t ≡ 5 → Sane S p t (trial S v w b (retry S p ys))
  trial-sane v p w ys b t e =
      by-test (Sane S p t) (eqb (hash_of S b) v) {a = settles w b} (λ q. tt) (λ q. let h = later-cost p (length ys) in omega arith)

  trial_of-sane : (v p : ℕ) (w : How) (ys : List Bool) (o : Option (List Bool)) (t : Stage) → cost t ≡ 5 → Sane S p t (trial_of S v w o (retry S p ys))
  trial_of-sane v p w ys none t e = let h = later-cost p (length ys) in omega arith
  trial_of-sane v p w ys (some b) t e = trial-sane v p w ys b t e

  placed-sane : (p s : ℕ) (b : List Bool) (i : Attempt) (o : Option ℕ) → Fit S p s → Sane S p (Anchor i) (placed s b (after_anchor i) o)
  placed-sane p s b i none f = let e = after-later i in let h = before-most (after_anchor i) in omega arith
  placed-sane p s b i (some r) f = (f, let e = after-later i in let h = before-most (after_anchor i) in omega arith)

  pub sane : (L : Limits S) (a : Answer) (p : ℕ) (ys : List Bool) (t : Stage) → StageOk S p (length ys) t → Sane S p t (effect S a p ys t)
  unfolding effect
  sane L a p ys Hashing h = trial-sane (the_hash a) p ByHash ys ys Hashing refl
  sane L a p ys PuttingIn h = trial_of-sane (the_hash a) p ByPutIn ys (put_in (the_syndrome a) ys) PuttingIn refl
  sane L a p ys TakingOut h = trial_of-sane (the_hash a) p ByTakeOut ys (take_out (the_syndrome a) ys) TakingOut refl
  sane L a p ys Columns h = trial_of-sane (the_hash a) p ByBurst ys (repair_run (distance p (length ys)) p (the_syndromes a) ys) Columns refl
  sane L a p ys AllBits h = tt
  sane L a p ys (Anchor i) h = placed-sane p (offset S.m p i) (the_bits a) i (place S.m S.k p (offset S.m p i) ys (the_bits a)) (offset-fits S L p i h)

-- ---- questions: each answered one lowers the potential
abbrev pub pot : Settings → Segment → ℕ
pot S (dropped ys) = 0
pot S (waiting p ys t) = 9 * (p / S.m) + cost t
pot S (settled w ys b) = 0

-- ---- rows: what is settled, and what can become of a waiting piece
abbrev pub row_cost : Settings → Segment → ℕ
row_cost S (dropped ys) = 0
row_cost S (waiting p ys t) = 2 * (p / S.m) + 1
row_cost S (settled w ys b) = 1

-- ---- pieces that wait: each is at most 5/8 of the bound of the next one to its right

abbrev pub Nest : List Segment → Type 0
Nest [] = Unit {0}
Nest (dropped ys ∷ r) = Nest r
Nest (waiting p ys t ∷ r) = (p ≤ bound (total is_wait r)) × Nest r
Nest (settled w ys b ∷ r) = Nest r

bound-small : (i : ℕ) → bound (15 + i) ≤ 56
bound-small zero = lit≤ tt
bound-small (suc i) = let e : 15 + suc i ≡ suc (15 + i) = omega arith in let h = bound-small i in rw e (omega arith)

pub deep : (i p : ℕ) → 64 ≤ p → p ≤ bound i → i ≤ 14
deep i p h k = go (dec_le i 14)
  where
    go : Dec (i ≤ 14) → i ≤ 14
    go (yes l) = l
    go (no l) =
        let e : i ≡ 15 + (i - 15) = omega arith in
        let q : bound i ≤ 56 = rw e (bound-small (i - 15)) in
        absurd (omega arith)

module _ (S : Settings) (L : Limits S) where
  pub begin-pot : (p : ℕ) (ys : List Bool) → pot S (begin S p ys) ≤ 9 * (p / S.m) + 5
  unfolding begin
  begin-pot zero ys = omega arith
  begin-pot (suc p) ys = let h = first-cost S (suc p) (length ys) in omega arith

  pub begin-rows : (p : ℕ) (ys : List Bool) → row_cost S (begin S p ys) ≤ 2 * (p / S.m) + 1
  unfolding begin
  begin-rows zero ys = omega arith
  begin-rows (suc p) ys = le_refl (2 * (suc p / S.m) + 1)

  pub begin-wait : (p : ℕ) (ys : List Bool) → is_wait (begin S p ys) ≤ 1
  unfolding begin
  begin-wait zero ys = omega arith
  begin-wait (suc p) ys = omega arith

  pub begin-nest : (p : ℕ) (ys : List Bool) (r : List Segment) → p ≤ bound (total is_wait r) → Nest r → Nest (begin S p ys ∷ r)
  unfolding begin
  begin-nest zero ys r h n = n
  begin-nest (suc p) ys r h n = (h, n)

  pub begin-copy : (p : ℕ) (ys : List Bool) → copy_of (begin S p ys) ≡ ys
  unfolding begin
  begin-copy zero ys = refl
  begin-copy (suc p) ys = refl

  pub begin-norow : (x p : ℕ) (ys : List Bool) → rows_of x (begin S p ys ∷ []) ≡ []
  unfolding begin
  begin-norow x zero ys = refl
  begin-norow x (suc p) ys = refl

  pub cut : (p s : ℕ) → Fit S p s → s / S.m + (p - (s + S.m)) / S.m + 1 ≤ p / S.m
  cut p s f = let a = L.m-least in let b = f.inside in split-div S.m s (p - (s + S.m)) p (omega arith) (omega arith)

  pub falls-pot : (p : ℕ) (ys : List Bool) (t : Stage) (e : Effect) → Sane S p t e → 1 + total (pot S) (made S p ys e) ≤ pot S (waiting p ys t)
  falls-pot p ys t (settles w b) h = let k = before-most t in omega arith
  falls-pot p ys t (stays u) h = omega arith
  falls-pot p ys t (splits s r b) h =
      let i = cut p s h.0 in let j = begin-pot s (take r ys) in let k = begin-pot (p - (s + S.m)) (drop (r + S.m) ys) in let l = h.1 in omega arith

  pub falls-rows : (p : ℕ) (ys : List Bool) (t : Stage) (e : Effect) → Sane S p t e → 0 + total (row_cost S) (made S p ys e) ≤ row_cost S (waiting p ys t)
  falls-rows p ys t (settles w b) h = omega arith
  falls-rows p ys t (stays u) h = omega arith
  falls-rows p ys t (splits s r b) h =
      let i = cut p s h.0 in let j = begin-rows s (take r ys) in let k = begin-rows (p - (s + S.m)) (drop (r + S.m) ys) in omega arith

  pub keeps-copy : (p : ℕ) (ys : List Bool) (e : Effect) → copies (made S p ys e) ≡ ys
  keeps-copy p ys (settles w b) = append-nil ys
  keeps-copy p ys (stays u) = append-nil ys
  keeps-copy p ys (splits s r b) =
      rw (begin-copy s (take r ys), begin-copy (p - (s + S.m)) (drop (r + S.m) ys), append-nil (drop (r + S.m) ys)) (three r S.m ys)

  pub deeper : (c p s i : ℕ) → i ≤ 1 → p ≤ bound c → 8 * s ≤ 5 * p → s ≤ bound (i + c)
  deeper c p s zero h k l = rw zero-add (omega arith)
  deeper c p s (suc zero) h k l = let e : 1 + c ≡ suc c = omega arith in rw e (omega arith)
  deeper c p s (suc (suc i)) h k l = absurd (omega arith)

  pub nest-work : (p : ℕ) (ys : List Bool) (t : Stage) (e : Effect) (r : List Segment) → Sane S p t e → p ≤ bound (total is_wait r) → Nest r → 1 + total is_wait r ≤ 16
      → Nest (made S p ys e ++ r) × (total is_wait (made S p ys e ++ r) ≤ 16)
  nest-work p ys t (settles w b) r e h n k = (n, omega arith)
  nest-work p ys t (stays u) r e h n k = ((h, n), omega arith)
  nest-work p ys t (splits s i b) r e h n k =
      let q = p - (s + S.m) in
      let z = drop (i + S.m) ys in
      let f = e.0 in
      let fl = f.left in let fr = f.right in
      let d = deep (total is_wait r) p f.big h in
      let w = begin-wait q z in
      let v = begin-wait s (take i ys) in
      let y = begin-nest q z r (omega arith) n in (
        begin-nest s (take i ys) (settled ByAnchor (part ys i S.m) b ∷ begin S q z ∷ r) (rw zero-add (deeper (total is_wait r) p s (is_wait (begin S q z)) w h fl)) y,
        omega arith,
      )

  pub step-nest : (a : Answer) (n x e : ℕ) (segs : List Segment) → Chain (Shape S n) x segs e → Nest segs → total is_wait segs ≤ 16
      → Nest (step S a segs) × (total is_wait (step S a segs) ≤ 16)
  step-nest a z x e [] g n k = (n, k)
  step-nest a z x e (dropped ys ∷ r) g n k = let i = step-nest a z (x + 0) e r g.1 n (omega arith) in (i.0, let j = i.1 in omega arith)
  step-nest a z x e (settled w ys b ∷ r) g n k = let i = step-nest a z (x + length b) e r g.1 n (omega arith) in (i.0, let j = i.1 in omega arith)
  step-nest a z x e (waiting p ys t ∷ r) g n k = nest-work p ys t (effect S a p ys t) r (sane S L a p ys t g.0.1) n.0 n.1 k
