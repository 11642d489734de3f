-- A settled piece stays as it is, until the whole string is sent.
use Rattle.std.specs.Prelude.{◌≡◌, refl, Bool, ◌&&◌, ◌⊎◌, List, [], ◌∷◌, ◌++◌, ℕ, ◌+◌, ◌≤◌, length, ltb}
use Rattle.std.proofs.Common.{◌∙◌, inl, inr, append-nil, add-zero, arith, take_all}
use Rattle.std.proofs.Math.Option.{some}
use Rattle.messages.specs.Answers.{Answer}
use Rattle.messages.specs.declared.Question.{Question}
use Rattle.messages.specs.declared.Question.TheVariants.{AskBits}
use Rattle.ends.specs.Anchors.{part}
use Rattle.ends.specs.laws.Invariant.{Inv, Truth, work-chain}
use Rattle.ends.proofs.laws.TrueAnswers.{proper-now}
use Rattle.ends.specs.Claims.{At, total}
use Rattle.strings.specs.SettingLimits.{Limits}
use Rattle.ends.specs.Runs.{Run, advance, judge, opening, pieces_of, question, size_of, string, honest_answer, whole, working}
use Rattle.ends.specs.laws.SegmentLaws.{Chain, chain-end}
use Rattle.ends.specs.Segments.{Segment, ask, asks, dropped, new_rows, settled, span, step, waiting, waits, work}
use Rattle.ends.specs.laws.Shape.{Shape}
use Rattle.ends.specs.declared.How.{How}
use Rattle.ends.specs.declared.Row.{Row}
use Rattle.strings.specs.declared.settings.Settings.{Settings}
use Rattle.strings.specs.laws.Tests.{by-test}
use Rattle.strings.specs.Bits.{max_bits}
use Rattle.ends.specs.declared.Stage.{Stage}

at_right : (x : ℕ) (l r : List Segment) (y : ℕ) (s : Segment) → At (x + total span l) r y s → At x (l ++ r) y s
at_right x [] r y s h = rw (add-zero x) at h
at_right x (u ∷ l) r y s h = let e : x + (span u + total span l) ≡ x + span u + total span l = omega arith in inr (at_right (x + span u) l r y s (rw e at h))

at_here : (x z y : ℕ) (r : List Segment) (s : Segment) → x ≡ z → At x r y s → At z r y s
at_here x z y r s e h = rw e at h

module _ (S : Settings) (a : Answer) (P : ℕ → Segment → Type 0) where
  step-at : (q : Question) → ((x p : ℕ) (ys : List Bool) (t : Stage) → P x (waiting p ys t) → asks S x p (length ys) t ≡ q → total span (work S a p ys t) ≡ p)
      → (x e : ℕ) (segs : List Segment) → Chain P x segs e → ask S x segs ≡ some q → (y : ℕ) (w : How) (ys b : List Bool) → At x segs y (settled w ys b) → At x (step S a segs) y (settled w ys b)
  step-at q k x e [] h i y w ys b c = absurd c
  step-at q k x e (dropped zs ∷ r) h i y w ys b (inl c) = let z : ◌≡◌ {A = ℕ} 0 1 = let d = c.1 in cc in absurd (omega arith)
  step-at q k x e (dropped zs ∷ r) h i y w ys b (inr c) =
      inr (at_here x (x + 0) y (step S a r) (settled w ys b) (omega arith) (step-at q k x e r (rw add-zero at h.1) i y w ys b (at_here (x + 0) x y r (settled w ys b) (omega arith) c)))
  step-at q k x e (settled v zs d ∷ r) h i y w ys b (inl c) = inl c
  step-at q k x e (settled v zs d ∷ r) h i y w ys b (inr c) = inr (step-at q k (x + length d) e r h.1 i y w ys b c)
  step-at q k x e (waiting p zs t ∷ r) h i y w ys b (inl c) = let z : ◌≡◌ {A = ℕ} 0 1 = let d = c.1 in cc in absurd (omega arith)
  step-at q k x e (waiting p zs t ∷ r) h i y w ys b (inr c) = at_right x (work S a p zs t) r y (settled w ys b) (rw (k x p zs t h.0 (cc)) c)

module _ (S : Settings) (X Y : List Bool) (L : Limits S) (n_x : length X ≤ max_bits) where
  judge-pieces : (n c : ℕ) (segs : List Segment) (rows : List Row) → pieces_of (judge S n c segs rows) ≡ segs
  unfolding judge
  judge-pieces n c segs rows = by-test (λ (s : Run). pieces_of s ≡ segs) (ltb S.ceiling c && waits segs) {a = whole n c segs rows} {b = working n c segs rows} (λ e. refl) (λ e. refl)

  -- once settled, a piece keeps its bits, or the string has the reference's
  pub settled-stays : (asked : ℕ) (s : Run) (q : Question) → Inv S Y asked s → Truth S X s → question S s ≡ some q → (x : ℕ) (w : How) (ys b : List Bool) → At 0 (pieces_of s) x (settled w ys b)
      → At 0 (pieces_of (advance S Y s (honest_answer S X q))) x (settled w ys b) ⊎ (string (pieces_of (advance S Y s (honest_answer S X q))) ≡ X)
  settled-stays asked opening q i t k x w ys b c = absurd c
  settled-stays asked (working n c₀ segs rows) q i t k x w ys b c =
      let a = honest_answer S X q in
      let o = proper-now S X Y L n_x asked (working n c₀ segs rows) q i t k in
      let m = step-at S a (Shape S n) q (λ x p ys t g e. let z = chain-end (Shape S n) x (x + p) (work S a p ys t) (work-chain S Y L n q a o x p ys t g e) in omega arith) 0 n segs i.0.tiles k x w ys b c in
      inl (rw (judge-pieces n (c₀ + size_of a) (step S a segs) (rows ++ new_rows S a 0 segs)) m)
  settled-stays asked (whole n c₀ segs rows) q i t k x w ys b c =
      let e : AskBits 0 n ≡ q = cc in
      let z = t.0 in
      inr (rw (← e) (append-nil (part X 0 n) ∙ take_all n X (omega arith)))
