-- Laws of lists of pieces: sums over them, and what holds of each at its start.
use Rattle.std.specs.Prelude.{◌≡◌, refl, Bool, true, List, [], ◌∷◌, ◌++◌, ℕ, ◌+◌, ◌≤◌, length}
use Rattle.std.proofs.Common.{sym, ap, ◌∙◌, append_assoc, zero-add, add-zero, add_assoc, arith}
use Rattle.std.proofs.Math.Option.{some}
use Rattle.messages.specs.Answers.{Answer}
use Rattle.messages.specs.declared.Question.{Question}
use Rattle.ends.specs.Runs.{copies, copy_of}
use Rattle.ends.specs.Segments.{Segment, ask, asks, dropped, new_rows, row, rows_of, settled, span, step, waiting, waits, work}
use Rattle.ends.specs.declared.Row.{Row}
use Rattle.strings.specs.declared.settings.Settings.{Settings}
use Rattle.ends.specs.Claims.{row_sum, total}
use Rattle.ends.specs.declared.Stage.{Stage}

-- ---- sums
pub total-append : (f : Segment → ℕ) (l r : List Segment) → total f (l ++ r) ≡ total f l + total f r
total-append f [] r = omega arith
total-append f (s ∷ l) r = let h = total-append f l r in omega arith

-- ---- what holds of each piece at its start; they lead from x to e
abbrev pub Chain : (ℕ → Segment → Type 0) → ℕ → List Segment → ℕ → Type 0
Chain P x [] e = x ≡ e
Chain P x (s ∷ r) e = P x s × Chain P (x + span s) r e

pub chain-append : (P : ℕ → Segment → Type 0) (x y e : ℕ) (l r : List Segment) → Chain P x l y → Chain P y r e → Chain P x (l ++ r) e
chain-append P x y e [] r h k = rw h k
chain-append P x y e (s ∷ l) r h k = (h.0, chain-append P (x + span s) y e l r h.1 k)

pub chain-end : (P : ℕ → Segment → Type 0) (x e : ℕ) (l : List Segment) → Chain P x l e → x + total span l ≡ e
chain-end P x e [] h = omega (arith, h)
chain-end P x e (s ∷ l) h = let k = chain-end P (x + span s) e l h.1 in omega arith

-- ---- one step, from what an answer makes of the piece that waits
module _ (S : Settings) (a : Answer) (P : ℕ → Segment → Type 0) where
  pub step-chain : (q : Question) → ((x p : ℕ) (ys : List Bool) (t : Stage) → P x (waiting p ys t) → asks S x p (length ys) t ≡ q → Chain P x (work S a p ys t) (x + p))
      → (x e : ℕ) (segs : List Segment) → Chain P x segs e → ask S x segs ≡ some q → Chain P x (step S a segs) e
  step-chain q w x e [] h k = let z : ◌≡◌ {A = ℕ} 0 1 = cc in absurd (omega arith)
  step-chain q w x e (dropped ys ∷ r) h k = (h.0, rw add-zero (step-chain q w x e r (rw add-zero at h.1) k))
  step-chain q w x e (settled m ys b ∷ r) h k = (h.0, step-chain q w (x + length b) e r h.1 k)
  step-chain q w x e (waiting p ys t ∷ r) h k = chain-append P x (x + p) e (work S a p ys t) r (w x p ys t h.0 (cc)) h.1

  pub step_falls : (f : Segment → ℕ) (d : ℕ) → ((x p : ℕ) (ys : List Bool) (t : Stage) → P x (waiting p ys t) → d + total f (work S a p ys t) ≤ f (waiting p ys t))
      → (x e : ℕ) (segs : List Segment) → Chain P x segs e → waits segs ≡ true → d + total f (step S a segs) ≤ total f segs
  step_falls f d w x e [] h k = let z : ◌≡◌ {A = ℕ} 0 1 = cc in absurd (omega arith)
  step_falls f d w x e (dropped ys ∷ r) h k = let i = step_falls f d w (x + 0) e r h.1 k in omega arith
  step_falls f d w x e (settled m ys b ∷ r) h k = let i = step_falls f d w (x + length b) e r h.1 k in omega arith
  step_falls f d w x e (waiting p ys t ∷ r) h k = let i = w x p ys t h.0 in let j = total-append f (work S a p ys t) r in omega arith

-- ---- the piece asked for
pub record Found (S : Settings) (P : ℕ → Segment → Type 0) (q : Question) : Type 0 where
  pub start : ℕ
  pub len : ℕ
  pub copy : List Bool
  pub stage : Stage
  pub holds : P start (waiting len copy stage)
  pub is : asks S start len (length copy) stage ≡ q

pub found : (S : Settings) (P : ℕ → Segment → Type 0) (q : Question) (x e : ℕ) (segs : List Segment) → Chain P x segs e → ask S x segs ≡ some q → Found S P q
found S P q x e [] h k = let z : ◌≡◌ {A = ℕ} 0 1 = cc in absurd (omega arith)
found S P q x e (dropped ys ∷ r) h k = found S P q x e r (rw add-zero at h.1) k
found S P q x e (settled m ys b ∷ r) h k = found S P q (x + length b) e r h.1 k
found S P q x e (waiting p ys t ∷ r) h k = record { start = x; len = p; copy = ys; stage = t; holds = h.0; is = cc }

pub ask-waits : (S : Settings) (q : Question) (x : ℕ) (segs : List Segment) → ask S x segs ≡ some q → waits segs ≡ true
ask-waits S q x [] k = let z : ◌≡◌ {A = ℕ} 0 1 = cc in absurd (omega arith)
ask-waits S q x (dropped ys ∷ r) k = ask-waits S q x r k
ask-waits S q x (settled m ys b ∷ r) k = ask-waits S q (x + length b) r k
ask-waits S q x (waiting p ys t ∷ r) k = refl

-- ---- copies
pub copies-append : (l r : List Segment) → copies (l ++ r) ≡ copies l ++ copies r
copies-append [] r = refl
copies-append (s ∷ l) r = ap (λ (k : List Bool). copy_of s ++ k) (copies-append l r) ∙ sym (append_assoc (copy_of s) (copies l) (copies r))

pub step-copies : (S : Settings) (a : Answer) (P : ℕ → Segment → Type 0) → ((x p : ℕ) (ys : List Bool) (t : Stage) → P x (waiting p ys t) → copies (work S a p ys t) ≡ ys)
    → (x e : ℕ) (segs : List Segment) → Chain P x segs e → copies (step S a segs) ≡ copies segs
step-copies S a P w x e [] h = refl
step-copies S a P w x e (dropped ys ∷ r) h = ap (λ (k : List Bool). ys ++ k) (step-copies S a P w (x + 0) e r h.1)
step-copies S a P w x e (settled m ys b ∷ r) h = ap (λ (k : List Bool). ys ++ k) (step-copies S a P w (x + length b) e r h.1)
step-copies S a P w x e (waiting p ys t ∷ r) h = copies-append (work S a p ys t) r ∙ ap (λ (k : List Bool). k ++ copies r) (w x p ys t h.0)

-- ---- rows
pub row_sum-append : (g : Row → ℕ) (l r : List Row) → row_sum g (l ++ r) ≡ row_sum g l + row_sum g r
row_sum-append g [] r = omega arith
row_sum-append g (s ∷ l) r = let h = row_sum-append g l r in omega arith

pub rows_of-append : (x : ℕ) (l r : List Segment) → rows_of x (l ++ r) ≡ rows_of x l ++ rows_of (x + total span l) r
rows_of-append x [] r = rw (add-zero)
rows_of-append x (dropped ys ∷ l) r = rw (zero-add) (rows_of-append x l r)
rows_of-append x (waiting p ys t ∷ l) r = rw (← add_assoc) (rows_of-append (x + p) l r)
rows_of-append x (settled m ys b ∷ l) r = rw (← add_assoc) (ap (λ (k : List Row). row x (length b) m ∷ k) (rows_of-append (x + length b) l r))

-- the rows after a step are those before it and the new ones, in another order
module _ (S : Settings) (a : Answer) (P : ℕ → Segment → Type 0) (g : Row → ℕ) where
  pub step-rows : (q : Question) → ((x p : ℕ) (ys : List Bool) (t : Stage) → P x (waiting p ys t) → asks S x p (length ys) t ≡ q → total span (work S a p ys t) ≡ p)
      → (x e : ℕ) (segs : List Segment) → Chain P x segs e → ask S x segs ≡ some q → row_sum g (rows_of x (step S a segs)) ≡ row_sum g (new_rows S a x segs) + row_sum g (rows_of x segs)
  step-rows q w x e [] h k = refl
  step-rows q w x e (dropped ys ∷ r) h k = step-rows q w x e r (rw add-zero at h.1) k
  step-rows q w x e (settled m ys b ∷ r) h k = let i = step-rows q w (x + length b) e r h.1 k in omega arith
  step-rows q w x e (waiting p ys t ∷ r) h k =
      rw (rows_of-append x (work S a p ys t) r, w x p ys t h.0 (cc)) (row_sum-append g (rows_of x (work S a p ys t)) (rows_of (x + p) r))
