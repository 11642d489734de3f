-- What popping, pushing and splitting make of the array of waiting pieces.
use Rattle.std.specs.Prelude.{◌≡◌, refl, Bool, cond, ℕ, zero, suc, ◌+◌, ◌-◌, ◌≤◌, ◌<◌, set, length, eqb}
use Rattle.std.proofs.Math.Path.{ap, ap₂}
use Rattle.std.proofs.Common.{◌∙◌, length-set, get_or-set_same}
use Rattle.std.proofs.Math.Bool.{true, false}
use mathlib.Core.List.{List, [], ◌∷◌}
use Rattle.std.proofs.Math.Numerals.{add-one}
use native.Mathlib.Omega.{arith}
use Rattle.std.proofs.Math.Decide.{ℕ_discrete}
use Rattle.std.proofs.Math.ListN.{get_or}
use Rattle.std.proofs.Math.Seq.{get_or-set_other}
use Rattle.ends.specs.Segments.{Effect, settles, splits, stays}
use Rattle.ends.specs.laws.StackLaws.{held-push, held-set}
use Rattle.ends.specs.RebuilderCall.{opened_state, opening_step}
use Rattle.ends.specs.States.{held, left_piece, no_piece, popped, pushed, restaged, retried, right_piece, split_at, stacked, top}
use Rattle.ends.specs.laws.Store.{push, stack_after}
use Rattle.ends.specs.declared.Piece.{Piece}
use Rattle.ends.specs.declared.Rebuilder.{Rebuilder}
use Rattle.strings.specs.declared.settings.Settings.{Settings}
use Rattle.strings.specs.laws.Tests.{by-test}
use Rattle.ends.specs.declared.Stage.{Stage}

-- every entry from index w on is empty
abbrev pub Blank : List Piece → ℕ → Type 0
Blank arr w = (i : ℕ) → w ≤ i → i < 32 → get_or arr i no_piece ≡ no_piece

pub held-top : (w : ℕ) (arr : List Piece) → 0 < w → held w arr ≡ get_or arr (w - 1) no_piece ∷ held (w - 1) arr
held-top zero arr h = absurd (omega arith)
held-top (suc w) arr h = let e : suc w - 1 ≡ w = omega arith in rw e refl

-- s is st with another stack, whose pieces are l
pub record Moved (st s : Rebuilder) (l : List Piece) : Type 0 where
  pub settings : s.settings ≡ st.settings
  pub ybits : s.ybits ≡ st.ybits
  pub phase : s.phase ≡ st.phase
  pub n : s.n ≡ st.n
  pub answered : s.answered ≡ st.answered
  pub counted : s.counted ≡ st.counted
  pub rows : s.rows ≡ st.rows
  pub array : length s.pieces ≡ 32
  pub stack : held s.waiting s.pieces ≡ l
  pub few : s.waiting ≤ 32
  pub blank : Blank st.pieces st.waiting → Blank s.pieces s.waiting

moved-stack : (st : Rebuilder) (t : Stage) (w : ℕ) (arr l : List Piece) → length arr ≡ 32 → held w arr ≡ l → w ≤ 32 → (Blank st.pieces st.waiting → Blank arr w) → Moved st (stacked st t w arr) l
moved-stack st t w arr l a h f b = record { settings = refl; ybits = refl; phase = refl; n = refl; answered = refl; counted = refl; rows = refl; array = a; stack = h; few = f; blank = b }

-- at another stage
moved-stage : (st : Rebuilder) (t : Stage) → length st.pieces ≡ 32 → st.waiting ≤ 32 → Moved st (stacked st t st.waiting st.pieces) (held st.waiting st.pieces)
moved-stage st t arr few = moved-stack st t st.waiting st.pieces _ arr refl few (λ b. b)

pub moved_then : (st s u : Rebuilder) (l k : List Piece) → Moved st s l → Moved s u k → Moved st u k
moved_then st s u l k m o = record {
  settings = o.settings ∙ m.settings;
  ybits = o.ybits ∙ m.ybits;
  phase = o.phase ∙ m.phase;
  n = o.n ∙ m.n;
  answered = o.answered ∙ m.answered;
  counted = o.counted ∙ m.counted;
  rows = o.rows ∙ m.rows;
  array = o.array;
  stack = o.stack;
  few = o.few;
  blank = λ b. o.blank (m.blank b);
}

module _ (st : Rebuilder) (arr : length st.pieces ≡ 32) where
  pub moved-pop : 0 < st.waiting → st.waiting ≤ 32 → Moved st (popped st) (held (st.waiting - 1) st.pieces)
  unfolding popped
  moved-pop pos few =
      moved-stack st st.stage (st.waiting - 1) (set st.pieces (st.waiting - 1) no_piece) _
      (length-set st.pieces (st.waiting - 1) no_piece ∙ arr)
      (held-set (st.waiting - 1) (st.waiting - 1) st.pieces no_piece (omega arith))
      (omega arith)
      (λ b i h k. go b i h k (ℕ_discrete i (st.waiting - 1)))
    where
      go : Blank st.pieces st.waiting → (i : ℕ) → st.waiting - 1 ≤ i → i < 32 → Dec (i ≡ st.waiting - 1) → get_or (set st.pieces (st.waiting - 1) no_piece) i no_piece ≡ no_piece
      go b i h k (yes e) = rw e (get_or-set_same st.pieces (st.waiting - 1) no_piece no_piece (omega arith))
      go b i h k (no e) = get_or-set_other st.pieces (st.waiting - 1) i no_piece no_piece e ∙ b i (omega arith) k

  pub moved-push : (pc : Piece) → st.waiting < 32 → Moved st (pushed st pc) (push pc (held st.waiting st.pieces))
  unfolding pushed
  moved-push pc few = go (eqb pc.p 0)
    where
      go : (t : Bool) → Moved st (cond t st (stacked st st.stage (st.waiting + 1) (set st.pieces st.waiting pc))) (cond t (held st.waiting st.pieces) (pc ∷ held st.waiting st.pieces))
      go true = moved-stage st st.stage arr (omega arith)
      go false =
          moved-stack st st.stage (st.waiting + 1) (set st.pieces st.waiting pc) _
          (length-set st.pieces st.waiting pc ∙ arr)
          (rw add-one (held-push st.waiting st.pieces pc (omega arith)))
          (omega arith)
          (λ b i h k. get_or-set_other st.pieces st.waiting i pc no_piece (λ e. omega arith) ∙ b i (omega arith) k)

  pub moved-retry : st.waiting ≤ 32 → Moved st (retried st) (held st.waiting st.pieces)
  unfolding retried
  moved-retry few = moved-stage st _ arr few

pub moved-restage : (st s : Rebuilder) (l : List Piece) → Moved st s l → Moved st (restaged s) l
unfolding restaged
moved-restage st s l m = moved_then st s (restaged s) l l m (moved-stack s _ s.waiting s.pieces l m.array m.stack m.few (λ b. b))

-- the opening's answer: the first piece is pushed on a state with none
pub moved-opening : (st : Rebuilder) (n : ℕ) → length st.pieces ≡ 32 → Moved (opened_state st n) (opening_step st n).state (push (record { x = 0; p = n; y = 0; q = st.ybits }) [])
unfolding opening_step
moved-opening st n arr =
    let pc : Piece = record { x = 0; p = n; y = 0; q = st.ybits } in
    moved-restage (opened_state st n) (pushed (opened_state st n) pc) _ (moved-push (opened_state st n) arr pc (omega arith))

moved_to : (st s : Rebuilder) (l k : List Piece) → l ≡ k → Moved st s l → Moved st s k
moved_to st s l k e m = rw e at m

popped-waiting : (st : Rebuilder) → (popped st).waiting ≡ st.waiting - 1
unfolding popped
popped-waiting st = refl

pushed_most : (st : Rebuilder) (pc : Piece) → (pushed st pc).waiting ≤ st.waiting + 1
unfolding pushed
pushed_most st pc = by-test (λ (s : Rebuilder). s.waiting ≤ st.waiting + 1) (eqb pc.p 0) (λ e. omega arith) (λ e. omega arith)

-- ---- what an effect makes of the stack
abbrev pub effect_state : Rebuilder → Effect → Rebuilder
effect_state st (settles w b) = restaged (popped st)
effect_state st (stays t) = retried st
effect_state st (splits s r b) = split_at st s r

module _ (S : Settings) (st : Rebuilder) (is : st.settings ≡ S) (arr : length st.pieces ≡ 32) (pos : 0 < st.waiting) (few : st.waiting < 32) where
  pub moved-effect : (e : Effect) → Moved st (effect_state st e) (stack_after S (top st) (held (st.waiting - 1) st.pieces) e)
  unfolding split_at top
  moved-effect (settles w b) = moved-restage st (popped st) _ (moved-pop st arr pos (omega arith))
  moved-effect (stays t) = moved_to st (retried st) _ _ (held-top st.waiting st.pieces pos) (moved-retry st arr (omega arith))
  moved-effect (splits s r b) =
      let below = held (st.waiting - 1) st.pieces in
      let t = get_or st.pieces (st.waiting - 1) no_piece in
      let m₁ = moved-pop st arr pos (omega arith) in
      let p₁ = popped-waiting st in
      let w₁ : (popped st).waiting < 32 = omega arith in
      let m₂ = moved-push (popped st) m₁.array (right_piece st.settings.m t s r) w₁ in
      let p₂ = pushed_most (popped st) (right_piece st.settings.m t s r) in
      let w₂ : (pushed (popped st) (right_piece st.settings.m t s r)).waiting < 32 = omega arith in
      let m₃ = moved-push (pushed (popped st) (right_piece st.settings.m t s r)) m₂.array (left_piece t s r) w₂ in
      let e : push (left_piece t s r) (held (pushed (popped st) (right_piece st.settings.m t s r)).waiting (pushed (popped st) (right_piece st.settings.m t s r)).pieces)
      ≡ push (left_piece t s r) (push (right_piece S.m t s r) below) =
      ap (push (left_piece t s r)) (m₂.stack ∙ ap₂ (λ (z : Settings) (l : List Piece). push (right_piece z.m t s r) l) is m₁.stack) in
      moved-restage st _ _ (moved_to st _ _ _ e (moved_then st _ _ _ _ (moved_then st _ _ _ _ m₁ m₂) m₃))
