-- What the functions of src/state.rt require, and laws for their proofs.
use Rattle.std.specs.Prelude.{◌≡◌, Option as CodeOption, Some, None, cond, true, false, ℕ, ◌+◌, ◌-◌, ◌*◌, ◌≤◌, ◌<◌, set, eqb}
use Rattle.std.proofs.Math.Path.{refl}
use Rattle.std.proofs.Common.{sym, ap, ◌∙◌, le_refl, arith}
use Rattle.std.proofs.Math.Option.{Option, none, some}
use Rattle.strings.specs.laws.Tests.{by-test}
use Rattle.messages.specs.declared.Question.{Question}
use Rattle.strings.specs.declared.settings.Settings.{Settings}
use Rattle.ends.specs.declared.Piece.{Piece}
use Rattle.ends.specs.declared.Rebuilder.{Rebuilder}
use Rattle.ends.specs.States.{top, stacked, popped, pushed, restaged, split_at, left_piece, right_piece, planned_at, planned}
use Rattle.ends.specs.declared.Stage.{Stage}
use Rattle.ends.specs.declared.Stage.TheVariants.{Anchor, Hashing, PuttingIn, TakingOut, Columns}
use Rattle.ends.specs.declared.Attempt.{Attempt}
use Rattle.ends.specs.declared.Phase.TheVariants.{AtPieces}
use Rattle.strings.specs.Bits.{max_bits}
use Rattle.ends.specs.declared.Attempt.TheVariants.{First, Second, Third}
use Rattle.ends.specs.Segments.{offset, first_stage, later_stage, is_burst}
use borrow.Author.Tests.{eq-eqb, ne_eqb}
use Rattle.ends.specs.declared.Phase.{Phase}

-- a planned question as the code hands it on
abbrev pub plan_of : Option Question → CodeOption Question
plan_of none = None
plan_of (some q) = Some q

-- ---- what is required
-- settings of which 4(m + h) can be computed
pub record Usable (S : Settings) : Type 0 where
  pub m-most : S.m ≤ 64
  pub h-most : S.h ≤ 32

-- a piece waits
pub record Holds (st : Rebuilder) : Type 0 where
  pub some : 0 < st.waiting
  pub few : st.waiting ≤ 32

pub record Stages (st : Rebuilder) : Type 0 where
  pub usable : Usable st.settings
  pub few : st.waiting ≤ 32

pub record Retries (st : Rebuilder) : Type 0 where
  pub usable : Usable st.settings
  pub some : 0 < st.waiting
  pub few : st.waiting ≤ 32

-- a piece that is long enough for anchors
pub record Offsets (m p : ℕ) : Type 0 where
  pub m-most : m ≤ 64
  pub long : 4 * m ≤ p
  pub p-most : p ≤ max_bits

-- the anchor at offset s, placed at r, is within the leftmost piece, and there is a place for one piece more
pub record Splits (st : Rebuilder) (s r : ℕ) : Type 0 where
  pub usable : Usable st.settings
  pub some : 0 < st.waiting
  pub few : st.waiting < 32
  pub in-x : s + st.settings.m ≤ (top st).p
  pub in-y : r + st.settings.m ≤ (top st).q
  pub x-most : (top st).x + (top st).p < 4294967296
  pub y-most : (top st).y + (top st).q < 4294967296

-- the counts stay below 2^32
pub record Counts (st : Rebuilder) (size rows : ℕ) : Type 0 where
  pub answered : st.answered + 1 < 4294967296
  pub counted : st.counted + size < 4294967296
  pub used : st.rows + rows < 4294967296

-- an anchor, where one is asked for, is within the piece
pub record Asks (m : ℕ) (t : Piece) (stage : Stage) : Type 0 where
  pub m-most : m ≤ 64
  pub p-most : t.p ≤ max_bits
  pub x-most : t.x + t.p < 4294967296
  pub long : (i : Attempt) → stage ≡ Anchor i → 4 * m ≤ t.p

pub record Plans (st : Rebuilder) : Type 0 where
  pub few : st.waiting ≤ 32
  pub asks : st.phase ≡ AtPieces → 0 < st.waiting → Asks st.settings.m (top st) st.stage

-- ---- laws
-- settings are kept, and at most w pieces wait
pub record After (st to : Rebuilder) (w : ℕ) : Type 0 where
  pub settings : to.settings ≡ st.settings
  pub waiting : to.waiting ≤ w

pub after-pop : (st one : Rebuilder) → one ≡ popped st → After st one (st.waiting - 1)
unfolding popped
after-pop st one e = record { settings = ap (λ (s : Rebuilder). s.settings) e; waiting = (let k = ap (λ (s : Rebuilder). s.waiting) e in omega arith) }

pub after_push : (st one two : Rebuilder) (pc : Piece) (w : ℕ) → After st one w → two ≡ pushed one pc → After st two (w + 1)
unfolding pushed
after_push st one two pc w a e =
    let k = a.waiting in
    let h : After st (cond (eqb pc.p 0) one (stacked one one.stage (one.waiting + 1) (set one.pieces one.waiting pc))) (w + 1) =
    by-test (λ (s : Rebuilder). After st s (w + 1)) (eqb pc.p 0) (λ t. record { settings = a.settings; waiting = omega arith }) (λ t. record { settings = a.settings; waiting = omega arith }) in
    rw e h

pub stages-after : (st to : Rebuilder) (w : ℕ) → Usable st.settings → w ≤ 32 → After st to w → Stages to
stages-after st to w u h a = let k = a.waiting in record { usable = rw a.settings u; few = omega arith }

pub stages-push : (one two : Rebuilder) (pc : Piece) → Usable one.settings → one.waiting < 32 → two ≡ pushed one pc → Stages two
stages-push one two pc u h e = stages-after one two (one.waiting + 1) u (omega arith) (after_push one one two pc one.waiting (record { settings = refl; waiting = le_refl one.waiting }) e)

pub split-is : (st one two three four : Rebuilder) (t : Piece) (s r : ℕ) → t ≡ top st → one ≡ popped st → two ≡ pushed one (right_piece st.settings.m t s r)
    → three ≡ pushed two (left_piece t s r) → four ≡ restaged three → four ≡ split_at st s r
unfolding split_at
split-is st one two three four t s r a b c d e = rw (e, d, c, b, a) refl

-- ---- stages
pub offset-below : (m p : ℕ) (i : Attempt) → 4 * m ≤ p → offset m p i ≤ p
offset-below m p First h = omega arith
offset-below m p Second h = omega arith
offset-below m p Third h = omega arith

-- the stage at which a piece begins, from the wider numbers a and b
module _ (S : Settings) (p q a b : ℕ) (e : a ≡ p) (f : b ≡ q) where
  pub stage-same : b ≡ a → Hashing ≡ first_stage S p q
  unfolding first_stage
  stage-same h = rw (eq-eqb q p (omega arith)) refl

  pub stage-less : b + 1 ≡ a → PuttingIn ≡ first_stage S p q
  unfolding first_stage
  stage-less h = rw (ne_eqb q p (λ z. omega arith), eq-eqb (q + 1) p (omega arith)) refl

  pub stage-more : b ≡ a + 1 → TakingOut ≡ first_stage S p q
  unfolding first_stage
  stage-more h = rw (ne_eqb q p (λ z. omega arith), ne_eqb (q + 1) p (λ z. omega arith), eq-eqb q (p + 1) (omega arith)) refl

  pub stage-columns : (b ≡ a → ⊥) → (b + 1 ≡ a → ⊥) → (b ≡ a + 1 → ⊥) → is_burst p q ≡ true → Columns ≡ first_stage S p q
  unfolding first_stage
  stage-columns h k l i = rw (ne_eqb q p (λ z. h (omega arith)), ne_eqb (q + 1) p (λ z. k (omega arith)), ne_eqb q (p + 1) (λ z. l (omega arith)), i) refl

  pub stage-far : (b ≡ a → ⊥) → (b + 1 ≡ a → ⊥) → (b ≡ a + 1 → ⊥) → is_burst p q ≡ false → {t : Stage} → t ≡ later_stage S p q → t ≡ first_stage S p q
  unfolding first_stage
  stage-far h k l i d = rw (ne_eqb q p (λ z. h (omega arith)), ne_eqb (q + 1) p (λ z. k (omega arith)), ne_eqb q (p + 1) (λ z. l (omega arith)), i) d

-- ---- the question, by what is awaited
pub plan-at : (st : Rebuilder) (ph : Phase) → st.phase ≡ ph → {r : CodeOption Question} → r ≡ plan_of (planned_at ph st) → r ≡ plan_of (planned st)
unfolding planned
plan-at st ph e f = f ∙ ap (λ (p : Phase). plan_of (planned_at p st)) (sym e)
