-- What a state that passes the soundness test has: the test, part by part, as statements.
use Rattle.std.specs.Prelude.{◌≡◌, refl, Bool, true, false, cond, ◌&&◌, ◌∷◌, ℕ, zero, suc, ◌+◌, ◌-◌, ◌*◌, ◌/◌, ◌≤◌, ◌<◌, length, get_or, leb, ltb, eqb}
use Rattle.std.proofs.Common.{ap, ◌∙◌, arith, eqb-true, ltb-true, leb-true, le-leb, lt-ltb, ne_eqb}
use Rattle.std.proofs.Math.Option.{none, some}
use Rattle.std.proofs.Math.Decide.{ℕ_discrete, dec_le}
use Rattle.std.proofs.lemmas.Bool.{eqb-false}
use Rattle.messages.specs.declared.Question.{Question}
use Rattle.messages.specs.declared.Question.TheVariants.{AskBits, AskOpen}
use Rattle.ends.specs.Soundness.{bound, asks_left, blank_from, in_order, most_counted, opening_sound, phase_sound, pieces_sound, rows_in_limit, rows_of_waiting, sound, stack_sound, stage_fits, top_fits, whole_sound, asks_before, is_hashing, sound_at}
use Rattle.strings.specs.SettingLimits.{Limits, within_limits}
use Rattle.ends.specs.laws.Moves.{Blank, held-top}
use Rattle.ends.specs.laws.Right.{Long, StageOk, offset-fits}
use Rattle.ends.specs.Runs.{longest_answer}
use Rattle.ends.specs.Segments.{asks}
use Rattle.ends.specs.laws.Shape.{Inside}
use Rattle.strings.specs.laws.SettingLaws.{is-limits, limits-is}
use Rattle.ends.specs.laws.SoundLaws.{Ordered, blank-is, fits-stage, is-blank, is-order, order_is}
use Rattle.ends.specs.laws.StackLaws.{held-length}
use Rattle.ends.specs.States.{held, no_piece, planned, top, planned_at}
use Rattle.ends.specs.declared.Rebuilder.{Rebuilder}
use Rattle.strings.specs.declared.settings.Settings.{Settings}
use Rattle.strings.specs.laws.Tests.{both, and-true}
use Rattle.ends.specs.declared.Stage.{Stage}
use Rattle.ends.specs.declared.Stage.TheVariants.{Hashing, PuttingIn, TakingOut, Anchor, AllBits, Columns}
use Rattle.ends.specs.declared.Attempt.{Attempt}
use Rattle.ends.specs.declared.Phase.{Phase}
use Rattle.ends.specs.declared.Phase.TheVariants.{AtOpening, AtPieces, AtWhole}
use Rattle.strings.specs.Bits.{max_bits}

-- ---- the parts of the test
pub record StackIs (st : Rebuilder) : Type 0 where
  pub fits : top_fits st ≡ true
  pub order : Ordered st.n st.ybits 0 0 (held st.waiting st.pieces)
  pub rows : st.rows + rows_of_waiting st.settings.m (held st.waiting st.pieces) ≤ 2 * (st.n / st.settings.m) + 1

pub stack_is : (st : Rebuilder) → stack_sound st ≡ true → StackIs st
unfolding stack_sound
stack_is st e =
    let a = both (top_fits st) (in_order st.n st.ybits 0 0 (held st.waiting st.pieces) && rows_in_limit st) e in
    let b = both (in_order st.n st.ybits 0 0 (held st.waiting st.pieces)) (rows_in_limit st) a.1 in
    record { fits = a.0; order = order_is st.n st.ybits 0 0 (held st.waiting st.pieces) b.0; rows = leb-true _ _ b.1 }

pub is-stack : (st : Rebuilder) → StackIs st → stack_sound st ≡ true
unfolding stack_sound
is-stack st k =
    and-true (top_fits st) _ k.fits
    (and-true (in_order st.n st.ybits 0 0 (held st.waiting st.pieces)) _ (is-order st.n st.ybits 0 0 (held st.waiting st.pieces) k.order) (le-leb _ _ k.rows))

-- the fields that every phase has within their limits
pub record Framed (st : Rebuilder) : Type 0 where
  pub limits : Limits st.settings
  pub copy : st.ybits ≤ max_bits
  pub size : st.n ≤ max_bits
  pub few : st.waiting ≤ 32
  pub blank : Blank st.pieces st.waiting

pub sound-is : (st : Rebuilder) → sound st ≡ true → Framed st × (phase_sound st ≡ true)
unfolding sound
sound-is st e =
    let z = blank_from st.pieces (32 - st.waiting) st.waiting && phase_sound st in
    let a = both (within_limits st.settings) (leb st.ybits max_bits && (leb st.n max_bits && (leb st.waiting 32 && z))) e in
    let b = both (leb st.ybits max_bits) (leb st.n max_bits && (leb st.waiting 32 && z)) a.1 in
    let c = both (leb st.n max_bits) (leb st.waiting 32 && z) b.1 in
    let d = both (leb st.waiting 32) z c.1 in
    let f = both (blank_from st.pieces (32 - st.waiting) st.waiting) (phase_sound st) d.1 in
    let w = leb-true st.waiting 32 d.0 in (
      record {
        limits = limits-is st.settings a.0;
        copy = leb-true st.ybits max_bits b.0;
        size = leb-true st.n max_bits c.0;
        few = w;
        blank = blank-is st.pieces st.waiting w f.0;
      },
      f.1,
    )

pub is-sound : (st : Rebuilder) → Framed st → phase_sound st ≡ true → sound st ≡ true
unfolding sound
is-sound st k e =
    and-true (within_limits st.settings) _ (is-limits st.settings k.limits)
    (and-true (leb st.ybits max_bits) _ (le-leb st.ybits max_bits k.copy)
    (and-true (leb st.n max_bits) _ (le-leb st.n max_bits k.size)
    (and-true (leb st.waiting 32) _ (le-leb st.waiting 32 k.few)
    (and-true (blank_from st.pieces (32 - st.waiting) st.waiting) _ (is-blank st.pieces st.waiting k.few k.blank) e))))

pub record PiecesIs (st : Rebuilder) : Type 0 where
  pub stack : StackIs st
  pub answered : 1 ≤ st.answered
  pub asks : st.answered + asks_left st.settings.m (held st.waiting st.pieces) ≤ 9 * (st.n / st.settings.m) + 6 + asks_before st.stage
  pub counted : st.counted ≤ most_counted st

pub pieces-is : (st : Rebuilder) → pieces_sound st ≡ true → PiecesIs st
unfolding pieces_sound
pieces-is st e =
    let a = both (stack_sound st) _ e in
    let b = both (leb 1 st.answered) _ a.1 in
    let c = both (leb (st.answered + asks_left st.settings.m (held st.waiting st.pieces)) (9 * (st.n / st.settings.m) + 6 + asks_before st.stage)) _ b.1 in
    record { stack = stack_is st a.0; answered = leb-true 1 st.answered b.0; asks = leb-true _ _ c.0; counted = leb-true _ _ c.1 }

pub is-pieces : (st : Rebuilder) → PiecesIs st → pieces_sound st ≡ true
unfolding pieces_sound
is-pieces st k =
    and-true (stack_sound st) _ (is-stack st k.stack) (and-true (leb 1 st.answered) _ (le-leb 1 st.answered k.answered) (and-true _ _ (le-leb _ _ k.asks) (le-leb _ _ k.counted)))

pub record WholeIs (st : Rebuilder) : Type 0 where
  pub stack : StackIs st
  pub answered : 1 ≤ st.answered
  pub asks : st.answered + 1 ≤ 9 * (st.n / st.settings.m) + 6
  pub some : 0 < st.waiting
  pub past : st.settings.ceiling < st.counted
  pub counted : st.counted ≤ st.settings.ceiling + longest_answer st.n

pub whole_is : (st : Rebuilder) → whole_sound st ≡ true → WholeIs st
unfolding whole_sound
whole_is st e =
    let a = both (stack_sound st) _ e in
    let b = both (leb 1 st.answered) _ a.1 in
    let c = both (leb (st.answered + 1) (9 * (st.n / st.settings.m) + 6)) _ b.1 in
    let d = both (ltb 0 st.waiting) _ c.1 in
    let f = both (ltb st.settings.ceiling st.counted) _ d.1 in
    record { stack = stack_is st a.0; answered = leb-true 1 st.answered b.0; asks = leb-true _ _ c.0; some = ltb-true 0 st.waiting d.0; past = ltb-true _ _ f.0; counted = leb-true _ _ f.1 }

pub is-whole : (st : Rebuilder) → WholeIs st → whole_sound st ≡ true
unfolding whole_sound
is-whole st k =
    and-true (stack_sound st) _ (is-stack st k.stack) (and-true _ _ (le-leb 1 st.answered k.answered) (and-true _ _ (le-leb _ _ k.asks) (and-true _ _ (lt-ltb 0 st.waiting k.some) (and-true _ _ (lt-ltb _ _ k.past) (le-leb _ _ k.counted)))))

pub phase-pieces : (st : Rebuilder) → st.phase ≡ AtPieces → phase_sound st ≡ pieces_sound st
phase-pieces st e = rw e refl

pub phase-whole : (st : Rebuilder) → st.phase ≡ AtWhole → phase_sound st ≡ whole_sound st
phase-whole st e = rw e refl

-- awaiting the opening's answer
pub record OpeningIs (st : Rebuilder) : Type 0 where
  pub answered : st.answered ≡ 0
  pub counted : st.counted ≡ 0
  pub rows : st.rows ≡ 0
  pub stage : is_hashing st.stage ≡ true
  pub waiting : st.waiting ≡ 0

pub opening-is : (st : Rebuilder) → opening_sound st ≡ true → OpeningIs st
unfolding opening_sound
opening-is st e =
    let a = both (eqb st.n 0) _ e in
    let b = both (eqb st.answered 0) _ a.1 in
    let c = both (eqb st.counted 0) _ b.1 in
    let d = both (eqb st.rows 0) _ c.1 in
    let f = both (is_hashing st.stage) _ d.1 in
    record { answered = eqb-true st.answered 0 b.0; counted = eqb-true st.counted 0 c.0; rows = eqb-true st.rows 0 d.0; stage = f.0; waiting = eqb-true st.waiting 0 f.1 }

-- ---- the leftmost piece
bound-none : (i : ℕ) → bound (23 + i) ≡ 0
bound-none zero = refl
bound-none (suc i) = let e : 23 + suc i ≡ suc (23 + i) = omega arith in let h = bound-none i in rw e (omega arith)

few-pieces : (i p : ℕ) → 0 < p → p ≤ bound i → i ≤ 22
few-pieces i p h k = go (dec_le i 22)
  where
    go : Dec (i ≤ 22) → i ≤ 22
    go (yes l) = l
    go (no l) =
        let e : i ≡ 23 + (i - 23) = omega arith in
        let q : bound i ≡ 0 = ap bound e ∙ bound-none (i - 23) in
        absurd (omega arith)

-- what is known of the leftmost piece of a sound state
pub record TopIs (st : Rebuilder) : Type 0 where
  pub some : 0 < (top st).p
  pub in_x : (top st).x + (top st).p ≤ st.n
  pub in_y : (top st).y + (top st).q ≤ st.ybits
  pub stage : stage_fits st.settings (top st).p (top st).q st.stage ≡ true
  pub few : st.waiting < 32

pub top-is : (st : Rebuilder) → StackIs st → 0 < st.waiting → TopIs st
unfolding top_fits top
top-is st k pos =
    let ht = held-top st.waiting st.pieces pos in
    let o : Ordered st.n st.ybits 0 0 (get_or st.pieces (st.waiting - 1) no_piece ∷ held (st.waiting - 1) st.pieces) = rw ht at k.order in
    let z : eqb st.waiting 0 ≡ false = ne_eqb st.waiting 0 (λ w. omega arith) in
    let hl = held-length (st.waiting - 1) st.pieces in
    let fp = few-pieces (length (held (st.waiting - 1) st.pieces)) (get_or st.pieces (st.waiting - 1) no_piece).p o.2 o.5 in
    record { some = o.2; in_x = o.3; in_y = o.4; stage = rw z at k.fits; few = omega arith }

-- where anchors are tried the piece is long
pub stage-long : (S : Settings) → Limits S → (p q : ℕ) (t : Stage) → stage_fits S p q t ≡ true → (i : Attempt) → t ≡ Anchor i → Long S p
stage-long S L p q t e i f = fits-stage S L p q (Anchor i) (rw f at e)

pub ask-inside : (st : Rebuilder) → Limits st.settings → TopIs st → Inside st.n (asks st.settings (top st).x (top st).p (top st).q st.stage)
ask-inside st L k = go st.stage (fits-stage st.settings L (top st).p (top st).q st.stage k.stage)
  where
    go : (t : Stage) → StageOk st.settings (top st).p (top st).q t → Inside st.n (asks st.settings (top st).x (top st).p (top st).q t)
    go Hashing o = (k.some, k.in_x)
    go PuttingIn o = (k.some, k.in_x)
    go TakingOut o = (k.some, k.in_x)
    go Columns o = (k.some, k.in_x, o.0, o.1)
    go (Anchor i) o = let r = (offset-fits st.settings L (top st).p i o).inside in let a = k.in_x in let b = L.m-least in (omega arith, omega arith)
    go AllBits o = (k.some, k.in_x)

-- ---- a state's phase, and the question that it then asks
pub data PhaseOf (st : Rebuilder) (q : Question) : Type 0 where
  is_opening : st.phase ≡ AtOpening → OpeningIs st → AskOpen st.settings.h st.settings.key ≡ q → PhaseOf st q
  is_pieces : st.phase ≡ AtPieces → PiecesIs st → 0 < st.waiting → asks st.settings (top st).x (top st).p (top st).q st.stage ≡ q → PhaseOf st q
  is_whole : st.phase ≡ AtWhole → WholeIs st → AskBits 0 st.n ≡ q → PhaseOf st q

pub phase-of : (st : Rebuilder) (q : Question) → phase_sound st ≡ true → planned st ≡ some q → PhaseOf st q
unfolding planned
phase-of st q e k = go st.phase refl e k
  where
    asked : (w : Bool) → cond w none (some (asks st.settings (top st).x (top st).p (top st).q st.stage)) ≡ some q → (w ≡ false) × (asks st.settings (top st).x (top st).p (top st).q st.stage ≡ q)
    asked true f = let z : ◌≡◌ {A = ℕ} 0 1 = cc in absurd (omega arith)
    asked false f = (refl, cc)

    positive : Dec (st.waiting ≡ 0) → (st.waiting ≡ 0 → ⊥) → 0 < st.waiting
    positive (yes a) n = absurd (n a)
    positive (no a) n = omega arith

    go : (ph : Phase) → st.phase ≡ ph → sound_at ph st ≡ true → planned_at ph st ≡ some q → PhaseOf st q
    go AtOpening p e k = is_opening p (opening-is st e) (cc)
    go AtPieces p e k =
        let d = asked (eqb st.waiting 0) k in
        is_pieces p (pieces-is st e) (positive (ℕ_discrete st.waiting 0) (eqb-false st.waiting 0 d.0)) d.1
    go AtWhole p e k = is_whole p (whole_is st e) (cc)
