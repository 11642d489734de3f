-- Every state from a call is sound: each step on a sound state gives one.
use Rattle.std.specs.Prelude.{◌≡◌, Bool, true, false, cond, ◌&&◌, ℕ, zero, suc, ◌+◌, ◌-◌, ◌*◌, ◌/◌, max, ◌≤◌, ◌<◌, ltb, eqb}
use Rattle.std.proofs.Math.Path.{refl}
use Rattle.std.proofs.Common.{◌∙◌, lit≤, eq-eqb, ltb-true, ltb-false, ne_eqb}
use mathlib.Core.List.{List, [], ◌∷◌}
use Rattle.std.proofs.Math.Option.{some}
use Rattle.std.proofs.Math.Nat.{le_refl}
use native.Mathlib.Omega.{arith}
use lib.ListN.{replicate, length-replicate, length, get_or}
use Rattle.std.proofs.lemmas.Bool.{eqb-false}
use Rattle.messages.specs.Answers.{Answer}
use Rattle.messages.specs.declared.Question.{Question}
use Rattle.ends.specs.laws.Counts.{Sane, before-most, cut, deep, deeper, sane}
use Rattle.ends.specs.Soundness.{bound, asks_left, opening_sound, rows_of_waiting, sound, stage_fits, top_fits, asks_before, is_hashing}
use Rattle.strings.specs.SettingLimits.{Limits}
use Rattle.ends.specs.laws.Moves.{Blank, effect_state, held-top, moved-effect, moved-opening}
use Rattle.ends.specs.RebuilderCall.{counting, effect_step, fresh_rebuilder, opened_state, opening_step, step_of, tallied, whole_step}
use Rattle.ends.specs.laws.Right.{StageOk}
use Rattle.ends.specs.Runs.{size_of, full, longest_answer}
use Rattle.ends.specs.Segments.{Effect, effect, settles, splits, stays, the_bits, the_size, next_stage, first_stage, later_stage, too_small}
use Rattle.ends.specs.laws.Shape.{Inside, ProperFor, proper-full, proper-size, sizes}
use Rattle.ends.specs.laws.SoundLaws.{Ordered, first_fits, fits-stage, next_fits, ordered-from}
use Rattle.ends.specs.States.{held, left_piece, no_piece, planned, popped, pushed, restaged, retried, right_piece, split_at, top}
use Rattle.ends.specs.laws.Steps.{step-opening, step-pieces, step-whole}
use Rattle.ends.specs.laws.Store.{Landed, landed, push, rows_after, stack_after}
use Rattle.ends.specs.declared.Piece.{Piece}
use Rattle.ends.specs.declared.Rebuilder.{Rebuilder}
use Rattle.strings.specs.declared.settings.Settings.{Settings}
use Rattle.strings.specs.Bits.{range, max_bits}
use Rattle.strings.proofs.laws.RangeLaws.{range_length}
use Rattle.strings.specs.laws.Tests.{by-test}
use Rattle.ends.specs.laws.SoundParts.{StackIs, Framed, sound-is, is-sound, PiecesIs, is-pieces, WholeIs, is-whole, phase-pieces, phase-whole, OpeningIs, top-is, ask-inside, PhaseOf, phase-of, is_opening, is_pieces, is_whole}
use Rattle.ends.specs.declared.Stage.TheVariants.{Hashing, PuttingIn, TakingOut, Anchor, AllBits, Columns}
use Rattle.ends.specs.declared.Attempt.TheVariants.{First, Second, Third}
use Rattle.ends.specs.declared.Phase.{Phase}
use Rattle.ends.specs.declared.Phase.TheVariants.{AtPieces, AtWhole}
use Rattle.ends.specs.declared.Stage.{Stage}

-- ---- the lists of pieces that an effect leaves
module _ (S : Settings) (L : Limits S) where
  push-length : (pc : Piece) (l : List Piece) → (i : ℕ) × (i ≤ 1) × (length (push pc l) ≡ i + length l)
  push-length pc l = by-test (λ (k : List Piece). (i : ℕ) × (i ≤ 1) × (length k ≡ i + length l)) (eqb pc.p 0) (λ e. (0, lit≤ tt, omega arith)) (λ e. (1, lit≤ tt, omega arith))

  push-ordered : (n e x y : ℕ) (pc : Piece) (l : List Piece) → x ≤ pc.x → y ≤ pc.y → pc.x + pc.p ≤ n → pc.y + pc.q ≤ e → pc.p ≤ bound (length l)
      → Ordered n e (pc.x + pc.p) (pc.y + pc.q) l → Ordered n e x y (push pc l)
  push-ordered n e x y pc l h k a b c o =
      by-test (Ordered n e x y) (eqb pc.p 0) (λ t. ordered-from n e (pc.x + pc.p) (pc.y + pc.q) x y l (omega arith) (omega arith) o)
      (λ t. (h, k, (let z : (pc.p ≡ 0) → ⊥ = eqb-false pc.p 0 t in omega arith), a, b, c, o))

  push-rows : (pc : Piece) (l : List Piece) → rows_of_waiting S.m (push pc l) ≤ 2 * (pc.p / S.m) + 1 + rows_of_waiting S.m l
  unfolding rows_of_waiting
  push-rows pc l = by-test (λ (k : List Piece). rows_of_waiting S.m k ≤ 2 * (pc.p / S.m) + 1 + rows_of_waiting S.m l) (eqb pc.p 0) (λ e. omega arith) (λ e. le_refl (2 * (pc.p / S.m) + 1 + rows_of_waiting S.m l))

  push-asks : (pc : Piece) (l : List Piece) → asks_left S.m (push pc l) ≤ 9 * (pc.p / S.m) + 5 + asks_left S.m l
  unfolding asks_left
  push-asks pc l = by-test (λ (k : List Piece). asks_left S.m k ≤ 9 * (pc.p / S.m) + 5 + asks_left S.m l) (eqb pc.p 0) (λ e. omega arith) (λ e. le_refl (9 * (pc.p / S.m) + 5 + asks_left S.m l))

  -- how many questions less a piece has to come after an effect, besides the one answered
  abbrev spare : Effect → ℕ
  spare (settles w b) = 5
  spare (stays t) = 0
  spare (splits s r b) = 4

  pub record Left (n e : ℕ) (pc : Piece) (l : List Piece) (f : Effect) : Type 0 where
    pub order : Ordered n e 0 0 (stack_after S pc l f)
    pub rows : rows_of_waiting S.m (stack_after S pc l f) + length (rows_after S pc f) ≤ rows_of_waiting S.m (pc ∷ l)
    pub asks : asks_left S.m (stack_after S pc l f) + spare f ≤ asks_left S.m (pc ∷ l)
    pub few : length (stack_after S pc l f) ≤ max 16 (length (pc ∷ l))

  pub effect-leaves : (n e : ℕ) (pc : Piece) (l : List Piece) (ys : List Bool) (t : Stage) (f : Effect) → length ys ≡ pc.q → Ordered n e 0 0 (pc ∷ l) → Sane S pc.p t f → Landed S ys f → Left n e pc l f
  unfolding rows_of_waiting asks_left
  effect-leaves n e pc l ys t (settles w b) q o sn ld = record {
    order = ordered-from n e (pc.x + pc.p) (pc.y + pc.q) 0 0 l (omega arith) (omega arith) o.6;
    rows = omega arith;
    asks = omega arith;
    few = omega arith;
  }
  effect-leaves n e pc l ys t (stays u) q o sn ld = record { order = o; rows = omega arith; asks = omega arith; few = omega arith }
  effect-leaves n e pc l ys t (splits s r b) q o sn ld =
      let f = sn.0 in
      let fl = f.left in let fr = f.right in let inside = f.inside in
      let right : Piece = right_piece S.m pc s r in
      let left : Piece = left_piece pc s r in
      let o3 = o.3 in let o4 = o.4 in let o5 = o.5 in
      let d = deep (length l) pc.p f.big o5 in
      let pl = push-length right l in
      let pl1 = pl.1 in let pl2 = pl.2 in
      let ol : Ordered n e (pc.x + s) (pc.y + r) (push right l) =
      push-ordered n e (pc.x + s) (pc.y + r) right l (omega arith) (omega arith) (omega arith) (omega arith) (omega arith)
      (ordered-from n e (pc.x + pc.p) (pc.y + pc.q) (pc.x + s + S.m + (pc.p - (s + S.m))) (pc.y + r + S.m + (pc.q - (r + S.m))) l (omega arith) (omega arith) o.6) in
      let bl : s ≤ bound (length (push right l)) = rw pl2 (deeper S L (length l) pc.p s pl.0 pl1 o5 fl) in
      let rc = cut S L pc.p s f in
      let r₁ = push-rows right l in
      let r₂ = push-rows left (push right l) in
      let a₁ = push-asks right l in
      let a₂ = push-asks left (push right l) in
      let ll = push-length left (push right l) in
      let ll1 = ll.1 in let ll2 = ll.2 in
      record {
        order = push-ordered n e 0 0 left (push right l) (omega arith) (omega arith) (omega arith) (omega arith) bl ol;
        rows = omega arith;
        asks = omega arith;
        few = omega arith;
      }

-- ---- after an answer
some-asks : (m w : ℕ) (arr : List Piece) → 0 < w → 5 ≤ asks_left m (held w arr)
unfolding asks_left
some-asks m zero arr h = absurd (omega arith)
some-asks m (suc w) arr h = omega arith

-- s has the stack after the answer and the counts before it
pub record Tally (s : Rebuilder) (size rows : ℕ) : Type 0 where
  pub framed : Framed s
  pub fits : top_fits s ≡ true
  pub order : Ordered s.n s.ybits 0 0 (held s.waiting s.pieces)
  pub rows_fit : s.rows + rows + rows_of_waiting s.settings.m (held s.waiting s.pieces) ≤ 2 * (s.n / s.settings.m) + 1
  pub asks : s.answered + 1 + asks_left s.settings.m (held s.waiting s.pieces) ≤ 9 * (s.n / s.settings.m) + 6 + asks_before s.stage
  pub counted : s.counted ≤ s.settings.ceiling
  pub short : size ≤ longest_answer s.n

module _ (s : Rebuilder) (size rows : ℕ) (k : Tally s size rows) where
  abbrev over : Phase → Rebuilder
  over ph = counting s ph (s.answered + 1) (s.counted + size) (s.rows + rows)

  over-framed : (ph : Phase) → Framed (over ph)
  over-framed ph = let f = k.framed in record { limits = f.limits; copy = f.copy; size = f.size; few = f.few; blank = f.blank }

  over-stack : (ph : Phase) → StackIs (over ph)
  unfolding top_fits top
  over-stack ph = record { fits = k.fits; order = k.order; rows = k.rows_fit }

  over-pieces : s.counted + size ≤ cond (eqb s.waiting 0) (s.settings.ceiling + full s.n + longest_answer s.n) s.settings.ceiling → sound (over AtPieces) ≡ true
  over-pieces h =
      is-sound (over AtPieces) (over-framed AtPieces) (phase-pieces (over AtPieces) refl ∙ is-pieces (over AtPieces) record { stack = over-stack AtPieces; answered = omega arith; asks = k.asks; counted = h })

  over-whole : s.settings.ceiling < s.counted + size → 0 < s.waiting → sound (over AtWhole) ≡ true
  over-whole h w =
      let a = k.asks in let c = k.counted in let z = k.short in
      let m = before-most s.stage in
      let five = some-asks s.settings.m s.waiting s.pieces w in
      is-sound (over AtWhole) (over-framed AtWhole) (phase-whole (over AtWhole) refl ∙ is-whole (over AtWhole) record { stack = over-stack AtWhole; answered = omega arith; asks = omega arith; some = w; past = h; counted = omega arith })

  over-judged : (t : Bool) → ltb s.settings.ceiling (s.counted + size) ≡ t → (u : Bool) → ltb 0 s.waiting ≡ u → sound (over (cond (t && u) AtWhole AtPieces)) ≡ true
  over-judged true e true f = over-whole (ltb-true s.settings.ceiling (s.counted + size) e) (ltb-true 0 s.waiting f)
  over-judged true e false f =
      let w = ltb-false 0 s.waiting f in
      let a = k.counted in let z = k.short in
      over-pieces (rw (eq-eqb s.waiting 0 (omega arith)) (omega arith))
  over-judged false e u f =
      let h = ltb-false s.settings.ceiling (s.counted + size) e in
      over-pieces (by-test (λ (n : ℕ). s.counted + size ≤ n) (eqb s.waiting 0) (λ q. omega arith) (λ q. h))

  pub tallied-sound : sound (tallied s size rows) ≡ true
  unfolding tallied
  tallied-sound = over-judged (ltb s.settings.ceiling (s.counted + size)) refl (ltb 0 s.waiting) refl

-- ---- stages after an effect
restaged-fits : (s : Rebuilder) → top_fits (restaged s) ≡ true
unfolding top_fits restaged top
restaged-fits s = go (eqb s.waiting 0)
  where
    go : (t : Bool)
        → let p = get_or s.pieces (s.waiting - 1) no_piece in
        cond t (is_hashing (cond t Hashing (first_stage s.settings p.p p.q))) (stage_fits s.settings p.p p.q (cond t Hashing (first_stage s.settings p.p p.q))) ≡ true
    go true = refl
    go false = first_fits s.settings _ _

retried-fits : (st : Rebuilder) → 0 < st.waiting → top_fits st ≡ true → top_fits (retried st) ≡ true
unfolding top_fits retried top
retried-fits st pos e =
    let z : eqb st.waiting 0 ≡ false = ne_eqb st.waiting 0 (λ w. omega arith) in
    rw z (next_fits st.settings _ _ st.stage (rw z at e))

-- the next stage is a later one, unless all bits were asked for
next-later : (S : Settings) (p q : ℕ) (t : Stage) → asks_before t < 4 → asks_before t + 1 ≤ asks_before (next_stage S p q t)
unfolding later_stage
next-later S p q Hashing h = by-test (λ (t : Stage). 1 ≤ asks_before t) (too_small S p q) {a = AllBits} {b = Anchor First} (λ e. lit≤ tt) (λ e. lit≤ tt)
next-later S p q PuttingIn h = by-test (λ (t : Stage). 1 ≤ asks_before t) (too_small S p q) {a = AllBits} {b = Anchor First} (λ e. lit≤ tt) (λ e. lit≤ tt)
next-later S p q TakingOut h = by-test (λ (t : Stage). 1 ≤ asks_before t) (too_small S p q) {a = AllBits} {b = Anchor First} (λ e. lit≤ tt) (λ e. lit≤ tt)
next-later S p q Columns h = by-test (λ (t : Stage). 1 ≤ asks_before t) (too_small S p q) {a = AllBits} {b = Anchor First} (λ e. lit≤ tt) (λ e. lit≤ tt)
next-later S p q (Anchor First) h = lit≤ tt
next-later S p q (Anchor Second) h = lit≤ tt
next-later S p q (Anchor Third) h = lit≤ tt
next-later S p q AllBits h = absurd (omega arith)

-- only a stage before that of all bits leaves a piece waiting
abbrev pub Low : Stage → Effect → Type 0
Low t (settles w b) = Unit {0}
Low t (stays u) = asks_before t < 4
Low t (splits s r b) = asks_before t < 4

any-low : (t : Stage) → asks_before t < 4 → (e : Effect) → Low t e
any-low t h (settles w b) = tt
any-low t h (stays u) = h
any-low t h (splits s r b) = h

low-stage : (S : Settings) (a : Answer) (p : ℕ) (ys : List Bool) (t : Stage) → Low t (effect S a p ys t)
unfolding effect
low-stage S a p ys Hashing = any-low Hashing (lit≤ tt) (effect S a p ys Hashing)
low-stage S a p ys PuttingIn = any-low PuttingIn (lit≤ tt) (effect S a p ys PuttingIn)
low-stage S a p ys TakingOut = any-low TakingOut (lit≤ tt) (effect S a p ys TakingOut)
low-stage S a p ys Columns = any-low Columns (lit≤ tt) (effect S a p ys Columns)
low-stage S a p ys (Anchor First) = any-low (Anchor First) (lit≤ tt) (effect S a p ys (Anchor First))
low-stage S a p ys (Anchor Second) = any-low (Anchor Second) (lit≤ tt) (effect S a p ys (Anchor Second))
low-stage S a p ys (Anchor Third) = any-low (Anchor Third) (lit≤ tt) (effect S a p ys (Anchor Third))
low-stage S a p ys AllBits = tt

-- ---- one answer for the leftmost piece
module _ (st : Rebuilder) (arr : length st.pieces ≡ 32) (f : Framed st) (k : PiecesIs st) (pos : 0 < st.waiting) (few : st.waiting < 32) (size : ℕ) (short : size ≤ longest_answer st.n) where
  abbrev S' : Settings
  S' = st.settings

  after-framed : (e : Effect) → Framed (effect_state st e)
  after-framed e =
      let m = moved-effect st.settings st refl arr pos few e in
      let fc = f.copy in let fs = f.size in let mc = m.ybits in let mn = m.n in
      record { limits = rw m.settings f.limits; copy = omega arith; size = omega arith; few = m.few; blank = m.blank f.blank }

  after-fits : (e : Effect) → top_fits (effect_state st e) ≡ true
  unfolding split_at
  after-fits (settles w b) = restaged-fits (popped st)
  after-fits (stays t) = retried-fits st pos k.stack.fits
  after-fits (splits s r b) = restaged-fits _

  after-stage : (e : Effect) → Low st.stage e → asks_before st.stage + 1 ≤ spare st.settings f.limits e + asks_before (effect_state st e).stage
  unfolding retried
  after-stage (settles w b) l = let z = before-most st.stage in omega arith
  after-stage (stays t) l = let z = next-later st.settings (top st).p (top st).q st.stage l in omega arith
  after-stage (splits s r b) l = omega arith

  pub effect-tally : (ys : List Bool) (t : Stage) (e : Effect) → length ys ≡ (top st).q → Sane st.settings (top st).p t e → Landed st.settings ys e → Low st.stage e
      → Tally (effect_state st e) size (length (rows_after st.settings (top st) e))
  effect-tally ys t e q sn ld l =
      let m = moved-effect st.settings st refl arr pos few e in
      let pc = top st in
      let below = held (st.waiting - 1) st.pieces in
      let ht : held st.waiting st.pieces ≡ pc ∷ below = unfold top in held-top st.waiting st.pieces pos in
      let lf = effect-leaves st.settings f.limits st.n st.ybits pc below ys t e q (rw ht at k.stack.order) sn ld in
      let kr : st.rows + rows_of_waiting st.settings.m (pc ∷ below) ≤ 2 * (st.n / st.settings.m) + 1 = rw ht at k.stack.rows in
      let ka : st.answered + asks_left st.settings.m (pc ∷ below) ≤ 9 * (st.n / st.settings.m) + 6 + asks_before st.stage = rw ht at k.asks in
      let lr = lf.rows in let la = lf.asks in
      let up = after-stage e l in
      let kc : st.counted ≤ st.settings.ceiling = rw (ne_eqb st.waiting 0 (λ w. omega arith)) at k.counted in
      record {
        framed = after-framed e;
        fits = after-fits e;
        order = rw (m.n, m.ybits, m.stack) lf.order;
        rows_fit = rw (m.rows, m.settings, m.n, m.stack) (omega arith);
        asks = rw (m.answered, m.settings, m.n, m.stack) (omega arith);
        counted = rw (m.counted, m.settings) kc;
        short = rw m.n short;
      }

-- ---- every step leaves a sound state
abbrev Sound' : Rebuilder → Type 0
Sound' s = (sound s ≡ true) × (length s.pieces ≡ 32)

zero-blank : (w : ℕ) → Blank (replicate 32 no_piece) w
zero-blank w i a b = lib.ListN.get_or-replicate 32 i no_piece no_piece b

-- a fresh state
pub fresh-sound : (S : Settings) (bits : ℕ) → Limits S → bits ≤ max_bits → Sound' (fresh_rebuilder S bits)
unfolding opening_sound
fresh-sound S bits L h = (
  is-sound (fresh_rebuilder S bits) record { limits = L; copy = h; size = omega arith; few = omega arith; blank = zero-blank 0 } refl,
  length-replicate 32 no_piece,
)

-- the opening's answer
pub opening-sound : (st : Rebuilder) (n : ℕ) → length st.pieces ≡ 32 → Framed st → OpeningIs st → n ≤ max_bits → Sound' (opening_step st n).state
unfolding opening_step
opening-sound st n arr f k h =
    let s = (opening_step st n).state in
    let pc : Piece = record { x = 0; p = n; y = 0; q = st.ybits } in
    let m = moved-opening st n arr in
    let po = push-ordered st.settings f.limits n st.ybits 0 0 pc [] (omega arith) (omega arith) (omega arith) (omega arith) h tt in
    let pr = push-rows st.settings f.limits pc [] in
    let pa = push-asks st.settings f.limits pc [] in
    let ka = k.answered in
    let kw = k.waiting in
    let fc = f.copy in
    let mw = m.answered in
    let bl : Blank st.pieces 0 = rw kw at f.blank in
    let fits = restaged-fits (pushed (opened_state st n) pc) in (
      is-sound s record { limits = rw m.settings f.limits; copy = rw m.ybits fc; size = rw m.n h; few = m.few; blank = m.blank bl }
          (phase-pieces s m.phase ∙ is-pieces s record {
            stack = record { fits = fits; order = rw (m.n, m.ybits, m.stack) po; rows = rw (m.rows, m.settings, m.n, m.stack) (unfold rows_of_waiting in omega arith) };
            answered = rw m.answered (omega arith);
            asks = rw (m.answered, m.settings, m.n, m.stack) (unfold asks_left in omega arith);
            counted = rw m.counted (omega arith);
          }),
      m.array,
    )

-- the whole string's answer
pub whole-sound : (st : Rebuilder) (size : ℕ) (l : List Bool) → Framed st → WholeIs st → size ≤ full st.n → Sound' (whole_step st size l).state
unfolding whole_step top_fits rows_of_waiting asks_left
whole-sound st size l f k h =
    let s = (whole_step st size l).state in
    let a = k.asks in let c = k.counted in let b = k.answered in (
      is-sound s record { limits = f.limits; copy = f.copy; size = f.size; few = omega arith; blank = zero-blank 0 }
          (phase-pieces s refl ∙ is-pieces s record {
            stack = record { fits = refl; order = tt; rows = omega arith };
            answered = omega arith;
            asks = omega arith;
            counted = omega arith;
          }),
      length-replicate 32 no_piece,
    )

tallied-effect : (st : Rebuilder) (size : ℕ) (e : Effect) → sound (tallied (effect_state st e) size (length (rows_after st.settings (top st) e))) ≡ true → length (effect_state st e).pieces ≡ 32
    → Sound' (effect_step st size e).state
unfolding effect_step tallied
tallied-effect st size (settles w b) s m = (s, m)
tallied-effect st size (stays t) s m = (s, m)
tallied-effect st size (splits x r b) s m = (s, m)

-- an answer for the leftmost piece
piece-sound : (st : Rebuilder) (y : List ℕ) (a : Answer) (size : ℕ) → length st.pieces ≡ 32 → Framed st → PiecesIs st → 0 < st.waiting → size ≤ longest_answer st.n
    → Sound' (effect_step st size (effect st.settings a (top st).p (range y (top st).y (top st).q) st.stage)).state
piece-sound st y a size arr f k pos short =
    let S = st.settings in
    let ti = top-is st k.stack pos in
    let ys = range y (top st).y (top st).q in
    let t = st.stage in
    let e = effect S a (top st).p ys t in
    let q = range_length y (top st).y (top st).q in
    let ok : StageOk S (top st).p (length ys) t = rw q (fits-stage st.settings f.limits (top st).p (top st).q st.stage ti.stage) in
    let sn = sane st.settings f.limits a (top st).p (range y (top st).y (top st).q) st.stage ok in
    let ld = landed st.settings a (top st).p (range y (top st).y (top st).q) st.stage in
    let lo = low-stage st.settings a (top st).p (range y (top st).y (top st).q) st.stage in
    let ta = effect-tally st arr f k pos ti.few size short ys t e q sn ld lo in
    let m = moved-effect st.settings st refl arr pos ti.few e in
    tallied-effect st size e (tallied-sound (effect_state st e) size (length (rows_after S (top st) e)) ta) m.array

pub step-sound : (st : Rebuilder) (y : List ℕ) (q : Question) (a : Answer) (size : ℕ) → length st.pieces ≡ 32 → sound st ≡ true → planned st ≡ some q → ProperFor st.settings q a → size ≡ size_of a
    → Sound' (step_of st y size a).state
step-sound st y q a size arr s k o sz =
    let f = sound-is st s in
    go f.0 (phase-of st q f.1 k)
  where
    go : Framed st → PhaseOf st q → Sound' (step_of st y size a).state
    go f (is_opening p i e) = rw (step-opening st y size a p) (opening-sound st (the_size a) arr f i (proper-size st.settings st.settings.h st.settings.key a (rw (← e) at o)))
    go f (is_pieces p i w e) =
        let ti = top-is st i.stack w in
        let ins : Inside st.n q = rw e at (ask-inside st f.limits ti) in
        let sh = sizes st.settings st.n f.size q a ins o in
        rw (step-pieces st y size a p) (piece-sound st y a size arr f i w (omega arith))
    go f (is_whole p i e) =
        let z = proper-full st.settings 0 st.n a (rw (← e) at o) in
        rw (step-whole st y size a p) (whole-sound st size (the_bits a) f i (omega arith))
