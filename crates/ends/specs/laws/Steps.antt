-- One answer, on the state with its buffers and on the run: they keep step.
use Rattle.std.specs.Prelude.{◌≡◌, Bool, true, false, ℕ, zero, suc, ◌+◌, ◌-◌, ◌*◌, ◌/◌, ◌≤◌, ◌<◌, take}
use Rattle.std.proofs.Math.Path.{refl, ap, ap₂}
use Rattle.std.proofs.Common.{sym, ◌∙◌, zero-add, arith, length-append, take_at, drop_at, lit≤}
use mathlib.Core.List.{List, [], ◌∷◌, ◌++◌}
use Rattle.std.proofs.Math.Option.{some}
use Rattle.std.proofs.Math.ListN.{length, get_or}
use Rattle.messages.specs.Answers.{Answer}
use Rattle.messages.specs.declared.Question.{Question}
use Rattle.messages.specs.declared.Question.TheVariants.{AskBits}
use Rattle.ends.specs.Anchors.{part}
use Rattle.ends.specs.Claims.{is_wait, row_sum, rows_at_front, total, zeroed_next}
use Rattle.ends.specs.laws.Counts.{row_cost}
use Rattle.ends.specs.laws.Invariant.{Held, Inv, work-chain}
use Rattle.ends.specs.laws.Kept.{rows-cost, rows-length}
use Rattle.strings.specs.SettingLimits.{Limits}
use Rattle.ends.specs.laws.Moves.{held-top}
use Rattle.ends.specs.RebuilderCall.{effect_step, opening_step, sheet_after, step_of, string_after, whole_step}
use Rattle.ends.specs.laws.Right.{begin-span, part_length}
use Rattle.ends.specs.Runs.{Run, copies, opening, question, size_of, whole, working}
use Rattle.ends.specs.laws.SegmentLaws.{Chain, ask-waits, chain-end, copies-append}
use Rattle.ends.specs.Segments.{Effect, Segment, ask, asks, dropped, effect, made, row, rows_of, settled, settles, span, splits, stays, the_bits, the_size, waiting, waits, work}
use Rattle.ends.specs.laws.Shape.{ProperFor, Shape, proper-bits}
use Rattle.ends.specs.laws.StackLaws.{IsNext, held-length, is-next}
use Rattle.ends.specs.laws.Standing.{Stands, InPiece, stands-effect, stands-opening, stands-whole}
use Rattle.ends.specs.States.{held, no_piece, top}
use Rattle.ends.specs.laws.Store.{Store, any_piece, applied, ask-front, chain-front, first_waiting, rows_after, stack-front, stack-waits, stack_of, stage-front, stage_of_top, step_store, store, store_of}
use Rattle.ends.specs.declared.How.TheVariants.{ByBits}
use Rattle.ends.specs.declared.Piece.{Piece}
use Rattle.ends.specs.declared.Rebuilder.{Rebuilder}
use Rattle.ends.specs.declared.Row.{Row}
use Rattle.strings.specs.declared.settings.Settings.{Settings}
use Rattle.strings.specs.Bits.{at_front, bytes_for, pack, range}
use Rattle.strings.proofs.laws.PackLaws.{pack-none}
use Rattle.strings.proofs.laws.RangeLaws.{range-part}
use Rattle.strings.specs.laws.Tests.{true-false}
use Rattle.ends.specs.declared.Phase.{Phase}
use Rattle.ends.specs.declared.Phase.TheVariants.{AtOpening, AtPieces, AtWhole}
use Rattle.ends.specs.declared.Stage.{Stage}
use Rattle.ends.specs.declared.Stage.TheVariants.{Hashing}

-- ---- what a step of a run has for the state
stack-length : (x y : ℕ) (segs : List Segment) → length (stack_of x y segs) ≡ total is_wait segs
stack-length x y [] = refl
stack-length x y (dropped ys ∷ r) = let h = stack-length x (y + length ys) r in omega arith
stack-length x y (settled w ys b ∷ r) = let h = stack-length (x + length b) (y + length ys) r in omega arith
stack-length x y (waiting p ys t ∷ r) = let h = stack-length (x + p) (y + length ys) r in omega arith

-- one row more fits the sheet while a piece waits
rows-within : (S : Settings) (x : ℕ) (segs : List Segment) → waits segs ≡ true → row_sum (λ r. 1) (rows_of x segs) + 1 ≤ total (row_cost S) segs
rows-within S x [] e = absurd (true-false (sym e))
rows-within S x (dropped ys ∷ r) e = let h = rows-within S x r e in omega arith
rows-within S x (waiting p ys t ∷ r) e = let h = rows-cost S (x + p) r in omega arith
rows-within S x (settled w ys b ∷ r) e = let h = rows-within S (x + length b) r e in omega arith

pub one-new-row : (S : Settings) (pc : Piece) (e : Effect) → length (rows_after S pc e) ≤ 1
one-new-row S pc (settles w b) = lit≤ tt
one-new-row S pc (stays t) = lit≤ tt
one-new-row S pc (splits s r b) = lit≤ tt

within-piece : (S : Settings) (L : Limits S) (n p : ℕ) (ys : List Bool) (pc : Piece) (e : Effect) → pc.x + p ≤ n → total span (made S p ys e) ≡ p → InPiece n pc e
within-piece S L n p ys pc (settles w b) h k = omega arith
within-piece S L n p ys pc (stays t) h k = tt
within-piece S L n p ys pc (splits s r b) h k = let u = begin-span S L s (take r ys) in omega arith

module _ (S : Settings) (Y : List Bool) (L : Limits S) where
  pub record PieceReady (n : ℕ) (segs : List Segment) (rows : List Row) (a : Answer) (pc : Piece) : Type 0 where
    pub within : InPiece n pc (effect S a pc.p (part Y pc.y pc.q) (stage_of_top segs))
    pub rows_fit : length rows + 1 ≤ 2 * (n / S.m) + 1
    pub copy : pc.y + pc.q ≤ length Y

  ready_at : (n : ℕ) (front rest segs : List Segment) (p : ℕ) (ys : List Bool) (t : Stage) (rows : List Row) (q : Question) (a : Answer) (pc : Piece) (below : List Piece)
      → ProperFor S q a → segs ≡ front ++ (waiting p ys t ∷ rest) → waits front ≡ false → Held S Y n segs rows → ask S 0 segs ≡ some q → stack_of 0 0 segs ≡ pc ∷ below
      → PieceReady n segs rows a pc
  ready_at n front rest segs p ys t rows q a pc below o is w h k es =
      let x₀ = 0 + total span front in
      let y₀ = 0 + length (copies front) in
      let pc₀ : Piece = record { x = x₀; p = p; y = y₀; q = length ys } in
      let e₀ : pc ∷ below ≡ pc₀ ∷ stack_of (x₀ + p) (y₀ + length ys) rest = sym es ∙ ap (stack_of 0 0) is ∙ stack-front 0 0 front (waiting p ys t ∷ rest) w in
      let e₁ : pc ≡ pc₀ = cc in
      let e₂ : stage_of_top segs ≡ t = ap stage_of_top is ∙ stage-front front (waiting p ys t ∷ rest) w in
      let ca : copies front ++ (ys ++ copies rest) ≡ Y = sym (copies-append front (waiting p ys t ∷ rest)) ∙ ap copies (sym is) ∙ h.copy in
      let e₄ : part Y y₀ (length ys) ≡ ys =
      ap (λ (l : List Bool). part l y₀ (length ys)) (sym ca) ∙ ap (take (length ys)) (drop_at (copies front) (ys ++ copies rest) y₀ (omega arith)) ∙ take_at ys (copies rest) (length ys) refl in
      let ch' : Chain (Shape S n) 0 (front ++ (waiting p ys t ∷ rest)) n = rw is at h.tiles in
      let g = (chain-front (Shape S n) 0 n front (waiting p ys t ∷ rest) ch').0 in
      let k' : ask S 0 (front ++ (waiting p ys t ∷ rest)) ≡ some q = rw is at k in
      let k'' : some (asks S x₀ p (length ys) t) ≡ some q = sym (ask-front S 0 front (waiting p ys t ∷ rest) w) ∙ k' in
      let d : asks S x₀ p (length ys) t ≡ q = cc in
      let en = chain-end (Shape S n) x₀ (x₀ + p) (work S a p ys t) (work-chain S Y L n q a o x₀ p ys t g d) in
      let z : total span (work S a p ys t) ≡ p = omega arith in
      let rr = rows-within S 0 segs (ask-waits S q 0 segs k) in
      let ra = h.rows_are (λ r. 1) in
      let rl = rows-length rows in
      let rf = h.rows_few in
      let cl : length (copies front ++ (ys ++ copies rest)) ≡ length Y = ap length ca in
      let c₁ = length-append (copies front) (ys ++ copies rest) in
      let c₂ = length-append ys (copies rest) in
      rw e₁ record {
        within = rw (e₂, e₄) (within-piece S L n p ys pc₀ (effect S a p ys t) g.0 z);
        rows_fit = omega arith;
        copy = omega arith;
      }

  pub piece-ready : (n : ℕ) (segs : List Segment) (rows : List Row) (q : Question) (a : Answer) (pc : Piece) (below : List Piece)
      → ProperFor S q a → Held S Y n segs rows → ask S 0 segs ≡ some q → stack_of 0 0 segs ≡ pc ∷ below → PieceReady n segs rows a pc
  piece-ready n segs rows q a pc below o h k es =
      let u = first_waiting segs (ask-waits S q 0 segs k) in
      ready_at n u.front u.rest segs u.len u.copy u.stage rows q a pc below o u.is u.still h k es

  -- a question is asked, so a piece waits
  pub some-held : (segs : List Segment) (q : Question) (w : ℕ) (arr : List Piece) → ask S 0 segs ≡ some q → stack_of 0 0 segs ≡ held w arr → 0 < w
  some-held segs q zero arr k e =
      let u = stack-waits 0 0 segs in
      let v : any_piece (stack_of 0 0 segs) ≡ false = ap any_piece e in
      absurd (true-false (sym (ask-waits S q 0 segs k) ∙ sym u ∙ v))
  some-held segs q (suc w) arr k e = omega arith

-- ---- one answer
-- which step a state takes
module _ (st : Rebuilder) (y : List ℕ) (size : ℕ) (a : Answer) where
  pub step-opening : st.phase ≡ AtOpening → step_of st y size a ≡ opening_step st (the_size a)
  unfolding step_of
  step-opening e = rw e refl

  pub step-pieces : st.phase ≡ AtPieces → step_of st y size a ≡ effect_step st size (effect st.settings a (top st).p (range y (top st).y (top st).q) st.stage)
  unfolding step_of
  step-pieces e = rw e refl

  pub step-whole : st.phase ≡ AtWhole → step_of st y size a ≡ whole_step st size (the_bits a)
  unfolding step_of
  step-whole e = rw e refl

-- buffers are enough for the bits that the run knows of, or learns of
abbrev pub EnoughFor : Settings → Run → Answer → List ℕ → List Row → Type 0
EnoughFor S opening a bs₀ sh₀ = (bytes_for (the_size a) ≤ length bs₀) × (2 * (the_size a / S.m) + 1 ≤ length sh₀)
EnoughFor S (working n c segs rows) a bs₀ sh₀ = (bytes_for n ≤ length bs₀) × (2 * (n / S.m) + 1 ≤ length sh₀)
EnoughFor S (whole n c segs rows) a bs₀ sh₀ = (bytes_for n ≤ length bs₀) × (2 * (n / S.m) + 1 ≤ length sh₀)

module _ (S : Settings) (Y : List Bool) (L : Limits S) (y : List ℕ) (yr : range y 0 (length Y) ≡ Y) (bs₀ : List ℕ) (sh₀ : List Row) where
  -- the state's effect is the protocol's
  effect-same : (st : Rebuilder) (a : Answer) → st.settings ≡ S → (top st).y + (top st).q ≤ length Y
      → effect st.settings a (top st).p (range y (top st).y (top st).q) st.stage
      ≡ effect S a (top st).p (part Y (top st).y (top st).q) st.stage
  effect-same st a e h =
      ap (λ (z : Settings). effect z a (top st).p (range y (top st).y (top st).q) st.stage) e
      ∙ ap (λ (l : List Bool). effect S a (top st).p l st.stage)
      (ap (λ (n : ℕ). range y n (top st).q) (sym (zero-add (top st).y)) ∙ sym (range-part y 0 (length Y) (top st).y (top st).q h) ∙ ap (λ (l : List Bool). part l (top st).y (top st).q) yr)

  working-step : (st : Rebuilder) (bs : List ℕ) (sh : List Row) (n c : ℕ) (segs : List Segment) (rows : List Row) (q : Question) (a : Answer) (size : ℕ)
      → Stands S (length Y) bs₀ sh₀ 0 st bs sh (store_of (working n c segs rows)) → Held S Y n segs rows → ask S 0 segs ≡ some q → ProperFor S q a → size ≡ size_of a → 2 * (n / S.m) + 1 ≤ length sh₀
      → Stands S (length Y) bs₀ sh₀ 0 (step_of st y size a).state (string_after bs (step_of st y size a).string) (sheet_after sh (step_of st y size a).sheet) (step_store S Y (store_of (working n c segs rows)) a)
  unfolding top
  working-step st bs sh n c segs rows q a size h hd k o sz enough =
      let hi = h.is in
      let ph : AtPieces ≡ st.phase = cc in
      let en : n ≡ st.n = cc in
      let es : stack_of 0 0 segs ≡ held st.waiting st.pieces = cc in
      let er : rows ≡ h.rows = cc in
      let sg : stage_of_top segs ≡ st.stage = cc in
      let pos = some-held S Y L segs q st.waiting st.pieces k es in
      let pc = get_or st.pieces (st.waiting - 1) no_piece in
      let below = held (st.waiting - 1) st.pieces in
      let ht = held-top st.waiting st.pieces pos in
      let pr = piece-ready S Y L n segs rows q a pc below o hd k (es ∙ ht) in
      let e₀ = effect S a pc.p (part Y pc.y pc.q) st.stage in
      let e₁ = effect st.settings a pc.p (range y pc.y pc.q) st.stage in
      let ee : e₁ ≡ e₀ = effect-same st a h.settings pr.copy in
      let wi : InPiece st.n pc e₀ = rw (sg, en) at pr.within in
      let prr = pr.rows_fit in let hu = h.used in let lr : length rows ≡ length h.rows = ap length er in
      let onr = one-new-row S pc (effect S a pc.p (part Y pc.y pc.q) st.stage) in
      let fw : length (held st.waiting st.pieces) ≡ total is_wait segs = ap length (sym es) ∙ stack-length 0 0 segs in
      let hl = held-length st.waiting st.pieces in
      let hf = hd.few in
      let pl : length (part Y pc.y pc.q) ≡ pc.q = part_length S L Y pc.y pc.q pr.copy in
      let nx : IsNext S pc.p pc.q st.stage e₀ = rw pl at (is-next S a pc.p (part Y pc.y pc.q) st.stage) in
      let se = stands-effect S (length Y) bs₀ sh₀ st bs sh (store_of (working n c segs rows)) h pos (omega arith) size e₀ wi (omega arith) nx in
      let left : step_store S Y (store_of (working n c segs rows)) a ≡ applied S st.n (st.counted + size) pc below h.str h.rows e₀ =
      ap (λ (z : Store). step_store S Y z a) h.is
      ∙ ap₂ (λ (f : Phase) (l : List Piece). step_store S Y (store f st.n st.counted st.stage l h.str h.rows) a) (sym ph) ht
      ∙ ap (λ (z : ℕ). applied S st.n (st.counted + z) pc below h.str h.rows e₀) (sym sz) in
      rw (step-pieces st y size a (sym ph), ee, left) se

  pub stands-step : (st : Rebuilder) (bs : List ℕ) (sh : List Row) (asked : ℕ) (s : Run) (q : Question) (a : Answer) (size : ℕ)
      → Stands S (length Y) bs₀ sh₀ 0 st bs sh (store_of s) → Inv S Y asked s → question S s ≡ some q → ProperFor S q a → size ≡ size_of a → EnoughFor S s a bs₀ sh₀
      → Stands S (length Y) bs₀ sh₀ (zeroed_next s) (step_of st y size a).state (string_after bs (step_of st y size a).string) (sheet_after sh (step_of st y size a).sheet) (step_store S Y (store_of s) a)
  stands-step st bs sh asked opening q a size h i k o sz enough =
      let hi = h.is in
      let ep : AtOpening ≡ st.phase = cc in
      let es : h.str ≡ [] = cc in
      let er : h.rows ≡ [] = cc in
      rw (step-opening st y size a (sym ep))
      (stands-opening S (length Y) bs₀ sh₀ st bs sh (the_size a)
      (h.string ∙ ap (λ (l : List Bool). at_front (pack l) bs₀) es ∙ ap (λ (m : List ℕ). at_front m bs₀) pack-none) (h.sheet ∙ ap (λ (l : List Row). rows_at_front l 0 sh₀) er)
      h.settings h.copy h.array enough.0)
  stands-step st bs sh asked (working n c segs rows) q a size h i k o sz enough = working-step st bs sh n c segs rows q a size h i.0 k o sz enough.1
  stands-step st bs sh asked (whole n c segs rows) q a size h i k o sz enough =
      let hi = h.is in
      let ep : AtWhole ≡ st.phase = cc in
      let en : n ≡ st.n = cc in
      let ec : c ≡ st.counted = cc in
      let er : h.rows ≡ rows = cc in
      let lr : length h.rows ≡ length rows = ap length er in
      let hu = h.used in
      let rc = rows-cost S 0 segs in let ra = i.0.rows_are (λ r. 1) in let rl = rows-length rows in let rf = i.0.rows_few in
      let eq : AskBits 0 n ≡ q = cc in
      let pb : length (the_bits a) ≡ n = proper-bits S 0 n a (rw (← eq) at o) in
      let rm = enough.1 in
      let e : step_store S Y (store_of (whole n c segs rows)) a ≡ store AtPieces st.n (st.counted + size) Hashing [] (the_bits a) (row 0 st.n ByBits ∷ []) =
      (λ j. store AtPieces (en j) (ec j + sym sz j) Hashing [] (the_bits a) (row 0 (en j) ByBits ∷ [])) in
      rw (step-whole st y size a (sym ep), e, ← lr) (stands-whole S (length Y) bs₀ sh₀ st bs sh (store_of (whole n c segs rows)) h size (the_bits a) (pb ∙ en) (omega arith) (omega arith))
