-- A state, a string buffer and a sheet stand for a store: what a step of the state makes of them is what a step of the store makes of it.
use Rattle.std.specs.Prelude.{◌≡◌, Bool, false, ◌&&◌, ℕ, zero, suc, ◌+◌, ◌-◌, ◌≤◌, ◌<◌, replicate, length, drop, get_or, eqb}
use Rattle.std.proofs.Math.Path.{refl, sym, ap, ap₂}
use Rattle.std.proofs.Common.{◌∙◌, add-zero, arith, drop_of_length-le, length-drop, drop-drop}
use Rattle.std.proofs.Math.Bool.{cond}
use mathlib.Core.List.{List, [], ◌∷◌, ◌++◌, append-nil}
use Rattle.std.proofs.lemmas.List.{length-replicate}
use Rattle.std.proofs.Math.ListN.{length-append}
use Rattle.std.proofs.Math.Seq.{drop-append-add, take-append_seam}
use Rattle.std.proofs.lemmas.List.Edits.{sets, sets-eq}
use Rattle.std.proofs.Math.Dec.{ltb}
use Rattle.ends.specs.Claims.{rows_at_front}
use Rattle.ends.specs.laws.Kept.{blank-length}
use Rattle.ends.specs.laws.Moves.{Moved, effect_state, moved-effect, moved-push}
use Rattle.ends.specs.RebuilderCall.{effect_step, no_row, opened_state, opening_step, sheet_after, string_after, tallied, whole_step}
use Rattle.ends.specs.Runs.{blank}
use Rattle.ends.specs.Segments.{Effect, row, settles, splits, stays, next_stage, first_stage}
use Rattle.ends.specs.laws.StackLaws.{IsNext, held_any, restage-held}
use Rattle.ends.specs.States.{held, left_piece, no_piece, popped, pushed, restaged, retried, right_piece, split_at, top}
use Rattle.ends.specs.laws.Store.{Store, applied, phase_after, push, rows_after, stack_after, stage_after, store, top_stage}
use Rattle.ends.specs.declared.How.TheVariants.{ByAnchor, ByBits}
use Rattle.ends.specs.declared.Piece.{Piece}
use Rattle.ends.specs.declared.Rebuilder.{Rebuilder}
use Rattle.ends.specs.declared.Row.{Row}
use Rattle.strings.specs.declared.settings.Settings.{Settings}
use Rattle.strings.specs.Bits.{at_front, bytes_for, cleared, pack, write_bits}
use Rattle.strings.proofs.laws.PackLaws.{front-cleared, front-write, length_over}
use Rattle.strings.specs.laws.StoreLaws.{sets-front}
use Rattle.strings.proofs.laws.WriteLaws.{over}
use Rattle.ends.specs.declared.Phase.TheVariants.{AtWhole, AtPieces}
use Rattle.ends.specs.declared.Stage.{Stage}
use Rattle.ends.specs.declared.Stage.TheVariants.{Hashing}

-- the string buffer, lent at first with the bytes bs₀, has the store's bits packed at its front; the sheet, lent at first with the rows sh₀,
-- has the store's rows at its front, and behind them z rows of zeros
pub record Stands (S : Settings) (yb : ℕ) (bs₀ : List ℕ) (sh₀ : List Row) (z : ℕ) (st : Rebuilder) (bs : List ℕ) (sh : List Row) (s : Store) : Type 0 where
  pub str : List Bool
  pub rows : List Row
  pub is : s ≡ store st.phase st.n st.counted st.stage (held st.waiting st.pieces) str rows
  pub size : length str ≡ st.n
  pub string : bs ≡ at_front (pack str) bs₀
  pub used : st.rows ≡ length rows
  pub sheet : sh ≡ rows_at_front rows z sh₀
  pub settings : st.settings ≡ S
  pub copy : st.ybits ≡ yb
  pub array : length st.pieces ≡ 32

-- what an effect writes lies in the string
abbrev pub InPiece : ℕ → Piece → Effect → Type 0
InPiece n pc (settles w b) = pc.x + length b ≤ n
InPiece n pc (stays t) = Unit {0}
InPiece n pc (splits s r b) = pc.x + s + length b ≤ n

-- ---- parts of the step: string, sheet, stack, phase
pub plain-sheet : (l sh₀ : List Row) → rows_at_front l 0 sh₀ ≡ l ++ drop (length l) sh₀
plain-sheet l sh₀ = ap (λ (n : ℕ). l ++ drop n sh₀) (add-zero (length l))

-- behind its front a sheet is as it was lent
behind-front : (l sh₀ : List Row) (k : ℕ) → length l ≤ k → drop k (l ++ drop (length l) sh₀) ≡ drop k sh₀
behind-front l sh₀ k h =
    let e : k ≡ length l + (k - length l) = omega arith in
    ap (λ (n : ℕ). drop n (l ++ drop (length l) sh₀)) e ∙ drop-append-add l (drop (length l) sh₀) (k - length l) ∙ drop-drop (k - length l) (length l) sh₀ ∙ ap (λ (n : ℕ). drop n sh₀) (sym e)

front_length : (l sh₀ : List Row) → length l ≤ length sh₀ → length (l ++ drop (length l) sh₀) ≡ length sh₀
front_length l sh₀ h = let a = length-append l (drop (length l) sh₀) in let d = length-drop (length l) sh₀ in omega arith

add_row : (l sh₀ : List Row) (r : Row) → length l < length sh₀ → sets (rows_at_front l 0 sh₀) (length l) (r ∷ []) ≡ rows_at_front (l ++ (r ∷ [])) 0 sh₀
add_row l sh₀ r h =
    let f = front_length l sh₀ (omega arith) in
    let n = length-append l (r ∷ []) in
    ap (λ (s : List Row). sets s (length l) (r ∷ [])) (plain-sheet l sh₀)
    ∙ sets-eq (r ∷ []) (l ++ drop (length l) sh₀) (length l) (omega arith)
    ∙ ap₂ (λ (u v : List Row). u ++ (r ∷ []) ++ v) (take-append_seam l (drop (length l) sh₀)) (behind-front l sh₀ (length l + 1) (omega arith))
    ∙ ap (λ (k : ℕ). l ++ (r ∷ []) ++ drop k sh₀) (sym n)
    ∙ sym (plain-sheet (l ++ (r ∷ [])) sh₀)

one-row : (l sh₀ : List Row) (r : Row) → 0 < length sh₀ → length l ≤ length sh₀ → sets (rows_at_front l 0 sh₀) 0 (r ∷ replicate (length l - 1) no_row) ≡ rows_at_front (r ∷ []) (length l - 1) sh₀
one-row l sh₀ r h k =
    let f = front_length l sh₀ k in
    let n = length-replicate (length l - 1) no_row in
    ap (λ (s : List Row). sets s 0 (r ∷ replicate (length l - 1) no_row)) (plain-sheet l sh₀)
    ∙ sets-front (l ++ drop (length l) sh₀) (r ∷ replicate (length l - 1) no_row) (omega arith)
    ∙ ap (λ (v : List Row). r ∷ (replicate (length l - 1) no_row ++ v))
    (behind-front l sh₀ (suc (length (replicate (length l - 1) no_row))) (omega arith) ∙ ap (λ (j : ℕ). drop j sh₀) (let e : suc (length (replicate (length l - 1) no_row)) ≡ 1 + (length l - 1) = omega arith in e))

-- the phase after an answer
phase-is : (S : Settings) (c w : ℕ) (arr : List Piece) → cond (ltb S.ceiling c && ltb 0 w) AtWhole AtPieces ≡ phase_after S c (held w arr)
phase-is S c w arr = ap (λ (t : Bool). cond (ltb S.ceiling c && t) AtWhole AtPieces) (held_any w arr)

blank-at : (n i : ℕ) → get_or (blank n) i false ≡ false
blank-at zero i = refl
blank-at (suc n) zero = refl
blank-at (suc n) (suc i) = blank-at n i

blank-front : (bs₀ : List ℕ) (n : ℕ) → bytes_for n ≤ length bs₀ → cleared bs₀ 0 (bytes_for n) ≡ at_front (pack (blank n)) bs₀
blank-front bs₀ n h =
    let b = blank-length n in
    ap (λ (k : ℕ). cleared bs₀ 0 (bytes_for k)) (sym b) ∙ front-cleared (blank n) bs₀ (blank-at n) (omega arith)

-- ---- a state s, got from the stack of st, with the counts of one answer more
module _ (S : Settings) (yb : ℕ) (bs₀ : List ℕ) (sh₀ : List Row) (st s : Rebuilder) (bs : List ℕ) (sh : List Row) (rows new : List Row) (l : List Piece) (t : Stage) (str : List Bool) where
  -- what the parts of the step show
  pub record Parts : Type 0 where
    pub settings : s.settings ≡ S
    pub ybits : s.ybits ≡ yb
    pub n : s.n ≡ st.n
    pub counted : s.counted ≡ st.counted
    pub answered : s.rows ≡ st.rows
    pub array : length s.pieces ≡ 32
    pub stack : held s.waiting s.pieces ≡ l
    pub stage : s.stage ≡ t
    pub size : length str ≡ st.n
    pub string : bs ≡ at_front (pack str) bs₀
    pub sheet : sh ≡ rows_at_front (rows ++ new) 0 sh₀
    pub used : st.rows ≡ length rows

  pub stands-tallied : (size : ℕ) → Parts → Stands S yb bs₀ sh₀ 0 (tallied s size (length new)) bs sh (store (phase_after S (st.counted + size) l) st.n (st.counted + size) t l str (rows ++ new))
  unfolding tallied
  stands-tallied size k =
      let kn = k.n in let ka = k.answered in let ku = k.used in
      let ph : cond (ltb s.settings.ceiling (s.counted + size) && ltb 0 s.waiting) AtWhole AtPieces ≡ phase_after S (st.counted + size) l =
      ap (λ (z : Settings). cond (ltb z.ceiling (s.counted + size) && ltb 0 s.waiting) AtWhole AtPieces) k.settings
      ∙ phase-is S (s.counted + size) s.waiting s.pieces
      ∙ ap₂ (λ (c : ℕ) (k : List Piece). phase_after S (c + size) k) k.counted k.stack in
      record {
        str = str;
        rows = rows ++ new;
        is = (λ i. store (sym ph i) (sym k.n i) (sym k.counted i + size) (sym k.stage i) (sym k.stack i) str (rows ++ new));
        size = k.size ∙ sym k.n;
        string = k.string;
        used = (let z = length-append rows new in omega arith);
        sheet = k.sheet;
        settings = k.settings;
        copy = k.ybits;
        array = k.array;
      }

-- ---- the stage
pub restage-is : (S : Settings) (s : Rebuilder) → s.settings ≡ S → (restaged s).stage ≡ top_stage S (held s.waiting s.pieces)
unfolding restaged top
restage-is S s e =
    ap (λ (z : Settings). cond (eqb s.waiting 0) Hashing (first_stage z (get_or s.pieces (s.waiting - 1) no_piece).p (get_or s.pieces (s.waiting - 1) no_piece).q)) e
    ∙ restage-held S s.waiting s.pieces

retried-stage : (S : Settings) (st : Rebuilder) (t : Stage) → st.settings ≡ S → IsNext S (top st).p (top st).q st.stage (stays t) → (retried st).stage ≡ t
unfolding retried
retried-stage S st t e k = ap (λ (z : Settings). next_stage z (top st).p (top st).q st.stage) e ∙ sym k

-- ---- the effect of an answer
module _ (S : Settings) (yb : ℕ) (bs₀ : List ℕ) (sh₀ : List Row) (st : Rebuilder) (bs : List ℕ) (sh : List Row) (s : Store) (h : Stands S yb bs₀ sh₀ 0 st bs sh s) (pos : 0 < st.waiting) (few : st.waiting < 32) where
  abbrev below : List Piece
  below = held (st.waiting - 1) st.pieces

  moved : (e : Effect) → Moved st (effect_state st e) (stack_after S (top st) below e)
  moved e = moved-effect S st h.settings h.array pos few e

  stage_is : (e : Effect) → IsNext S (top st).p (top st).q st.stage e → (effect_state st e).stage ≡ stage_after S (stack_after S (top st) below e) e
  unfolding split_at restaged
  stage_is (settles w b) k = restage-is S (popped st) ((moved (settles w b)).settings ∙ h.settings) ∙ ap (top_stage S) (moved (settles w b)).stack
  stage_is (stays t) k = retried-stage S st t h.settings k
  stage_is (splits x r b) k =
      restage-is S (pushed (pushed (popped st) (right_piece st.settings.m (top st) x r)) (left_piece (top st) x r)) ((moved (splits x r b)).settings ∙ h.settings)
      ∙ ap (top_stage S) (moved (splits x r b)).stack

  parts : (e : Effect) (bs' : List ℕ) (sh' : List Row) (str : List Bool) → IsNext S (top st).p (top st).q st.stage e → length str ≡ st.n → bs' ≡ at_front (pack str) bs₀
      → sh' ≡ rows_at_front (h.rows ++ rows_after S (top st) e) 0 sh₀
      → Parts S yb bs₀ sh₀ st (effect_state st e) bs' sh' h.rows (rows_after S (top st) e) (stack_after S (top st) below e) (stage_after S (stack_after S (top st) below e) e) str
  parts e bs' sh' str k a b c =
      let m = moved e in
      record {
        settings = m.settings ∙ h.settings;
        ybits = m.ybits ∙ h.copy;
        n = m.n;
        counted = m.counted;
        answered = m.rows;
        array = m.array;
        stack = m.stack;
        stage = stage_is e k;
        size = a;
        string = b;
        sheet = c;
        used = h.used;
      }

  -- bits written into the string, a row added to the sheet
  string-over : (x : ℕ) (b : List Bool) → x + length b ≤ st.n → write_bits bs x b ≡ at_front (pack (over h.str x b)) bs₀
  string-over x b k = let n = h.size in ap (λ (u : List ℕ). write_bits u x b) h.string ∙ front-write h.str bs₀ x b (omega arith)

  size-over : (x : ℕ) (b : List Bool) → x + length b ≤ st.n → length (over h.str x b) ≡ st.n
  size-over x b k = let n = h.size in length_over h.str x b (omega arith) ∙ n

  row-sheet : (r r' : Row) → r ≡ r' → st.rows + 1 ≤ length sh₀ → sets sh st.rows (r ∷ []) ≡ rows_at_front (h.rows ++ (r' ∷ [])) 0 sh₀
  row-sheet r r' e k =
      let u = h.used in
      (λ i. sets (h.sheet i) (h.used i) (e i ∷ [])) ∙ add_row h.rows sh₀ r' (omega arith)

  pub stands-effect : (size : ℕ) (e : Effect) → InPiece st.n (top st) e → st.rows + length (rows_after S (top st) e) ≤ length sh₀ → IsNext S (top st).p (top st).q st.stage e
      → Stands S yb bs₀ sh₀ 0 (effect_step st size e).state (string_after bs (effect_step st size e).string) (sheet_after sh (effect_step st size e).sheet)
      (applied S st.n (st.counted + size) (top st) below h.str h.rows e)
  unfolding effect_step
  stands-effect size (settles w b) k r nx =
      let r₀ = row (top st).x (top st).p w in
      stands-tallied S yb bs₀ sh₀ st _ _ _ h.rows _ _ _ _ size
      (parts (settles w b) (write_bits bs (top st).x b) (sets sh st.rows (r₀ ∷ [])) (over h.str (top st).x b) nx
      (size-over (top st).x b k) (string-over (top st).x b k) (row-sheet r₀ r₀ refl r))
  stands-effect size (stays t) k r nx =
      stands-tallied S yb bs₀ sh₀ st _ _ _ h.rows _ _ _ _ size
      (parts (stays t) bs sh h.str nx h.size h.string (h.sheet ∙ ap (λ (l : List Row). rows_at_front l 0 sh₀) (sym (append-nil h.rows))))
  stands-effect size (splits x y b) k r nx =
      let r₀ = row ((top st).x + x) st.settings.m ByAnchor in
      stands-tallied S yb bs₀ sh₀ st _ _ _ h.rows _ _ _ _ size
      (parts (splits x y b) (write_bits bs ((top st).x + x) b) (sets sh st.rows (r₀ ∷ [])) (over h.str ((top st).x + x) b) nx
      (size-over ((top st).x + x) b k) (string-over ((top st).x + x) b k)
      (row-sheet r₀ (row ((top st).x + x) S.m ByAnchor) (ap (λ (z : Settings). row ((top st).x + x) z.m ByAnchor) h.settings) r))

-- ---- the opening's answer, and the whole string
-- a state that works on pieces, by its fields
module _ (S : Settings) (yb : ℕ) (bs₀ : List ℕ) (sh₀ : List Row) (z : ℕ) (s : Rebuilder) (bs : List ℕ) (sh : List Row) (n c : ℕ) (t : Stage) (l : List Piece) (str : List Bool) (rows : List Row) where
  pub record Fields : Type 0 where
    pub phase : s.phase ≡ AtPieces
    pub n-is : s.n ≡ n
    pub counted : s.counted ≡ c
    pub stack : held s.waiting s.pieces ≡ l
    pub stage : s.stage ≡ t
    pub size : length str ≡ n
    pub string : bs ≡ at_front (pack str) bs₀
    pub used : s.rows ≡ length rows
    pub sheet : sh ≡ rows_at_front rows z sh₀
    pub settings : s.settings ≡ S
    pub ybits : s.ybits ≡ yb
    pub array : length s.pieces ≡ 32

  pub stands-fields : Fields → Stands S yb bs₀ sh₀ z s bs sh (store AtPieces n c t l str rows)
  stands-fields k =
      record {
        str = str;
        rows = rows;
        is = (λ i. store (sym k.phase i) (sym k.n-is i) (sym k.counted i) (sym k.stage i) (sym k.stack i) str rows);
        size = k.size ∙ sym k.n-is;
        string = k.string;
        used = k.used;
        sheet = k.sheet;
        settings = k.settings;
        copy = k.ybits;
        array = k.array;
      }

-- the buffers are as they were lent
pub stands-opening : (S : Settings) (yb : ℕ) (bs₀ : List ℕ) (sh₀ : List Row) (st : Rebuilder) (bs : List ℕ) (sh : List Row) (n : ℕ) → bs ≡ bs₀ → sh ≡ sh₀ → st.settings ≡ S → st.ybits ≡ yb → length st.pieces ≡ 32
    → bytes_for n ≤ length bs₀
    → let pc : Piece = record { x = 0; p = n; y = 0; q = yb } in
    Stands S yb bs₀ sh₀ 0 (opening_step st n).state (string_after bs (opening_step st n).string) (sheet_after sh (opening_step st n).sheet) (store AtPieces n 0 (top_stage S (push pc [])) (push pc []) (blank n) [])
unfolding opening_step restaged
stands-opening S yb bs₀ sh₀ st bs sh n eb es e f ar h =
    let st' : Rebuilder = opened_state st n in
    let p₀ : Piece = record { x = 0; p = n; y = 0; q = st.ybits } in
    let pc : Piece = record { x = 0; p = n; y = 0; q = yb } in
    let k = moved-push st' ar p₀ (omega arith) in
    let ps : held (pushed st' p₀).waiting (pushed st' p₀).pieces ≡ push pc [] =
    k.stack ∙ ap (λ (q : ℕ). push (record { x = 0; p = n; y = 0; q = q }) []) f in
    stands-fields S yb bs₀ sh₀ 0 (restaged (pushed st' p₀)) (cleared bs 0 (bytes_for n)) sh n 0 (top_stage S (push pc [])) (push pc []) (blank n) [] record {
      phase = k.phase;
      n-is = k.n;
      counted = k.counted;
      stack = ps;
      stage = restage-is S (pushed st' p₀) (k.settings ∙ e) ∙ ap (top_stage S) ps;
      size = blank-length n;
      string = ap (λ (u : List ℕ). cleared u 0 (bytes_for n)) eb ∙ blank-front bs₀ n h;
      used = k.rows;
      sheet = es;
      settings = k.settings ∙ e;
      ybits = k.ybits ∙ f;
      array = k.array;
    }

pub stands-whole : (S : Settings) (yb : ℕ) (bs₀ : List ℕ) (sh₀ : List Row) (st : Rebuilder) (bs : List ℕ) (sh : List Row) (s : Store) (h : Stands S yb bs₀ sh₀ 0 st bs sh s) (size : ℕ) (l : List Bool)
    → length l ≡ st.n → 0 < length sh₀ → st.rows ≤ length sh₀
    → Stands S yb bs₀ sh₀ (length h.rows - 1) (whole_step st size l).state (string_after bs (whole_step st size l).string) (sheet_after sh (whole_step st size l).sheet)
    (store AtPieces st.n (st.counted + size) Hashing [] l (row 0 st.n ByBits ∷ []))
unfolding whole_step
stands-whole S yb bs₀ sh₀ st bs sh s h size l e k r =
    let hu = h.used in let hn = h.size in
    let w : over h.str 0 l ≡ l = ap (λ (z : List Bool). l ++ z) (drop_of_length-le h.str {i = 0 + length l} (omega arith)) ∙ append-nil l in
    stands-fields S yb bs₀ sh₀ (length h.rows - 1) (whole_step st size l).state (write_bits bs 0 l) (sets sh 0 (row 0 st.n ByBits ∷ replicate (st.rows - 1) no_row)) st.n (st.counted + size) Hashing [] l (row 0 st.n ByBits ∷ []) record {
      phase = refl;
      n-is = refl;
      counted = refl;
      stack = refl;
      stage = refl;
      size = e;
      string = ap (λ (u : List ℕ). write_bits u 0 l) h.string ∙ front-write h.str bs₀ 0 l (omega arith) ∙ ap (λ (u : List Bool). at_front (pack u) bs₀) w;
      used = refl;
      sheet = (λ i. sets (h.sheet i) 0 (row 0 st.n ByBits ∷ replicate (h.used i - 1) no_row)) ∙ one-row h.rows sh₀ (row 0 st.n ByBits) k (omega arith);
      settings = h.settings;
      ybits = h.copy;
      array = length-replicate 32 no_piece;
    }
