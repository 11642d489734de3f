-- What every run with the holder's answers keeps.
use Rattle.std.specs.Prelude.{◌≡◌, refl, Bool, true, false, ◌&&◌, ◌⊎◌, List, [], ◌∷◌, ◌++◌, ℕ, zero, suc, ◌+◌, ◌-◌, ◌*◌, ◌/◌, ◌≤◌, ◌<◌, length, drop, get_or, ltb}
use Rattle.std.proofs.Common.{sym, ap, ◌∙◌, inl, inr, zero-add, add-zero, le_refl, arith, length-append, get_or-append-add, get_or-take, get_or-drop, le-leb, lt-ltb, le-ltb}
use Rattle.std.proofs.Math.Option.{none}
use Rattle.std.proofs.Math.Decide.{dec_lt}
use Rattle.std.proofs.Math.ListN.{get_or-append}
use Rattle.std.proofs.lemmas.Bool.{lt-leb}
use Rattle.messages.specs.Answers.{Answer}
use Rattle.ends.specs.Anchors.{part}
use Rattle.ends.specs.Claims.{is_wait, Settled, row_sum, total, At, Finished, Collision, covers}
use Rattle.ends.specs.laws.Counts.{pot, row_cost}
use Rattle.ends.specs.laws.Invariant.{Held, Inv, Truth}
use Rattle.strings.specs.SettingLimits.{Limits}
use Rattle.ends.specs.laws.Right.{Good}
use Rattle.ends.specs.Runs.{Run, advance, blank, copies, count_of, judge, opening, pieces_of, question, sheet_of, size_of, string, whole, working, full, longest_answer}
use Rattle.ends.specs.laws.SegmentLaws.{Chain}
use Rattle.ends.specs.Segments.{Segment, ask, dropped, new_rows, row, rows_of, settled, span, step, waiting, waits}
use Rattle.ends.specs.declared.How.{How}
use Rattle.ends.specs.declared.Row.{Row}
use Rattle.strings.specs.declared.settings.Settings.{Settings}
use Rattle.strings.specs.laws.Tests.{by-test, true-false}
use Rattle.strings.specs.Bits.{max_bits}

pub chain-at : (P : ℕ → Segment → Type 0) (x e : ℕ) (segs : List Segment) (y : ℕ) (s : Segment) → Chain P x segs e → At x segs y s → P y s
chain-at P x e [] y s h a = absurd a
chain-at P x e (u ∷ r) y s h (inl a) = rw (← a.0, ← a.1) h.0
chain-at P x e (u ∷ r) y s h (inr a) = chain-at P (x + span u) e r y s h.1 a

bool_eq : (a b : Bool) → (a ≡ b) ⊎ (a ≡ b → ⊥)
bool_eq true true = inl refl
bool_eq false false = inl refl
bool_eq true false = inr true-false
bool_eq false true = inr (λ e. true-false (sym e))

pub blank-length : (p : ℕ) → length (blank p) ≡ p
blank-length zero = refl
blank-length (suc p) = ap suc (blank-length p)

pub string-length : (P : ℕ → Segment → Type 0) (x e : ℕ) (segs : List Segment) → Chain P x segs e → x + length (string segs) ≡ e
string-length P x e [] h = omega (arith, h)
string-length P x e (dropped ys ∷ r) h = string-length P x e r (rw add-zero at h.1)
string-length P x e (waiting p ys t ∷ r) h =
    let i = string-length P (x + p) e r h.1 in let j = length-append (blank p) (string r) in let k = blank-length p in omega arith
string-length P x e (settled w ys b ∷ r) h =
    let i = string-length P (x + length b) e r h.1 in let j = length-append b (string r) in omega arith

module _ (S : Settings) (X : List Bool) where
  deeper : (x : ℕ) (u : Segment) (r : List Segment) (i : ℕ) → Collision S X (x + span u) r i → Collision S X x (u ∷ r) i
  deeper x u r i s = record {
    start = s.start;
    how = s.how;
    copy = s.copy;
    bits = s.bits;
    at = inr s.at;
    from = s.from;
    to = s.to;
    differs = s.differs;
    settled = s.settled;
  }

  pub bit-right : (x e : ℕ) (segs : List Segment) → Chain (Good S X) x segs e → waits segs ≡ false → (j : ℕ) → x + j < e
      → (get_or (string segs) j false ≡ get_or X (x + j) false) ⊎ Collision S X x segs (x + j)
  bit-right x e [] h f j l = absurd (omega (arith, h))
  bit-right x e (dropped ys ∷ r) h f j l = go (bit-right x e r (rw add-zero at h.1) f j l)
    where
      go : (get_or (string r) j false ≡ get_or X (x + j) false) ⊎ Collision S X x r (x + j) → (get_or (string r) j false ≡ get_or X (x + j) false) ⊎ Collision S X x (dropped ys ∷ r) (x + j)
      go (inl q) = inl q
      go (inr s) = inr (deeper x (dropped ys) r (x + j) (rw add-zero s))
  bit-right x e (waiting p ys t ∷ r) h f j l = absurd (true-false f)
  bit-right x e (settled w ys b ∷ r) h f j l = go (dec_lt j (length b)) (bit-right (x + length b) e r h.1 f (j - length b))
    where
      same_bit : b ≡ part X x (length b) → j < length b → get_or b j false ≡ get_or X (x + j) false
      same_bit q k = ap (λ (z : List Bool). get_or z j false) q ∙ get_or-take (length b) (drop x X) j false k ∙ get_or-drop x X j false

      go : Dec (j < length b)
          → (x + length b + (j - length b) < e → (get_or (string r) (j - length b) false ≡ get_or X (x + length b + (j - length b)) false) ⊎ Collision S X (x + length b) r (x + length b + (j - length b)))
          → (get_or (b ++ string r) j false ≡ get_or X (x + j) false) ⊎ Collision S X x (settled w ys b ∷ r) (x + j)
      go (yes k) ih = pick (bool_eq (get_or b j false) (get_or X (x + j) false))
        where
          pick : (get_or b j false ≡ get_or X (x + j) false) ⊎ (get_or b j false ≡ get_or X (x + j) false → ⊥) → (get_or (b ++ string r) j false ≡ get_or X (x + j) false) ⊎ Collision S X x (settled w ys b ∷ r) (x + j)
          pick (inl q) = inl (get_or-append b (string r) false j k ∙ q)
          pick (inr q) = inr record {
            start = x;
            how = w;
            copy = ys;
            bits = b;
            at = inl (refl, refl);
            from = omega arith;
            to = omega arith;
            differs = λ z. q (same_bit z k);
            settled = h.0.1;
          }
      go (no k) ih = pick (ih (omega arith))
        where
          u : j ≡ length b + (j - length b)
          u = omega arith

          v : x + length b + (j - length b) ≡ x + j
          v = omega arith

          pick : (get_or (string r) (j - length b) false ≡ get_or X (x + length b + (j - length b)) false) ⊎ Collision S X (x + length b) r (x + length b + (j - length b))
              → (get_or (b ++ string r) j false ≡ get_or X (x + j) false) ⊎ Collision S X x (settled w ys b ∷ r) (x + j)
          pick (inl q) = inl (ap (λ (n : ℕ). get_or (b ++ string r) n false) u ∙ get_or-append-add b (string r) (j - length b) false ∙ q ∙ ap (λ (n : ℕ). get_or X n false) v)
          pick (inr s) = inr (deeper x (settled w ys b) r (x + j) (rw v at s))

-- ---- rows: how often bit i is covered
covers-in : (i x n : ℕ) (w : How) → x ≤ i → i < x + n → covers i (row x n w) ≡ 1
covers-in i x n w h k = rw (le-leb x i h, lt-ltb i (x + n) k) refl

covers-before : (i x n : ℕ) (w : How) → i < x → covers i (row x n w) ≡ 0
covers-before i x n w h = rw (lt-leb x i h) refl

covers-after : (i x n : ℕ) (w : How) → x + n ≤ i → covers i (row x n w) ≡ 0
covers-after i x n w h = rw (le-leb x i (omega arith), le-ltb i (x + n) h) refl

uncovered : (i x : ℕ) (segs : List Segment) → i < x → row_sum (covers i) (rows_of x segs) ≡ 0
uncovered i x [] h = refl
uncovered i x (dropped ys ∷ r) h = uncovered i x r h
uncovered i x (waiting p ys t ∷ r) h = uncovered i (x + p) r (omega arith)
uncovered i x (settled w ys b ∷ r) h = let a = covers-before i x (length b) w h in let c = uncovered i (x + length b) r (omega arith) in omega arith

pub covered : (P : ℕ → Segment → Type 0) (i x e : ℕ) (segs : List Segment) → Chain P x segs e → waits segs ≡ false → x ≤ i → i < e → row_sum (covers i) (rows_of x segs) ≡ 1
covered P i x e [] h f l k = absurd (omega (arith, h))
covered P i x e (dropped ys ∷ r) h f l k = covered P i x e r (rw add-zero at h.1) f l k
covered P i x e (waiting p ys t ∷ r) h f l k = absurd (true-false f)
covered P i x e (settled w ys b ∷ r) h f l k = go (dec_lt i (x + length b)) (covered P i (x + length b) e r h.1 f)
  where
    go : Dec (i < x + length b) → (x + length b ≤ i → i < e → row_sum (covers i) (rows_of (x + length b) r) ≡ 1)
        → row_sum (covers i) (rows_of x (settled w ys b ∷ r)) ≡ 1
    go (yes q) ih = let a = covers-in i x (length b) w l q in let c = uncovered i (x + length b) r q in omega arith
    go (no q) ih = let a = covers-after i x (length b) w (omega arith) in let c = ih (omega arith) k in omega arith

pub rows-length : (rows : List Row) → row_sum (λ r. 1) rows ≡ length rows
rows-length [] = refl
rows-length (r ∷ l) = let h = rows-length l in omega arith

pub rows-cost : (S : Settings) (x : ℕ) (segs : List Segment) → row_sum (λ r. 1) (rows_of x segs) ≤ total (row_cost S) segs
rows-cost S x [] = le_refl 0
rows-cost S x (dropped ys ∷ r) = let h = rows-cost S x r in omega arith
rows-cost S x (waiting p ys t ∷ r) = let h = rows-cost S (x + p) r in omega arith
rows-cost S x (settled w ys b ∷ r) = let h = rows-cost S (x + length b) r in omega arith

none-waits : (S : Settings) (x : ℕ) (segs : List Segment) → ask S x segs ≡ none → waits segs ≡ false
none-waits S x [] k = refl
none-waits S x (dropped ys ∷ r) k = none-waits S x r k
none-waits S x (settled m ys b ∷ r) k = none-waits S (x + length b) r k
none-waits S x (waiting p ys t ∷ r) k = let z : ◌≡◌ {A = ℕ} 0 1 = cc in absurd (omega arith)

-- ---- what every run with the holder's answers keeps
-- after so many answers, in the run s
pub record Kept (S : Settings) (X Y : List Bool) (answers : ℕ) (s : Run) : Type 0 where
  pub questions : answers ≤ 10 * (length X / S.m) + 6
  pub bytes : count_of s ≤ S.ceiling + full (length X) + longest_answer (length X)
  pub few : total is_wait (pieces_of s) ≤ 32
  pub sheet : length (sheet_of s) ≤ 2 * (length X / S.m) + 1
  pub copied : (pieces_of s ≡ []) ⊎ (copies (pieces_of s) ≡ Y)
  pub settled : (x : ℕ) (w : How) (ys b : List Bool) → At 0 (pieces_of s) x (settled w ys b) → Settled S (part X x (length b)) w ys b
  pub finish : question S s ≡ none → Finished S X s

-- ---- the counted bytes
abbrev pub Opened : Run → Type 0
Opened opening = ⊥
Opened (working n c segs rows) = Unit {0}
Opened (whole n c segs rows) = Unit {0}

module _ (S : Settings) (Y : List Bool) where
  judge-count : (n c : ℕ) (segs : List Segment) (rows : List Row) → Opened (judge S n c segs rows) × (count_of (judge S n c segs rows) ≡ c)
  unfolding judge
  judge-count n c segs rows =
      by-test (λ (s : Run). Opened s × (count_of s ≡ c)) (ltb S.ceiling c && waits segs) {a = whole n c segs rows} {b = working n c segs rows} (λ e. (tt, refl)) (λ e. (tt, refl))

  pub opened : (s : Run) (a : Answer) → Opened (advance S Y s a)
  opened opening a = tt
  opened (working n c segs rows) a = (judge-count n (c + size_of a) (step S a segs) (rows ++ new_rows S a 0 segs)).0
  opened (whole n c segs rows) a = tt

  pub counted : (s : Run) (a : Answer) → Opened s → count_of (advance S Y s a) ≡ size_of a + count_of s
  counted opening a h = absurd h
  counted (working n c segs rows) a h = let e = (judge-count n (c + size_of a) (step S a segs) (rows ++ new_rows S a 0 segs)).1 in omega arith
  counted (whole n c segs rows) a h = omega arith

module _ (S : Settings) (X Y : List Bool) (L : Limits S) (n_x : length X ≤ max_bits) where
  finished : (n : ℕ) (segs : List Segment) (rows : List Row) → Held S Y n segs rows → (n ≡ length X) × Chain (Good S X) 0 segs n → ask S 0 segs ≡ none
      → (length (string segs) ≡ length X) × ((i : ℕ) → i < length X → (get_or (string segs) i false ≡ get_or X i false) ⊎ Collision S X 0 segs i) × ((i : ℕ) → i < length X → row_sum (covers i) rows ≡ 1)
  finished n segs rows h t k =
      let e = t.0 in
      let w = none-waits S 0 segs k in (
        (let s = string-length (Good S X) 0 n segs t.1 in omega arith),
        (λ i l. rw zero-add at (bit-right S X 0 n segs t.1 w i (omega arith))),
        (λ i l. h.rows_are (covers i) ∙ covered (Good S X) i 0 n segs t.1 w (omega arith) (omega arith)),
      )

  held-sheet : (n : ℕ) (segs : List Segment) (rows : List Row) → Held S Y n segs rows → length rows ≤ 2 * (n / S.m) + 1
  held-sheet n segs rows h =
      let a = rows-length rows in
      let b = h.rows_are (λ r. 1) in
      let c = rows-cost S 0 segs in
      let d = h.rows_few in
      omega arith

  held-settled : (n : ℕ) (segs : List Segment) → Chain (Good S X) 0 segs n → (x : ℕ) (w : How) (ys b : List Bool) → At 0 segs x (settled w ys b) → Settled S (part X x (length b)) w ys b
  held-settled n segs h x w ys b a = (chain-at (Good S X) 0 n segs x (settled w ys b) h a).1

  pub kept : (asked : ℕ) (s : Run) → Inv S Y asked s → Truth S X s → Kept S X Y asked s
  kept asked opening i t = record {
    questions = omega (arith, i);
    bytes = omega arith;
    few = omega arith;
    sheet = omega arith;
    copied = inl refl;
    settled = λ x w ys b a. absurd a;
    finish = λ e. let z : ◌≡◌ {A = ℕ} 0 1 = cc in absurd (omega arith);
  }
  kept asked (working n c segs rows) i t =
      let h = i.0 in
      let e : n ≡ length X = t.0 in
      let q : asked + total (pot S) segs ≤ 9 * (length X / S.m) + 6 = rw (← e) i.1 in
      let b : c ≤ S.ceiling + full (length X) + longest_answer (length X) = rw (← e) i.2 in
      record {
        questions = omega arith;
        bytes = b;
        few = (let f = h.few in omega arith);
        sheet = rw (← e) (held-sheet n segs rows h);
        copied = inr h.copy;
        settled = held-settled n segs t.1;
        finish = λ k. let f = finished n segs rows h t k in record { size = f.0; bits = f.1; rows = f.2 };
      }
  kept asked (whole n c segs rows) i t =
      let h = i.0 in
      let e : n ≡ length X = t.0 in
      let q : asked + 1 ≤ 9 * (length X / S.m) + 6 = rw (← e) i.1 in
      let b : c ≤ S.ceiling + longest_answer (length X) = rw (← e) i.2 in
      record {
        questions = omega arith;
        bytes = omega arith;
        few = (let f = h.few in omega arith);
        sheet = rw (← e) (held-sheet n segs rows h);
        copied = inr h.copy;
        settled = held-settled n segs t.1;
        finish = λ e. let z : ◌≡◌ {A = ℕ} 0 1 = cc in absurd (omega arith);
      }
