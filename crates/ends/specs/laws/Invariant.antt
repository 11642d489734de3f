-- Every run keeps the invariants: with any answers that a reader lets through, and with the holder's answers.
use Rattle.std.proofs.Math.Path.{◌≡◌, refl}
use Rattle.std.proofs.Common.{sym, ap, ◌∙◌, append-nil}
use Rattle.std.specs.Prelude.{Bool, cond, ◌&&◌, List, [], ◌∷◌, ◌++◌, ℕ, ◌+◌, ◌*◌, ◌/◌, ◌^◌, ◌≤◌, ◌<◌, length}
use Rattle.std.proofs.Math.Bool.{true, false}
use Rattle.std.proofs.Math.Option.{some}
use native.Mathlib.Omega.{arith}
use Rattle.std.proofs.Math.Dec.{ltb}
use borrow.Author.Tests.{ltb-false}
use Rattle.codes.specs.laws.HashLaws.{hash-below}
use Rattle.messages.specs.Answers.{Answer}
use Rattle.messages.specs.declared.Question.{Question}
use Rattle.messages.specs.declared.Question.TheVariants.{AskBits, AskOpen}
use Rattle.ends.specs.laws.Counts.{Nest, begin-copy, begin-nest, begin-norow, begin-pot, begin-rows, begin-wait, before-most, falls-pot, falls-rows, keeps-copy, pot, row_cost, sane, step-nest}
use Rattle.ends.specs.Claims.{is_wait, row_sum, total}
use Rattle.strings.specs.SettingLimits.{Limits}
use Rattle.ends.specs.laws.Right.{Good, begin-span}
use Rattle.ends.specs.Runs.{Run, advance, copies, copy_of, judge, opening, question, size_of, whole, working, full, longest_answer}
use Rattle.ends.specs.laws.SegmentLaws.{Chain, ask-waits, chain-end, found, row_sum-append, step-chain, step-copies, step_falls, step-rows}
use Rattle.ends.specs.Segments.{Segment, ask, asks, begin, dropped, effect, hash_of, new_rows, rows_of, settled, step, the_size, waiting, waits, work}
use Rattle.ends.specs.laws.Shape.{Inside, ProperFor, Shape, asks-inside, begin-shape, proper-bits, proper-full, proper-size, sizes, work-shape}
use Rattle.ends.specs.declared.Row.{Row}
use Rattle.strings.specs.declared.settings.Settings.{Settings}
use Rattle.strings.specs.laws.Tests.{true-false}
use Rattle.strings.specs.Bits.{max_bits}
use Rattle.ends.specs.declared.Stage.{Stage}

-- how many bits the reference has, as far as the run knows
abbrev pub size_of_run : Run → ℕ
size_of_run opening = 0
size_of_run (working n c segs rows) = n
size_of_run (whole n c segs rows) = n

waits-some : (S : Settings) (x : ℕ) (segs : List Segment) → waits segs ≡ true → (q : Question) × (ask S x segs ≡ some q)
waits-some S x [] e = let z : ◌≡◌ {A = ℕ} 0 1 = cc in absurd (omega arith)
waits-some S x (dropped ys ∷ r) e = waits-some S x r e
waits-some S x (settled w ys b ∷ r) e = waits-some S (x + length b) r e
waits-some S x (waiting p ys t ∷ r) e = (asks S x p (length ys) t, refl)

pub hash-most : (S : Settings) (l : List Bool) → hash_of S l < 2 ^ S.h
unfolding hash_of
hash-most S l = hash-below S.h S.key l

-- ---- what holds all along, whatever proper answers were taken
module _ (S : Settings) (Y : List Bool) where
  pub record Held (n : ℕ) (segs : List Segment) (rows : List Row) : Type 0 where
    pub size : n ≤ max_bits
    pub tiles : Chain (Shape S n) 0 segs n
    pub copy : copies segs ≡ Y
    pub nest : Nest segs
    pub few : total is_wait segs ≤ 16
    pub rows_few : total (row_cost S) segs ≤ 2 * (n / S.m) + 1
    pub rows_are : (g : Row → ℕ) → row_sum g rows ≡ row_sum g (rows_of 0 segs)

  abbrev pub Inv : ℕ → Run → Type 0
  Inv asked opening = asked ≡ 0
  Inv asked (working n c segs rows) =
      Held n segs rows × (asked + total (pot S) segs ≤ 9 * (n / S.m) + 6) × (c ≤ S.ceiling + full n + longest_answer n) × (waits segs ≡ true → c ≤ S.ceiling)
  Inv asked (whole n c segs rows) =
      Held n segs rows × (asked + 1 ≤ 9 * (n / S.m) + 6) × (c ≤ S.ceiling + longest_answer n) × (waits segs ≡ true)

  module _ (L : Limits S) where
    start-ok : (n : ℕ) → n ≤ max_bits → Inv 1 (working n 0 (begin S n Y ∷ []) [])
    start-ok n n_x =
        let b = begin-span S L n Y in
        let p = begin-pot S L n Y in
        let r = begin-rows S L n Y in
        let w = begin-wait S L n Y in (
          record {
            size = n_x;
            tiles = (begin-shape S L n 0 n Y (omega arith), omega arith);
            copy = append-nil (copy_of (begin S n Y)) ∙ begin-copy S L n Y;
            nest = begin-nest S L n Y [] n_x tt;
            few = omega arith;
            rows_few = omega arith;
            rows_are = λ g. ap (row_sum g) (sym (begin-norow S L 0 n Y));
          },
          omega arith,
          omega arith,
          λ e. omega arith,
        )

    -- the answer to q, at the piece that q asks for
    pub work-chain : (n : ℕ) (q : Question) (a : Answer) → ProperFor S q a → (x p : ℕ) (ys : List Bool) (t : Stage) → Shape S n x (waiting p ys t) → asks S x p (length ys) t ≡ q → Chain (Shape S n) x (work S a p ys t) (x + p)
    work-chain n q a o x p ys t g e = work-shape S L n x p ys t a g (rw e o)

    step-held : (n : ℕ) (segs : List Segment) (rows : List Row) (q : Question) (a : Answer) → ask S 0 segs ≡ some q → ProperFor S q a → Held n segs rows
        → Held n (step S a segs) (rows ++ new_rows S a 0 segs)
    step-held n segs rows q a k o h =
        let nest = step-nest S L a n 0 n segs h.tiles h.nest h.few in
        record {
          size = h.size;
          tiles = step-chain S a (Shape S n) q (work-chain n q a o) 0 n segs h.tiles k;
          copy = step-copies S a (Shape S n) (λ x p ys t g. keeps-copy S L p ys (effect S a p ys t)) 0 n segs h.tiles ∙ h.copy;
          nest = nest.0;
          few = nest.1;
          rows_few =
              let f = step_falls S a (Shape S n) (row_cost S) 0 (λ x p ys t g. falls-rows S L p ys t (effect S a p ys t) (sane S L a p ys t g.1)) 0 n segs h.tiles (ask-waits S q 0 segs k) in
              let r = h.rows_few in omega arith;
          rows_are = λ g.
              let e = step-rows S a (Shape S n) g q (λ x p ys t d i. let c = chain-end (Shape S n) x (x + p) (work S a p ys t) (work-chain n q a o x p ys t d i) in omega arith) 0 n segs h.tiles k in
              let r = h.rows_are g in
              let s = row_sum-append g rows (new_rows S a 0 segs) in omega arith;
        }

    -- a waiting piece has a question left
    waits-pot : (segs : List Segment) → waits segs ≡ true → 1 ≤ total (pot S) segs
    waits-pot [] e = let z : ◌≡◌ {A = ℕ} 0 1 = cc in absurd (omega arith)
    waits-pot (dropped ys ∷ r) e = let h = waits-pot r e in omega arith
    waits-pot (settled w ys b ∷ r) e = let h = waits-pot r e in omega arith
    waits-pot (waiting p ys t ∷ r) e = let h = before-most t in omega arith

    judge-ok : (asked n c : ℕ) (segs : List Segment) (rows : List Row) → Held n segs rows → asked + total (pot S) segs ≤ 9 * (n / S.m) + 6 → c ≤ S.ceiling + longest_answer n
        → Inv asked (judge S n c segs rows)
    unfolding judge
    judge-ok asked n c segs rows h p b = go (ltb S.ceiling c) (waits segs) refl refl
      where
        go : (t u : Bool) → ltb S.ceiling c ≡ t → waits segs ≡ u → Inv asked (cond (t && u) (whole n c segs rows) (working n c segs rows))
        go true true e f = (h, (let w = waits-pot segs f in omega arith), b, f)
        go true false e f = (h, p, omega arith, λ g. absurd (true-false (sym g ∙ f)))
        go false u e f = (h, p, omega arith, λ g. ltb-false S.ceiling c e)

    whole-ok : (asked n c : ℕ) (segs : List Segment) (rows : List Row) (a : Answer) → ProperFor S (AskBits 0 n) a → Inv asked (whole n c segs rows) → Inv (asked + 1) (advance S Y (whole n c segs rows) a)
    whole-ok asked n c segs rows a o i =
        let l = proper-bits S 0 n a o in
        let sb = proper-full S 0 n a o in
        let h = i.0 in let p = i.1 in let m = i.2 in (
          record {
            size = h.size;
            tiles = (omega arith, omega arith);
            copy = append-nil Y;
            nest = tt;
            few = omega arith;
            rows_few = omega arith;
            rows_are = λ g. rw l;
          },
          omega arith,
          omega arith,
          λ e. absurd (true-false (sym e)),
        )

    pub question-inside : (asked : ℕ) (s : Run) (q : Question) → Inv asked s → question S s ≡ some q → Inside (size_of_run s) q
    question-inside asked opening q i k = let e : AskOpen S.h S.key ≡ q = cc in rw (← e) tt
    question-inside asked (working n c segs rows) q i k =
        let f = found S (Shape S n) q 0 n segs i.0.tiles k in
        rw (← f.is) (asks-inside S L n f.start f.len f.copy f.stage f.holds)
    question-inside asked (whole n c segs rows) q i k =
        let w = waits-some S 0 segs i.3 in
        let f = found S (Shape S n) w.0 0 n segs i.0.tiles w.1 in
        let g = f.holds in
        let a = g.0 in let b = g.2 in
        let e : AskBits 0 n ≡ q = cc in rw (← e) (omega arith, omega arith)

    -- a proper answer keeps it
    pub advance-ok : (asked : ℕ) (s : Run) (q : Question) (a : Answer) → question S s ≡ some q → ProperFor S q a → Inv asked s → Inv (asked + 1) (advance S Y s a)
    advance-ok asked opening q a k o h =
        let e : AskOpen S.h S.key ≡ q = cc in
        rw h (start-ok (the_size a) (proper-size S S.h S.key a (rw (← e) at o)))
    advance-ok asked (working n c segs rows) q a k o h =
        let i = question-inside asked (working n c segs rows) q h k in
        let z = sizes S n h.0.size q a i o in
        let w = ask-waits S q 0 segs k in
        let d = step_falls S a (Shape S n) (pot S) 1 (λ x p ys t g. falls-pot S L p ys t (effect S a p ys t) (sane S L a p ys t g.1)) 0 n segs h.0.tiles w in
        let p = h.1 in let b = h.3 w in
        judge-ok (asked + 1) n (c + size_of a) (step S a segs) (rows ++ new_rows S a 0 segs) (step-held n segs rows q a k o h.0) (omega arith) (omega arith)
    advance-ok asked (whole n c segs rows) q a k o h =
        let e : AskBits 0 n ≡ q = cc in whole-ok asked n c segs rows a (rw (← e) at o) h

-- ---- what holds besides if the answers are the holder's
abbrev pub Truth : Settings → List Bool → Run → Type 0
Truth S X opening = Unit {0}
Truth S X (working n c segs rows) = (n ≡ length X) × Chain (Good S X) 0 segs n
Truth S X (whole n c segs rows) = (n ≡ length X) × Chain (Good S X) 0 segs n
