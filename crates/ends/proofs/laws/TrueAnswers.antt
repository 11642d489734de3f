-- Runs whose answers are the holder's: what they say of X stays true, and each answer is proper.
use Rattle.std.proofs.Math.Path.{◌≡◌, refl}
use Rattle.std.proofs.Common.{ap, ◌∙◌, inl, inr, zero-add}
use Rattle.std.specs.Prelude.{Bool, ◌&&◌, ◌⊎◌, List, ◌++◌, ℕ, ◌+◌, ◌≤◌, ◌<◌, length, get_or}
use Rattle.std.proofs.Math.Option.{some}
use native.Mathlib.Omega.{arith}
use Rattle.std.proofs.Math.Dec.{ltb}
use Rattle.codes.specs.laws.SyndromeLaws.{syndrome-most}
use Rattle.messages.specs.declared.Question.{Question}
use Rattle.messages.specs.declared.Question.TheVariants.{AskBits, AskHash, AskOpen, AskSyndrome, AskBurst}
use Rattle.ends.specs.Anchors.{part}
use Rattle.strings.specs.SettingLimits.{Limits}
use Rattle.ends.specs.laws.Right.{Good, begin-ok, begin-span, one, part_length, settled-right, work-ok}
use Rattle.ends.specs.Runs.{Run, advance, judge, opening, question, size_of, honest_answer, whole, working}
use Rattle.ends.specs.laws.SegmentLaws.{Chain, step-chain}
use Rattle.ends.specs.Segments.{Segment, hash_of, new_rows, step, waits}
use Rattle.ends.specs.laws.Shape.{Inside, ProperFor}
use Rattle.ends.specs.declared.How.TheVariants.{ByBits}
use Rattle.ends.specs.declared.Row.{Row}
use Rattle.strings.specs.declared.settings.Settings.{Settings}
use Rattle.strings.specs.laws.Tests.{by-test}
use Rattle.strings.specs.Bits.{max_bits}
use Rattle.codes.specs.Columns.{syndromes, column_length, column}
use Rattle.codes.specs.laws.ColumnLaws.{syndromes-length, syndromes-at, column-length}
use Rattle.ends.specs.laws.Invariant.{Inv, Truth, hash-most, question-inside, size_of_run}

module _ (S : Settings) (X Y : List Bool) (L : Limits S) (n_x : length X ≤ max_bits) where
  judge-true : (n c : ℕ) (segs : List Segment) (rows : List Row) → (n ≡ length X) × Chain (Good S X) 0 segs n → Truth S X (judge S n c segs rows)
  unfolding judge
  judge-true n c segs rows h = by-test (Truth S X) (ltb S.ceiling c && waits segs) {a = whole n c segs rows} {b = working n c segs rows} (λ e. h) (λ e. h)

  pub advance-true : (s : Run) (q : Question) → question S s ≡ some q → Truth S X s → Truth S X (advance S Y s (honest_answer S X q))
  advance-true opening q k h =
      let e : AskOpen S.h S.key ≡ q = cc in
      let b = begin-span S L (length X) Y in
      rw (← e) (refl, (begin-ok S L X 0 (length X) Y (omega arith), omega arith))
  advance-true (working n c segs rows) q k h =
      let a = honest_answer S X q in
      judge-true n (c + size_of a) (step S a segs) (rows ++ new_rows S a 0 segs)
      (h.0, step-chain S a (Good S X) q (λ x p ys t g e. rw (← e) (work-ok S L X x p ys t g)) 0 n segs h.1 k)
  advance-true (whole n c segs rows) q k h =
      let e : AskBits 0 n ≡ q = cc in
      let z = h.0 in
      let l : length (part X 0 n) ≡ n = part_length S L X 0 n (omega arith) in
      rw (← e) (h.0, rw (zero-add n) at (one S L X 0 n ByBits Y (part X 0 n) (omega arith) l (settled-right S (part X 0 n) ByBits Y (part X 0 n) refl refl)))

  -- a column's syndrome is at most its length
  columns-most : (n x p b : ℕ) → n ≡ length X → Inside n (AskBurst x p b) → (j : ℕ) → j < b → get_or (syndromes b (part X x p)) j 0 ≤ column_length b j p
  columns-most n x p b e i j h =
      let j1 = i.1 in let b2 = i.2 in
      let l = part_length S L X x p (omega arith) in
      let c = column-length b (omega arith) j (part X x p) in
      let m = syndrome-most (column b j (part X x p)) in
      let c' : length (column b j (part X x p)) ≡ column_length b j p = c ∙ ap (column_length b j) l in
      rw (syndromes-at b (part X x p) j h) (omega arith)

  -- the holder's answers are proper
  answer-proper : (n : ℕ) (q : Question) → Inside n q → (n ≡ length X) ⊎ (q ≡ AskOpen S.h S.key) → ProperFor S q (honest_answer S X q)
  unfolding hash_of
  answer-proper n (AskOpen h key) i e = record { of-kind = refl; values = n_x }
  answer-proper n (AskHash x p) i e = record { of-kind = refl; values = hash-most S (part X x p) }
  answer-proper n (AskSyndrome x p) i (inl e) = let m = syndrome-most (part X x p) in let j = i.1 in let l = part_length S L X x p (omega arith) in record { of-kind = refl; values = (omega arith, hash-most S (part X x p)) }
  answer-proper n (AskSyndrome x p) i (inr e) = let z : ◌≡◌ {A = ℕ} 0 1 = cc in absurd (omega arith)
  answer-proper n (AskBits x p) i (inl e) = let j = i.1 in record { of-kind = refl; values = (part_length S L X x p (omega arith), omega arith) }
  answer-proper n (AskBurst x p b) i (inl e) = record { of-kind = refl; values = record { many = syndromes-length b (part X x p); each = columns-most n x p b e i; hash = hash-most S (part X x p) } }
  answer-proper n (AskBurst x p b) i (inr e) = let z : ◌≡◌ {A = ℕ} 0 1 = cc in absurd (omega arith)
  answer-proper n (AskBits x p) i (inr e) = let z : ◌≡◌ {A = ℕ} 0 1 = cc in absurd (omega arith)

  true-size : (s : Run) (q : Question) → Truth S X s → question S s ≡ some q → (size_of_run s ≡ length X) ⊎ (q ≡ AskOpen S.h S.key)
  true-size opening q h k = inr (cc)
  true-size (working n c segs rows) q h k = inl h.0
  true-size (whole n c segs rows) q h k = inl h.0

  pub proper-now : (asked : ℕ) (s : Run) (q : Question) → Inv S Y asked s → Truth S X s → question S s ≡ some q → ProperFor S q (honest_answer S X q)
  proper-now asked s q i h k = answer-proper (size_of_run s) q (question-inside S Y L asked s q i k) (true-size s q h k)
