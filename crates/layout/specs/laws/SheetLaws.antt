-- A sheet of bytes and a list of rows that hold the same rows still do after the same change.
use Rattle.std.specs.Prelude.{◌≡◌, length, set, replicate}
use Rattle.std.proofs.Math.Path.{refl, ap₂}
use Rattle.std.proofs.Common.{sym, ap, ◌∙◌, add-zero, zero-add, arith}
use mathlib.Core.List.{List, [], ◌∷◌, ◌++◌, append-nil}
use Prim.Native.Nat.{ℕ, zero, suc, ◌+◌, ◌-◌, ◌*◌, ◌/◌, ◌≤◌, ◌<◌}
use Rattle.std.proofs.lemmas.List.{length-replicate, replicate-append-replicate}
use Rattle.std.proofs.lemmas.List.Edits.{sets}
use Rattle.std.proofs.Math.Seq.{length-sets}
use Rattle.strings.specs.Bits.{zero_bytes, cleared}
use Rattle.ends.specs.declared.Row.{Row}
use Rattle.ends.specs.declared.SheetChange.{SheetChange}
use Rattle.ends.specs.declared.SheetChange.TheVariants.{NoRow, AddRow, OneRow}
use Rattle.ends.specs.RebuilderCall.{no_row, sheet_after, change_row, rows_needed}
use Rattle.layout.specs.Bytes32.{bytes_of, word_at}
use Rattle.layout.specs.Layout.{all_bytes}
use Rattle.layout.specs.Sheet.{row_size, row_bytes, rows_bytes, row_at, rows_at, rows_in, sheet_bytes_after}
use Rattle.strings.specs.laws.StoreLaws.{sets-append}
use Rattle.layout.specs.laws.Bytes32Laws.{digits, number-before, number-after, number_in}
use Rattle.layout.specs.laws.LayoutLaws.{store-next}
use Rattle.strings.proofs.laws.PackLaws.{cleared-sets}

-- ---- lengths
pub length-row : (r : Row) → length (row_bytes r) ≡ row_size
unfolding row_bytes all_bytes bytes_of
length-row r = refl

-- ---- one row stored
-- every number of a row is below 2^32, as of any row that code holds
pub record RowFits (r : Row) : Type 0 where
  pub start_fits : r.start < 4294967296
  pub len-fits : r.len < 4294967296
  pub how-fits : r.how < 4294967296

pub row_same : {a b c a' b' c' : ℕ} → a ≡ a' → b ≡ b' → c ≡ c' → ◌≡◌ {A = Row} (record { start = a; len = b; how = c }) (record { start = a'; len = b'; how = c' })
row_same p q r = rw (p, q, r) refl

row-stored : (s : List ℕ) (at : ℕ) (r : Row) → RowFits r → at + 12 ≤ length s → row_at (sets s at (row_bytes r)) at ≡ r
unfolding row_at row_bytes all_bytes bytes_of word_at
row-stored s at r f h =
    row_same
    (ap (λ (i : ℕ). word_at (sets s at (row_bytes r)) i) (sym (add-zero at)) ∙ number_in s at (row_bytes r) 0 (omega arith) (omega arith) ∙ digits r.start f.start_fits)
    (number_in s at (row_bytes r) 4 (omega arith) (omega arith) ∙ digits r.len f.len-fits)
    (number_in s at (row_bytes r) 8 (omega arith) (omega arith) ∙ digits r.how f.how-fits)

module _ (s : List ℕ) (at : ℕ) (vs : List ℕ) where
  row_before : (i : ℕ) → i + 12 ≤ at → row_at (sets s at vs) i ≡ row_at s i
  unfolding row_at
  row_before i h = row_same (number-before s at vs i (omega arith)) (number-before s at vs (i + 4) (omega arith)) (number-before s at vs (i + 8) (omega arith))

  row-after : (i : ℕ) → at + length vs ≤ i → row_at (sets s at vs) i ≡ row_at s i
  unfolding row_at
  row-after i h = row_same (number-after s at vs i (omega arith)) (number-after s at vs (i + 4) (omega arith)) (number-after s at vs (i + 8) (omega arith))

  rows-after : (i n : ℕ) → at + length vs ≤ i → rows_at (sets s at vs) i n ≡ rows_at s i n
  unfolding rows_at
  rows-after i zero h = refl
  rows-after i (suc n) h = ap₂ (λ (x : Row) (l : List Row). x ∷ l) (row-after i h) (rows-after (i + 12) n (omega arith))

row-store : (s : List ℕ) (at n i : ℕ) (r : Row) → RowFits r → i < n → at + 12 * n ≤ length s → rows_at (sets s (at + 12 * i) (row_bytes r)) at n ≡ set (rows_at s at n) i r
unfolding rows_at
row-store s at zero i r f h k = absurd (omega arith)
row-store s at (suc n) zero r f h k =
    let l = length-row r in
    let e : at + 12 * zero ≡ at = omega arith in
    ap (λ (j : ℕ). rows_at (sets s j (row_bytes r)) at (suc n)) e ∙
    ap₂ (λ (x : Row) (m : List Row). x ∷ m) (row-stored s at r f (omega arith)) (rows-after s at (row_bytes r) (at + 12) n (omega arith))
row-store s at (suc n) (suc i) r f h k =
    let e : at + 12 * suc i ≡ at + 12 + 12 * i = omega arith in
    ap₂ (λ (x : Row) (m : List Row). x ∷ m) (row_before s (at + 12 * suc i) (row_bytes r) at (omega arith))
    (ap (λ (j : ℕ). rows_at (sets s j (row_bytes r)) (at + 12) n) e ∙ row-store s (at + 12) n i r f (omega arith) (omega arith))

-- ---- several rows stored
pub data RowsFit : List Row → Type 0 where
  none : RowsFit []
  more : {r : Row} {l : List Row} → RowFits r → RowsFit l → RowsFit (r ∷ l)

rows-store : (s : List ℕ) (n i : ℕ) (rs : List Row) → RowsFit rs → i + length rs ≤ n → 12 * n ≤ length s → rows_at (sets s (12 * i) (rows_bytes rs)) 0 n ≡ sets (rows_at s 0 n) i rs
unfolding rows_bytes
rows-store s n i [] f h k = refl
rows-store s n i (r ∷ rs) (more g f) h k =
    let l = length-row r in
    let t : List ℕ = sets s (12 * i) (row_bytes r) in
    let e : 12 * i + length (row_bytes r) ≡ 12 * suc i = omega arith in
    let q : length (sets s (12 * i) (row_bytes r)) ≡ length s = length-sets s (12 * i) (row_bytes r) in
    let z = zero-add (12 * i) in
    let w = zero-add (12 * n) in
    ap (λ (x : List ℕ). rows_at x 0 n) (sets-append s (row_bytes r) (rows_bytes rs) (12 * i) ∙ ap (λ (j : ℕ). sets t j (rows_bytes rs)) e)
    ∙ rows-store t n (suc i) rs f (omega arith) (omega arith)
    ∙ ap (λ (m : List Row). sets m (suc i) rs) (ap (λ (j : ℕ). rows_at (sets s j (row_bytes r)) 0 n) (sym z) ∙ row-store s 0 n i r g (omega arith) (omega arith))

no-rows-fit : (n : ℕ) → RowsFit (replicate n no_row)
no-rows-fit zero = none
no-rows-fit (suc n) = more {r = no_row} (record { start_fits = omega arith; len-fits = omega arith; how-fits = omega arith }) (no-rows-fit n)

one-row : (r : Row) → row_bytes r ≡ rows_bytes (r ∷ [])
unfolding rows_bytes
one-row r = sym (append-nil (row_bytes r))

-- ---- the law
pub rows-at-length : (s : List ℕ) (at n : ℕ) → length (rows_at s at n) ≡ n
unfolding rows_at
rows-at-length s at zero = refl
rows-at-length s at (suc n) = ap suc (rows-at-length s (at + row_size) n)

pub rows-in-length : (s : List ℕ) → length (rows_in s) ≡ length s / row_size
unfolding rows_in
rows-in-length s = rows-at-length s 0 (length s / row_size)

pub same_rows : (s : List ℕ) (k : SheetChange) → RowFits (change_row k) → rows_needed k ≤ length s / 12 → rows_in (sheet_bytes_after s k) ≡ sheet_after (rows_in s) k
unfolding rows_in
same_rows s NoRow f h = refl
same_rows s (AddRow i r) f h =
    ap (λ (n : ℕ). rows_at (sets s (12 * i) (row_bytes r)) 0 (n / 12)) (length-sets s (12 * i) (row_bytes r))
    ∙ ap (λ (l : List ℕ). rows_at (sets s (12 * i) l) 0 (length s / 12)) (one-row r)
    ∙ rows-store s (length s / 12) i (r ∷ []) (more f none) (omega arith) (omega arith)
same_rows s (OneRow used r) f h =
    let e = length-replicate (used - 1) no_row in
    ap (λ (n : ℕ). rows_at (sets s 0 (rows_bytes (r ∷ replicate (used - 1) no_row))) 0 (n / 12)) (length-sets s 0 (rows_bytes (r ∷ replicate (used - 1) no_row)))
    ∙ rows-store s (length s / 12) 0 (r ∷ replicate (used - 1) no_row) (more f (no-rows-fit (used - 1))) (omega arith) (omega arith)

-- ---- for the code
-- rows of zeros
pub zero-rows : (n : ℕ) → rows_bytes (replicate n no_row) ≡ zero_bytes (12 * n)
unfolding rows_bytes row_bytes all_bytes bytes_of
zero-rows zero = refl
zero-rows (suc n) =
    let e : 12 + 12 * n ≡ 12 * suc n = omega arith in
    ap (λ (l : List ℕ). zero_bytes 12 ++ l) (zero-rows n) ∙ replicate-append-replicate 12 (12 * n) 0 ∙ ap zero_bytes e

pub clear_none : (s : List ℕ) (from to : ℕ) → to ≤ from → s ≡ sets s (12 * from) (rows_bytes (replicate (to - from) no_row))
unfolding rows_bytes
clear_none s from to h = let e : 0 ≡ to - from = omega arith in ap (λ (n : ℕ). sets s (12 * from) (rows_bytes (replicate n no_row))) e

pub clear-some : (s t : List ℕ) (from to : ℕ) → t ≡ cleared s (12 * from) (12 * (to - from)) → t ≡ sets s (12 * from) (rows_bytes (replicate (to - from) no_row))
clear-some s t from to e = e ∙ cleared-sets s (12 * from) (12 * (to - from)) ∙ ap (λ (l : List ℕ). sets s (12 * from) l) (sym (zero-rows (to - from)))

pub row_written : (s t u : List ℕ) (i : ℕ) (r : Row) → t ≡ sets s (12 * i) (all_bytes (r.start ∷ r.len ∷ [])) → u ≡ sets t (12 * i + 8) (bytes_of r.how)
    → u ≡ sets s (12 * i) (row_bytes r)
unfolding row_bytes all_bytes bytes_of
row_written s t u i r e f = store-next s t u (12 * i) (12 * i + 8) (all_bytes (r.start ∷ r.len ∷ [])) (bytes_of r.how) e f refl

-- a sheet of n bytes that has the rows for a change
pub need-add : (n : ℕ) (k : SheetChange) (i : ℕ) (r : Row) → k ≡ AddRow i r → 12 * rows_needed k ≤ n → 12 * i + 12 ≤ n
need-add n k i r e h = let g = rw e at h in omega arith

pub need-one : (n : ℕ) (k : SheetChange) (used : ℕ) (r : Row) → k ≡ OneRow used r → 12 * rows_needed k ≤ n → (12 ≤ n) × (12 * used ≤ n)
need-one n k used r e h = let g = rw e at h in (omega arith, omega arith)

pub change-add : (s t : List ℕ) (k : SheetChange) (i : ℕ) (r : Row) → k ≡ AddRow i r → t ≡ sets s (12 * i) (row_bytes r) → t ≡ sheet_bytes_after s k
change-add s t k i r e f = f ∙ sym (ap (λ (x : SheetChange). sheet_bytes_after s x) e)

-- one row in place of the used ones
pub one-row-left : (s t u : List ℕ) (k : SheetChange) (used : ℕ) (r : Row) → k ≡ OneRow used r → t ≡ sets s 0 (row_bytes r)
    → u ≡ sets t 12 (rows_bytes (replicate (used - 1) no_row)) → u ≡ sheet_bytes_after s k
unfolding rows_bytes
one-row-left s t u k used r o e f =
    store-next s t u 0 12 (row_bytes r) (rows_bytes (replicate (used - 1) no_row)) e f (let l = length-row r in omega arith)
    ∙ sym (ap (λ (x : SheetChange). sheet_bytes_after s x) o)
