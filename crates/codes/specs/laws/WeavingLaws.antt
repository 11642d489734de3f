-- Laws of the repaired string as the code weaves it bit by bit: its columns are the edited columns, and outside of its middle its bits are those of the copy.
use Rattle.std.specs.Prelude.{◌≡◌, min, max, Bool, true, false, cond, length, take, drop, get_or, ltb}
use Rattle.std.proofs.Math.Path.{refl, sym, ap, ap₂}
use Rattle.std.proofs.Common.{◌∙◌, subst, ⊎_elim, suc-mul, add-zero, mul-le-mul_right, mod-lt, mod-eq_of_lt, get_or-drop, get_or-take, get_or-append-add, length-take-le, ext_get_or, le-leb, lt-ltb, le-ltb}
use mathlib.Core.List.{List, [], ◌∷◌, ◌++◌}
use Rattle.std.proofs.Math.Option.{some}
use Prim.Native.Nat.{ℕ, zero, suc, ◌+◌, ◌-◌, ◌*◌, ◌%◌, ◌^◌, ◌≤◌, ◌<◌}
use Rattle.std.proofs.Math.Nat.{add-mul-mod_self_right, mod-add-mod, mod_self}
use Rattle.std.proofs.Math.Decide.{dec_lt, ℕ_discrete}
use native.Mathlib.Omega.{arith}
use Rattle.std.proofs.Math.ListN.{get_or-append}
use Rattle.std.proofs.lemmas.List.{get_or_at}
use Rattle.std.proofs.lemmas.Bool.{lt-leb}
use Rattle.strings.specs.Bits.{bit_at, range, set_bit, write_bits}
use Rattle.strings.proofs.laws.RangeLaws.{range_length, range_at}
use Rattle.strings.proofs.laws.WriteLaws.{write-next, write-append}
use Rattle.codes.specs.Hash.{hash}
use Rattle.codes.specs.Repair.{without, insert_at, repair_to}
use Rattle.codes.specs.Columns.{column, column_length, repair_run, RunApart}
use Rattle.codes.specs.code.HashForms.{Went}
use Rattle.codes.specs.laws.HashLaws.{went_on, went-cut}
use Rattle.codes.specs.laws.ColumnLaws.{column-bit, column-length, column-away, repair-to-found, repair-run-some}
use Rattle.codes.specs.code.Weaving.{bit_put, bit_taken, woven_bit, woven_from, woven, column_edited, ColumnEdit, next_column, Placed, Around, behind_place, Spans, Smaller, Larger}
use Rattle.codes.specs.laws.ColumnReadLaws.{column-inside}

-- ---- bits of a column with one bit put in, or taken out
module _ (k : ℕ) (c : List Bool) (h : k ≤ length c) where
  pub insert-before : (x : Bool) (t : ℕ) → t < k → get_or (insert_at k x c) t false ≡ get_or c t false
  insert-before x t l =
      let n = length-take-le k c h in
      get_or-append (take k c) (x ∷ drop k c) false t (omega arith) ∙ get_or-take k c t false l

  pub insert-here : (x : Bool) → get_or (insert_at k x c) k false ≡ x
  insert-here x = get_or_at (take k c) x (drop k c) false k (length-take-le k c h)

  pub insert-behind : (x : Bool) (t : ℕ) → k < t → get_or (insert_at k x c) t false ≡ get_or c (t - 1) false
  insert-behind x t l =
      let n = length-take-le k c h in
      let e : t ≡ length (take k c) + suc (t - 1 - k) = omega arith in
      ap (λ (i : ℕ). get_or (insert_at k x c) i false) e ∙ get_or-append-add (take k c) (x ∷ drop k c) (suc (t - 1 - k)) false
      ∙ get_or-drop k c (t - 1 - k) false ∙ ap (λ (i : ℕ). get_or c i false) (let f : k + (t - 1 - k) ≡ t - 1 = omega arith in f)

  pub without-before : (t : ℕ) → t < k → get_or (without k c) t false ≡ get_or c t false
  without-before t l =
      let n = length-take-le k c h in
      get_or-append (take k c) (drop (suc k) c) false t (omega arith) ∙ get_or-take k c t false l

  pub without-behind : (t : ℕ) → k ≤ t → get_or (without k c) t false ≡ get_or c (suc t) false
  without-behind t l =
      let n = length-take-le k c h in
      let e : t ≡ length (take k c) + (t - k) = omega arith in
      ap (λ (i : ℕ). get_or (without k c) i false) e ∙ get_or-append-add (take k c) (drop (suc k) c) (t - k) false
      ∙ get_or-drop (suc k) c (t - k) false ∙ ap (λ (i : ℕ). get_or c i false) (let f : suc k + (t - k) ≡ suc t = omega arith in f)

-- ---- the bits of the repaired string, by the tests of the code
module _ (l : List Bool) (B i p : ℕ) (x : Bool) where
  pub bit-put-before : i + B ≤ p → bit_put l B i p x ≡ get_or l i false
  bit-put-before h = rw (le-leb (i + B) p h) refl

  pub bit-put-behind : p < i + B → p + B ≤ i → bit_put l B i p x ≡ get_or l (i - B) false
  bit-put-behind k h = rw (lt-leb (i + B) p k, le-leb (p + B) i h) refl

  pub bit-put-here : p < i + B → i < p + B → bit_put l B i p x ≡ x
  bit-put-here k h = rw (lt-leb (i + B) p k, lt-leb (p + B) i h) refl

  pub bit-taken-before : i < p → bit_taken l B i p ≡ get_or l i false
  bit-taken-before h = rw (lt-ltb i p h) refl

  pub bit-taken-behind : p ≤ i → bit_taken l B i p ≡ get_or l (i + B) false
  bit-taken-behind h = rw (le-ltb i p h) refl

  pub woven-put : (n : ℕ) → length l < n → woven_bit l n B i p x ≡ bit_put l B i p x
  woven-put n h = rw (lt-ltb (length l) n h) refl

  pub woven-taken : (n : ℕ) → n ≤ length l → woven_bit l n B i p x ≡ bit_taken l B i p
  woven-taken n h = rw (le-ltb (length l) n h) refl

-- ---- a column of the repaired string is the edited column. Places of a column are B apart
places-apart : (B j k t : ℕ) → t < k → j + t * B + B ≤ j + k * B
places-apart B j k t h = let m : suc t * B ≤ k * B = mul-le-mul_right B h in let u = suc-mul t B in omega arith

module _ (B j k : ℕ) (l : List Bool) (pos : 1 ≤ B) (h : k ≤ length (column B j l)) where
  column-put : (x : Bool) (t : ℕ) → bit_put l B (j + t * B) (j + k * B) x ≡ get_or (insert_at k x (column B j l)) t false
  column-put x t = go (dec_lt t k) (dec_lt k t)
    where
      go : Dec (t < k) → Dec (k < t) → bit_put l B (j + t * B) (j + k * B) x ≡ get_or (insert_at k x (column B j l)) t false
      go (yes a) d =
          bit-put-before l B (j + t * B) (j + k * B) x (places-apart B j k t a) ∙ sym (column-bit B j t l pos) ∙ sym (insert-before k (column B j l) h x t a)
      go (no a) (yes b) =
          let m = places-apart B j t k b in
          let u = suc-mul (t - 1) B in
          let q : suc (t - 1) ≡ t = omega arith in
          let v = ap (λ (y : ℕ). y * B) q in
          bit-put-behind l B (j + t * B) (j + k * B) x (omega arith) m
          ∙ ap (λ (y : ℕ). get_or l y false) (let e : j + t * B - B ≡ j + (t - 1) * B = omega arith in e)
          ∙ sym (column-bit B j (t - 1) l pos) ∙ sym (insert-behind k (column B j l) h x t b)
      go (no a) (no b) =
          let e : k ≡ t = omega arith in
          let m = ap (λ (y : ℕ). y * B) e in
          bit-put-here l B (j + t * B) (j + k * B) x (omega arith) (omega arith)
          ∙ sym (insert-here k (column B j l) h x) ∙ ap (λ (y : ℕ). get_or (insert_at k x (column B j l)) y false) e

  column-taken : (t : ℕ) → bit_taken l B (j + t * B) (j + k * B) ≡ get_or (without k (column B j l)) t false
  column-taken t = go (dec_lt t k)
    where
      go : Dec (t < k) → bit_taken l B (j + t * B) (j + k * B) ≡ get_or (without k (column B j l)) t false
      go (yes a) =
          let m = places-apart B j k t a in
          bit-taken-before l B (j + t * B) (j + k * B) false (omega arith) ∙ sym (column-bit B j t l pos) ∙ sym (without-before k (column B j l) h t a)
      go (no a) =
          let m : k * B ≤ t * B = mul-le-mul_right B (let q : k ≤ t = omega arith in q) in
          let u = suc-mul t B in
          bit-taken-behind l B (j + t * B) (j + k * B) false (omega arith)
          ∙ ap (λ (y : ℕ). get_or l y false) (let e : j + t * B + B ≡ j + suc t * B = omega arith in e)
          ∙ sym (column-bit B j (suc t) l pos) ∙ sym (without-behind k (column B j l) h t (omega arith))

  column-edited : (n : ℕ) (x : Bool) (t : ℕ) → woven_bit l n B (j + t * B) (j + k * B) x ≡ get_or (column_edited (ltb (length l) n) k x (column B j l)) t false
  column-edited n x t = go (ltb (length l) n)
    where
      go : (d : Bool) → cond d (bit_put l B (j + t * B) (j + k * B) x) (bit_taken l B (j + t * B) (j + k * B)) ≡ get_or (column_edited d k x (column B j l)) t false
      go true = column-put x t
      go false = column-taken t

-- ---- the woven string: its length, its bits
module _ (l : List Bool) (n B : ℕ) (ps : List ℕ) (xs : List Bool) where
  -- bit i of it
  abbrev at : ℕ → Bool
  at i = woven_bit l n B i (get_or ps (i % B) 0) (get_or xs (i % B) false)

  pub woven-length : (i m : ℕ) → length (woven_from l n B ps xs i m) ≡ m
  unfolding woven_from
  woven-length i zero = refl
  woven-length i (suc m) = ap suc (woven-length (suc i) m)

  woven-at : (i m t : ℕ) → t < m → get_or (woven_from l n B ps xs i m) t false ≡ at (i + t)
  unfolding woven_from
  woven-at i zero t h = absurd (omega arith)
  woven-at i (suc m) zero h = ap at (sym (add-zero i))
  woven-at i (suc m) (suc t) h = woven-at (suc i) m t (omega arith) ∙ ap at (let e : suc i + t ≡ i + suc t = omega arith in e)

  -- a loop over it up to bit `last`, at its turn i: the next turn, which hashes or writes the bit, and the last one
  pub woven-next : (last i j : ℕ) (x : Bool) → i < last → j ≡ i % B → x ≡ woven_bit l n B i (get_or ps j 0) (get_or xs j false)
      → woven_from l n B ps xs i (last - i) ≡ x ∷ woven_from l n B ps xs (i + 1) (last - (i + 1))
  unfolding woven_from
  woven-next last i j x h e f =
      let m : last - i ≡ suc (last - (i + 1)) = omega arith in
      let q : suc i ≡ i + 1 = omega arith in
      ap (woven_from l n B ps xs i) m
      ∙ ap₂ (λ (y : Bool) (z : ℕ). y ∷ woven_from l n B ps xs z (last - (i + 1)))
      (ap (λ (y : ℕ). woven_bit l n B i (get_or ps y 0) (get_or xs y false)) (sym e) ∙ sym f) q

  pub woven-copied : (t t' u : List ℕ) (to p last i j : ℕ) (x : Bool) → i < last → j ≡ i % B → x ≡ woven_bit l n B i (get_or ps j 0) (get_or xs j false) → t' ≡ set_bit t p x
      → p + 1 ≡ to → write_bits t p (woven_from l n B ps xs i (last - i)) ≡ u → write_bits t' to (woven_from l n B ps xs (i + 1) (last - (i + 1))) ≡ u
  woven-copied t t' u to p last i j x h e f g q w =
      let r = woven_from l n B ps xs (i + 1) (last - (i + 1)) in
      ap₂ (λ (y : List ℕ) (k : ℕ). write_bits y k r) g (sym q) ∙ sym (write-next t p x r) ∙ ap (write_bits t p) (sym (woven-next last i j x h e f)) ∙ w

  pub woven-last : (last i : ℕ) → last ≤ i → woven_from l n B ps xs i (last - i) ≡ []
  unfolding woven_from
  woven-last last i h = ap (woven_from l n B ps xs i) (let e : last - i ≡ 0 = omega arith in e)

  woven-append : (i m k : ℕ) → woven_from l n B ps xs i (m + k) ≡ woven_from l n B ps xs i m ++ woven_from l n B ps xs (i + m) k
  unfolding woven_from
  woven-append i zero k = ap₂ (woven_from l n B ps xs) (sym (add-zero i)) (let e : 0 + k ≡ k = omega arith in e)
  woven-append i (suc m) k =
      ap (woven_from l n B ps xs i) (let e : suc m + k ≡ suc (m + k) = omega arith in e)
      ∙ ap (λ (r : List Bool). at i ∷ r)
      (woven-append (suc i) m k ∙ ap (λ (x : ℕ). woven_from l n B ps xs (suc i) m ++ woven_from l n B ps xs x k) (let e : suc i + m ≡ i + suc m = omega arith in e))

  -- the string in three parts
  pub woven-parts : (first last : ℕ) → first ≤ last → last ≤ n
      → woven l n B ps xs ≡ woven_from l n B ps xs 0 first ++ (woven_from l n B ps xs first (last - first) ++ woven_from l n B ps xs last (n - last))
  woven-parts first last h k =
      let w = woven_from l n B ps xs in
      ap (w 0) (let e : n ≡ first + ((last - first) + (n - last)) = omega arith in e) ∙ woven-append 0 first ((last - first) + (n - last))
      ∙ ap (λ (r : List Bool). w 0 first ++ r)
      (ap (λ (x : ℕ). w x ((last - first) + (n - last))) (let e : 0 + first ≡ first = omega arith in e) ∙ woven-append first (last - first) (n - last)
      ∙ ap (λ (x : ℕ). w first (last - first) ++ w x (n - last)) (let e : first + (last - first) ≡ last = omega arith in e))

  -- the parts before and behind the middle
  module _ (first last : ℕ) (pos : 1 ≤ B) (around : Around B n ps first last) where
    at_before : (i : ℕ) → i < first → at i ≡ get_or l i false
    at_before i h = go (dec_lt (length l) n)
      where
        far : i + B ≤ get_or ps (i % B) 0
        far = around.before i (i % B) h (mod-lt i (omega arith))

        go : Dec (length l < n) → at i ≡ get_or l i false
        go (yes k) = woven-put l B i (get_or ps (i % B) 0) (get_or xs (i % B) false) n k ∙ bit-put-before l B i (get_or ps (i % B) 0) (get_or xs (i % B) false) far
        go (no k) =
            woven-taken l B i (get_or ps (i % B) 0) (get_or xs (i % B) false) n (omega arith)
            ∙ bit-taken-before l B i (get_or ps (i % B) 0) (get_or xs (i % B) false) (let f = far in omega arith)

    at-behind : (i : ℕ) → last ≤ i → i < n → at i ≡ get_or l (behind_place (length l) n B i) false
    at-behind i h below = go (dec_lt (length l) n)
      where
        far : get_or ps (i % B) 0 + B ≤ i
        far = around.behind i (i % B) h below (mod-lt i (omega arith))

        go : Dec (length l < n) → at i ≡ get_or l (behind_place (length l) n B i) false
        go (yes k) =
            woven-put l B i (get_or ps (i % B) 0) (get_or xs (i % B) false) n k
            ∙ bit-put-behind l B i (get_or ps (i % B) 0) (get_or xs (i % B) false) (let f = far in omega arith) far ∙ rw (lt-ltb (length l) n k) refl
        go (no k) =
            woven-taken l B i (get_or ps (i % B) 0) (get_or xs (i % B) false) n (omega arith)
            ∙ bit-taken-behind l B i (get_or ps (i % B) 0) (get_or xs (i % B) false) (let f = far in omega arith)
            ∙ rw (le-ltb (length l) n (omega arith)) refl

  -- if the edits repair every column, the woven string is the repair
  module _ (pos : 1 ≤ B) (ss : List ℕ) (away : RunApart B (length l) n) where
    woven-column : (j : ℕ) → j < B → ColumnEdit B n (get_or ss j 0) l j (get_or ps j 0) (get_or xs j false)
        → repair_to (column_length B j n) (get_or ss j 0) (column B j l) ≡ some (column B j (woven l n B ps xs))
    woven-column j h e =
        let z = column_edited (ltb (length l) n) e.k (get_or xs j false) (column B j l) in
        let long : length z ≡ column_length B j n = (repair-to-found (column_length B j n) (get_or ss j 0) (column B j l) z (column-away B n l pos away j h) e.repairs).0 in
        let w = column-length B pos j (woven l n B ps xs) ∙ ap (column_length B j) (woven-length 0 n) in
        e.repairs ∙ ap some (ext_get_or false z (column B j (woven l n B ps xs)) (long ∙ sym w)
        (λ t q.
        sym (column-edited B j e.k l pos e.within n (get_or xs j false) t)
        ∙ ap (λ (p : ℕ). woven_bit l n B (j + t * B) p (get_or xs j false)) (sym e.place)
        ∙ ap (λ (i : ℕ). woven_bit l n B (j + t * B) (get_or ps i 0) (get_or xs i false)) (sym (add-mul-mod_self_right j t B ∙ mod-eq_of_lt h))
        ∙ ap at (let z : j + t * B ≡ 0 + (j + t * B) = omega arith in z)
        ∙ sym (woven-at 0 n (j + t * B) (column-inside B j n t pos (omega arith)))
        ∙ sym (column-bit B j t (woven l n B ps xs) pos)))

    pub woven-repairs : length ss ≡ B → ((j : ℕ) → j < B → ColumnEdit B n (get_or ss j 0) l j (get_or ps j 0) (get_or xs j false))
        → repair_run B n ss l ≡ some (woven l n B ps xs)
    woven-repairs k each = repair-run-some B n l ss (woven l n B ps xs) pos k (woven-length 0 n) (λ j h. woven-column j h (each j h))

-- ---- the column of the next bit
pub next-column : (B i j : ℕ) → j < B → j ≡ i % B → next_column B j ≡ (i + 1) % B
next-column B i j h e = go (dec_lt (j + 1) B)
  where
    step : (j + 1) % B ≡ (i + 1) % B
    step = ap (λ (x : ℕ). (x + 1) % B) e ∙ mod-add-mod i B 1

    go : Dec (j + 1 < B) → next_column B j ≡ (i + 1) % B
    go (yes k) = rw (lt-ltb (j + 1) B k) (sym (mod-eq_of_lt k) ∙ step)
    go (no k) =
        let q : j + 1 ≡ B = omega arith in
        rw (le-ltb (j + 1) B (omega arith)) (sym (mod_self B) ∙ ap (λ (x : ℕ). x % B) (sym q) ∙ step)

pub next-below : (B i j : ℕ) → j < B → j ≡ i % B → next_column B j < B
next-below B i j h e = let m : (i + 1) % B < B = mod-lt (i + 1) (omega arith) in let n = next-column B i j h e in omega arith

-- ---- the repaired range in parts: the bits before the middle, the middle, the bits behind it
module _ (s : List ℕ) (start len n B : ℕ) (ps : List ℕ) (xs : List Bool) (first last : ℕ) (pos : 1 ≤ B) (away : RunApart B len n) (placed : Placed B len ps)
    (around : Around B n ps first last) where
  abbrev part : ℕ → ℕ → List Bool
  part i m = woven_from (range s start len) n B ps xs i m

  pub before-within : first ≤ len
  before-within = go first refl
    where
      go : (f : ℕ) → f ≡ first → first ≤ len
      go zero e = omega arith
      go (suc f) e =
          let far = around.before f 0 (omega arith) (omega arith) in
          let p = placed 0 in
          omega arith

  pub behind-within : behind_place len n B last + (n - last) ≡ len
  behind-within =
      let end = around.end in
      ⊎_elim
      (λ e. let w = around.wide (omega arith) in ap (λ (b : Bool). cond b (last - B) (last + B) + (n - last)) (lt-ltb len n (omega arith)) ∙ (let q : last - B + (n - last) ≡ len = omega arith in q))
      (λ e. ap (λ (b : Bool). cond b (last - B) (last + B) + (n - last)) (le-ltb len n (omega arith)) ∙ (let q : last + B + (n - last) ≡ len = omega arith in q))
      away

  pub behind-wide : len < n → B ≤ last
  behind-wide h = around.wide (⊎_elim (λ e. (let q : B ≤ n = omega arith in q)) (λ e. (let q : B ≤ n = omega arith in q)) away)

  before-range : part 0 first ≡ range s start first
  before-range =
      ext_get_or false (part 0 first) (range s start first) (woven-length (range s start len) n B ps xs 0 first ∙ sym (range_length s start first))
      (λ t h.
      let m = woven-length (range s start len) n B ps xs 0 first in
      let w = before-within in
      let b : t < first = omega arith in
      woven-at (range s start len) n B ps xs 0 first t b ∙ ap (at (range s start len) n B ps xs) (let e : 0 + t ≡ t = omega arith in e)
      ∙ at_before (range s start len) n B ps xs first last pos around t b ∙ range_at s start len t (omega arith) ∙ sym (range_at s start first t b))

  behind-bit : (t : ℕ) → t < n - last → get_or (range s start len) (behind_place (length (range s start len)) n B (last + t)) false ≡ bit_at s (start + behind_place len n B last + t)
  behind-bit t h =
      ap (λ (x : ℕ). get_or (range s start len) (behind_place x n B (last + t)) false) (range_length s start len)
      ∙ range_at s start len (behind_place len n B (last + t)) (let w = behind-within in let e = later in omega arith)
      ∙ ap (bit_at s) (let e = later in let q : start + behind_place len n B (last + t) ≡ start + behind_place len n B last + t = omega arith in q)
    where
      later : behind_place len n B (last + t) ≡ behind_place len n B last + t
      later = ⊎_elim
          (λ e.
          let w = around.wide (omega arith) in
          rw (lt-ltb len n (let q : len < n = omega arith in q)) (let q : last + t - B ≡ last - B + t = omega arith in q))
          (λ e. rw (le-ltb len n (let q : n ≤ len = omega arith in q)) (let q : last + t + B ≡ last + B + t = omega arith in q))
          away

  behind-range : part last (n - last) ≡ range s (start + behind_place len n B last) (n - last)
  behind-range =
      ext_get_or false (part last (n - last)) (range s (start + behind_place len n B last) (n - last))
      (woven-length (range s start len) n B ps xs last (n - last) ∙ sym (range_length s (start + behind_place len n B last) (n - last)))
      (λ t h.
      let m = woven-length (range s start len) n B ps xs last (n - last) in
      let b : t < n - last = omega arith in
      woven-at (range s start len) n B ps xs last (n - last) t b ∙ at-behind (range s start len) n B ps xs first last pos around (last + t) (omega arith) (omega arith)
      ∙ behind-bit t b ∙ sym (range_at s (start + behind_place len n B last) (n - last) t b))

  -- p is where the first bit behind the middle stands in the range
  module _ (p : ℕ) (e : p ≡ behind_place len n B last) where
    in_parts : woven (range s start len) n B ps xs ≡ range s start first ++ (part first (last - first) ++ range s (start + p) (n - last))
    in_parts =
        woven-parts (range s start len) n B ps xs first last around.order around.end
        ∙ ap₂ (λ (x y : List Bool). x ++ (part first (last - first) ++ y)) before-range
        (behind-range ∙ ap (λ (x : ℕ). range s (start + x) (n - last)) (sym e))

    pub parts-hashed : (h key x v x₁ v₁ x₂ v₂ : ℕ) → Went 0 key (range s start first) x v → Went x v (part first (last - first)) x₁ v₁
        → Went x₁ v₁ (range s (start + p) (n - last)) x₂ v₂ → x₂ % 2 ^ h ≡ hash h key (woven (range s start len) n B ps xs)
    parts-hashed h key x v x₁ v₁ x₂ v₂ a b c =
        let behind = range s (start + p) (n - last) in
        went-cut h key x₂ v₂ (range s start first ++ (part first (last - first) ++ behind))
        (went_on 0 key x v x₂ v₂ (range s start first) (part first (last - first) ++ behind) a (went_on x v x₁ v₁ x₂ v₂ (part first (last - first)) behind b c))
        ∙ ap (hash h key) (sym in_parts)

    pub parts-written : (t t₁ t₂ t₃ : List ℕ) (to : ℕ) → t₁ ≡ write_bits t to (range s start first) → t₂ ≡ write_bits t₁ (to + first) (part first (last - first))
        → t₃ ≡ write_bits t₂ (to + last) (range s (start + p) (n - last)) → t₃ ≡ write_bits t to (woven (range s start len) n B ps xs)
    parts-written t t₁ t₂ t₃ to a b c =
        let before = range s start first in
        let middle = part first (last - first) in
        let behind = range s (start + p) (n - last) in
        let k = range_length s start first in
        let m = woven-length (range s start len) n B ps xs first (last - first) in
        let o = around.order in
        c ∙ ap (λ (x : List ℕ). write_bits x (to + last) behind) (b ∙ ap (λ (x : List ℕ). write_bits x (to + first) middle) a)
        ∙ ap₂ (λ (x y : ℕ). write_bits (write_bits (write_bits t to before) x middle) y behind)
        (let q : to + first ≡ to + length before = omega arith in q)
        (let q : to + last ≡ to + length before + length middle = omega arith in q)
        ∙ sym (write-append (write_bits t to before) (to + length before) middle behind)
        ∙ sym (write-append t to before (middle ++ behind)) ∙ ap (write_bits t to) (sym in_parts)

-- ---- the places from the least to the greatest, and the middle around them
pub min-smaller : (x y r : ℕ) → r ≡ min x y → Smaller x y r
min-smaller x y r e = grind (arith)

pub max-larger : (x y r : ℕ) → r ≡ max x y → Larger x y r
max-larger x y r e = grind (arith)

pub spans-first : (ps : List ℕ) → Spans 1 (get_or ps 0 0) (get_or ps 0 0) ps
spans-first ps j h = let e : j ≡ 0 = omega arith in subst (λ (x : ℕ). (get_or ps 0 0 ≤ get_or ps x 0) × (get_or ps x 0 ≤ get_or ps 0 0)) (sym e) (omega arith, omega arith)

pub spans-next : (ps : List ℕ) (j low high low' high' : ℕ) → Spans j low high ps → Smaller low (get_or ps j 0) low' → Larger high (get_or ps j 0) high' → Spans (j + 1) low' high' ps
spans-next ps j low high low' high' all s g i h = go (ℕ_discrete i j)
  where
    go : Dec (i ≡ j) → (low' ≤ get_or ps i 0) × (get_or ps i 0 ≤ high')
    go (yes e) = let f = ap (λ (x : ℕ). get_or ps x 0) e in let a = s.1 in let b = g.1 in (omega arith, omega arith)
    go (no k) = let w = all i (omega arith) in let a = s.0 in let b = g.0 in (omega arith, omega arith)

pub around-places : (B n : ℕ) (ps : List ℕ) (low high first last : ℕ) → Spans B low high ps → first ≤ low - B → first ≤ last → Smaller (high + B) n last → Around B n ps first last
around-places B n ps low high first last all f o l = record {
  order = o;
  end = l.1;
  before = λ i j h k. (let w = (all j k).0 in omega arith);
  behind = λ i j h b k. (let w = (all j k).1 in ⊎_elim (λ e. (let q : get_or ps j 0 + B ≤ i = omega arith in q)) (λ e. (let q : get_or ps j 0 + B ≤ i = omega arith in q)) l.2);
  wide = λ h. ⊎_elim (λ e. (let q : B ≤ last = omega arith in q)) (λ e. (let q : B ≤ last = omega arith in q)) l.2;
}
