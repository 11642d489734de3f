-- Laws of the columns' edits as the code finds them: if every column has one, the woven string is the repair.
use Rattle.std.specs.Prelude.{◌≡◌, refl, Bool, true, false, List, ℕ, zero, suc, ◌+◌, ◌*◌, ◌≤◌, ◌<◌, length, take, get_or, set, replicate, Option as Found, Some, None}
use Rattle.std.proofs.Common.{sym, ap, ap₂, ◌∙◌, subst, ⊎_elim, suc-mul, arith, get_or-take, get_or-set_same, get_or-set_other, length-take-le, lt-ltb, le-ltb, mul-le-mul}
use Rattle.std.proofs.Math.Option.{none, some, Option}
use Rattle.std.proofs.Math.Decide.{ℕ_discrete}
use Rattle.strings.specs.Bits.{range, max_bits}
use Rattle.strings.specs.laws.Tests.{true-false}
use Rattle.strings.proofs.laws.RangeLaws.{range_length}
use Rattle.codes.specs.Repair.{without, insert_at, repair_to}
use Rattle.codes.specs.Columns.{column, column_length, repair_run, RunApart}
use Rattle.codes.specs.laws.RepairLaws.{length-insert, length_without}
use Rattle.codes.specs.laws.EditLaws.{found-is, found-fits, nothing_is}
use Rattle.codes.specs.laws.ColumnLaws.{column-length, column-length-run, column-away, repair-to-found, repair-run-none}
use Rattle.codes.specs.code.Weaving.{woven, ColumnEdit, ColumnFound, Located, Placed, found_run}
use Rattle.codes.specs.code.Edits.{edited, Fits, repaired, RepairFits}
use Rattle.codes.specs.declared.edits.Edit.{Edit}
use Rattle.codes.specs.declared.edits.Edit.TheVariants.{Put, Take}
use Rattle.codes.specs.laws.ColumnReadLaws.{column-inside}
use Rattle.codes.specs.laws.WeavingLaws.{woven-repairs}

-- ---- an edit of a column
pub fits-as : (e x : Edit) (m : ℕ) → Fits e m → e ≡ x → Fits x m
fits-as e x m f h = subst (λ (y : Edit). Fits y m) h f

pub located-as : (e x : Edit) (B j : ℕ) (found : Bool) (p : ℕ) (y : Bool) → e ≡ x → Located x B j found p y → Located e B j found p y
located-as e x B j found p y h f = subst (λ (z : Edit). Located z B j found p y) (sym h) f

-- places stay far below what the code's numbers hold
pub place-below : (k B : ℕ) → k ≤ max_bits → B ≤ 32 → k * B ≤ 2097152
place-below k B h l = mul-le-mul h l

-- the repair of column j of l that the code found: c is the column, m its length
module _ (B n s : ℕ) (l : List Bool) (j : ℕ) (pos : 1 ≤ B) (h : j < B) (away : RunApart B (length l) n) where
  abbrev column-j : List Bool
  column-j = column B j l

  -- a bit put in makes the column longer, and a bit taken out shorter: so it is a put-in just where the string becomes longer
  located-edit : (e : Edit) (found : Bool) (p : ℕ) (x : Bool) → Fits e (length column-j) → repair_to (column_length B j n) s column-j ≡ some (edited e column-j)
      → Located e B j found p x → ColumnEdit B n s l j p x
  located-edit (Put k y) found p x f r w =
      record {
        k = k;
        place = w.1;
        within = f;
        repairs = r ∙ ap some (⊎_elim (λ a. rw (lt-ltb (length l) n (omega arith), w.2) refl) (λ a. absurd (
            let c = (repair-to-found (column_length B j n) s column-j (insert_at k y column-j) (column-away B n l pos away j h) r).0 in
            let d = length-insert k y column-j in
            let u = column-length B pos j l ∙ ap (column_length B j) a ∙ column-length-run B pos j n h in
            omega arith)) away);
      }
  located-edit (Take k) found p x f r w =
      record {
        k = k;
        place = w.1;
        within = (let q : k < length column-j = f in omega arith);
        repairs = r ∙ ap some (⊎_elim (λ a. absurd (
            let c = (repair-to-found (column_length B j n) s column-j (without k column-j) (column-away B n l pos away j h) r).0 in
            let d = length_without k column-j f in
            let u = column-length B pos j l in
            let v = column-length-run B pos j (length l) h in
            let t = ap (column_length B j) a in
            omega arith)) (λ a. rw (le-ltb (length l) n (omega arith)) refl) away);
      }

  -- the place of an edit is less than B behind the end
  edit-near : (p : ℕ) (x : Bool) → ColumnEdit B n s l j p x → p < length l + B
  edit-near p x e = go e.k e.place e.within
    where
      go : (k : ℕ) → p ≡ j + k * B → k ≤ length column-j → p < length l + B
      go zero q w = omega arith
      go (suc k) q w =
          let u = suc-mul k B in
          let c = column-length B pos j l in
          let i = column-inside B j (length l) k pos (omega arith) in
          omega arith

  pub column-found : (e : Edit) (found : Bool) (p : ℕ) (x : Bool) → Fits e (length column-j) → repair_to (column_length B j n) s column-j ≡ some (edited e column-j)
      → Located e B j found p x → ColumnFound B n s l j found p x
  column-found e found p x f r w =
      let it = located-edit e found p x f r w in
      record { edit = λ t. it; nothing = λ t. absurd (true-false (sym (is_found e w) ∙ t)); near = edit-near p x it }
    where
      is_found : (e : Edit) → Located e B j found p x → found ≡ true
      is_found (Put k y) w = w.0
      is_found (Take k) w = w.0

  pub column-nothing : repair_to (column_length B j n) s column-j ≡ none → ColumnFound B n s l j false 0 false
  column-nothing r = record { edit = λ t. absurd (true-false (sym t)); nothing = λ t. r; near = omega arith }

-- lengths apart, of a range
pub apart-range : (s : List ℕ) (start len n B : ℕ) → RunApart B len n → RunApart B (length (range s start len)) n
apart-range s start len n B away = subst (λ (x : ℕ). RunApart B x n) (sym (range_length s start len)) away

-- the same from what the search in the buffer u gives, which holds the column's m bits
module _ (s : List ℕ) (start len n B j a : ℕ) (pos : 1 ≤ B) (h : j < B) (away : RunApart B len n) (u : List ℕ) (m m' : ℕ) (e : m ≡ column_length B j len) (f : m' ≡ column_length B j n)
    (held : range u 0 (column_length B j len) ≡ column B j (range s start len)) (r : Found Edit) (is : repaired r (range u 0 m) ≡ repair_to m' a (range u 0 m)) where
  abbrev copied : List Bool
  copied = range s start len

  copied-length : length (column B j copied) ≡ m
  copied-length = column-length B pos j copied ∙ ap (column_length B j) (range_length s start len) ∙ sym e

  searched : repaired r (column B j copied) ≡ repair_to (column_length B j n) a (column B j copied)
  searched =
      let c : range u 0 m ≡ column B j copied = ap (range u 0) e ∙ held in
      ap (repaired r) (sym c) ∙ is ∙ ap₂ (λ (k : ℕ) (l : List Bool). repair_to k a l) f c

  pub searched-nothing : r ≡ None → ColumnFound B n a copied j false 0 false
  searched-nothing q = column-nothing B n a copied j pos h (apart-range s start len n B away) (nothing_is r (column B j copied) _ searched q)

  pub searched-found : RepairFits r m → (x : Edit) → r ≡ Some x → (found : Bool) (p : ℕ) (y : Bool) → Located x B j found p y → ColumnFound B n a copied j found p y
  searched-found g x q found p y w =
      column-found B n a copied j pos h (apart-range s start len n B away) x found p y
      (subst (Fits x) (sym copied-length) (found-fits r m x g q)) (found-is r (column B j copied) _ searched x q) w

-- ---- the loop over the columns: the places and the bits that are found so far
zero-at : (m j : ℕ) → get_or {A = ℕ} (replicate m 0) j 0 ≡ 0
zero-at zero j = refl
zero-at (suc m) zero = refl
zero-at (suc m) (suc j) = zero-at m j

pub placed_first : (B len m : ℕ) → 1 ≤ B → Placed B len (replicate m 0)
placed_first B len m pos j = let e = zero-at m j in omega arith

pub placed-next : (B len : ℕ) (ps : List ℕ) (j p : ℕ) → j < length ps → Placed B len ps → p < len + B → Placed B len (set ps j p)
placed-next B len ps j p h all q i = go (ℕ_discrete i j)
  where
    go : Dec (i ≡ j) → get_or (set ps j p) i 0 < len + B
    go (yes e) = let f = ap (λ (x : ℕ). get_or (set ps j p) x 0) e ∙ get_or-set_same ps j p 0 h in omega arith
    go (no k) = let f = get_or-set_other ps j i p 0 k in let g = all i in omega arith

module _ (B n : ℕ) (l : List Bool) (ss ps : List ℕ) (xs : List Bool) where
  -- the first j columns have their edits
  abbrev pub EditsBefore : ℕ → Type 0
  EditsBefore j = (i : ℕ) → i < j → ColumnEdit B n (get_or ss i 0) l i (get_or ps i 0) (get_or xs i false)

pub edits-next : (B n : ℕ) (l : List Bool) (ss ps : List ℕ) (xs : List Bool) (j p : ℕ) (x : Bool) → j < length ps → j < length xs
    → EditsBefore B n l ss ps xs j → ColumnEdit B n (get_or ss j 0) l j p x → EditsBefore B n l ss (set ps j p) (set xs j x) (j + 1)
edits-next B n l ss ps xs j p x h h' before one i k = go (ℕ_discrete i j)
  where
    go : Dec (i ≡ j) → ColumnEdit B n (get_or ss i 0) l i (get_or (set ps j p) i 0) (get_or (set xs j x) i false)
    go (yes e) =
        subst (λ (y : ℕ). ColumnEdit B n (get_or ss y 0) l y (get_or (set ps j p) y 0) (get_or (set xs j x) y false)) (sym e)
        (rw (get_or-set_same ps j p 0 h, get_or-set_same xs j x false h') one)
    go (no q) = rw (get_or-set_other ps j i p 0 q, get_or-set_other xs j i x false q) (before i (omega arith))

-- the syndromes are the first B of the numbers a
module _ (B n : ℕ) (l : List Bool) (a : List ℕ) (h : B ≤ length a) where
  pub run-nothing : (j : ℕ) → j < B → repair_to (column_length B j n) (get_or a j 0) (column B j l) ≡ none → none ≡ repair_run B n (take B a) l
  run-nothing j k e =
      let m = length-take-le B a h in
      sym (repair-run-none B n l (take B a) j (omega arith) (ap (λ (s : ℕ). repair_to (column_length B j n) s (column B j l)) (get_or-take B a j 0 k) ∙ e))

  pub run-found : (ps : List ℕ) (xs : List Bool) → 1 ≤ B → RunApart B (length l) n → EditsBefore B n l a ps xs B → some (woven l n B ps xs) ≡ repair_run B n (take B a) l
  run-found ps xs pos away all =
      sym (woven-repairs l n B ps xs pos (take B a) away (length-take-le B a h)
      (λ j k. subst (λ (s : ℕ). ColumnEdit B n s l j (get_or ps j 0) (get_or xs j false)) (sym (get_or-take B a j 0 k)) (all j k)))

-- what the test of a search in all columns tells of the string o that the search gives
module _ (all : Bool) (z : List Bool) (o : Option (List Bool)) (f : found_run all z ≡ o) where
  pub all_found : all ≡ true → o ≡ some z
  all_found e = sym f ∙ ap (λ (b : Bool). found_run b z) e

  pub none_found : all ≡ false → o ≡ none
  none_found e = sym f ∙ ap (λ (b : Bool). found_run b z) e
