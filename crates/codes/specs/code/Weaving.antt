-- The repair of all columns as the code has it: the place and the bit of each column's edit, and the repaired piece read bit by bit from the copy,
-- so that it is hashed, and then written, with none of it stored before.
use Rattle.std.specs.Prelude.{◌≡◌, Bool, true, false, cond, ◌⊎◌, List, [], ◌∷◌, ℕ, zero, suc, ◌+◌, ◌-◌, ◌*◌, ◌%◌, ◌≤◌, ◌<◌, length, get_or, leb, ltb}
use Rattle.std.proofs.Math.Option.{Option, none, some}
use Rattle.codes.specs.Repair.{without, insert_at, repair_to}
use Rattle.codes.specs.Columns.{column, column_length}
use Rattle.codes.specs.declared.edits.Edit.{Edit}
use Rattle.codes.specs.declared.edits.Edit.TheVariants.{Put, Take}

-- bit i of l with one bit put into the columns, where its column has x put in at bit p of the result: what is behind p in the column comes from B bits before
abbrev pub bit_put : List Bool → (B i p : ℕ) → Bool → Bool
bit_put l B i p x = cond (leb (i + B) p) (get_or l i false) (cond (leb (p + B) i) (get_or l (i - B) false) x)

-- bit i of l with one bit taken out of the columns, where its column loses bit p of l: what is behind p in the column comes from B bits later
abbrev pub bit_taken : List Bool → (B i p : ℕ) → Bool
bit_taken l B i p = cond (ltb i p) (get_or l i false) (get_or l (i + B) false)

-- bit i of the repair of l to n bits
abbrev pub woven_bit : List Bool → (n B i p : ℕ) → Bool → Bool
woven_bit l n B i p x = cond (ltb (length l) n) (bit_put l B i p x) (bit_taken l B i p)

-- the m bits of it from bit i on, with the places ps and the bits xs of the columns' edits; all of its n bits
unfoldable pub woven_from : List Bool → (n B : ℕ) → List ℕ → List Bool → (i m : ℕ) → List Bool
woven_from l n B ps xs i zero = []
woven_from l n B ps xs i (suc m) = woven_bit l n B i (get_or ps (i % B) 0) (get_or xs (i % B) false) ∷ woven_from l n B ps xs (suc i) m

abbrev pub woven : List Bool → (n B : ℕ) → List ℕ → List Bool → List Bool
woven l n B ps xs = woven_from l n B ps xs 0 n

-- a column's bits c with x put in at place k, or with bit k taken out
abbrev pub column_edited : Bool → ℕ → Bool → List Bool → List Bool
column_edited longer k x c = cond longer (insert_at k x c) (without k c)

-- bit p and the bit x are the edit that repairs column j of l with the syndrome s: bit k of the column is bit p of the string
pub record ColumnEdit (B n s : ℕ) (l : List Bool) (j p : ℕ) (x : Bool) : Type 0 where
  pub k : ℕ
  pub place : p ≡ j + k * B
  pub within : k ≤ length (column B j l)
  pub repairs : repair_to (column_length B j n) s (column B j l) ≡ some (column_edited (ltb (length l) n) k x (column B j l))

-- the column of the bit behind one of column j
abbrev pub next_column : (B j : ℕ) → ℕ
next_column B j = cond (ltb (j + 1) B) (j + 1) 0

-- what is found for a column: an edit, or that there is none. Its place is less than B behind the end of l
pub record ColumnFound (B n s : ℕ) (l : List Bool) (j : ℕ) (found : Bool) (p : ℕ) (x : Bool) : Type 0 where
  pub edit : found ≡ true → ColumnEdit B n s l j p x
  pub nothing : found ≡ false → repair_to (column_length B j n) s (column B j l) ≡ none
  pub near : p < length l + B

-- an edit of column j by its place in the string
abbrev pub Located : Edit → (B j : ℕ) → Bool → ℕ → Bool → Type 0
Located (Put k x) B j found p y = (found ≡ true) × (p ≡ j + k * B) × (y ≡ x)
Located (Take k) B j found p y = (found ≡ true) × (p ≡ j + k * B)

-- the string z, if all columns have a repair
abbrev pub found_run : Bool → List Bool → Option (List Bool)
found_run all z = cond all (some z) none

-- no place is behind the longer of the two strings: it is less than B behind the end of l
abbrev pub Placed : (B len : ℕ) → List ℕ → Type 0
Placed B len ps = (j : ℕ) → get_or ps j 0 < len + B

-- ---- the middle of the repaired string, around the places of the edits: outside of it the bits are those of l, all of them the same number of bits away
-- the places of the B columns lie from low to high
abbrev pub Spans : (B low high : ℕ) → List ℕ → Type 0
Spans B low high ps = (j : ℕ) → j < B → (low ≤ get_or ps j 0) × (get_or ps j 0 ≤ high)

-- r is the smaller, the larger of two numbers
abbrev pub Smaller : (x y r : ℕ) → Type 0
Smaller x y r = (r ≤ x) × (r ≤ y) × ((r ≡ x) ⊎ (r ≡ y))

abbrev pub Larger : (x y r : ℕ) → Type 0
Larger x y r = (x ≤ r) × (y ≤ r) × ((r ≡ x) ⊎ (r ≡ y))

-- the bits before bit `first` are B bits or more before every place, and those from bit `last` on as far behind
pub record Around (B n : ℕ) (ps : List ℕ) (first last : ℕ) : Type 0 where
  pub order : first ≤ last
  pub end : last ≤ n
  pub before : (i j : ℕ) → i < first → j < B → i + B ≤ get_or ps j 0
  pub behind : (i j : ℕ) → last ≤ i → i < n → j < B → get_or ps j 0 + B ≤ i
  pub wide : B ≤ n → B ≤ last

-- where bit i of the repair to n bits stands in the len bits, if it is behind its column's place
abbrev pub behind_place : (len n B i : ℕ) → ℕ
behind_place len n B i = cond (ltb len n) (i - B) (i + B)
