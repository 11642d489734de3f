-- Laws of a column as the code reads it: its length, what is left of it at a turn of the loop, and the buffer that holds it.
use Rattle.std.specs.Prelude.{◌≡◌, Bool, false, List, [], ◌∷◌, ℕ, suc, ◌+◌, ◌-◌, ◌*◌, ◌≤◌, ◌<◌, length, drop, get_or, ◌/◌}
use Rattle.std.proofs.Common.{sym, ap, ap₂, ◌∙◌, suc-mul, add-zero, le-div_iff_mul-le, arith, length-drop, drop_of_length-le, drop-drop, get_or-drop, div-lt_iff_lt-mul, mul-le-mul_left}
use Rattle.strings.specs.Bits.{bit_at, range, set_bit, write_bits, Part, max_bits}
use Rattle.strings.proofs.laws.RangeLaws.{range_length, range_at}
use Rattle.strings.proofs.laws.WriteLaws.{length-write_bits, write-none, write-next, write-inside}
use Rattle.codes.specs.Columns.{column, column_length}
use Rattle.codes.specs.Syndrome.{syndrome}
use Rattle.codes.specs.laws.ColumnLaws.{column-drop, column-first, column-length, column-length-behind}
use Rattle.std.proofs.Math.Nat.{div-eq_of_lt}
use Rattle.std.proofs.Math.Decide.{dec_le}

-- ---- the length of a column, and its bound
pub column-length-of : (B j n : ℕ) → j < B → (n + (B - 1 - j)) / B ≡ column_length B j n
column-length-of B j n h = go (dec_le j n)
  where
    go : Dec (j ≤ n) → (n + (B - 1 - j)) / B ≡ column_length B j n
    go (yes k) = ap (λ (x : ℕ). x / B) (let e : n + (B - 1 - j) ≡ n - j + (B - 1) = omega arith in e)
    go (no k) = div-eq_of_lt (omega arith) ∙ sym (column-length-behind B (omega arith) j n (omega arith))

-- one of two columns or more has at most half of the bits
pub column-half : (B j n m : ℕ) → 2 ≤ B → n ≤ m + m → column_length B j n ≤ m
column-half B j n m h k =
    let t = mul-le-mul_left m h in
    let u = suc-mul m B in
    let q : (n - j + (B - 1)) / B < suc m = (div-lt_iff_lt-mul {k = B} {x = n - j + (B - 1)} {y = suc m} (omega arith)).1 (omega arith) in
    omega arith

-- bit t of column j lies in the string
pub column-inside : (B j n t : ℕ) → 1 ≤ B → t < column_length B j n → j + t * B < n
column-inside B j n t pos h =
    let m : suc t * B ≤ n - j + (B - 1) = (le-div_iff_mul-le {k = B} {x = suc t} {y = n - j + (B - 1)} (omega arith)).0 h in
    let u = suc-mul t B in
    omega arith

-- ---- a column that is read: what is left of it from bit i of the string on
abbrev pub column_rest : ℕ → List Bool → ℕ → List Bool
column_rest B l i = column B 0 (drop i l)

pub column-rest-first : (B j : ℕ) (l : List Bool) → column_rest B l j ≡ column B j l
column-rest-first B j l = sym (column-drop B 0 j l) ∙ ap (λ (i : ℕ). column B i l) (add-zero j)

pub column-rest-last : (B i : ℕ) (l : List Bool) → length l ≤ i → column_rest B l i ≡ []
column-rest-last B i l h = ap (column B 0) (drop_of_length-le l h)

pub column-rest-next : (B i : ℕ) (l : List Bool) → 1 ≤ B → i < length l → column_rest B l i ≡ get_or l i false ∷ column_rest B l (i + B)
column-rest-next B i l pos h =
    let n = length-drop i l in
    column-first B 0 (drop i l) pos (omega arith)
    ∙ ap₂ (λ (x : Bool) (r : List Bool). x ∷ column B 0 r) (get_or-drop i l 0 false ∙ ap (λ (k : ℕ). get_or l k false) (add-zero i)) (drop-drop B i l)

-- a turn of the loop that copies a column of a range
module _ (s : List ℕ) (start len B : ℕ) (pos : 1 ≤ B) where
  pub column-turn : (i : ℕ) (x : Bool) → i < len → x ≡ bit_at s (start + i) → column_rest B (range s start len) i ≡ x ∷ column_rest B (range s start len) (i + B)
  column-turn i x h e =
      let n = range_length s start len in
      column-rest-next B i (range s start len) pos (omega arith)
      ∙ ap (λ (y : Bool). y ∷ column_rest B (range s start len) (i + B)) (range_at s start len i h ∙ sym e)

  pub column-copied : (t t' u : List ℕ) (k i : ℕ) (x : Bool) → i < len → x ≡ bit_at s (start + i) → t' ≡ set_bit t k x
      → write_bits t k (column_rest B (range s start len) i) ≡ u → write_bits t' (k + 1) (column_rest B (range s start len) (i + B)) ≡ u
  column-copied t t' u k i x h e f g =
      let r = column_rest B (range s start len) (i + B) in
      ap (λ (y : List ℕ). write_bits y (k + 1) r) f ∙ sym (write-next t k x r) ∙ ap (write_bits t k) (sym (column-turn i x h e)) ∙ g

  -- behind the range nothing of it is left to copy
  pub column-all-copied : (t u : List ℕ) (k i : ℕ) → len ≤ i → write_bits t k (column_rest B (range s start len) i) ≡ u → t ≡ u
  column-all-copied t u k i h e =
      let n = range_length s start len in
      sym (write-none t k) ∙ ap (write_bits t k) (sym (column-rest-last B i (range s start len) (omega arith))) ∙ e

-- ---- the length of a column of a range
pub column-count : (s : List ℕ) (start len B j : ℕ) → 1 ≤ B → length (column B j (range s start len)) ≡ column_length B j len
column-count s start len B j pos = column-length B pos j (range s start len) ∙ ap (column_length B j) (range_length s start len)

-- ---- a buffer of 4,096 bytes has room for a column
pub column-room : (len B j : ℕ) → 2 ≤ B → len ≤ max_bits → (t : List ℕ) → length t ≡ 4096 → Part t 0 (column_length B j len)
column-room len B j h few t n = let m = column-half B j len 32768 h (omega arith) in record { there = omega arith; few = omega arith }

-- one of 64 bytes for a short one
pub short-room : (len B j c : ℕ) → c ≡ column_length B j len → c ≤ 512 → (t : List ℕ) → length t ≡ 64 → Part t 0 (column_length B j len)
short-room len B j c e h t n = record { there = omega arith; few = omega arith }

-- and one that has room holds it after the copy
module _ (s : List ℕ) (start len B j : ℕ) (h : 2 ≤ B) (t : List ℕ) (room : Part t 0 (column_length B j len)) where
  pub column-held : (u : List ℕ) → u ≡ write_bits t 0 (column B j (range s start len))
      → Part u 0 (column_length B j len) × (range u 0 (column_length B j len) ≡ column B j (range s start len))
  column-held u e =
      let there = room.there in
      let few = room.few in
      let long : length u ≡ length t = ap length e ∙ length-write_bits t 0 (column B j (range s start len)) in
      let m : length (column B j (range s start len)) ≡ column_length B j len = column-count s start len B j (omega arith) in (
        record { there = omega arith; few = omega arith },
        ap₂ (λ (x : List ℕ) (k : ℕ). range x 0 k) e (sym m) ∙ write-inside t 0 (column B j (range s start len)) (omega arith),
      )

  -- so that the syndrome of the copy is the column's
  pub syndrome-held : (u : List ℕ) (n r : ℕ) → u ≡ write_bits t 0 (column B j (range s start len)) → n ≡ column_length B j len → r ≡ syndrome (range u 0 n) → r ≡ syndrome (column B j (range s start len))
  syndrome-held u n r e f g = g ∙ ap (λ (x : ℕ). syndrome (range u 0 x)) f ∙ ap syndrome (column-held u e).1
