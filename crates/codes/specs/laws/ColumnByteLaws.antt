-- Laws of a column that is copied by bytes: bits at equal distances, eight of them as a byte, and a column as these bits.
use Rattle.std.specs.Prelude.{◌≡◌, Bool, true, false, length, set, eqb}
use Rattle.std.proofs.Math.Path.{refl, sym, ap, ap₂}
use Rattle.std.proofs.Common.{◌∙◌, add-mul, zero-add, suc-add, le-div_iff_mul-le, length-append, subst}
use mathlib.Core.List.{List, [], ◌∷◌, ◌++◌}
use Prim.Native.Nat.{ℕ, zero, suc, ◌+◌, ◌-◌, ◌*◌, ◌/◌, ◌%◌, ◌^◌, ◌≤◌, ◌<◌}
use Rattle.std.proofs.Math.Nat.{suc-mul, zero-mul}
use Rattle.std.proofs.Math.Decide.{dec_le}
use Rattle.std.proofs.Math.Pow.{pow_mono}
use native.Mathlib.Omega.{arith}
use mir.Val.{bool_byte}
use Rattle.strings.specs.Bits.{bit_at, range, byte_bits, write_bits, Bytes, Part}
use Rattle.strings.proofs.laws.WriteLaws.{write-none, write-append}
use Rattle.strings.proofs.laws.ByteLaws.{eight-whole, byte-stored}
use Rattle.codes.specs.Columns.{column, column_length}
use Rattle.codes.specs.Listing.{number_of}
use Rattle.codes.specs.code.Strides.{strided, StridedPart}
use Rattle.codes.specs.laws.SyndromeLaws.{bit-most}
use Rattle.codes.specs.laws.ColumnLaws.{column-length-behind}
use Rattle.codes.specs.laws.ListingLaws.{number-none, number-below, number-snoc}
use Rattle.codes.specs.laws.ColumnReadLaws.{column-rest-first, column-turn, column-count}

-- ---- bits at equal distances
pub strided-length : (s : List ℕ) (p B n : ℕ) → length (strided s p B n) ≡ n
unfolding strided
strided-length s p B zero = refl
strided-length s p B (suc n) = ap suc (strided-length s (p + B) B n)

pub strided-add : (s : List ℕ) (p B n m : ℕ) → strided s p B (n + m) ≡ strided s p B n ++ strided s (p + n * B) B m
unfolding strided
strided-add s p B zero m = ap₂ (λ (q k : ℕ). strided s q B k) (let z = zero-mul B in let e : p ≡ p + 0 * B = omega arith in e) (zero-add m)
strided-add s p B (suc n) m =
    ap (strided s p B) (suc-add n m)
    ∙ ap (λ (l : List Bool). bit_at s p ∷ l) (strided-add s (p + B) B n m
    ∙ ap (λ (q : ℕ). strided s (p + B) B n ++ strided s q B m) (let e = suc-mul n B in let f : p + B + n * B ≡ p + suc n * B = omega arith in f))

-- a loop that takes eight bits at each of n turns: its start, and a turn, with the eight and what is left
pub part-first : (s : List ℕ) (p B n : ℕ) → StridedPart s p B (8 * n) → StridedPart s p B (8 * (n - 0))
part-first s p B n h = subst (λ (k : ℕ). StridedPart s p B k) (omega arith) h

pub part-next : (s : List ℕ) (q B n i : ℕ) → i < n → StridedPart s q B (8 * (n - i)) → StridedPart s q B 8 × StridedPart s (q + 8 * B) B (8 * (n - (i + 1)))
part-next s q B n i h p =
    let there = p.there in
    let few = p.few in
    let e : 8 * (n - i) ≡ 8 + 8 * (n - (i + 1)) = omega arith in
    let f : 8 * (n - i) * B ≡ 8 * B + 8 * (n - (i + 1)) * B = ap (λ (k : ℕ). k * B) e ∙ add-mul 8 (8 * (n - (i + 1))) B in (
      record { there = omega arith; few = omega arith },
      record { there = omega arith; few = omega arith },
    )

-- ---- four bits as a number, and eight as a byte
joined : {x y : Bool} {l m : List Bool} → x ≡ y → l ≡ m → x ∷ l ≡ y ∷ m
joined e f = ap₂ (λ (x : Bool) (l : List Bool). x ∷ l) e f

number-next : (b : Bool) (l : List Bool) (k : ℕ) → 2 ^ length l ≡ k → number_of (b ∷ l) ≡ k * bool_byte b + number_of l
unfolding number_of
number-next true l k e = omega arith
number-next false l k e = omega arith

number-four : (a b c d : Bool) → number_of (a ∷ b ∷ c ∷ d ∷ []) ≡ 8 * bool_byte a + 4 * bool_byte b + 2 * bool_byte c + bool_byte d
number-four a b c d =
    let u = number-next a (b ∷ c ∷ d ∷ []) 8 refl in
    let v = number-next b (c ∷ d ∷ []) 4 refl in
    let w = number-next c (d ∷ []) 2 refl in
    let x = number-next d [] 1 refl in
    let z = number-none in
    omega arith

pub four-strided : (s : List ℕ) (p B : ℕ) (a b c d : Bool) → a ≡ bit_at s p → b ≡ bit_at s (p + B) → c ≡ bit_at s (p + 2 * B) → d ≡ bit_at s (p + 3 * B)
    → 8 * bool_byte a + 4 * bool_byte b + 2 * bool_byte c + bool_byte d ≡ number_of (strided s p B 4)
unfolding strided
four-strided s p B a b c d e f g h =
    sym (number-four a b c d)
    ∙ ap number_of (joined e (joined f (joined (g ∙ ap (bit_at s) (let k : p + 2 * B ≡ p + B + B = omega arith in k)) (joined {l = []} {m = []} (h ∙ ap (bit_at s) (let k : p + 3 * B ≡ p + B + B + B = omega arith in k)) refl))))

bit_is : (b : Bool) (n : ℕ) → n ≡ bool_byte b → eqb n 1 ≡ b
bit_is true n e = ap (λ (k : ℕ). eqb k 1) e
bit_is false n e = ap (λ (k : ℕ). eqb k 1) e

byte-halves : (a b c d e f g h : Bool) (x y : ℕ) → x ≡ number_of (a ∷ b ∷ c ∷ d ∷ []) → y ≡ number_of (e ∷ f ∷ g ∷ h ∷ []) → byte_bits (16 * x + y) ≡ a ∷ b ∷ c ∷ d ∷ e ∷ f ∷ g ∷ h ∷ []
byte-halves a b c d e f g h x y i j =
    let u = number-four a b c d in
    let v = number-four e f g h in
    let ma = bit-most a in
    let mb = bit-most b in
    let mc = bit-most c in
    let md = bit-most d in
    let me = bit-most e in
    let mf = bit-most f in
    let mg = bit-most g in
    let mh = bit-most h in
    joined (bit_is a ((16 * x + y) / 2 ^ 7 % 2) (omega arith))
    (joined (bit_is b ((16 * x + y) / 2 ^ 6 % 2) (omega arith))
    (joined (bit_is c ((16 * x + y) / 2 ^ 5 % 2) (omega arith))
    (joined (bit_is d ((16 * x + y) / 2 ^ 4 % 2) (omega arith))
    (joined (bit_is e ((16 * x + y) / 2 ^ 3 % 2) (omega arith))
    (joined (bit_is f ((16 * x + y) / 2 ^ 2 % 2) (omega arith))
    (joined (bit_is g ((16 * x + y) / 2 ^ 1 % 2) (omega arith))
    (joined (bit_is h ((16 * x + y) / 2 ^ 0 % 2) (omega arith)) refl)))))))

pub eight-strided : (s : List ℕ) (p B x y : ℕ) → x ≡ number_of (strided s p B 4) → y ≡ number_of (strided s (p + 4 * B) B 4) → byte_bits (16 * x + y) ≡ strided s p B 8
unfolding strided
eight-strided s p B x y e f =
    byte-halves (bit_at s p) (bit_at s (p + B)) (bit_at s (p + B + B)) (bit_at s (p + B + B + B)) (bit_at s (p + 4 * B)) (bit_at s (p + 4 * B + B)) (bit_at s (p + 4 * B + B + B)) (bit_at s (p + 4 * B + B + B + B)) x y e f
    ∙ sym (strided-add s p B 4 4)

-- the number of four digits is below 16
pub four-most : (s : List ℕ) (p B x : ℕ) → x ≡ number_of (strided s p B 4) → x < 16
unfolding strided
four-most s p B x e =
    let u = number-four (bit_at s p) (bit_at s (p + B)) (bit_at s (p + B + B)) (bit_at s (p + B + B + B)) in
    let ma = bit-most (bit_at s p) in
    let mb = bit-most (bit_at s (p + B)) in
    let mc = bit-most (bit_at s (p + B + B)) in
    let md = bit-most (bit_at s (p + B + B + B)) in
    omega arith

-- ---- a byte gathered bit by bit: the number of the first i bits, one bit more, and the number of eight
pub gathered_none : (s : List ℕ) (p B : ℕ) → 0 ≡ number_of (strided s p B 0)
unfolding strided number_of
gathered_none s p B = refl

pub gathered_next : (s : List ℕ) (p B i v : ℕ) (b : Bool) → v ≡ number_of (strided s p B i) → b ≡ bit_at s (p + i * B) → 2 * v + bool_byte b ≡ number_of (strided s p B (i + 1))
unfolding strided
gathered_next s p B i v b e f =
    ap₂ (λ (x : ℕ) (y : Bool). 2 * x + bool_byte y) e f ∙ sym (number-snoc (strided s p B i) (bit_at s (p + i * B))) ∙ ap number_of (sym (strided-add s p B i 1))

pub gathered_most : (s : List ℕ) (p B i v : ℕ) → i < 8 → v ≡ number_of (strided s p B i) → v < 128
gathered_most s p B i v h e =
    let l = strided-length s p B i in
    let n = number-below (strided s p B i) in
    let q = ap (λ (k : ℕ). 2 ^ k) l in
    let k : i ≤ 7 = omega arith in
    let m : 2 ^ i ≤ 2 ^ 7 = pow_mono k in
    omega arith

number-eight : (a b c d e f g h : Bool) → number_of (a ∷ b ∷ c ∷ d ∷ e ∷ f ∷ g ∷ h ∷ []) ≡ 16 * number_of (a ∷ b ∷ c ∷ d ∷ []) + number_of (e ∷ f ∷ g ∷ h ∷ [])
number-eight a b c d e f g h =
    let r = number-four a b c d in
    let x = number-next a (b ∷ c ∷ d ∷ e ∷ f ∷ g ∷ h ∷ []) 128 refl in
    let y = number-next b (c ∷ d ∷ e ∷ f ∷ g ∷ h ∷ []) 64 refl in
    let z = number-next c (d ∷ e ∷ f ∷ g ∷ h ∷ []) 32 refl in
    let w = number-next d (e ∷ f ∷ g ∷ h ∷ []) 16 refl in
    omega arith

pub gathered_byte : (s : List ℕ) (p B v : ℕ) → v ≡ number_of (strided s p B 8) → byte_bits v ≡ strided s p B 8
unfolding strided
gathered_byte s p B v e =
    let a = bit_at s p in
    let b = bit_at s (p + B) in
    let c = bit_at s (p + B + B) in
    let d = bit_at s (p + B + B + B) in
    let f = bit_at s (p + B + B + B + B) in
    let g = bit_at s (p + B + B + B + B + B) in
    let h = bit_at s (p + B + B + B + B + B + B) in
    let i = bit_at s (p + B + B + B + B + B + B + B) in
    ap byte_bits (e ∙ number-eight a b c d f g h i) ∙ byte-halves a b c d f g h i _ _ refl refl

-- ---- a byte stored is its eight bits written
one_byte : (v : ℕ) → v < 256 → Bytes (v ∷ [])
one_byte v h zero = h
one_byte v h (suc i) = omega arith

pub byte-written : (t : List ℕ) (j v : ℕ) → Bytes t → j < length t → v < 256 → write_bits t (8 * j) (byte_bits v) ≡ set t j v
byte-written t j v b l h =
    let e = eight-whole (v ∷ []) 0 (one_byte v h) refl in
    ap (write_bits t (8 * j)) (sym e.bits) ∙ byte-stored (v ∷ []) t 0 j v b l e

-- a loop that stores n bytes: its start, a turn and its end
pub groups-first : (s t : List ℕ) (p B n : ℕ) → write_bits t (8 * 0) (strided s p B (8 * (n - 0))) ≡ write_bits t 0 (strided s p B (8 * n))
groups-first s t p B n = ap (λ (k : ℕ). write_bits t 0 (strided s p B k)) (omega arith)

pub groups-next : (s t u : List ℕ) (q B n i v : ℕ) → i < n → n ≤ length t → Bytes t → v < 256 → byte_bits v ≡ strided s q B 8
    → write_bits t (8 * i) (strided s q B (8 * (n - i))) ≡ u → write_bits (set t i v) (8 * (i + 1)) (strided s (q + 8 * B) B (8 * (n - (i + 1)))) ≡ u
groups-next s t u q B n i v h l b m e g =
    let r = strided s (q + 8 * B) B (8 * (n - (i + 1))) in
    let k : 8 * (n - i) ≡ 8 + 8 * (n - (i + 1)) = omega arith in
    ap₂ (λ (x : List ℕ) (y : ℕ). write_bits x y r) (sym (byte-written t i v b (omega arith) m)) (let d : 8 * (i + 1) ≡ 8 * i + 8 = omega arith in d)
    ∙ sym (write-append t (8 * i) (byte_bits v) r)
    ∙ ap (write_bits t (8 * i)) (ap (λ (x : List Bool). x ++ r) e ∙ sym (strided-add s q B 8 (8 * (n - (i + 1)))) ∙ ap (strided s q B) (sym k))
    ∙ g

pub groups-last : (s t u : List ℕ) (q B n i : ℕ) → n ≤ i → write_bits t (8 * i) (strided s q B (8 * (n - i))) ≡ u → t ≡ u
unfolding strided
groups-last s t u q B n i h g =
    let k : 8 * (n - i) ≡ 0 = omega arith in
    sym (ap (λ (x : ℕ). write_bits t (8 * i) (strided s q B x)) k ∙ write-none t (8 * i)) ∙ g

-- ---- the first n bits of a column, and what is left of it
module _ (s : List ℕ) (start len B : ℕ) (pos : 1 ≤ B) where
  pub column-strided : (j n : ℕ) → j + n * B < len + B → column B j (range s start len) ≡ strided s (start + j) B n ++ column B (j + n * B) (range s start len)
  unfolding strided
  column-strided j zero h = ap (λ (k : ℕ). column B k (range s start len)) (let z = zero-mul B in let e : j ≡ j + 0 * B = omega arith in e)
  column-strided j (suc n) h =
      let m = suc-mul n B in
      sym (column-rest-first B j (range s start len)) ∙ column-turn s start len B pos j (bit_at s (start + j)) (omega arith) refl
      ∙ ap (λ (l : List Bool). bit_at s (start + j) ∷ l)
      (column-rest-first B (j + B) (range s start len) ∙ column-strided (j + B) n (omega arith)
      ∙ ap₂ (λ (x y : ℕ). strided s x B n ++ column B y (range s start len)) (let e : start + (j + B) ≡ start + j + B = omega arith in e) (let e : j + B + n * B ≡ j + suc n * B = omega arith in e))

  pub column-left : (j n : ℕ) → j + n * B < len + B → column_length B j len ≡ n + column_length B (j + n * B) len
  column-left j n h =
      let e = ap length (column-strided j n h) in
      let a = length-append (strided s (start + j) B n) (column B (j + n * B) (range s start len)) in
      let m = strided-length s (start + j) B n in
      let c = column-count s start len B j pos in
      let d = column-count s start len B (j + n * B) pos in
      omega arith

  pub column-joined : (j n : ℕ) (t t₁ t₂ : List ℕ) → j + n * B < len + B → t₁ ≡ write_bits t 0 (strided s (start + j) B n) → t₂ ≡ write_bits t₁ n (column B (j + n * B) (range s start len))
      → t₂ ≡ write_bits t 0 (column B j (range s start len))
  column-joined j n t t₁ t₂ h e f =
      let r = column B (j + n * B) (range s start len) in
      f ∙ ap₂ (λ (x : List ℕ) (k : ℕ). write_bits x k r) e (let m = strided-length s (start + j) B n in let z : n ≡ 0 + length (strided s (start + j) B n) = omega arith in z)
      ∙ sym (write-append t 0 (strided s (start + j) B n) r) ∙ ap (write_bits t 0) (sym (column-strided j n h))

-- the whole bytes of a column of c bits lie in the range
pub bytes-within : (B j len c : ℕ) → j < B → c ≡ column_length B j len → j + 8 * (c / 8) * B < len + B
bytes-within B j len c h e = go (dec_le j len)
  where
    go : Dec (j ≤ len) → j + 8 * (c / 8) * B < len + B
    go (yes l) =
        let m : 8 * (c / 8) * B ≤ len - j + (B - 1) = (le-div_iff_mul-le {k = B} {x = 8 * (c / 8)} {y = len - j + (B - 1)} (omega arith)).0 (omega arith) in
        omega arith
    go (no l) =
        let n = column-length-behind B (omega arith) j len (omega arith) in
        let z : 8 * (c / 8) ≡ 0 = omega arith in
        let m = ap (λ (k : ℕ). k * B) z ∙ zero-mul B in
        omega arith

pub column-part : (s : List ℕ) (start len B j n : ℕ) → Part s start len → j + n * B < len + B → StridedPart s (start + j) B n
column-part s start len B j n p h = let there = p.there in let few = p.few in record { there = omega arith; few = omega arith }
