-- Laws of bits at equal distances, with the place of bit i as i steps from the first: parts of them, loops that copy them by bytes and
-- one by one, and a column as these bits.
use Rattle.std.specs.Prelude.{◌≡◌, Bool, List, ◌∷◌, ◌++◌, ℕ, suc, ◌+◌, ◌-◌, ◌*◌, ◌≤◌, ◌<◌, length, set}
use Rattle.std.proofs.Math.Path.{sym, ap, ap₂}
use Rattle.std.proofs.Common.{◌∙◌, add-mul, zero-mul, suc-mul, le-div_iff_mul-le, mul-le-mul_right, subst, arith}
use Rattle.std.proofs.Math.Decide.{dec_le}
use Rattle.std.proofs.lemmas.List.{nil_from_length, append-nil}
use Rattle.strings.specs.Bits.{bit_at, range, byte_bits, set_bit, write_bits, Bytes}
use Rattle.strings.proofs.laws.WriteLaws.{write-none, write-next, write-append}
use Rattle.codes.specs.Columns.{column, column_length}
use Rattle.codes.specs.code.Strides.{strided, StridedPart}
use Rattle.codes.specs.laws.ColumnByteLaws.{strided-length, strided-add, groups-first, groups-next, column-strided, column-left}
use Rattle.codes.specs.laws.ColumnLaws.{column-length-behind}
use Rattle.codes.specs.laws.ColumnReadLaws.{column-count}

-- the first m of the bits
pub part_first : (s : List ℕ) (p B n m : ℕ) → StridedPart s p B n → m ≤ n → StridedPart s p B m
part_first s p B n m h l =
    let there = h.there in
    let few = h.few in
    let e = mul-le-mul_right B l in
    record { there = omega arith; few = omega arith }

-- m of the bits from bit i on
pub part_from : (s : List ℕ) (p B n i m : ℕ) → StridedPart s p B n → i + m ≤ n → StridedPart s (p + i * B) B m
part_from s p B n i m h l =
    let there = h.there in
    let few = h.few in
    let e : i * B + m * B ≤ n * B = subst (λ (k : ℕ). k ≤ n * B) (add-mul i m B) (mul-le-mul_right B l) in
    record { there = omega arith; few = omega arith }

-- ---- a loop that copies them by bytes
pub strides_first : (s t : List ℕ) (p B n : ℕ) → write_bits t (8 * 0) (strided s (p + 8 * 0 * B) B (8 * (n - 0))) ≡ write_bits t 0 (strided s p B (8 * n))
strides_first s t p B n =
    ap (λ (q : ℕ). write_bits t (8 * 0) (strided s q B (8 * (n - 0)))) (let z = zero-mul B in let e : p + 8 * 0 * B ≡ p = omega arith in e) ∙ groups-first s t p B n

pub strides_next : (s t u : List ℕ) (p B n i v : ℕ) → i < n → n ≤ length t → Bytes t → v < 256 → byte_bits v ≡ strided s (p + 8 * i * B) B 8
    → write_bits t (8 * i) (strided s (p + 8 * i * B) B (8 * (n - i))) ≡ u
    → write_bits (set t i v) (8 * (i + 1)) (strided s (p + 8 * (i + 1) * B) B (8 * (n - (i + 1)))) ≡ u
strides_next s t u p B n i v h l b m e g =
    let k : 8 * (i + 1) ≡ 8 * i + 8 = omega arith in
    let f = ap (λ (j : ℕ). j * B) k ∙ add-mul (8 * i) 8 B in
    ap (λ (q : ℕ). write_bits (set t i v) (8 * (i + 1)) (strided s q B (8 * (n - (i + 1))))) (let z : p + 8 * (i + 1) * B ≡ p + 8 * i * B + 8 * B = omega arith in z)
    ∙ groups-next s t u (p + 8 * i * B) B n i v h l b m e g

-- ---- a loop that copies them one by one, from bit i on
pub strided_turn : (s : List ℕ) (p B n i : ℕ) → i < n → strided s (p + i * B) B (n - i) ≡ bit_at s (p + i * B) ∷ strided s (p + (i + 1) * B) B (n - (i + 1))
unfolding strided
strided_turn s p B n i h =
    let k : n - i ≡ suc (n - (i + 1)) = omega arith in
    let m = suc-mul i B in
    let e : p + i * B + B ≡ p + (i + 1) * B = omega arith in
    ap (strided s (p + i * B) B) k ∙ ap (λ (q : ℕ). bit_at s (p + i * B) ∷ strided s q B (n - (i + 1))) e

pub singly_next : (s t t' u : List ℕ) (p B n i : ℕ) (b : Bool) → i < n → b ≡ bit_at s (p + i * B) → t' ≡ set_bit t i b
    → write_bits t i (strided s (p + i * B) B (n - i)) ≡ u → write_bits t' (i + 1) (strided s (p + (i + 1) * B) B (n - (i + 1))) ≡ u
singly_next s t t' u p B n i b h e w g =
    let r = strided s (p + (i + 1) * B) B (n - (i + 1)) in
    ap (λ (x : List ℕ). write_bits x (i + 1) r) (w ∙ ap (set_bit t i) e)
    ∙ sym (write-next t i (bit_at s (p + i * B)) r) ∙ ap (write_bits t i) (sym (strided_turn s p B n i h)) ∙ g

pub singly_last : (s t u : List ℕ) (p B n i : ℕ) → n ≤ i → write_bits t i (strided s (p + i * B) B (n - i)) ≡ u → t ≡ u
unfolding strided
singly_last s t u p B n i h g =
    let k : n - i ≡ 0 = omega arith in
    sym (ap (λ (m : ℕ). write_bits t i (strided s (p + i * B) B m)) k ∙ write-none t i) ∙ g

-- the first m of n bits written, and then those behind them
pub strides_joined : (s t t' u : List ℕ) (p B n m : ℕ) → m ≤ n → t' ≡ write_bits t 0 (strided s p B m) → u ≡ write_bits t' m (strided s (p + m * B) B (n - m))
    → u ≡ write_bits t 0 (strided s p B n)
strides_joined s t t' u p B n m h e f =
    let r = strided s (p + m * B) B (n - m) in
    let k = strided-length s p B m in
    let z : m ≡ 0 + length (strided s p B m) = omega arith in
    let a : n ≡ m + (n - m) = omega arith in
    f ∙ ap₂ (λ (x : List ℕ) (j : ℕ). write_bits x j r) e z ∙ sym (write-append t 0 (strided s p B m) r)
    ∙ ap (write_bits t 0) (sym (strided-add s p B m (n - m))) ∙ ap (λ (x : ℕ). write_bits t 0 (strided s p B x)) (sym a)

-- ---- a column as these bits
pub column_within : (B j len n : ℕ) → j < B → n ≡ column_length B j len → j + n * B < len + B
column_within B j len n h e = go (dec_le j len)
  where
    go : Dec (j ≤ len) → j + n * B < len + B
    go (yes l) =
        let m : n * B ≤ len - j + (B - 1) = (le-div_iff_mul-le {k = B} {x = n} {y = len - j + (B - 1)} (omega arith)).0 (omega arith) in
        omega arith
    go (no l) =
        let k = column-length-behind B (omega arith) j len (omega arith) in
        let z : n ≡ 0 = omega arith in
        let m = ap (λ (k : ℕ). k * B) z ∙ zero-mul B in
        omega arith

pub column_strides : (s : List ℕ) (start len B j n : ℕ) → j < B → n ≡ column_length B j len → column B j (range s start len) ≡ strided s (start + j) B n
column_strides s start len B j n h e =
    let pos : 1 ≤ B = omega arith in
    let w = column_within B j len n h e in
    let a = column-left s start len B pos j n w in
    let c = column-count s start len B (j + n * B) pos in
    let rest = nil_from_length (column B (j + n * B) (range s start len)) (omega arith) in
    column-strided s start len B pos j n w ∙ ap (λ (l : List Bool). strided s (start + j) B n ++ l) rest ∙ append-nil (strided s (start + j) B n)
