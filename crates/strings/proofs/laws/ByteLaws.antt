-- Laws of whole bytes: eight bits at any place as a byte, and a byte stored as eight bits written.
use Rattle.std.specs.Prelude.{◌≡◌, refl, Bool, false, List, [], ◌++◌, ℕ, zero, suc, ◌+◌, ◌-◌, ◌*◌, ◌/◌, ◌%◌, ◌^◌, ◌≤◌, ◌<◌, length, get_or, set, eqb}
use Rattle.std.proofs.Common.{sym, ap, ap₂, ◌∙◌, inl, inr, lt_of_lt_of_le, mul_assoc, arith, length-set, get_or-set_same, get_or-set_other, ext_get_or, pow-add, pow_mono, shr-shr}
use Rattle.std.proofs.Math.Nat.{div-eq_of_lt}
use Rattle.std.proofs.Math.Decide.{dec_lt, dec_le}
use Rattle.std.specs.Int.Bits.{bit_xor, differ, shifted_even}
use Rattle.std.proofs.lemmas.Nat.{xor_lt, shl-shr, shr_le}
use Rattle.std.proofs.Math.Pow.{field, mod-mod-pow}
use Rattle.strings.specs.Bits.{bit_at, range, byte_bits, Eight, write_bits}
use Rattle.strings.proofs.laws.BitLaws.{xor-digit, differ-zero}
use Rattle.strings.proofs.laws.RangeLaws.{range_length, range_at, range-add, range_none}
use Rattle.strings.proofs.laws.WriteLaws.{length-write_bits, write-none, write-outside, write-inside, write-append}
use Rattle.strings.specs.Bits.{Bytes}
use Rattle.strings.proofs.laws.PackLaws.{bytes-by-bits, set-bytes, write_bytes}

-- ---- a byte by its bits
byte-bit : (v j : ℕ) → j < 8 → get_or (byte_bits v) j false ≡ eqb (v / 2 ^ (7 - j) % 2) 1
byte-bit v zero h = refl
byte-bit v (suc zero) h = refl
byte-bit v (suc (suc zero)) h = refl
byte-bit v (suc (suc (suc zero))) h = refl
byte-bit v (suc (suc (suc (suc zero)))) h = refl
byte-bit v (suc (suc (suc (suc (suc zero))))) h = refl
byte-bit v (suc (suc (suc (suc (suc (suc zero)))))) h = refl
byte-bit v (suc (suc (suc (suc (suc (suc (suc zero))))))) h = refl
byte-bit v (suc (suc (suc (suc (suc (suc (suc (suc j)))))))) h = absurd (omega arith)

by_bits : (s : List ℕ) (p v : ℕ) → v < 256 → ((j : ℕ) → j < 8 → eqb (v / 2 ^ (7 - j) % 2) 1 ≡ bit_at s (p + j)) → Eight s p v
by_bits s p v h e = record {
  byte = h;
  bits = ext_get_or false (range s p 8) (byte_bits v) (range_length s p 8) (λ j l. let n = range_length s p 8 in range_at s p 8 j (omega arith) ∙ sym (e j (omega arith)) ∙ sym (byte-bit v j (omega arith)));
}

pub eight-bit : (s : List ℕ) (p v j : ℕ) → Eight s p v → j < 8 → bit_at s (p + j) ≡ eqb (v / 2 ^ (7 - j) % 2) 1
eight-bit s p v j e l = sym (range_at s p 8 j l) ∙ ap (λ (x : List Bool). get_or x j false) e.bits ∙ byte-bit v j l

-- ---- eight bits that are a byte of the string
whole-bit : (s : List ℕ) (p j : ℕ) → p % 8 ≡ 0 → j < 8 → eqb (get_or s (p / 8) 0 / 2 ^ (7 - j) % 2) 1 ≡ bit_at s (p + j)
unfolding bit_at
whole-bit s p j e l =
    let q : (p + j) / 8 ≡ p / 8 = omega arith in
    let r : (p + j) % 8 ≡ j = omega arith in
    rw (q, r) refl

pub eight-whole : (s : List ℕ) (p : ℕ) → Bytes s → p % 8 ≡ 0 → Eight s p (get_or s (p / 8) 0)
eight-whole s p h e = by_bits s p (get_or s (p / 8) 0) (h (p / 8)) (λ j l. whole-bit s p j e l)

-- ---- the digits of a byte shifted to the left and cut, and of one shifted to the right
cut_digit : (x k m : ℕ) → m < 8 → (x * 2 ^ k) % 256 / 2 ^ m % 2 ≡ x * 2 ^ k / 2 ^ m % 2
cut_digit x k m h =
    let e : 8 ≡ (7 - m + 1) + m = omega arith in
    ap (λ (n : ℕ). (x * 2 ^ k) % 2 ^ n / 2 ^ m % 2) e ∙ ap (λ (n : ℕ). n % 2) (field (x * 2 ^ k) (7 - m + 1) m) ∙ mod-mod-pow (x * 2 ^ k / 2 ^ m) (7 - m) 1

left-digit : (x k m : ℕ) → k ≤ m → x * 2 ^ k / 2 ^ m % 2 ≡ x / 2 ^ (m - k) % 2
left-digit x k m h =
    let e : m ≡ k + (m - k) = omega arith in
    ap (λ (n : ℕ). x * 2 ^ k / 2 ^ n % 2) e ∙ ap (λ (n : ℕ). n % 2) (sym (shr-shr (x * 2 ^ k) k (m - k))) ∙ ap (λ (n : ℕ). n / 2 ^ (m - k) % 2) (shl-shr x k)

left-none : (x k m : ℕ) → m < k → x * 2 ^ k / 2 ^ m % 2 ≡ 0
left-none x k m h =
    let e : k ≡ suc (k - m - 1) + m = omega arith in
    ap (λ (n : ℕ). x * 2 ^ n / 2 ^ m % 2) e ∙ ap (λ (n : ℕ). x * n / 2 ^ m % 2) (pow-add 2 (suc (k - m - 1)) m)
    ∙ ap (λ (n : ℕ). n / 2 ^ m % 2) (sym (mul_assoc x (2 ^ suc (k - m - 1)) (2 ^ m))) ∙ ap (λ (n : ℕ). n % 2) (shl-shr (x * 2 ^ suc (k - m - 1)) m)
    ∙ shifted_even x (k - m - 1)

right-none : (y k m : ℕ) → y < 256 → k ≤ m → k ≤ 8 → y / 2 ^ (8 - k) / 2 ^ m % 2 ≡ 0
right-none y k m h l g =
    let e : 8 ≤ 8 - k + m = omega arith in
    ap (λ (n : ℕ). n % 2) (shr-shr y (8 - k) m ∙ div-eq_of_lt (lt_of_lt_of_le h (pow_mono e)))

-- digit m of the last 8 - k digits of x and then the first k of y
joined-high : (x y k m : ℕ) → y < 256 → m < 8 → k ≤ m → bit_xor ((x * 2 ^ k) % 256) (y / 2 ^ (8 - k)) / 2 ^ m % 2 ≡ x / 2 ^ (m - k) % 2
joined-high x y k m h l g =
    xor-digit ((x * 2 ^ k) % 256) (y / 2 ^ (8 - k)) m
    ∙ ap₂ differ (cut_digit x k m l ∙ left-digit x k m g) (right-none y k m h g (omega arith)) ∙ differ-zero (x / 2 ^ (m - k) % 2)

joined-low : (x y k m : ℕ) → k < 8 → m < k → bit_xor ((x * 2 ^ k) % 256) (y / 2 ^ (8 - k)) / 2 ^ m % 2 ≡ y / 2 ^ (8 - k + m) % 2
joined-low x y k m l g =
    xor-digit ((x * 2 ^ k) % 256) (y / 2 ^ (8 - k)) m
    ∙ ap₂ differ (cut_digit x k m (omega arith) ∙ left-none x k m g) (ap (λ (n : ℕ). n % 2) (shr-shr y (8 - k) m))

-- ---- eight bits that lie in two bytes
abbrev pub joined : List ℕ → ℕ → ℕ
joined s p = bit_xor ((get_or s (p / 8) 0 * 2 ^ (p % 8)) % 256) (get_or s (p / 8 + 1) 0 / 2 ^ (8 - p % 8))

joined-bit : (s : List ℕ) (p j : ℕ) → Bytes s → j < 8 → Dec (p % 8 ≤ 7 - j) → eqb (joined s p / 2 ^ (7 - j) % 2) 1 ≡ bit_at s (p + j)
unfolding bit_at
joined-bit s p j h l (yes k) =
    let q : (p + j) / 8 ≡ p / 8 = omega arith in
    let r : 7 - (p + j) % 8 ≡ 7 - j - p % 8 = omega arith in
    rw (q, r) (ap (λ (n : ℕ). eqb n 1) (joined-high (get_or s (p / 8) 0) (get_or s (p / 8 + 1) 0) (p % 8) (7 - j) (h (p / 8 + 1)) (omega arith) k))
joined-bit s p j h l (no k) =
    let q : (p + j) / 8 ≡ p / 8 + 1 = omega arith in
    let r : 7 - (p + j) % 8 ≡ 8 - p % 8 + (7 - j) = omega arith in
    rw (q, r) (ap (λ (n : ℕ). eqb n 1) (joined-low (get_or s (p / 8) 0) (get_or s (p / 8 + 1) 0) (p % 8) (7 - j) (omega arith) (omega arith)))

pub eight-joined : (s : List ℕ) (p : ℕ) → Bytes s → Eight s p (joined s p)
eight-joined s p h =
    let x : (get_or s (p / 8) 0 * 2 ^ (p % 8)) % 256 < 256 = omega arith in
    let y : get_or s (p / 8 + 1) 0 / 2 ^ (8 - p % 8) < 256 = let d = shr_le (get_or s (p / 8 + 1) 0) (8 - p % 8) in let b = h (p / 8 + 1) in omega arith in
    by_bits s p (joined s p) (xor_lt 8 ((get_or s (p / 8) 0 * 2 ^ (p % 8)) % 256) (get_or s (p / 8 + 1) 0 / 2 ^ (8 - p % 8)) x y) (λ j l. joined-bit s p j h l (dec_le (p % 8) (7 - j)))

-- ---- a byte stored is eight bits written at its edge
stored-bit : (t : List ℕ) (j v d : ℕ) → j < length t → d < 8 → bit_at (set t j v) (8 * j + d) ≡ eqb (v / 2 ^ (7 - d) % 2) 1
unfolding bit_at
stored-bit t j v d h l =
    let q : (8 * j + d) / 8 ≡ j = omega arith in
    let r : (8 * j + d) % 8 ≡ d = omega arith in
    rw (q, r, get_or-set_same t j v 0 h) refl

stored_other : (t : List ℕ) (j v i : ℕ) → (i / 8 ≡ j → ⊥) → bit_at (set t j v) i ≡ bit_at t i
unfolding bit_at
stored_other t j v i h = ap (λ (n : ℕ). eqb (n / 2 ^ (7 - i % 8) % 2) 1) (get_or-set_other t j (i / 8) v 0 h)

written-bit : (t : List ℕ) (a : ℕ) (l : List Bool) (d : ℕ) → a + length l ≤ 8 * length t → d < length l → bit_at (write_bits t a l) (a + d) ≡ get_or l d false
written-bit t a l d h k = sym (range_at (write_bits t a l) a (length l) d k) ∙ ap (λ (m : List Bool). get_or m d false) (write-inside t a l h)

pub byte-stored : (s t : List ℕ) (p j v : ℕ) → Bytes t → j < length t → Eight s p v → write_bits t (8 * j) (range s p 8) ≡ set t j v
byte-stored s t p j v h l e =
    bytes-by-bits (write_bits t (8 * j) (range s p 8)) (set t j v) (write_bytes t (8 * j) (range s p 8) h) (set-bytes t j v h e.byte)
    (length-write_bits t (8 * j) (range s p 8) ∙ sym (length-set t j v)) (λ i k. go i (dec_lt i (8 * j)) (dec_lt i (8 * j + 8)))
  where
    n : length (range s p 8) ≡ 8
    n = range_length s p 8

    go : (i : ℕ) → Dec (i < 8 * j) → Dec (i < 8 * j + 8) → bit_at (write_bits t (8 * j) (range s p 8)) i ≡ bit_at (set t j v) i
    go i (yes a) b = write-outside t (8 * j) (range s p 8) i (omega (arith, n)) (inl a) ∙ sym (stored_other t j v i (λ z. omega arith))
    go i (no a) (no b) = write-outside t (8 * j) (range s p 8) i (omega (arith, n)) (inr (omega (arith, n))) ∙ sym (stored_other t j v i (λ z. omega arith))
    go i (no a) (yes b) =
        let d : i ≡ 8 * j + (i - 8 * j) = omega arith in
        let k : i - 8 * j < 8 = omega arith in
        ap (bit_at (write_bits t (8 * j) (range s p 8))) d
        ∙ written-bit t (8 * j) (range s p 8) (i - 8 * j) (omega (arith, n)) (omega (arith, n))
        ∙ range_at s p 8 (i - 8 * j) k ∙ eight-bit s p v (i - 8 * j) e k ∙ sym (stored-bit t j v (i - 8 * j) l k) ∙ ap (bit_at (set t j v)) (sym d)

-- ---- a copy in two parts; in three, of which the second is whole bytes
pub copy_parts : (s t : List ℕ) (a at n m : ℕ) → write_bits (write_bits t at (range s a n)) (at + n) (range s (a + n) m) ≡ write_bits t at (range s a (n + m))
copy_parts s t a at n m =
    ap (λ (k : ℕ). write_bits (write_bits t at (range s a n)) (at + k) (range s (a + n) m)) (sym (range_length s a n))
    ∙ sym (write-append t at (range s a n) (range s (a + n) m)) ∙ ap (write_bits t at) (sym (range-add s a n m))

pub copy-three : (s t t₁ t₂ t₃ : List ℕ) (a at len h n : ℕ) → (at + h) % 8 ≡ 0 → h + 8 * n ≤ len → t₁ ≡ write_bits t at (range s a h)
    → t₂ ≡ write_bits t₁ (8 * ((at + h) / 8)) (range s (a + h) (8 * n)) → t₃ ≡ write_bits t₂ (at + (h + 8 * n)) (range s (a + (h + 8 * n)) (len - (h + 8 * n)))
    → t₃ ≡ write_bits t at (range s a len)
copy-three s t t₁ t₂ t₃ a at len h n e l f g k =
    let p : 8 * ((at + h) / 8) ≡ at + h = omega arith in
    let q : h + 8 * n + (len - (h + 8 * n)) ≡ len = omega arith in
    k
    ∙ ap (λ (x : List ℕ). write_bits x (at + (h + 8 * n)) (range s (a + (h + 8 * n)) (len - (h + 8 * n))))
    (g ∙ ap₂ (λ (x : List ℕ) (y : ℕ). write_bits x y (range s (a + h) (8 * n))) f p ∙ copy_parts s t a at h (8 * n))
    ∙ copy_parts s t a at (h + 8 * n) (len - (h + 8 * n)) ∙ ap (λ (x : ℕ). write_bits t at (range s a x)) q

-- a loop that stores the n bytes from index at on: its start, a turn and its end
pub bytes-first : (s t : List ℕ) (a n at : ℕ) → write_bits t (8 * (at + 0)) (range s (a + 8 * 0) (8 * (n - 0))) ≡ write_bits t (8 * at) (range s a (8 * n))
bytes-first s t a n at =
    let p : 8 * (at + 0) ≡ 8 * at = omega arith in
    let q : a + 8 * 0 ≡ a = omega arith in
    let k : 8 * (n - 0) ≡ 8 * n = omega arith in
    rw (p, q, k) refl

pub bytes-last : (s t u : List ℕ) (a n at i : ℕ) → n ≤ i → write_bits t (8 * (at + i)) (range s (a + 8 * i) (8 * (n - i))) ≡ u → t ≡ u
bytes-last s t u a n at i h g =
    let k : 8 * (n - i) ≡ 0 = omega arith in
    sym (ap (λ (x : ℕ). write_bits t (8 * (at + i)) (range s (a + 8 * i) x)) k ∙ ap (write_bits t (8 * (at + i))) (range_none s (a + 8 * i)) ∙ write-none t (8 * (at + i))) ∙ g

pub bytes_next : (s t u : List ℕ) (a n at i v : ℕ) → i < n → at + n ≤ length t → Bytes t → Eight s (a + 8 * i) v
    → write_bits t (8 * (at + i)) (range s (a + 8 * i) (8 * (n - i))) ≡ u
    → write_bits (set t (at + i) v) (8 * (at + (i + 1))) (range s (a + 8 * (i + 1)) (8 * (n - (i + 1)))) ≡ u
bytes_next s t u a n at i v h l b e g =
    let p : 8 * (at + (i + 1)) ≡ 8 * (at + i) + 8 = omega arith in
    let q : a + 8 * (i + 1) ≡ a + 8 * i + 8 = omega arith in
    let k : 8 + 8 * (n - (i + 1)) ≡ 8 * (n - i) = omega arith in
    ap₂ (λ (x y : ℕ). write_bits (set t (at + i) v) x (range s y (8 * (n - (i + 1))))) p q
    ∙ ap (λ (x : List ℕ). write_bits x (8 * (at + i) + 8) (range s (a + 8 * i + 8) (8 * (n - (i + 1))))) (sym (byte-stored s t (a + 8 * i) (at + i) v b (omega arith) e))
    ∙ copy_parts s t (a + 8 * i) (8 * (at + i)) 8 (8 * (n - (i + 1)))
    ∙ ap (λ (x : ℕ). write_bits t (8 * (at + i)) (range s (a + 8 * i) x)) k ∙ g

-- ---- a function that reads n bytes of bits from bit a on: its start, a turn and its end; and the bits that n bits leave behind their bytes
pub eight-first : (s : List ℕ) (a n : ℕ) → range s (a + 8 * 0) (8 * (n - 0)) ≡ range s a (8 * n)
eight-first s a n = ap₂ (range s) (omega arith) (omega arith)

pub eight-next : (s : List ℕ) (a n i v : ℕ) → i < n → Eight s (a + 8 * i) v → range s (a + 8 * i) (8 * (n - i)) ≡ byte_bits v ++ range s (a + 8 * (i + 1)) (8 * (n - (i + 1)))
eight-next s a n i v h e =
    let k : 8 * (n - i) ≡ 8 + 8 * (n - (i + 1)) = omega arith in
    let q : a + 8 * i + 8 ≡ a + 8 * (i + 1) = omega arith in
    ap (range s (a + 8 * i)) k ∙ range-add s (a + 8 * i) 8 (8 * (n - (i + 1)))
    ∙ ap₂ (λ (x : List Bool) (y : ℕ). x ++ range s y (8 * (n - (i + 1)))) e.bits q

pub eight-last : (s : List ℕ) (a n i : ℕ) → n ≤ i → range s (a + 8 * i) (8 * (n - i)) ≡ []
eight-last s a n i h = let k : 8 * (n - i) ≡ 0 = omega arith in ap (range s (a + 8 * i)) k ∙ range_none s (a + 8 * i)

pub eight-rest : (s : List ℕ) (a n : ℕ) → range s a (8 * (n / 8)) ++ range s (a + 8 * (n / 8)) (n - 8 * (n / 8)) ≡ range s a n
eight-rest s a n = sym (range-add s a (8 * (n / 8)) (n - 8 * (n / 8))) ∙ ap (range s a) (omega arith)
