-- Laws of single bits: what turning a bit over and setting it do to each bit.
use Rattle.std.specs.Prelude.{◌≡◌, refl, Bool, true, false, not, cond, ◌≢◌, List, [], ◌∷◌, ◌++◌, ℕ, zero, suc, ◌+◌, ◌-◌, ◌*◌, ◌/◌, ◌%◌, ◌^◌, ◌≤◌, ◌<◌, length, get_or, set, eqb}
use Rattle.std.proofs.Common.{ap, ◌∙◌, zero-mul, one-mul, mod-eq_of_lt, mod-lt, pow-suc, arith, length-set, get_or-set_same, get_or-set_other, get_or-append-add, pow_pos, pow-add}
use Rattle.std.specs.Bool.{beq}
use Rattle.std.proofs.Math.Nat.{zero-div, div_self, div-eq_of_lt, mul-mod_left, mul-add-mod_self_right}
use Rattle.std.proofs.Math.Decide.{ℕ_discrete, dec_lt}
use Rattle.std.proofs.Math.ListN.{get_or-eq_default, get_or-append}
use Rattle.std.proofs.lemmas.List.{set-get_or, set-append_left}
use Rattle.std.specs.Int.Bits.{bit_xor, differ, xor_step, xor_zero_r}
use Rattle.std.proofs.lemmas.Nat.{xor_shr, shl-shr}
use Rattle.std.proofs.Math.Pow.{pow-lt}
use mir.Val.{bool_byte}
use Rattle.strings.specs.Bits.{bit_at, flipped, set_bit, differs}

-- the machine's shift of 1 by a place of a byte
pub one_shl : (k : ℕ) → k < 8 → (1 * 2 ^ k) % 256 ≡ 2 ^ k
one_shl k h = rw (one-mul) (mod-eq_of_lt (pow-lt {j = 8} h))

-- ---- the digits of a power of two, and of an exclusive or
pow-same : (k : ℕ) → 2 ^ k / 2 ^ k % 2 ≡ 1
pow-same k = rw (div_self (pow_pos k)) refl

pow_below : (k m : ℕ) → k < m → 2 ^ k / 2 ^ m % 2 ≡ 0
pow_below k m h = rw (div-eq_of_lt (pow-lt h)) refl

pow-above : (d m : ℕ) → 2 ^ (suc d + m) / 2 ^ m % 2 ≡ 0
pow-above d m = rw (pow-add, shl-shr, pow-suc) (mul-mod_left (2 ^ d) 2)

pow-other : (k m : ℕ) → k ≢ m → 2 ^ k / 2 ^ m % 2 ≡ 0
pow-other k m h = go (dec_lt k m)
  where
    go : Dec (k < m) → 2 ^ k / 2 ^ m % 2 ≡ 0
    go (yes l) = pow_below k m l
    go (no l) =
        let e : k ≡ suc (k - m - 1) + m = omega arith in
        ap (λ (n : ℕ). 2 ^ n / 2 ^ m % 2) e ∙ pow-above (k - m - 1) m

differ-lt : (a b : ℕ) → a < 2 → b < 2 → differ a b < 2
differ-lt zero b ha hb = hb
differ-lt (suc a) zero ha hb = ha
differ-lt (suc zero) (suc zero) ha hb = omega arith
differ-lt (suc zero) (suc (suc b)) ha hb = omega arith
differ-lt (suc (suc a)) (suc b) ha hb = omega arith

pub xor-odd : (a b : ℕ) → bit_xor a b % 2 ≡ differ (a % 2) (b % 2)
xor-odd a b =
    ap (λ (n : ℕ). n % 2) (xor_step a b)
    ∙ mul-add-mod_self_right (bit_xor (a / 2) (b / 2)) 2 (differ (a % 2) (b % 2))
    ∙ mod-eq_of_lt (differ-lt (a % 2) (b % 2) (omega arith) (omega arith))

pub xor-digit : (x y m : ℕ) → bit_xor x y / 2 ^ m % 2 ≡ differ (x / 2 ^ m % 2) (y / 2 ^ m % 2)
xor-digit x y m = ap (λ (n : ℕ). n % 2) (xor_shr x y m) ∙ xor-odd (x / 2 ^ m) (y / 2 ^ m)

pub differ-zero : (a : ℕ) → differ a 0 ≡ a
differ-zero zero = refl
differ-zero (suc a) = refl

differ-one : (a : ℕ) → a < 2 → eqb (differ a 1) 1 ≡ not (eqb a 1)
differ-one zero h = refl
differ-one (suc zero) h = refl
differ-one (suc (suc a)) h = absurd (omega arith)

-- ---- a bit turned over
flipped-same : (s : List ℕ) (i : ℕ) → i < 8 * length s → bit_at (flipped s i) i ≡ not (bit_at s i)
unfolding bit_at flipped
flipped-same s i h =
    let l : i / 8 < length s = omega arith in
    rw (get_or-set_same, xor-digit, pow-same) (differ-one (get_or s (i / 8) 0 / 2 ^ (7 - i % 8) % 2) (mod-lt (get_or s (i / 8) 0 / 2 ^ (7 - i % 8)) (omega arith)))

flipped-other : (s : List ℕ) (i j : ℕ) → i < 8 * length s → j ≢ i → bit_at (flipped s i) j ≡ bit_at s j
unfolding bit_at flipped
flipped-other s i j h ne = go (ℕ_discrete (j / 8) (i / 8))
  where
    go : Dec (j / 8 ≡ i / 8) → eqb (get_or (set s (i / 8) (bit_xor (get_or s (i / 8) 0) (2 ^ (7 - i % 8)))) (j / 8) 0 / 2 ^ (7 - j % 8) % 2) 1
        ≡ eqb (get_or s (j / 8) 0 / 2 ^ (7 - j % 8) % 2) 1
    go (yes e) =
        let l : i / 8 < length s = omega arith in
        let n : 7 - i % 8 ≢ 7 - j % 8 = omega arith in
        rw (e, get_or-set_same, xor-digit, pow-other, differ-zero)
    go (no d) = rw (get_or-set_other)

-- ---- a bit that is set
pub set_bit-same : (s : List ℕ) (i : ℕ) (b : Bool) → i < 8 * length s → bit_at (set_bit s i b) i ≡ b
unfolding set_bit
set_bit-same s i b h = go (bit_at s i) b refl
  where
    go : (x b : Bool) → bit_at s i ≡ x → bit_at (cond (differs x b) (flipped s i) s) i ≡ b
    go true true e = e
    go false false e = e
    go true false e = flipped-same s i h ∙ ap not e
    go false true e = flipped-same s i h ∙ ap not e

pub set_bit-other : (s : List ℕ) (i j : ℕ) (b : Bool) → i < 8 * length s → j ≢ i → bit_at (set_bit s i b) j ≡ bit_at s j
unfolding set_bit
set_bit-other s i j b h n = go (differs (bit_at s i) b)
  where
    go : (x : Bool) → bit_at (cond x (flipped s i) s) j ≡ bit_at s j
    go true = flipped-other s i j h n
    go false = refl

pub length-set_bit : (s : List ℕ) (i : ℕ) (b : Bool) → length (set_bit s i b) ≡ length s
unfolding set_bit flipped
length-set_bit s i b = go (differs (bit_at s i) b)
  where
    go : (x : Bool) → length (cond x (set s (i / 8) (bit_xor (get_or s (i / 8) 0) (2 ^ (7 - i % 8)))) s) ≡ length s
    go true = length-set s (i / 8) (bit_xor (get_or s (i / 8) 0) (2 ^ (7 - i % 8)))
    go false = refl

-- what a program shows that sets a bit by an exclusive or of its byte: with the bit's power of two where it differs, with 0 where it does not
pub set-turned : (s : List ℕ) (i : ℕ) (x b : Bool) → x ≡ bit_at s i
    → set s (i / 8) (bit_xor (get_or s (i / 8) 0) ((bool_byte (not (beq x b)) * 2 ^ (7 - i % 8)) % 256)) ≡ set_bit s i b
unfolding set_bit flipped
set-turned s i x b e = rw (← e) (go x b)
  where
    turns : set s (i / 8) (bit_xor (get_or s (i / 8) 0) ((1 * 2 ^ (7 - i % 8)) % 256)) ≡ set s (i / 8) (bit_xor (get_or s (i / 8) 0) (2 ^ (7 - i % 8)))
    turns = ap (λ (n : ℕ). set s (i / 8) (bit_xor (get_or s (i / 8) 0) n)) (one_shl (7 - i % 8) (omega arith))

    keeps : set s (i / 8) (bit_xor (get_or s (i / 8) 0) ((0 * 2 ^ (7 - i % 8)) % 256)) ≡ s
    keeps =
        ap (λ (n : ℕ). set s (i / 8) (bit_xor (get_or s (i / 8) 0) (n % 256))) (zero-mul (2 ^ (7 - i % 8)))
        ∙ ap (set s (i / 8)) (xor_zero_r (get_or s (i / 8) 0)) ∙ set-get_or s (i / 8) 0

    go : (x b : Bool) → set s (i / 8) (bit_xor (get_or s (i / 8) 0) ((bool_byte (not (beq x b)) * 2 ^ (7 - i % 8)) % 256))
        ≡ cond (differs x b) (set s (i / 8) (bit_xor (get_or s (i / 8) 0) (2 ^ (7 - i % 8)))) s
    go true true = keeps
    go true false = turns
    go false true = turns
    go false false = keeps

-- ---- past the end, and in front of and behind other bytes
pub bit_past : (s : List ℕ) (i : ℕ) → 8 * length s ≤ i → bit_at s i ≡ false
unfolding bit_at
bit_past s i h =
    let l : length s ≤ i / 8 = omega arith in
    rw (get_or-eq_default s 0 l, zero-div) refl

pub bit-front : (s t : List ℕ) (i : ℕ) → i < 8 * length s → bit_at (s ++ t) i ≡ bit_at s i
unfolding bit_at
bit-front s t i h = ap (λ (x : ℕ). eqb (x / 2 ^ (7 - i % 8) % 2) 1) (get_or-append s t 0 (i / 8) (omega arith))

pub bit-behind : (s t : List ℕ) (i : ℕ) → bit_at (s ++ t) (8 * length s + i) ≡ bit_at t i
unfolding bit_at
bit-behind s t i =
    let q : (8 * length s + i) / 8 ≡ length s + i / 8 = omega arith in
    let r : (8 * length s + i) % 8 ≡ i % 8 = omega arith in
    rw (q, r, get_or-append-add s t (i / 8) 0) refl

flipped-front : (s t : List ℕ) (i : ℕ) → i < 8 * length s → flipped (s ++ t) i ≡ flipped s i ++ t
unfolding flipped
flipped-front s t i h =
    let l : i / 8 < length s = omega arith in
    rw (get_or-append s t 0 (i / 8) l) (set-append_left s t (i / 8) (bit_xor (get_or s (i / 8) 0) (2 ^ (7 - i % 8))) l)

pub set_bit-front : (s t : List ℕ) (i : ℕ) (b : Bool) → i < 8 * length s → set_bit (s ++ t) i b ≡ set_bit s i b ++ t
unfolding set_bit
set_bit-front s t i b h = rw (bit-front s t i h) (go (differs (bit_at s i) b))
  where
    go : (x : Bool) → cond x (flipped (s ++ t) i) (s ++ t) ≡ cond x (flipped s i) s ++ t
    go true = flipped-front s t i h
    go false = refl

set-behind : (s t : List ℕ) (j v : ℕ) → set (s ++ t) (length s + j) v ≡ s ++ set t j v
set-behind [] t j v = ap (λ (n : ℕ). set t n v) (omega arith)
set-behind (x ∷ s) t j v =
    let e : suc (length s) + j ≡ suc (length s + j) = omega arith in
    rw e (ap (λ (l : List ℕ). x ∷ l) (set-behind s t j v))

flipped-behind : (s t : List ℕ) (i : ℕ) → flipped (s ++ t) (8 * length s + i) ≡ s ++ flipped t i
unfolding flipped
flipped-behind s t i =
    let q : (8 * length s + i) / 8 ≡ length s + i / 8 = omega arith in
    let r : (8 * length s + i) % 8 ≡ i % 8 = omega arith in
    rw (q, r, get_or-append-add s t (i / 8) 0) (set-behind s t (i / 8) (bit_xor (get_or t (i / 8) 0) (2 ^ (7 - i % 8))))

pub set_bit-behind : (s t : List ℕ) (i : ℕ) (b : Bool) → set_bit (s ++ t) (8 * length s + i) b ≡ s ++ set_bit t i b
unfolding set_bit
set_bit-behind s t i b = rw (bit-behind s t i) (go (differs (bit_at t i) b))
  where
    go : (x : Bool) → cond x (flipped (s ++ t) (8 * length s + i)) (s ++ t) ≡ s ++ cond x (flipped t i) t
    go true = flipped-behind s t i
    go false = refl
