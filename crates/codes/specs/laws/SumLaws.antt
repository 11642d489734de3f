-- Laws of sums that are kept below a modulus m by compare and subtract.
use Rattle.std.specs.Prelude.{◌≡◌, refl, Bool, true, false, cond, List, [], ◌∷◌, ◌++◌, ℕ, zero, suc, ◌+◌, ◌-◌, ◌*◌, ◌/◌, ◌%◌, ◌^◌, ◌≤◌, ◌<◌, length, get_or, set, take, replicate, eqb}
use Rattle.std.proofs.Common.{sym, ap, ap₂, ◌∙◌, subst, mod-eq_of_lt, add-zero, mul-one, mul-zero, add-one, arith, length-set, get_or-set_same, get_or-set_other, eq-eqb, ne_eqb, eqb-true}
use Rattle.std.proofs.Math.Nat.{mod-add-mod, add-mod-mod, add-mod_right}
use Rattle.std.proofs.Math.Decide.{ℕ_discrete}
use Rattle.std.proofs.lemmas.List.{get_or-replicate}
use Rattle.std.specs.Int.Count.{ones as count_ones}
use mir.Val.{bool_byte}
use Rattle.strings.specs.Bits.{bit_at, range, byte_bits, Eight}
use Rattle.strings.specs.laws.Tests.{true-false}
use Rattle.strings.proofs.laws.RangeLaws.{range_length, range-step, range_none, range-add}
use Rattle.strings.proofs.laws.ByteLaws.{eight-bit}
use Rattle.codes.specs.Syndrome.{weighted_sum, syndrome}
use Rattle.codes.specs.laws.SyndromeLaws.{weighted-sum-append, ones-append, ones-zeros, syndrome-is}
use Rattle.codes.specs.code.Place.{ones}
use Rattle.codes.specs.code.Sums.{Residue, EachLess, total, lane_sum, Lanes}
use Rattle.std.specs.Int.Bits.{bit_and}

-- ---- one sum
pub residue-less : (m x : ℕ) → x < m → Residue m x x
residue-less m x h = record { below = h; is = sym (mod-eq_of_lt h) }

-- m taken away once
pub residue-once : (m x r : ℕ) → x ≡ r + m → r < m → Residue m x r
residue-once m x r e h = record { below = h; is = sym (ap (λ (z : ℕ). z % m) e ∙ add-mod_right r m ∙ mod-eq_of_lt h) }

-- a summand more
pub residue-on : (m x y r r' : ℕ) → Residue m x r → Residue m (r + y) r' → Residue m (x + y) r'
residue-on m x y r r' p q = record { below = q.below; is = q.is ∙ ap (λ (z : ℕ). (z + y) % m) p.is ∙ mod-add-mod x m y }

pub residue-as : (m x y r : ℕ) → x ≡ y → Residue m x r → Residue m y r
residue-as m x y r e p = record { below = p.below; is = p.is ∙ ap (λ (z : ℕ). z % m) e }

-- ---- the weight of a bit
pub weight_is : (k : ℕ) (b : Bool) → k * bool_byte b ≡ weighted_sum k (b ∷ [])
weight_is k true = omega (arith, mul-one k)
weight_is k false = mul-zero k

pub weight-most : (k : ℕ) (b : Bool) → weighted_sum k (b ∷ []) ≤ k
weight-most k true = omega arith
weight-most k false = omega arith

range_last : (s : List ℕ) (a n : ℕ) → range s a (n + 1) ≡ range s a n ++ (bit_at s (a + n) ∷ [])
range_last s a n = range-add s a n 1 ∙ ap (λ (l : List Bool). range s a n ++ l) (range-step s (a + n) 1 (omega arith) ∙ ap (λ (l : List Bool). bit_at s (a + n) ∷ l) (range_none s (a + n + 1)))

-- one bit more of a range
pub weighted-sum-next : (s : List ℕ) (a n : ℕ) (b : Bool) → b ≡ bit_at s (a + n) → weighted_sum 1 (range s a n) + weighted_sum (n + 1) (b ∷ []) ≡ weighted_sum 1 (range s a (n + 1))
weighted-sum-next s a n b e =
    let j : n + 1 ≡ 1 + length (range s a n) = omega (arith, range_length s a n) in
    sym (ap (weighted_sum 1) (range_last s a n) ∙ weighted-sum-append 1 (range s a n) (bit_at s (a + n) ∷ [])
    ∙ ap₂ (λ (k : ℕ) (c : Bool). weighted_sum 1 (range s a n) + weighted_sum k (c ∷ [])) (sym j) (sym e))

pub residue-next : (m : ℕ) (s : List ℕ) (a n : ℕ) (b : Bool) (r r' : ℕ) → b ≡ bit_at s (a + n) → Residue m (weighted_sum 1 (range s a n)) r → Residue m (r + weighted_sum (n + 1) (b ∷ [])) r'
    → Residue m (weighted_sum 1 (range s a (n + 1))) r'
residue-next m s a n b r r' e p q = residue-as m _ _ r' (weighted-sum-next s a n b e) (residue-on m (weighted_sum 1 (range s a n)) (weighted_sum (n + 1) (b ∷ [])) r r' p q)

-- ---- the sum of all sums
pub total-next : (ts : List ℕ) (k : ℕ) → k < length ts → total (take k ts) + get_or ts k 0 ≡ total (take (k + 1) ts)
total-next ts k h = go ts k h ∙ ap (λ (n : ℕ). total (take n ts)) (sym (add-one k))
  where
    go : (ts : List ℕ) (k : ℕ) → k < length ts → total (take k ts) + get_or ts k 0 ≡ total (take (suc k) ts)
    go [] k h = absurd (omega arith)
    go (t ∷ ts) zero h = omega arith
    go (t ∷ ts) (suc k) h = let e = go ts k (omega arith) in omega arith

pub total-all : (ts : List ℕ) (k : ℕ) → length ts ≤ k → total (take k ts) ≡ total ts
total-all [] zero h = refl
total-all [] (suc k) h = refl
total-all (t ∷ ts) zero h = absurd (omega arith)
total-all (t ∷ ts) (suc k) h = ap (λ (n : ℕ). t + n) (total-all ts k (omega arith))

-- ---- the eight sums
lane-none : (s : List ℕ) (a k : ℕ) → lane_sum s a k 0 ≡ 0
unfolding lane_sum
lane-none s a k = refl

-- a bit more is a summand of its own sum, and of no other
lane-own : (s : List ℕ) (a k n : ℕ) → n % 8 ≡ k → lane_sum s a k (n + 1) ≡ lane_sum s a k n + weighted_sum (n + 1) (bit_at s (a + n) ∷ [])
unfolding lane_sum
lane-own s a k n e = ap (lane_sum s a k) (add-one n) ∙ ap (λ (t : Bool). lane_sum s a k n + cond t (weighted_sum (n + 1) (bit_at s (a + n) ∷ [])) 0) (eq-eqb (n % 8) k e)

lane-other : (s : List ℕ) (a k n : ℕ) → (n % 8 ≡ k → ⊥) → lane_sum s a k (n + 1) ≡ lane_sum s a k n
unfolding lane_sum
lane-other s a k n e =
    ap (lane_sum s a k) (add-one n) ∙ ap (λ (t : Bool). lane_sum s a k n + cond t (weighted_sum (n + 1) (bit_at s (a + n) ∷ [])) 0) (ne_eqb (n % 8) k e) ∙ add-zero (lane_sum s a k n)

residue-are : (m x y r r' : ℕ) → x ≡ y → r ≡ r' → Residue m x r → Residue m y r'
residue-are m x y r r' e f p = subst (λ (z : ℕ). Residue m y z) f (residue-as m x y r e p)

pub lanes-none : (m : ℕ) (s : List ℕ) (a : ℕ) → 0 < m → Lanes m s a 0 (replicate 8 0)
lanes-none m s a h = record { eight = refl; each = λ k g. residue-are m 0 _ 0 _ (sym (lane-none s a k)) (sym (get_or-replicate 8 k 0 0 g)) (residue-less m 0 h) }

-- one bit more, in its sum
pub lanes_next : (m : ℕ) (s : List ℕ) (a n : ℕ) (ts : List ℕ) (k : ℕ) (b : Bool) (r : ℕ) → k < 8 → n % 8 ≡ k → b ≡ bit_at s (a + n) → Lanes m s a n ts
    → Residue m (get_or ts k 0 + weighted_sum (n + 1) (b ∷ [])) r → Lanes m s a (n + 1) (set ts k r)
lanes_next m s a n ts k b r h i e p q = record { eight = length-set ts k r ∙ p.eight; each = λ j g. go j g (ℕ_discrete j k) }
  where
    own : Residue m (lane_sum s a k (n + 1)) r
    own =
        residue-as m _ _ r (ap (λ (c : Bool). lane_sum s a k n + weighted_sum (n + 1) (c ∷ [])) e ∙ sym (lane-own s a k n i))
        (residue-on m (lane_sum s a k n) (weighted_sum (n + 1) (b ∷ [])) (get_or ts k 0) r (p.each k h) q)

    go : (j : ℕ) → j < 8 → Dec (j ≡ k) → Residue m (lane_sum s a j (n + 1)) (get_or (set ts k r) j 0)
    go j g (yes f) =
        let l = p.eight in
        residue-are m _ _ r _ (ap (λ (x : ℕ). lane_sum s a x (n + 1)) (sym f)) (sym (ap (λ (x : ℕ). get_or (set ts k r) x 0) f ∙ get_or-set_same ts k r 0 (omega arith))) own
    go j g (no f) = residue-are m _ _ _ _ (sym (lane-other s a j n (λ z. f (sym z ∙ i)))) (sym (get_or-set_other ts k j r 0 f)) (p.each j g)

pub lanes-as : (m : ℕ) (s : List ℕ) (a n n' : ℕ) (ts : List ℕ) → n ≡ n' → Lanes m s a n ts → Lanes m s a n' ts
lanes-as m s a n n' ts e p = subst (λ (x : ℕ). Lanes m s a x ts) e p

pub lanes-less : (m : ℕ) (s : List ℕ) (a n : ℕ) (ts : List ℕ) → Lanes m s a n ts → EachLess m ts
lanes-less m s a n ts p k h = let l = p.eight in (p.each k (omega arith)).below

-- the first j sums together
abbrev lanes_sum : List ℕ → ℕ → ℕ → ℕ → ℕ
lanes_sum s a n zero = 0
lanes_sum s a n (suc j) = lanes_sum s a n j + lane_sum s a j n

lanes-sum-none : (s : List ℕ) (a j : ℕ) → lanes_sum s a 0 j ≡ 0
lanes-sum-none s a zero = refl
lanes-sum-none s a (suc j) = let e = lanes-sum-none s a j in let f = lane-none s a j in omega arith

lanes-sum-other : (s : List ℕ) (a n j : ℕ) → j ≤ n % 8 → lanes_sum s a (n + 1) j ≡ lanes_sum s a n j
lanes-sum-other s a n zero h = refl
lanes-sum-other s a n (suc j) h = ap₂ (λ (x y : ℕ). x + y) (lanes-sum-other s a n j (omega arith)) (lane-other s a j n (λ z. omega arith))

lanes-sum-own : (s : List ℕ) (a n j : ℕ) → n % 8 < j → lanes_sum s a (n + 1) j ≡ lanes_sum s a n j + weighted_sum (n + 1) (bit_at s (a + n) ∷ [])
lanes-sum-own s a n zero h = absurd (omega arith)
lanes-sum-own s a n (suc j) h = go (ℕ_discrete (n % 8) j) (λ k. lanes-sum-own s a n j k)
  where
    go : Dec (n % 8 ≡ j) → (n % 8 < j → lanes_sum s a (n + 1) j ≡ lanes_sum s a n j + weighted_sum (n + 1) (bit_at s (a + n) ∷ []))
        → lanes_sum s a (n + 1) j + lane_sum s a j (n + 1) ≡ lanes_sum s a n j + lane_sum s a j n + weighted_sum (n + 1) (bit_at s (a + n) ∷ [])
    go (yes e) f = let x = lanes-sum-other s a n j (omega arith) in let y = lane-own s a j n e in omega arith
    go (no e) f = let x = f (omega arith) in let y = lane-other s a j n e in omega arith

lanes-sum-all : (s : List ℕ) (a n : ℕ) → lanes_sum s a n 8 ≡ weighted_sum 1 (range s a n)
lanes-sum-all s a zero = lanes-sum-none s a 8 ∙ sym (ap (weighted_sum 1) (range_none s a))
lanes-sum-all s a (suc n) =
    subst (λ (x : ℕ). lanes_sum s a x 8 ≡ weighted_sum 1 (range s a x)) (add-one n)
    (lanes-sum-own s a n 8 (omega arith) ∙ ap (λ (x : ℕ). x + weighted_sum (n + 1) (bit_at s (a + n) ∷ [])) (lanes-sum-all s a n) ∙ weighted-sum-next s a n (bit_at s (a + n)) refl)

total-lanes : (m : ℕ) (s : List ℕ) (a n : ℕ) (ts : List ℕ) → Lanes m s a n ts → (j : ℕ) → j ≤ 8 → total (take j ts) % m ≡ lanes_sum s a n j % m
total-lanes m s a n ts p zero h = refl
total-lanes m s a n ts p (suc j) h =
    let l = p.eight in
    let t = get_or ts j 0 in
    ap (λ (k : ℕ). total (take k ts) % m) (sym (add-one j)) ∙ ap (λ (x : ℕ). x % m) (sym (total-next ts j (omega arith)))
    ∙ sym (mod-add-mod (total (take j ts)) m t) ∙ ap (λ (x : ℕ). (x + t) % m) (total-lanes m s a n ts p j (omega arith)) ∙ mod-add-mod (lanes_sum s a n j) m t
    ∙ ap (λ (x : ℕ). (lanes_sum s a n j + x) % m) (p.each j (omega arith)).is ∙ add-mod-mod (lanes_sum s a n j) (lane_sum s a j n) m

-- joined they are the sum of all bits
pub lanes-joined : (m : ℕ) (s : List ℕ) (a n : ℕ) (ts : List ℕ) (r : ℕ) → Lanes m s a n ts → Residue m (total ts) r → Residue m (weighted_sum 1 (range s a n)) r
lanes-joined m s a n ts r p q =
    let l = p.eight in
    record { below = q.below; is = q.is ∙ ap (λ (x : ℕ). x % m) (sym (total-all ts 8 (omega arith))) ∙ total-lanes m s a n ts p 8 (omega arith) ∙ ap (λ (x : ℕ). x % m) (lanes-sum-all s a n) }

-- ---- the syndrome
pub syndrome-residue : (l : List Bool) (n m r : ℕ) → length l ≡ n → m ≡ n + 1 → Residue m (weighted_sum 1 l) r → r ≡ syndrome l
syndrome-residue l n m r e f p = p.is ∙ ap (λ (k : ℕ). weighted_sum 1 l % k) f ∙ syndrome-is l n (weighted_sum 1 l) e refl

-- ---- the count
pub ones-cons : (b : Bool) (l : List Bool) → ones (b ∷ l) ≡ bool_byte b + ones l
ones-cons true l = omega arith
ones-cons false l = omega arith

pub ones-last : (s : List ℕ) (a n : ℕ) (b : Bool) → b ≡ bit_at s (a + n) → ones (range s a n) + bool_byte b ≡ ones (range s a (n + 1))
ones-last s a n b e =
    sym (ap ones (range_last s a n) ∙ ones-append (range s a n) (bit_at s (a + n) ∷ []) ∙ ap (λ (z : ℕ). ones (range s a n) + z) (ones-cons (bit_at s (a + n)) [] ∙ omega arith ∙ ap bool_byte (sym e)))

pub ones-eight : (s : List ℕ) (a i v : ℕ) → Eight s (a + 8 * i) v → ones (range s a (8 * i)) + ones (byte_bits v) ≡ ones (range s a (8 * (i + 1)))
ones-eight s a i v e =
    let j : 8 * (i + 1) ≡ 8 * i + 8 = omega arith in
    sym (ap (λ (n : ℕ). ones (range s a n)) j ∙ ap ones (range-add s a (8 * i) 8) ∙ ones-append (range s a (8 * i)) (range s (a + 8 * i) 8) ∙ ap (λ (l : List Bool). ones (range s a (8 * i)) + ones l) e.bits)

-- the ones of a byte, added: of each two of its bits, of each four, of all; true of all 256 bytes by a test of each
abbrev twos_of : ℕ → ℕ
twos_of v = v - bit_and (v / 2) 85

abbrev fours_of : ℕ → ℕ
fours_of v = bit_and (twos_of v) 51 + bit_and (twos_of v / 4) 51

abbrev added : ℕ → ℕ
added v = bit_and (fours_of v + fours_of v / 16) 15

abbrev every : (ℕ → Bool) → ℕ → Bool
every test zero = true
every test (suc n) = cond (test n) (every test n) false

every-at : (test : ℕ → Bool) (n : ℕ) → every test n ≡ true → (v : ℕ) → v < n → test v ≡ true
every-at test zero e v h = absurd (omega arith)
every-at test (suc n) e v h = go (test n) refl e (ℕ_discrete v n) (every-at test n)
  where
    go : (t : Bool) → test n ≡ t → cond t (every test n) false ≡ true → Dec (v ≡ n) → (every test n ≡ true → (v : ℕ) → v < n → test v ≡ true) → test v ≡ true
    go true f e (yes q) ih = ap test q ∙ f
    go true f e (no q) ih = ih e v (omega arith)
    go false f e d ih = absurd (true-false (sym e))

pub ones-added : (v : ℕ) → v < 256 → added v ≡ ones (byte_bits v)
ones-added v h = eqb-true (added v) (ones (byte_bits v)) (every-at (λ (x : ℕ). eqb (added x) (ones (byte_bits x))) 256 refl v h)

pub ones-counted : (v : ℕ) → v < 256 → count_ones v ≡ ones (byte_bits v)
unfolding count_ones
ones-counted v h = eqb-true (count_ones v) (ones (byte_bits v)) (every-at (λ (x : ℕ). eqb (count_ones x) (ones (byte_bits x))) 256 refl v h)

pub ones-few : (s : List ℕ) (a n : ℕ) → ones (range s a n) ≤ n
ones-few s a n = let e = ones-zeros (range s a n) in let l = range_length s a n in omega arith

-- bit k of the byte i of a range
pub byte-bit-is : (s : List ℕ) (a i v k : ℕ) → Eight s (a + 8 * i) v → k < 8 → eqb (v / 2 ^ (7 - k) % 2) 1 ≡ bit_at s (a + (8 * i + k))
byte-bit-is s a i v k e h = let j : a + 8 * i + k ≡ a + (8 * i + k) = omega arith in sym (eight-bit s (a + 8 * i) v k e h) ∙ ap (bit_at s) j
