-- Laws of the marker words: length, syndrome, digits and message; which strings the builder makes; the reader.
use Rattle.std.specs.Prelude.{◌≡◌, Bool, ℕ, zero, suc, ◌+◌, ◌-◌, ◌*◌, ◌/◌, ◌%◌, ◌^◌, ◌≤◌, ◌<◌, get_or, drop, eqb}
use Rattle.std.proofs.Math.Path.{refl, ap, ap₂, subst}
use Rattle.std.proofs.Common.{sym, ◌∙◌, pow-suc, mul-add, add-mul, mul-one, mul-zero, add-zero, zero-add, div-one, pow_mono, le-leb, eq-eqb, ne_eqb, leb-true, eqb-true}
use Rattle.std.proofs.Math.Bool.{true, false, cond}
use Rattle.std.proofs.lemmas.Bool.{false≢true}
use mathlib.Core.List.{List, [], ◌∷◌}
use Rattle.std.proofs.Math.Option.{Option, none, some}
use Rattle.std.proofs.Math.Nat.{mod-lt, pow-succ', one-mul, div-div-eq-div-mul}
use Rattle.std.proofs.Math.Decide.{ℕ_discrete}
use native.Mathlib.Omega.{arith}
use Rattle.std.proofs.Math.ListN.{length}
use Rattle.std.proofs.Math.Dec.{leb}
use Rattle.std.proofs.Math.Pow.{pow_pos}
use mir.Val.{bool_byte}
use Rattle.codes.specs.Syndrome.{weighted_sum, syndrome}
use Rattle.codes.specs.Repair.{repair_to}
use Rattle.codes.specs.laws.RepairLaws.{lack-is, lack-adds, deletion-length, put-in-found, put-in-unique, take-out-found, take-out-unique, repair-put-in, repair-take-out}
use Rattle.codes.specs.Markers.{is_power, check_bits, message_bits, merged, check_number, message, message_sum, wanting, marker, Received, whole, lost, added, near_word, built_message, read_marker}
use Rattle.codes.specs.code.MarkerBlocks.{powers_in, others_in}
use Rattle.codes.specs.laws.ListingLaws.{odd_byte}
use Rattle.codes.specs.laws.PowerLaws.{power_pos, pow-past, Next, next_one, next_here, next-after, next-on, ceil-log2-enough, ceil-log2-least}

-- ---- words with any number
pub others-powers : (n k : ℕ) → others_in n k + powers_in n k ≡ n
unfolding others_in powers_in
others-powers zero k = refl
others-powers (suc n) k = go (is_power k) (others-powers n (suc k))
  where
    go : (t : Bool) → others_in n (suc k) + powers_in n (suc k) ≡ n
        → cond t (others_in n (suc k)) (suc (others_in n (suc k))) + cond t (suc (powers_in n (suc k))) (powers_in n (suc k)) ≡ suc n
    go true h = omega arith
    go false h = omega arith

pub length_merged : (n k v : ℕ) (m : List Bool) → length (merged n k v m) ≡ n
unfolding merged
length_merged zero k v m = refl
length_merged (suc n) k v m = go (is_power k) (length_merged n (suc k) (v / 2) m) (length_merged n (suc k) v (drop 1 m))
  where
    go : (t : Bool) → length (merged n (suc k) (v / 2) m) ≡ n → length (merged n (suc k) v (drop 1 m)) ≡ n
        → length (cond t (eqb (v % 2) 1 ∷ merged n (suc k) (v / 2) m) (get_or m 0 false ∷ merged n (suc k) v (drop 1 m))) ≡ suc n
    go true h g = ap suc h
    go false h g = ap suc g

pub length-message : (k : ℕ) (l : List Bool) → length (message k l) ≡ others_in (length l) k
unfolding message others_in
length-message k [] = refl
length-message k (b ∷ l) = go (is_power k) (length-message (suc k) l)
  where
    go : (t : Bool) → length (message (suc k) l) ≡ others_in (length l) (suc k)
        → length (cond t (message (suc k) l) (b ∷ message (suc k) l)) ≡ cond t (others_in (length l) (suc k)) (suc (others_in (length l) (suc k)))
    go true h = h
    go false h = ap suc h

pub message-merged : (n k v : ℕ) (m : List Bool) → length m ≡ others_in n k → message k (merged n k v m) ≡ m
unfolding message merged others_in
message-merged zero k v [] h = refl
message-merged zero k v (b ∷ m) h = absurd (omega arith)
message-merged (suc n) k v m h = go (is_power k) refl m (message-merged n (suc k) (v / 2)) (message-merged n (suc k) v) h
  where
    go : (t : Bool) → is_power k ≡ t → (m : List Bool)
        → ((m : List Bool) → length m ≡ others_in n (suc k) → message (suc k) (merged n (suc k) (v / 2) m) ≡ m)
        → ((m : List Bool) → length m ≡ others_in n (suc k) → message (suc k) (merged n (suc k) v m) ≡ m)
        → length m ≡ cond t (others_in n (suc k)) (suc (others_in n (suc k)))
        → message k (cond t (eqb (v % 2) 1 ∷ merged n (suc k) (v / 2) m) (get_or m 0 false ∷ merged n (suc k) v (drop 1 m))) ≡ m
    go true e m ih jh h = rw e (ih m h)
    go false e [] ih jh h = absurd (omega arith)
    go false e (b ∷ m) ih jh h = rw e (ap (λ (x : List Bool). b ∷ x) (jh m (omega arith)))

pub number-merged : (n k v : ℕ) (m : List Bool) → v < 2 ^ powers_in n k → check_number k (merged n k v m) ≡ v
unfolding check_number merged powers_in
number-merged zero k v m h = omega arith
number-merged (suc n) k v m h = go (is_power k) refl (number-merged n (suc k) (v / 2) m) (number-merged n (suc k) v (drop 1 m)) h
  where
    go : (t : Bool) → is_power k ≡ t → (v / 2 < 2 ^ powers_in n (suc k) → check_number (suc k) (merged n (suc k) (v / 2) m) ≡ v / 2)
        → (v < 2 ^ powers_in n (suc k) → check_number (suc k) (merged n (suc k) v (drop 1 m)) ≡ v) → v < 2 ^ cond t (suc (powers_in n (suc k))) (powers_in n (suc k))
        → check_number k (cond t (eqb (v % 2) 1 ∷ merged n (suc k) (v / 2) m) (get_or m 0 false ∷ merged n (suc k) v (drop 1 m))) ≡ v
    go true e ih jh h =
        let q = pow-suc 2 (powers_in n (suc k)) in
        let i = ih (omega arith) in
        rw e (let d = odd_byte v in omega arith)
    go false e ih jh h = rw e (jh h)

byte-digit : (b : Bool) (x : ℕ) → eqb ((bool_byte b + 2 * x) % 2) 1 ≡ b
byte-digit true x = eq-eqb ((1 + 2 * x) % 2) 1 (omega arith)
byte-digit false x = ne_eqb ((0 + 2 * x) % 2) 1 (λ e. omega arith)

byte-half : (b : Bool) (x : ℕ) → (bool_byte b + 2 * x) / 2 ≡ x
byte-half true x = omega arith
byte-half false x = omega arith

-- a word is merged of its number and its message
pub merged-back : (k : ℕ) (l : List Bool) → merged (length l) k (check_number k l) (message k l) ≡ l
unfolding merged check_number message
merged-back k [] = refl
merged-back k (b ∷ l) = go (is_power k) (merged-back (suc k) l)
  where
    go : (t : Bool) → merged (length l) (suc k) (check_number (suc k) l) (message (suc k) l) ≡ l
        → let v = cond t (bool_byte b + 2 * check_number (suc k) l) (check_number (suc k) l) in let m = cond t (message (suc k) l) (b ∷ message (suc k) l) in
        cond t (eqb (v % 2) 1 ∷ merged (length l) (suc k) (v / 2) m) (get_or m 0 false ∷ merged (length l) (suc k) v (drop 1 m)) ≡ b ∷ l
    go true h =
        ap₂ (λ (x : Bool) (y : ℕ). x ∷ merged (length l) (suc k) y (message (suc k) l)) (byte-digit b (check_number (suc k) l)) (byte-half b (check_number (suc k) l))
        ∙ ap (λ (x : List Bool). b ∷ x) h
    go false h = ap (λ (x : List Bool). b ∷ x) h

-- ---- sums
weighted-cons : (k : ℕ) (b : Bool) (l : List Bool) → weighted_sum k (b ∷ l) ≡ cond b k 0 + weighted_sum (suc k) l
weighted-cons k true l = refl
weighted-cons k false l = omega arith

double-mul : (k x : ℕ) → 2 * k * x ≡ k * x + k * x
double-mul k x = ap (λ (u : ℕ). u * x) {x = 2 * k} {y = k + k} (omega arith) ∙ add-mul k k x

digit-weight : (k v : ℕ) → cond (eqb (v % 2) 1) k 0 + 2 * k * (v / 2) ≡ k * v
digit-weight k v = go (ℕ_discrete (v % 2) 1)
  where
    go : Dec (v % 2 ≡ 1) → cond (eqb (v % 2) 1) k 0 + 2 * k * (v / 2) ≡ k * v
    go (yes e) =
        let d = double-mul k (v / 2) in
        let s : v ≡ v / 2 + v / 2 + 1 = omega arith in
        let f = ap (λ (u : ℕ). k * u) s in
        let g = mul-add k (v / 2 + v / 2) 1 in
        let i = mul-add k (v / 2) (v / 2) in
        let o = mul-one k in
        rw (eq-eqb (v % 2) 1 e) (omega arith)
    go (no e) =
        let d = double-mul k (v / 2) in
        let s : v ≡ v / 2 + v / 2 = omega arith in
        let f = ap (λ (u : ℕ). k * u) s in
        let i = mul-add k (v / 2) (v / 2) in
        rw (ne_eqb (v % 2) 1 e) (omega arith)

sum-merged : (n k p v : ℕ) (m : List Bool) → Next k p → v < 2 ^ powers_in n k → weighted_sum k (merged n k v m) ≡ weighted_sum k (merged n k 0 m) + p * v
unfolding merged powers_in
sum-merged zero k p v m x h = let z : v ≡ 0 = omega arith in let e = ap (λ (u : ℕ). p * u) z in let f = mul-zero p in omega arith
sum-merged (suc n) k p v m x h = go (is_power k) refl (sum-merged n (suc k)) h
  where
    go : (t : Bool) → is_power k ≡ t
        → ((p v : ℕ) (m : List Bool) → Next (suc k) p → v < 2 ^ powers_in n (suc k) → weighted_sum (suc k) (merged n (suc k) v m) ≡ weighted_sum (suc k) (merged n (suc k) 0 m) + p * v)
        → v < 2 ^ cond t (suc (powers_in n (suc k))) (powers_in n (suc k))
        → weighted_sum k (cond t (eqb (v % 2) 1 ∷ merged n (suc k) (v / 2) m) (get_or m 0 false ∷ merged n (suc k) v (drop 1 m)))
        ≡ weighted_sum k (cond t (false ∷ merged n (suc k) 0 m) (get_or m 0 false ∷ merged n (suc k) 0 (drop 1 m))) + p * v
    go true e ih h =
        let q = pow-suc 2 (powers_in n (suc k)) in
        let i = ih (2 * k) (v / 2) m (next-after k e) (omega arith) in
        let w = weighted-cons k (eqb (v % 2) 1) (merged n (suc k) (v / 2) m) in
        let d = digit-weight k v in
        let s = ap (λ (u : ℕ). u * v) (next_here k p x e) in
        omega arith
    go false e ih h =
        let i = ih p v (drop 1 m) (next-on k p x e) h in
        let w = weighted-cons k (get_or m 0 false) (merged n (suc k) v (drop 1 m)) in
        let u = weighted-cons k (get_or m 0 false) (merged n (suc k) 0 (drop 1 m)) in
        omega arith

-- ---- the digits: the bit at the place q = 2 ^ (i + j), of the bits from place k on, where the next power is 2 ^ i, is digit j
digit-merged : (n k i j q v : ℕ) (m : List Bool) → Next k (2 ^ i) → q ≡ 2 ^ (i + j) → k ≤ q → q < k + n → get_or (merged n k v m) (q - k) false ≡ eqb (v / 2 ^ j % 2) 1
unfolding merged
digit-merged zero k i j q v m x e h g = absurd (omega arith)
digit-merged (suc n) k i j q v m x e h g = go (is_power k) refl j e (digit-merged n (suc k) (suc i)) (digit-merged n (suc k) i)
  where
    behind : (b : Bool) (l : List Bool) → k < q → get_or (b ∷ l) (q - k) false ≡ get_or l (q - suc k) false
    behind b l f = ap (λ (u : ℕ). get_or (b ∷ l) u false) (let z : q - k ≡ suc (q - suc k) = omega arith in z)

    halved : (j : ℕ) → v / 2 / 2 ^ j ≡ v / 2 ^ suc j
    halved j = div-div-eq-div-mul v 2 (2 ^ j) ∙ ap (λ (u : ℕ). v / u) (sym (pow-succ' 2 j))

    go : (t : Bool) → is_power k ≡ t → (j : ℕ) → q ≡ 2 ^ (i + j)
        → ((j q v : ℕ) (m : List Bool) → Next (suc k) (2 ^ suc i) → q ≡ 2 ^ (suc i + j) → suc k ≤ q → q < suc k + n → get_or (merged n (suc k) v m) (q - suc k) false ≡ eqb (v / 2 ^ j % 2) 1)
        → ((j q v : ℕ) (m : List Bool) → Next (suc k) (2 ^ i) → q ≡ 2 ^ (i + j) → suc k ≤ q → q < suc k + n → get_or (merged n (suc k) v m) (q - suc k) false ≡ eqb (v / 2 ^ j % 2) 1)
        → get_or (cond t (eqb (v % 2) 1 ∷ merged n (suc k) (v / 2) m) (get_or m 0 false ∷ merged n (suc k) v (drop 1 m))) (q - k) false ≡ eqb (v / 2 ^ j % 2) 1
    go true f zero e ih jh =
        let p = next_here k (2 ^ i) x f in
        let z = e ∙ ap (λ (u : ℕ). 2 ^ u) (add-zero i) in
        ap (λ (u : ℕ). get_or (eqb (v % 2) 1 ∷ merged n (suc k) (v / 2) m) u false) (let y : q - k ≡ 0 = omega arith in y)
        ∙ ap (λ (u : ℕ). eqb (u % 2) 1) (sym (div-one v))
    go true f (suc j) e ih jh =
        let p = next_here k (2 ^ i) x f in
        let d : 2 ^ suc i ≡ 2 * k = (let w = pow-suc 2 i in omega arith) in
        let y = e ∙ ap (λ (u : ℕ). 2 ^ u) (let z : i + suc j ≡ suc i + j = omega arith in z) in
        let o : 2 ^ suc i ≤ 2 ^ (suc i + j) = pow_mono (let z : suc i ≤ suc i + j = omega arith in z) in
        let c = power_pos k f in
        behind (eqb (v % 2) 1) (merged n (suc k) (v / 2) m) (omega arith)
        ∙ ih j q (v / 2) m (subst (Next (suc k)) (sym d) (next-after k f)) y (omega arith) (omega arith)
        ∙ ap (λ (u : ℕ). eqb (u % 2) 1) (halved j)
    go false f j e ih jh =
        let y = next-on k (2 ^ i) x f in
        let l = y.least in
        let o : 2 ^ i ≤ 2 ^ (i + j) = pow_mono (let z : i ≤ i + j = omega arith in z) in
        behind (get_or m 0 false) (merged n (suc k) v (drop 1 m)) (omega arith) ∙ jh j q v (drop 1 m) y e (omega arith) (omega arith)

-- ---- as many places are powers of two as n has binary digits
powers-enough : (n k p : ℕ) → Next k p → k + n ≤ p * 2 ^ powers_in n k
unfolding powers_in
powers-enough zero k p x = let o = mul-one p in let l = x.least in omega arith
powers-enough (suc n) k p x = go (is_power k) refl (powers-enough n (suc k))
  where
    go : (t : Bool) → is_power k ≡ t → ((p : ℕ) → Next (suc k) p → suc k + n ≤ p * 2 ^ powers_in n (suc k)) → k + suc n ≤ p * 2 ^ cond t (suc (powers_in n (suc k))) (powers_in n (suc k))
    go true e ih =
        let i = ih (2 * k) (next-after k e) in
        let d = double-mul k (2 ^ powers_in n (suc k)) in
        let s = ap (λ (u : ℕ). u * 2 ^ suc (powers_in n (suc k))) (next_here k p x e) in
        let f : 2 ^ suc (powers_in n (suc k)) ≡ 2 ^ powers_in n (suc k) + 2 ^ powers_in n (suc k) = (let q = pow-suc 2 (powers_in n (suc k)) in omega arith) in
        let g = ap (λ (u : ℕ). k * u) f in
        let j = mul-add k (2 ^ powers_in n (suc k)) (2 ^ powers_in n (suc k)) in
        omega arith
    go false e ih = let i = ih p (next-on k p x e) in omega arith

powers-least : (n k p c : ℕ) → Next k p → powers_in n k ≡ suc c → p * 2 ^ c < k + n
unfolding powers_in
powers-least zero k p c x h = absurd (omega arith)
powers-least (suc n) k p c x h = go (is_power k) refl (powers-least n (suc k)) h
  where
    go : (t : Bool) → is_power k ≡ t → ((p c : ℕ) → Next (suc k) p → powers_in n (suc k) ≡ suc c → p * 2 ^ c < suc k + n)
        → cond t (suc (powers_in n (suc k))) (powers_in n (suc k)) ≡ suc c → p * 2 ^ c < k + suc n
    go true e ih h = more c (omega arith)
      where
        more : (c : ℕ) → powers_in n (suc k) ≡ c → p * 2 ^ c < k + suc n
        more zero g = let o = mul-one p in let s = next_here k p x e in omega arith
        more (suc c) g =
            let i = ih (2 * k) c (next-after k e) g in
            let d = double-mul k (2 ^ c) in
            let s = ap (λ (u : ℕ). u * 2 ^ suc c) (next_here k p x e) in
            let f : 2 ^ suc c ≡ 2 ^ c + 2 ^ c = (let q = pow-suc 2 c in omega arith) in
            let r = ap (λ (u : ℕ). k * u) f in
            let j = mul-add k (2 ^ c) (2 ^ c) in
            omega arith
    go false e ih h = let i = ih p c (next-on k p x e) h in omega arith

-- ---- t is ceil(log2(n + 1)): the numbers to n have t digits, and no fewer hold them all; and as many places are powers of two
module _ (n : ℕ) where
  pub check-bits-enough : n < 2 ^ check_bits n
  unfolding check_bits
  check-bits-enough = let h = ceil-log2-enough (n + 1) in omega arith

  pub check-bits-least : (t : ℕ) → n < 2 ^ t → check_bits n ≤ t
  unfolding check_bits
  check-bits-least t h = ceil-log2-least (n + 1) t (omega arith)

  powers-digits : n < 2 ^ powers_in n 1
  powers-digits = let h = powers-enough n 1 1 next_one in let o = one-mul (2 ^ powers_in n 1) in omega arith

  pub check-bits-powers : check_bits n ≡ powers_in n 1
  check-bits-powers = let h = check-bits-least (powers_in n 1) powers-digits in go (powers_in n 1) refl h
    where
      go : (c : ℕ) → powers_in n 1 ≡ c → check_bits n ≤ c → check_bits n ≡ c
      go zero e h = omega arith
      go (suc c) e h =
          let q = powers-least n 1 1 c next_one e in
          let o = one-mul (2 ^ c) in
          let p = pow-past c (check_bits n) (n + 1) (omega arith) (let g = check-bits-enough in omega arith) in
          omega arith

  -- they are as many as the digits of n
  pub check-bits-log : (t : ℕ) → 2 ^ t ≤ n → n < 2 * 2 ^ t → check_bits n ≡ t + 1
  check-bits-log t h g =
      let d = pow-suc 2 t in
      let m = check-bits-least (suc t) (omega arith) in
      let p = pow-past t (check_bits n) (n + 1) (omega arith) (let k = check-bits-enough in omega arith) in
      omega arith

  pub message-bits : message_bits n ≡ others_in n 1
  unfolding message_bits
  message-bits = let h = others-powers n 1 in let e = check-bits-powers in omega arith

-- ---- the builder's words
wanting-adds : (n a : ℕ) (m : List Bool) → a ≤ n → (weighted_sum 1 (merged n 1 0 m) + wanting n a m) % (n + 1) ≡ a
unfolding wanting message_sum
wanting-adds n a m h = lack-adds (weighted_sum 1 (merged n 1 0 m)) (wanting n a m) a (n + 1) (omega arith) refl (omega arith)

module _ (n a : ℕ) (m : List Bool) where
  pub wanting-most : wanting n a m ≤ n
  unfolding wanting
  wanting-most =
      let h : (a + (n + 1 - message_sum n m % (n + 1))) % (n + 1) < n + 1 = mod-lt (a + (n + 1 - message_sum n m % (n + 1))) (omega arith) in
      omega arith

  wanting-digits : wanting n a m < 2 ^ powers_in n 1
  wanting-digits = let h = wanting-most in let e = powers-digits n in omega arith

  pub marker-length : length (marker n a m) ≡ n
  unfolding marker
  marker-length = length_merged n 1 (wanting n a m) m

  pub marker-number : check_number 1 (marker n a m) ≡ wanting n a m
  unfolding marker
  marker-number = number-merged n 1 (wanting n a m) m wanting-digits

  -- the bit at place 2 ^ j is digit j of the number; the first bit of a list is place 1
  pub marker-digit : (j : ℕ) → 2 ^ j ≤ n → get_or (marker n a m) (2 ^ j - 1) false ≡ eqb (wanting n a m / 2 ^ j % 2) 1
  unfolding marker
  marker-digit j h =
      let p : 0 < 2 ^ j = pow_pos j in
      digit-merged n 1 0 j (2 ^ j) (wanting n a m) m next_one (ap (λ (u : ℕ). 2 ^ u) (sym (zero-add j))) (omega arith) (omega arith)

  pub marker-syndrome : a ≤ n → syndrome (marker n a m) ≡ a
  unfolding marker syndrome
  marker-syndrome h =
      ap₂ (λ (x y : ℕ). x % (y + 1)) (sum-merged n 1 1 (wanting n a m) m next_one wanting-digits) (length_merged n 1 (wanting n a m) m)
      ∙ lacks
    where
      once : weighted_sum 1 (merged n 1 0 m) + 1 * wanting n a m ≡ weighted_sum 1 (merged n 1 0 m) + wanting n a m
      once = let o = one-mul (wanting n a m) in omega arith

      lacks : (weighted_sum 1 (merged n 1 0 m) + 1 * wanting n a m) % (n + 1) ≡ a
      lacks = ap (λ (x : ℕ). x % (n + 1)) once ∙ wanting-adds n a m h

  pub marker-message : length m ≡ message_bits n → message 1 (marker n a m) ≡ m
  unfolding marker
  marker-message h = message-merged n 1 (wanting n a m) m (h ∙ message-bits n)

-- two messages give two words
pub marker-differs : (n a : ℕ) (m m' : List Bool) → length m ≡ message_bits n → length m' ≡ message_bits n → marker n a m ≡ marker n a m' → m ≡ m'
marker-differs n a m m' h g e = sym (marker-message n a m h) ∙ ap (message 1) e ∙ marker-message n a m' g

-- the message of a string of n bits has n - t bits
pub word-message : (n : ℕ) (w : List Bool) → length w ≡ n → length (message 1 w) ≡ message_bits n
word-message n w e = length-message 1 w ∙ ap (λ (x : ℕ). others_in x 1) e ∙ sym (message-bits n)

-- a string of n bits and syndrome a is the builder's word for its message exactly if its number is at most n (marker-number and wanting-most have the other direction)
module _ (n a : ℕ) (w : List Bool) (e : length w ≡ n) where
  merged-word : merged n 1 (check_number 1 w) (message 1 w) ≡ w
  merged-word = ap (λ (x : ℕ). merged x 1 (check_number 1 w) (message 1 w)) (sym e) ∙ merged-back 1 w

  word_sum : check_number 1 w ≤ n → weighted_sum 1 w ≡ message_sum n (message 1 w) + check_number 1 w
  unfolding message_sum
  word_sum h =
      let c = powers-digits n in
      let s = sum-merged n 1 1 (check_number 1 w) (message 1 w) next_one (omega arith) in
      let o = one-mul (check_number 1 w) in
      ap (weighted_sum 1) (sym merged-word) ∙ s ∙ omega arith

  word-wanting : syndrome w ≡ a → check_number 1 w ≤ n → wanting n a (message 1 w) ≡ check_number 1 w
  unfolding wanting syndrome
  word-wanting f h =
      lack-is (message_sum n (message 1 w)) (check_number 1 w) a (n + 1) (omega arith)
      (ap₂ (λ (x y : ℕ). x % (y + 1)) (sym (word_sum h)) (sym e) ∙ f) (omega arith)

  pub built-word : syndrome w ≡ a → check_number 1 w ≤ n → marker n a (message 1 w) ≡ w
  unfolding marker
  built-word f h = ap (λ (x : ℕ). merged n 1 x (message 1 w)) (word-wanting f h) ∙ merged-word

pub word_number : (n a : ℕ) (m : List Bool) → check_number 1 (marker n a m) ≤ n
word_number n a m = let e = marker-number n a m in let h = wanting-most n a m in omega arith

-- ---- the reader
is_some : {A : Type 0} → Option A → Bool
is_some none = false
is_some (some x) = true

none-some : {A : Type 0} (x : A) → none ≡ some x → ⊥
unfolding is_some
none-some x e = false≢true (ap is_some e)

some_same : (x y : List Bool) → some x ≡ some y → x ≡ y
some_same x y e = ap (get x) e
  where
    get : List Bool → Option (List Bool) → List Bool
    get d none = d
    get d (some z) = z

-- the lengths that a word of n bits can be received with
pub record Near (n : ℕ) (l : List Bool) : Type 0 where
  pub least : n ≤ length l + 1
  pub most : length l ≤ n + 1

module _ (n a : ℕ) (l : List Bool) where
  near_same : length l ≡ n → near_word n a l ≡ cond (eqb (syndrome l) a) (some l) none
  unfolding near_word
  near_same e = rw (eq-eqb (length l) n e) refl

  near-repair : (length l ≡ n → ⊥) → near_word n a l ≡ repair_to n a l
  unfolding near_word
  near-repair e = rw (ne_eqb (length l) n e) refl

  pub near-found : Near n l → (w : List Bool) → near_word n a l ≡ some w → (length w ≡ n) × (syndrome w ≡ a) × Received w l
  near-found h w f = go (ℕ_discrete (length l) n)
    where
      same : length l ≡ n → (t : Bool) → eqb (syndrome l) a ≡ t → cond t (some l) none ≡ some w → (length w ≡ n) × (syndrome w ≡ a) × Received w l
      same e true g k = let q = some_same l w k in (ap length (sym q) ∙ e, ap syndrome (sym q) ∙ eqb-true (syndrome l) a g, whole q)
      same e false g k = absurd (none-some w k)

      other : (length l ≡ n → ⊥) → Dec (length l + 1 ≡ n) → (length w ≡ n) × (syndrome w ≡ a) × Received w l
      other e (yes g) =
          let q = put-in-found a l w (sym (repair-put-in n a l g) ∙ sym (near-repair e) ∙ f) in
          (deletion-length l w q.0 ∙ g, q.1, lost q.0)
      other e (no g) =
          let q = take-out-found a l w (sym (repair-take-out n a l g) ∙ sym (near-repair e) ∙ f) in
          let d = deletion-length w l q.0 in
          let x = h.least in
          let y = h.most in
          (pick e g d x y, q.1, added q.0)
        where
          pick : (length l ≡ n → ⊥) → (length l + 1 ≡ n → ⊥) → length l ≡ length w + 1 → n ≤ length l + 1 → length l ≤ n + 1 → length w ≡ n
          pick e g d x y = omega arith

      go : Dec (length l ≡ n) → (length w ≡ n) × (syndrome w ≡ a) × Received w l
      go (yes e) = same e (eqb (syndrome l) a) refl (sym (near_same e) ∙ f)
      go (no e) = other e (ℕ_discrete (length l + 1) n)

  pub near-only : (w : List Bool) → length w ≡ n → syndrome w ≡ a → Received w l → near_word n a l ≡ some w
  near-only w e f (whole q) =
      near_same (ap length q ∙ e) ∙ ap (λ (t : Bool). cond t (some l) none) (eq-eqb (syndrome l) a (ap syndrome q ∙ f)) ∙ ap some q
  near-only w e f (lost d) =
      let n' = deletion-length l w d in
      near-repair (λ z. omega arith) ∙ repair-put-in n a l (omega arith) ∙ put-in-unique a l w d f
  near-only w e f (added d) =
      let n' = deletion-length w l d in
      near-repair (λ z. omega arith) ∙ repair-take-out n a l (λ z. omega arith) ∙ take-out-unique a l w d f

  pub received-near : (w : List Bool) → length w ≡ n → Received w l → Near n l
  received-near w e (whole q) = let f = ap length q in record { least = omega arith; most = omega arith }
  received-near w e (lost d) = let f = deletion-length l w d in record { least = omega arith; most = omega arith }
  received-near w e (added d) = let f = deletion-length w l d in record { least = omega arith; most = omega arith }

  -- the word, or the word with one bit lost or added, reads as the message
  pub read-received : a ≤ n → (m : List Bool) → length m ≡ message_bits n → Received (marker n a m) l → read_marker n a l ≡ some m
  unfolding read_marker
  read-received k m h r =
      ap (built_message n) (near-only (marker n a m) (marker-length n a m) (marker-syndrome n a m k) r)
      ∙ ap (λ (t : Bool). cond t (some (message 1 (marker n a m))) none) (le-leb (check_number 1 (marker n a m)) n (word_number n a m))
      ∙ ap some (marker-message n a m h)

  -- what is read is the message of a word for which l is received
  pub read_found : Near n l → (m : List Bool) → read_marker n a l ≡ some m → (length m ≡ message_bits n) × Received (marker n a m) l
  unfolding read_marker
  read_found h m e = go (near_word n a l) refl e
    where
      own : (w : List Bool) → near_word n a l ≡ some w → (t : Bool) → leb (check_number 1 w) n ≡ t → cond t (some (message 1 w)) none ≡ some m
          → (length m ≡ message_bits n) × Received (marker n a m) l
      own w f true g k =
          let x = near-found h w f in
          let q = some_same (message 1 w) m k in (
            ap length (sym q) ∙ word-message n w x.0,
            subst (λ (u : List Bool). Received u l) (sym (ap (marker n a) (sym q) ∙ built-word n a w x.0 x.1 (leb-true (check_number 1 w) n g))) x.2,
          )
      own w f false g k = absurd (none-some m k)

      go : (o : Option (List Bool)) → near_word n a l ≡ o → built_message n o ≡ some m → (length m ≡ message_bits n) × Received (marker n a m) l
      go none f k = absurd (none-some m k)
      go (some w) f k = own w f (leb (check_number 1 w) n) refl k

  -- "none" exactly if l is received for no word that the builder makes for this n and a
  pub read_none : a ≤ n → read_marker n a l ≡ none → (m : List Bool) → length m ≡ message_bits n → Received (marker n a m) l → ⊥
  read_none k e m h r = none-some m (sym e ∙ read-received k m h r)

  pub none_read : Near n l → ((m : List Bool) → length m ≡ message_bits n → Received (marker n a m) l → ⊥) → read_marker n a l ≡ none
  none_read h f = go (read_marker n a l) refl
    where
      go : (o : Option (List Bool)) → read_marker n a l ≡ o → read_marker n a l ≡ none
      go none e = e
      go (some m) e = let q = read_found h m e in absurd (f m q.0 q.1)

  -- no received word belongs to two messages
  pub read_one : a ≤ n → (m m' : List Bool) → length m ≡ message_bits n → length m' ≡ message_bits n → Received (marker n a m) l → Received (marker n a m') l → m ≡ m'
  read_one k m m' h g r r' = some_same m m' (sym (read-received k m h r) ∙ read-received k m' g r')
