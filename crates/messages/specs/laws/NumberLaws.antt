-- Laws of numbers: their lengths, the turns of a writer and of a reader, reading what was written, and the one form of each number.
use Rattle.std.specs.Prelude.{◌≡◌, cond, set, take, ltb, leb}
use Rattle.std.proofs.Math.Path.{refl, sym, ap}
use Rattle.std.proofs.Common.{ap₂, ◌∙◌, mul-add, mul_assoc, add-one, length-drop, drop_of_length-le, drop-drop, drop-cons, drop_at, take_at, take-add, length-take-le}
use mathlib.Core.List.{List, [], ◌∷◌, ◌++◌, append-nil, append_assoc}
use Prim.Native.Nat.{ℕ, zero, suc, ◌+◌, ◌-◌, ◌*◌, ◌/◌, ◌%◌, ◌≤◌, ◌<◌}
use Rattle.std.proofs.Math.Decide.{dec_lt}
use native.Mathlib.Omega.{arith}
use Rattle.std.proofs.Math.ListN.{length, get_or, drop, length-append}
use Rattle.std.proofs.lemmas.List.Edits.{sets}
use Rattle.std.proofs.Math.Seq.{drop-append_seam}
use Rattle.std.proofs.lemmas.List.{drop-append-le}
use borrow.Author.Tests.{lt-ltb, le-ltb, le-leb, lt-leb, ltb-true, ltb-false, leb-true}
use Rattle.strings.specs.laws.ResultLaws.{value-is, unless-passed, then-passed}
use Rattle.strings.specs.Bits.{max_bits, Bytes}
use Rattle.strings.specs.Refusals.{refusal_number}
use Rattle.strings.specs.Results.{Result, refusal, value, and_then}
use Rattle.strings.specs.laws.Tests.{by-test}
use Rattle.strings.specs.declared.Refusal.TheVariants.{Truncated, BadNumber}
use Rattle.messages.specs.Numbers.{groups, number, next_byte, number_at, two_at, three_at, all_numbers, numbers_at}

-- ---- a number's bytes, from the first on
abbrev lim : ℕ → ℕ
lim zero = 128
lim (suc k) = 128 * lim k

-- one group more may be allowed
groups-more : (k v : ℕ) → v < lim k → groups k v ≡ groups (suc k) v
unfolding groups
groups-more zero v h = rw (lt-ltb v 128 h) refl
groups-more (suc k) v h = ap (λ (l : List ℕ). cond (ltb v 128) (v ∷ []) ((v % 128 + 128) ∷ l)) (groups-more k (v / 128) (omega arith))

pub number-last : (v : ℕ) → v < 128 → number v ≡ v ∷ []
unfolding number groups
number-last v h = rw (lt-ltb v 128 h) refl

pub number-next : (v : ℕ) → 128 ≤ v → v < 4294967296 → number v ≡ (v % 128 + 128) ∷ number (v / 128)
unfolding number groups
number-next v h m = rw (le-ltb v 128 h) (ap (λ (l : List ℕ). (v % 128 + 128) ∷ l) (unfold groups in groups-more 3 (v / 128) (omega arith)))

-- ---- lengths
pub size-last : (v : ℕ) → v < 128 → length (number v) ≡ 1
size-last v h = ap length (number-last v h)

pub size-next : (v : ℕ) → 128 ≤ v → v < 4294967296 → length (number v) ≡ suc (length (number (v / 128)))
size-next v h m = ap length (number-next v h m)

pub size-two : (v : ℕ) → 128 ≤ v → v < 16384 → length (number v) ≡ 2
size-two v h k = size-next v h (omega arith) ∙ ap suc (size-last (v / 128) (omega arith))

pub size-three : (v : ℕ) → 16384 ≤ v → v < 2097152 → length (number v) ≡ 3
size-three v h k = size-next v (omega arith) (omega arith) ∙ ap suc (size-two (v / 128) (omega arith) (omega arith))

pub size-four : (v : ℕ) → 2097152 ≤ v → v < 268435456 → length (number v) ≡ 4
size-four v h k = size-next v (omega arith) (omega arith) ∙ ap suc (size-three (v / 128) (omega arith) (omega arith))

pub size-five : (v : ℕ) → 268435456 ≤ v → v < 4294967296 → length (number v) ≡ 5
size-five v h k = size-next v (omega arith) (omega arith) ∙ ap suc (size-four (v / 128) (omega arith) (omega arith))

groups-some : (k v : ℕ) → 1 ≤ length (groups k v)
unfolding groups
groups-some zero v = omega arith
groups-some (suc k) v = by-test (λ (l : List ℕ). 1 ≤ length l) (ltb v 128) (λ e. omega arith) (λ e. omega arith)

groups-most : (k v : ℕ) → length (groups k v) ≤ suc k
unfolding groups
groups-most zero v = omega arith
groups-most (suc k) v =
    let h = groups-most k (v / 128) in
    by-test (λ (l : List ℕ). length l ≤ suc (suc k)) (ltb v 128) (λ e. omega arith) (λ e. omega arith)

pub size-some : (v : ℕ) → 1 ≤ length (number v)
unfolding number
size-some v = groups-some 4 v

pub size-most : (v : ℕ) → length (number v) ≤ 5
unfolding number
size-most v = groups-most 4 v

-- starts, lengths and syndromes
pub size-short : (v : ℕ) → v ≤ max_bits → length (number v) ≤ 3
size-short v h = go (dec_lt v 128) (dec_lt v 16384)
  where
    go : Dec (v < 128) → Dec (v < 16384) → length (number v) ≤ 3
    go (yes l) m = let e = size-last v l in omega arith
    go (no l) (yes m) = let e = size-two v (omega arith) m in omega arith
    go (no l) (no m) = let e = size-three v (omega arith) (omega arith) in omega arith

pub ruleset size_laws = (size-last, size-two, size-three, size-four, size-five)

-- ---- the bytes of numbers one behind the other
pub one_number : (v : ℕ) → all_numbers (v ∷ []) ≡ number v
unfolding all_numbers
one_number v = append-nil (number v)

pub two_numbers : (a b : ℕ) → all_numbers (a ∷ b ∷ []) ≡ number a ++ number b
unfolding all_numbers
two_numbers a b = ap (λ (l : List ℕ). number a ++ l) (one_number b)

pub three_numbers : (a b c : ℕ) → all_numbers (a ∷ b ∷ c ∷ []) ≡ number a ++ (number b ++ number c)
unfolding all_numbers
three_numbers a b c = ap (λ (l : List ℕ). number a ++ l) (two_numbers b c)

pub numbers-most : (l : List ℕ) → length (all_numbers l) ≤ 5 * length l
unfolding all_numbers
numbers-most [] = omega arith
numbers-most (v ∷ l) = let a = size-most v in let b = numbers-most l in let e = length-append (number v) (all_numbers l) in omega arith

pub numbers-short : (l : List ℕ) → ((j : ℕ) → get_or l j 0 ≤ max_bits) → length (all_numbers l) ≤ 3 * length l
unfolding all_numbers
numbers-short [] h = omega arith
numbers-short (v ∷ l) h =
    let a = size-short v (h 0) in
    let b = numbers-short l (λ j. h (suc j)) in
    let e = length-append (number v) (all_numbers l) in
    omega arith

-- ---- a turn of the writer, and its end
pub write-turn : (s u : List ℕ) (i v : ℕ) → 128 ≤ v → v < 4294967296 → sets s i (number v) ≡ u → sets (set s i (v % 128 + 128)) (i + 1) (number (v / 128)) ≡ u
write-turn s u i v h m f = rw (add-one) (rw (number-next v h m) at f)

pub write-last : (s u : List ℕ) (i v : ℕ) → v < 128 → sets s i (number v) ≡ u → set s i v ≡ u
write-last s u i v h f = rw (number-last v h) at f

-- ---- a turn of the reader
-- the weight of the byte that k more may follow
abbrev pub weight : ℕ → ℕ
weight zero = 268435456
weight (suc zero) = 2097152
weight (suc (suc zero)) = 16384
weight (suc (suc (suc k))) = 128

pub weight-most : (k : ℕ) → weight k ≤ 268435456
weight-most zero = omega arith
weight-most (suc zero) = omega arith
weight-most (suc (suc zero)) = omega arith
weight-most (suc (suc (suc k))) = omega arith

module _ (s : List ℕ) (k i w v : ℕ) where
  pub read-cut : length s ≤ i → next_byte k s i w v ≡ refusal (refusal_number Truncated)
  unfolding next_byte
  read-cut h = go k
    where
      go : (k : ℕ) → next_byte k s i w v ≡ refusal (refusal_number Truncated)
      go zero = rw (le-ltb i (length s) h) refl
      go (suc k) = rw (le-ltb i (length s) h) refl

  pub read-zero : i < length s → get_or s i 0 ≡ 0 → next_byte k s i w v ≡ refusal (refusal_number BadNumber)
  unfolding next_byte
  read-zero h e = go k
    where
      go : (k : ℕ) → next_byte k s i w v ≡ refusal (refusal_number BadNumber)
      go zero = rw (lt-ltb i (length s) h, le-ltb 0 (get_or s i 0) (omega arith)) refl
      go (suc k) = rw (lt-ltb i (length s) h, le-ltb 0 (get_or s i 0) (omega arith)) refl

  pub read-last : 0 < k → i < length s → (get_or s i 0 ≡ 0 → ⊥) → get_or s i 0 < 128 → next_byte k s i w v ≡ value (v + w * get_or s i 0, i + 1)
  unfolding next_byte
  read-last p h e l = go k p
    where
      go : (k : ℕ) → 0 < k → next_byte k s i w v ≡ value (v + w * get_or s i 0, i + 1)
      go zero p = absurd (omega arith)
      go (suc k) p = rw (lt-ltb i (length s) h, lt-ltb 0 (get_or s i 0) (omega arith), lt-ltb (get_or s i 0) 128 l) refl

  pub read_next : 0 < k → i < length s → (get_or s i 0 ≡ 0 → ⊥) → 128 ≤ get_or s i 0 → next_byte k s i w v ≡ next_byte (k - 1) s (i + 1) (w * 128) (v + w * (get_or s i 0 - 128))
  unfolding next_byte
  read_next p h e l = go k p
    where
      go : (k : ℕ) → 0 < k → next_byte k s i w v ≡ next_byte (k - 1) s (i + 1) (w * 128) (v + w * (get_or s i 0 - 128))
      go zero p = absurd (omega arith)
      go (suc k) p =
          let q : suc k - 1 ≡ k = omega arith in
          rw (lt-ltb i (length s) h, lt-ltb 0 (get_or s i 0) (omega arith), le-ltb (get_or s i 0) 128 l, q) refl

-- the value stays below the next byte's weight
pub turn-fits : (k w v b : ℕ) → 0 < k → k ≤ 3 → w ≡ weight k → v < w → b < 128 → (w * b < 268435456) × (v + w * b < 268435456) × (v + w * b < w * 128) × (w * 128 ≡ weight (k - 1))
turn-fits zero w v b p q e l m = absurd (omega arith)
turn-fits (suc zero) w v b p q e l m = rw e (omega arith, (let l' : v < 2097152 = rw e at l in omega arith), (let l' : v < 2097152 = rw e at l in omega arith), refl)
turn-fits (suc (suc zero)) w v b p q e l m = rw e (omega arith, (let l' : v < 16384 = rw e at l in omega arith), (let l' : v < 16384 = rw e at l in omega arith), refl)
turn-fits (suc (suc (suc zero))) w v b p q e l m = rw e (omega arith, (let l' : v < 128 = rw e at l in omega arith), (let l' : v < 128 = rw e at l in omega arith), refl)
turn-fits (suc (suc (suc (suc k)))) w v b p q e l m = absurd (omega arith)

pub read_first : (s : List ℕ) (at v : ℕ) → at < length s → 128 ≤ get_or s at 0 → v ≡ get_or s at 0 - 128 → next_byte 3 s (at + 1) 128 v ≡ number_at s at
unfolding number_at
read_first s at v h l e = rw (lt-ltb at (length s) h, le-ltb (get_or s at 0) 128 l, e) refl

-- where no more bytes but one may follow
pub read-end : (s : List ℕ) (k i w v : ℕ) → k ≤ 0 → w ≡ weight k → v < w → (v < 268435456) × (next_byte 0 s i 268435456 v ≡ next_byte k s i w v)
read-end s zero i w v p e l = ((rw e at l), ap (λ (x : ℕ). next_byte 0 s i x v) (sym e))
read-end s (suc k) i w v p e l = absurd (omega arith)

module _ (s : List ℕ) (i w v : ℕ) where
  pub read-fifth-large : (k : ℕ) → k ≤ 0 → i < length s → (get_or s i 0 ≡ 0 → ⊥) → 15 < get_or s i 0 → next_byte k s i w v ≡ refusal (refusal_number BadNumber)
  unfolding next_byte
  read-fifth-large zero p h e l = rw (lt-ltb i (length s) h, lt-ltb 0 (get_or s i 0) (omega arith), lt-leb (get_or s i 0) 15 l) refl
  read-fifth-large (suc k) p h e l = absurd (omega arith)

  pub read-fifth : (k : ℕ) → k ≤ 0 → i < length s → (get_or s i 0 ≡ 0 → ⊥) → get_or s i 0 ≤ 15 → next_byte k s i w v ≡ value (v + w * get_or s i 0, i + 1)
  unfolding next_byte
  read-fifth zero p h e l = rw (lt-ltb i (length s) h, lt-ltb 0 (get_or s i 0) (omega arith), le-leb (get_or s i 0) 15 l) refl
  read-fifth (suc k) p h e l = absurd (omega arith)

-- a first byte that is the whole number
pub ruleset fifth_laws = (read-cut, read-zero, read-fifth-large, read-fifth)

pub read_short : (s : List ℕ) (at v : ℕ) → at < length s → get_or s at 0 ≡ v → v < 128 → number_at s at ≡ value (v, at + 1)
unfolding number_at
read_short s at v h e l = rw (lt-ltb at (length s) h, e, lt-ltb v 128 l) refl

pub read_none : (s : List ℕ) (at : ℕ) → length s ≤ at → number_at s at ≡ refusal (refusal_number Truncated)
unfolding number_at
read_none s at h = rw (le-ltb at (length s) h) refl

-- ---- as the code meets them: the answer r, which says n, is known to be x, and n decides what o is
pub read-decides : {A B R : Type 0} (said : R → Result A) {n : Result A} {o : Result B} {r x : R} → said r ≡ n → (f : A → Result B) → o ≡ and_then n f → r ≡ x → o ≡ and_then (said x) f
read-decides said p f so q = so ∙ rw (← p, q) refl

-- ---- what was written is read
head-is : (s : List ℕ) (i x : ℕ) (r : List ℕ) → drop i s ≡ x ∷ r → (i < length s) × (get_or s i 0 ≡ x) × (drop (i + 1) s ≡ r)
head-is [] zero x r e = let z : ◌≡◌ {A = ℕ} 0 1 = cc in absurd (omega arith)
head-is [] (suc i) x r e = let z : ◌≡◌ {A = ℕ} 0 1 = cc in absurd (omega arith)
head-is (y ∷ s) zero x r e = let f : y ≡ x = cc in let g : s ≡ r = cc in (omega arith, f, g)
head-is (y ∷ s) (suc i) x r e =
    let h = head-is s i x r e in
    let k : suc i + 1 ≡ suc (i + 1) = omega arith in
    ((let l = h.0 in omega arith), h.1, rw k h.2)

pub drop_past : (s l r : List ℕ) (i : ℕ) → drop i s ≡ l ++ r → drop (i + length l) s ≡ r
drop_past s l r i e = sym (drop-drop (length l) i s) ∙ ap (drop (length l)) e ∙ drop-append_seam l r

-- where the fields l are the last of a message
pub ends_there : (s l : List ℕ) (at : ℕ) → drop at s ≡ l → 1 ≤ length l → length s ≡ at + length l
ends_there s l at d h = let e = length-drop at s in let f = ap length d in omega arith

-- a number of at most k + 1 groups whose last byte, if it is the fifth, is at most 15
abbrev top : ℕ → ℕ
top zero = 16
top (suc k) = 128 * top k

weighs : (a w x y : ℕ) → a + w * x + w * 128 * y ≡ a + w * (x + 128 * y)
weighs a w x y =
    let f : w * (x + 128 * y) ≡ w * x + w * (128 * y) = mul-add w x (128 * y) in
    let g : w * 128 * y ≡ w * (128 * y) = mul_assoc w 128 y in
    omega arith

rest-reads : (k : ℕ) (s rest : List ℕ) (i w a v : ℕ) → drop i s ≡ groups k v ++ rest → 0 < v → v < top k → next_byte k s i w a ≡ value (a + w * v, i + length (groups k v))
unfolding groups
rest-reads zero s rest i w a v e p q =
    let h = head-is s i v rest e in
    let g = h.1 in
    read-fifth s i w a 0 (omega arith) h.0 (λ z. omega arith) (omega arith) ∙ ap (λ (n : ℕ). value (a + w * n, i + 1)) g
rest-reads (suc k) s rest i w a v e p q = go (dec_lt v 128) (λ j w a e' p' q'. rest-reads k s rest j w a (v / 128) e' p' q')
  where
    go : Dec (v < 128)
        → ((j w a : ℕ) → drop j s ≡ groups k (v / 128) ++ rest → 0 < v / 128 → v / 128 < top k → next_byte k s j w a ≡ value (a + w * (v / 128), j + length (groups k (v / 128))))
        → next_byte (suc k) s i w a ≡ value (a + w * v, i + length (cond (ltb v 128) (v ∷ []) ((v % 128 + 128) ∷ groups k (v / 128))))
    go (yes l) rec =
        let e' : drop i s ≡ v ∷ rest = rw (lt-ltb v 128 l) at e in
        let h = head-is s i v rest e' in
        let g = h.1 in
        rw (lt-ltb v 128 l) (read-last s (suc k) i w a (omega arith) h.0 (λ z. omega arith) (omega arith) ∙ ap (λ (n : ℕ). value (a + w * n, i + 1)) g)
    go (no l) rec =
        let t : 128 ≤ v = omega arith in
        let e' : drop i s ≡ (v % 128 + 128) ∷ (groups k (v / 128) ++ rest) = rw (le-ltb v 128 t) at e in
        let h = head-is s i (v % 128 + 128) (groups k (v / 128) ++ rest) e' in
        let g = h.1 in
        let m : suc k - 1 ≡ k = omega arith in
        let n : get_or s i 0 - 128 ≡ v % 128 = omega arith in
        let j : i + 1 + length (groups k (v / 128)) ≡ i + suc (length (groups k (v / 128))) = omega arith in
        let x : v % 128 + 128 * (v / 128) ≡ v = omega arith in
        rw (le-ltb v 128 t)
        (read_next s (suc k) i w a (omega arith) h.0 (λ z. omega arith) (omega arith)
        ∙ ap₂ (λ (x y : ℕ). next_byte x s (i + 1) (w * 128) (a + w * y)) m n
        ∙ rec (i + 1) (w * 128) (a + w * (v % 128)) h.2 (omega arith) (omega arith)
        ∙ ap₂ (λ (x y : ℕ). value (x, y)) (weighs a w (v % 128) (v / 128) ∙ ap (λ (n : ℕ). a + w * n) x) j)

-- a number that stands at a position is read there, whatever follows
pub number-reads : (s rest : List ℕ) (at v : ℕ) → v < 4294967296 → drop at s ≡ number v ++ rest → number_at s at ≡ value (v, at + length (number v))
unfolding number groups
number-reads s rest at v m e = go (dec_lt v 128)
  where
    go : Dec (v < 128) → number_at s at ≡ value (v, at + length (groups 4 v))
    go (yes l) =
        let e' : drop at s ≡ v ∷ rest = rw (lt-ltb v 128 l) at e in
        let h = head-is s at v rest e' in
        rw (lt-ltb v 128 l) (read_short s at v h.0 h.1 l)
    go (no l) =
        let t : 128 ≤ v = omega arith in
        let e' : drop at s ≡ (v % 128 + 128) ∷ (groups 3 (v / 128) ++ rest) = rw (le-ltb v 128 t) at e in
        let h = head-is s at (v % 128 + 128) (groups 3 (v / 128) ++ rest) e' in
        let g = h.1 in
        let j : at + 1 + length (groups 3 (v / 128)) ≡ at + suc (length (groups 3 (v / 128))) = omega arith in
        let x : v % 128 + 128 * (v / 128) ≡ v = omega arith in
        rw (le-ltb v 128 t)
        (sym (read_first s at (v % 128) h.0 (omega arith) (omega arith))
        ∙ rest-reads 3 s rest (at + 1) 128 (v % 128) (v / 128) h.2 (omega arith) (omega arith)
        ∙ ap₂ (λ (a b : ℕ). value (a, b)) x j)

-- the last number of a message
pub number-reads-last : (s : List ℕ) (at v : ℕ) → v < 4294967296 → drop at s ≡ number v → number_at s at ≡ value (v, at + length (number v))
number-reads-last s at v m e = number-reads s [] at v m (e ∙ sym (append-nil (number v)))

-- two numbers that are the last of a message, and three
module _ (s : List ℕ) (at a b : ℕ) (small₁ : a < 4294967296) (small₂ : b < 4294967296) where
  two-reads : (rest : List ℕ) → drop at s ≡ number a ++ (number b ++ rest) → two_at s at ≡ value (a, b, at + length (number a) + length (number b))
  unfolding two_at
  two-reads rest d = rw (number-reads s (number b ++ rest) at a small₁ d, number-reads s rest (at + length (number a)) b small₂ (drop_past s (number a) (number b ++ rest) at d)) refl

  pub two-reads-last : drop at s ≡ number a ++ number b → two_at s at ≡ value (a, b, length s)
  two-reads-last d =
      let e = length-append (number a) (number b) in
      let z = size-some a in
      let l = ends_there s (number a ++ number b) at d (omega arith) in
      let f : at + length (number a) + length (number b) ≡ length s = omega arith in
      two-reads [] (d ∙ ap (λ (l : List ℕ). number a ++ l) (sym (append-nil (number b)))) ∙ ap (λ (n : ℕ). value (a, b, n)) f

  pub three-reads-last : (c : ℕ) → c < 4294967296 → drop at s ≡ number a ++ (number b ++ number c) → three_at s at ≡ value (a, b, c, length s)
  unfolding three_at
  three-reads-last c m d =
      let e = length-append (number a) (number b ++ number c) in
      let f = length-append (number b) (number c) in
      let z = size-some a in
      let l = ends_there s (number a ++ (number b ++ number c)) at d (omega arith) in
      let g : at + length (number a) + length (number b) + length (number c) ≡ length s = omega arith in
      rw (
        two-reads (number c) d,
        number-reads-last s (at + length (number a) + length (number b)) c m (drop_past s (number b) (number c) (at + length (number a)) (drop_past s (number a) (number b ++ number c) at d)),
        g,
      ) refl

-- numbers that stand one behind the other, whatever follows
pub numbers-read : (l s rest : List ℕ) (at : ℕ) → ((j : ℕ) → get_or l j 0 < 4294967296) → drop at s ≡ all_numbers l ++ rest → numbers_at (length l) s at ≡ value (l, at + length (all_numbers l))
unfolding all_numbers numbers_at
numbers-read [] s rest at m d = ap (λ (n : ℕ). value ([], n)) (let e : at ≡ at + 0 = omega arith in e)
numbers-read (v ∷ l) s rest at m d =
    let d' : drop at s ≡ number v ++ (all_numbers l ++ rest) = d ∙ append_assoc (number v) (all_numbers l) rest in
    let e = length-append (number v) (all_numbers l) in
    let f : at + length (number v) + length (all_numbers l) ≡ at + length (number v ++ all_numbers l) = omega arith in
    rw (
      number-reads s (all_numbers l ++ rest) at v (m 0) d',
      numbers-read l s rest (at + length (number v)) (λ j. m (suc j)) (drop_past s (number v) (all_numbers l ++ rest) at d'),
      f,
    ) refl

-- ---- nothing else is read to the same number
number_is : {v b x c : ℕ} → ◌≡◌ {A = Result (ℕ × ℕ)} (value (v, b)) (value (x, c)) → (v ≡ x) × (b ≡ c)
number_is e = let f = value-is e in (ap (λ (p : ℕ × ℕ). p.0) f, ap (λ (p : ℕ × ℕ). p.1) f)

-- the bytes from i on are the k + 1 groups at most of a number that raised the value from a to x, and end at b
record Raised (k : ℕ) (s : List ℕ) (i w a x b : ℕ) : Type 0 where
  v : ℕ
  some : 0 < v
  small : v < top k
  sums : x ≡ a + w * v
  ends : b ≡ i + length (groups k v)
  inside : b ≤ length s
  stands : drop i s ≡ groups k v ++ drop b s

last-stands : (s : List ℕ) (i x : ℕ) → i < length s → get_or s i 0 ≡ x → drop i s ≡ x ∷ drop (i + 1) s
last-stands s i x h e = drop-cons s i 0 h ∙ rw (e, add-one) refl

-- a byte with its top bit set, in front of the groups of u
groups-join : (k y u : ℕ) → 128 ≤ y → y < 256 → 0 < u → groups (suc k) (y - 128 + 128 * u) ≡ y ∷ groups k u
unfolding groups
groups-join k y u h m p =
    let e : (y - 128 + 128 * u) / 128 ≡ u = omega arith in
    let f : (y - 128 + 128 * u) % 128 + 128 ≡ y = omega arith in
    rw (le-ltb (y - 128 + 128 * u) 128 (omega arith), e, f) refl

top-some : (k : ℕ) → 1 ≤ top k
top-some zero = omega arith
top-some (suc k) = let h = top-some k in omega arith

module _ (k : ℕ) (s : List ℕ) (i w a x b : ℕ) (h : i < length s) where
  last-group : (get_or s i 0 ≡ 0 → ⊥) → get_or s i 0 < 128 → ◌≡◌ {A = Result (ℕ × ℕ)} (value (a + w * get_or s i 0, i + 1)) (value (x, b)) → Raised (suc k) s i w a x b
  unfolding groups
  last-group n l q =
      let o = number_is q in
      let p = o.1 in
      let t = top-some k in
      record {
        v = get_or s i 0;
        some = omega arith;
        small = omega arith;
        sums = sym o.0;
        ends = rw (lt-ltb (get_or s i 0) 128 l) (sym p);
        inside = omega arith;
        stands = rw (lt-ltb (get_or s i 0) 128 l) (last-stands s i (get_or s i 0) h refl ∙ ap (λ (j : ℕ). get_or s i 0 ∷ drop j s) p);
      }

  next-group : 128 ≤ get_or s i 0 → get_or s i 0 < 256 → Raised k s (i + 1) (w * 128) (a + w * (get_or s i 0 - 128)) x b → Raised (suc k) s i w a x b
  next-group l m r =
      let u = r.v in
      let p = r.some in
      let v = get_or s i 0 - 128 + 128 * u in
      let f = groups-join k (get_or s i 0) u l m p in
      record {
        v = v;
        some = omega arith;
        small = (let q = r.small in omega arith);
        sums = r.sums ∙ weighs a w (get_or s i 0 - 128) u;
        ends = rw f (let q = r.ends in omega arith);
        inside = r.inside;
        stands = rw f (last-stands s i (get_or s i 0) h refl ∙ ap (λ (t : List ℕ). get_or s i 0 ∷ t) r.stands);
      }

module _ (s : List ℕ) (bytes : Bytes s) where
  raised : (k i w a x b : ℕ) → next_byte k s i w a ≡ value (x, b) → Raised k s i w a x b
  unfolding next_byte groups
  raised zero i w a x b is =
      let (e, is₁) = unless-passed (ltb i (length s)) Truncated _ (x, b) is in
      let (f, is₂) = unless-passed (ltb 0 (get_or s i 0)) BadNumber _ (x, b) is₁ in
      let (g, is₃) = unless-passed (leb (get_or s i 0) 15) BadNumber _ (x, b) is₂ in
      let l = ltb-true i (length s) e in
      let n = ltb-true 0 (get_or s i 0) f in
      let m = leb-true (get_or s i 0) 15 g in
      let o = number_is is₃ in
      record {
        v = get_or s i 0;
        some = n;
        small = omega arith;
        sums = sym o.0;
        ends = sym o.1;
        inside = (let u = o.1 in omega arith);
        stands = last-stands s i (get_or s i 0) l refl ∙ ap (λ (j : ℕ). get_or s i 0 ∷ drop j s) o.1;
      }
  raised (suc k) i w a x b is =
      let (e, is₁) = unless-passed (ltb i (length s)) Truncated _ (x, b) is in
      let (f, is₂) = unless-passed (ltb 0 (get_or s i 0)) BadNumber _ (x, b) is₁ in
      let l = ltb-true i (length s) e in
      let n = ltb-true 0 (get_or s i 0) f in
      by-test (λ (r : Result (ℕ × ℕ)). r ≡ value (x, b) → Raised (suc k) s i w a x b) (ltb (get_or s i 0) 128)
      (λ g q. last-group k s i w a x b l (λ z. omega arith) (ltb-true (get_or s i 0) 128 g) q)
      (λ g q. next-group k s i w a x b l (ltb-false (get_or s i 0) 128 g) (bytes i) (raised k (i + 1) (w * 128) (a + w * (get_or s i 0 - 128)) x b q))
      is₂

-- what a reader that found v at a position, up to b, had before it
pub record NumberStands (s : List ℕ) (at v b : ℕ) : Type 0 where
  pub small : v < 4294967296
  pub ends : b ≡ at + length (number v)
  pub starts : at < b
  pub inside : b ≤ length s
  pub stands : drop at s ≡ number v ++ drop b s
  -- the bytes read are the number's own: nothing else reads to v
  pub form : take (b - at) (drop at s) ≡ number v
  -- and the bytes behind them were not looked at
  pub alone : (t : List ℕ) → number_at (take b s ++ t) at ≡ value (v, b)

drop-take : (s : List ℕ) (at b : ℕ) → at ≤ b → b ≤ length s → drop at (take b s) ≡ take (b - at) (drop at s)
drop-take s at b h k =
    let e : b ≡ at + (b - at) = omega arith in
    ap (λ (n : ℕ). drop at (take n s)) e ∙ ap (drop at) (take-add at (b - at) s) ∙ drop_at (take at s) (take (b - at) (drop at s)) at (length-take-le at s (omega arith))

stands-so : (s : List ℕ) (at v b : ℕ) → v < 4294967296 → b ≡ at + length (number v) → b ≤ length s → drop at s ≡ number v ++ drop b s → NumberStands s at v b
stands-so s at v b m e h d =
    let p = size-some v in
    let f : take (b - at) (drop at s) ≡ number v = ap (take (b - at)) d ∙ take_at (number v) (drop b s) (b - at) (omega arith) in
    record {
      small = m;
      ends = e;
      starts = omega arith;
      inside = h;
      stands = d;
      form = f;
      alone = λ t. number-reads (take b s ++ t) t at v m (drop-append-le at (take b s) t (let k = length-take-le b s h in omega arith) ∙ ap (λ (l : List ℕ). l ++ t) (drop-take s at b (omega arith) h ∙ f)) ∙ ap (λ (n : ℕ). value (v, n)) (sym e);
    }

module _ (s : List ℕ) (at v b : ℕ) (h : at < length s) where
  short-stands : get_or s at 0 < 128 → ◌≡◌ {A = Result (ℕ × ℕ)} (value (get_or s at 0, at + 1)) (value (v, b)) → NumberStands s at v b
  short-stands l q =
      let o = number_is q in
      let x = o.0 in
      let y = o.1 in
      let z = size-last v (omega arith) in
      stands-so s at v b (omega arith) (omega arith) (omega arith)
      (last-stands s at v h x ∙ ap (λ (j : ℕ). v ∷ drop j s) y ∙ ap (λ (l : List ℕ). l ++ drop b s) (sym (number-last v (omega arith))))

  long-stands : 128 ≤ get_or s at 0 → get_or s at 0 < 256 → Raised 3 s (at + 1) 128 (get_or s at 0 - 128) v b → NumberStands s at v b
  unfolding number
  long-stands l m r =
      let u = r.v in
      let p = r.some in
      let k = r.small in
      let x = r.sums in
      let f : number v ≡ get_or s at 0 ∷ groups 3 u = ap number x ∙ groups-join 3 (get_or s at 0) u l m p in
      let g : length (number v) ≡ suc (length (groups 3 u)) = ap length f in
      stands-so s at v b (omega arith) (let y = r.ends in omega arith) r.inside
      (last-stands s at (get_or s at 0) h refl ∙ ap (λ (t : List ℕ). get_or s at 0 ∷ t) r.stands ∙ ap (λ (t : List ℕ). t ++ drop b s) (sym f))

pub number-form : (s : List ℕ) (at v b : ℕ) → Bytes s → number_at s at ≡ value (v, b) → NumberStands s at v b
unfolding number_at
number-form s at v b bytes is =
    let (e, is₁) = unless-passed (ltb at (length s)) Truncated _ (v, b) is in
    let l = ltb-true at (length s) e in
    by-test (λ (r : Result (ℕ × ℕ)). r ≡ value (v, b) → NumberStands s at v b) (ltb (get_or s at 0) 128)
    (λ g q. short-stands s at v b l (ltb-true (get_or s at 0) 128 g) q)
    (λ g q. long-stands s at v b l (ltb-false (get_or s at 0) 128 g) (bytes at) (raised s bytes 3 (at + 1) 128 (get_or s at 0 - 128) v b q))
    is₁

-- the last number of a message
pub number-form-last : (s : List ℕ) (at v b : ℕ) → Bytes s → number_at s at ≡ value (v, b) → length s ≤ b → drop at s ≡ number v
number-form-last s at v b bytes e h = (number-form s at v b bytes e).stands ∙ ap (λ (l : List ℕ). number v ++ l) (drop_of_length-le s h) ∙ append-nil (number v)

-- what two numbers and three were read from
two-parts : (s : List ℕ) (at : ℕ) (p : ℕ × ℕ × ℕ) → two_at s at ≡ value p → (next : ℕ) × (number_at s at ≡ value (p.0, next)) × (number_at s next ≡ value (p.1, p.2))
unfolding two_at
two-parts s at p is =
    let (x, e, is₁) = then-passed (number_at s at) _ p is in
    let (y, f, is₂) = then-passed (number_at s x.1) _ p is₁ in
    let g = value-is is₂ in
    (x.1, e ∙ ap (λ (z : ℕ × ℕ × ℕ). value (z.0, x.1)) g, f ∙ ap (λ (z : ℕ × ℕ × ℕ). value (z.1, z.2)) g)

three-parts : (s : List ℕ) (at : ℕ) (p : ℕ × ℕ × ℕ × ℕ) → three_at s at ≡ value p → (next : ℕ) × (two_at s at ≡ value (p.0, p.1, next)) × (number_at s next ≡ value (p.2, p.3))
unfolding three_at
three-parts s at p is =
    let (x, e, is₁) = then-passed (two_at s at) _ p is in
    let (y, f, is₂) = then-passed (number_at s x.2) _ p is₁ in
    let g = value-is is₂ in
    (x.2, e ∙ ap (λ (z : ℕ × ℕ × ℕ × ℕ). value (z.0, z.1, x.2)) g, f ∙ ap (λ (z : ℕ × ℕ × ℕ × ℕ). value (z.2, z.3)) g)

module _ (s : List ℕ) (bytes : Bytes s) (at : ℕ) where
  two-form : (p : ℕ × ℕ × ℕ) → two_at s at ≡ value p → drop at s ≡ number p.0 ++ (number p.1 ++ drop p.2 s)
  two-form p is =
      let (next, e, f) = two-parts s at p is in
      (number-form s at p.0 next bytes e).stands ∙ ap (λ (l : List ℕ). number p.0 ++ l) (number-form s next p.1 p.2 bytes f).stands

  pub two-form-last : (p : ℕ × ℕ × ℕ) → two_at s at ≡ value p → length s ≤ p.2 → drop at s ≡ number p.0 ++ number p.1
  two-form-last p is h = two-form p is ∙ ap (λ (l : List ℕ). number p.0 ++ (number p.1 ++ l)) (drop_of_length-le s h) ∙ ap (λ (l : List ℕ). number p.0 ++ l) (append-nil (number p.1))

  -- the third is below 2^32, as each is
  pub three-form-last : (p : ℕ × ℕ × ℕ × ℕ) → three_at s at ≡ value p → length s ≤ p.3 → (drop at s ≡ number p.0 ++ (number p.1 ++ number p.2)) × (p.2 < 4294967296)
  three-form-last p is h =
      let (next, e, f) = three-parts s at p is in (
        two-form (p.0, p.1, next) e ∙ ap (λ (l : List ℕ). number p.0 ++ (number p.1 ++ l)) (number-form-last s next p.2 p.3 bytes f h),
        (number-form s next p.2 p.3 bytes f).small,
      )

-- what numbers, one behind the other, were read from
pub record NumbersStand (k : ℕ) (s : List ℕ) (at : ℕ) (l : List ℕ) (b : ℕ) : Type 0 where
  pub many : length l ≡ k
  pub stands : Bytes s → drop at s ≡ all_numbers l ++ drop b s

pub numbers-form : (k : ℕ) (s : List ℕ) (at : ℕ) (p : List ℕ × ℕ) → numbers_at k s at ≡ value p → NumbersStand k s at p.0 p.1
unfolding numbers_at all_numbers
numbers-form zero s at p is = rw (← value-is is) (record { many = refl; stands = λ bytes. refl })
numbers-form (suc k) s at p is =
    let (x, e, is₁) = then-passed (number_at s at) _ p is in
    let (y, f, is₂) = then-passed (numbers_at k s x.1) _ p is₁ in
    let r = numbers-form k s x.1 y f in
    rw (← value-is is₂) (record {
      many = ap suc r.many;
      stands = λ bytes. (number-form s at x.0 x.1 bytes e).stands ∙ ap (λ (l : List ℕ). number x.0 ++ l) (r.stands bytes) ∙ sym (append_assoc (number x.0) (all_numbers y.0) (drop y.1 s));
    })

-- a number ends by the end of the message, whatever its elements
next-inside : (k : ℕ) (s : List ℕ) (i w a x b : ℕ) → next_byte k s i w a ≡ value (x, b) → (i < b) × (b ≤ length s)
unfolding next_byte
next-inside zero s i w a x b is =
    let (e, is₁) = unless-passed (ltb i (length s)) Truncated _ (x, b) is in
    let (f, is₂) = unless-passed (ltb 0 (get_or s i 0)) BadNumber _ (x, b) is₁ in
    let (g, is₃) = unless-passed (leb (get_or s i 0) 15) BadNumber _ (x, b) is₂ in
    let l = ltb-true i (length s) e in
    let o = (number_is is₃).1 in
    (omega arith, omega arith)
next-inside (suc k) s i w a x b is =
    let (e, is₁) = unless-passed (ltb i (length s)) Truncated _ (x, b) is in
    let (f, is₂) = unless-passed (ltb 0 (get_or s i 0)) BadNumber _ (x, b) is₁ in
    let l = ltb-true i (length s) e in
    by-test (λ (r : Result (ℕ × ℕ)). r ≡ value (x, b) → (i < b) × (b ≤ length s)) (ltb (get_or s i 0) 128)
    (λ g q. let o = (number_is q).1 in (omega arith, omega arith))
    (λ g q. let h = next-inside k s (i + 1) (w * 128) (a + w * (get_or s i 0 - 128)) x b q in (omega arith, h.1))
    is₂

pub number-inside : (s : List ℕ) (at v b : ℕ) → number_at s at ≡ value (v, b) → (at < b) × (b ≤ length s)
unfolding number_at
number-inside s at v b is =
    let (e, is₁) = unless-passed (ltb at (length s)) Truncated _ (v, b) is in
    let l = ltb-true at (length s) e in
    by-test (λ (r : Result (ℕ × ℕ)). r ≡ value (v, b) → (at < b) × (b ≤ length s)) (ltb (get_or s at 0) 128)
    (λ g q. let o = (number_is q).1 in (omega arith, omega arith))
    (λ g q. let h = next-inside 3 s (at + 1) 128 (get_or s at 0 - 128) v b q in (omega arith, h.1))
    is₁

-- ---- where the message ends inside the number
drop-end : (s : List ℕ) (i : ℕ) → drop i s ≡ [] → length s ≤ i
drop-end s i d = let e = length-drop i s in let f : length (drop i s) ≡ 0 = ap length d in omega arith

rest-cut : (k : ℕ) (s : List ℕ) (i w a v j : ℕ) → drop i s ≡ take j (groups k v) → j < length (groups k v) → next_byte k s i w a ≡ refusal (refusal_number Truncated)
unfolding groups
rest-cut k s i w a v zero d h = read-cut s k i w a (drop-end s i d)
rest-cut zero s i w a v (suc j) d h = absurd (omega arith)
rest-cut (suc k) s i w a v (suc j) d h = go (dec_lt v 128) (rest-cut k s (i + 1) (w * 128) (a + w * (v % 128)) (v / 128) j)
  where
    go : Dec (v < 128) → (drop (i + 1) s ≡ take j (groups k (v / 128)) → j < length (groups k (v / 128)) → next_byte k s (i + 1) (w * 128) (a + w * (v % 128)) ≡ refusal (refusal_number Truncated))
        → next_byte (suc k) s i w a ≡ refusal (refusal_number Truncated)
    go (yes l) rec = let h' : suc j < 1 = rw (lt-ltb v 128 l) at h in absurd (omega arith)
    go (no l) rec =
        let t : 128 ≤ v = omega arith in
        let d' : drop i s ≡ (v % 128 + 128) ∷ take j (groups k (v / 128)) = rw (le-ltb v 128 t) at d in
        let h' : suc j < suc (length (groups k (v / 128))) = rw (le-ltb v 128 t) at h in
        let f = head-is s i (v % 128 + 128) (take j (groups k (v / 128))) d' in
        let g = f.1 in
        let m : suc k - 1 ≡ k = omega arith in
        let n : get_or s i 0 - 128 ≡ v % 128 = omega arith in
        read_next s (suc k) i w a (omega arith) f.0 (λ z. omega arith) (omega arith)
        ∙ ap₂ (λ (x y : ℕ). next_byte x s (i + 1) (w * 128) (a + w * y)) m n
        ∙ rec f.2 (omega arith)

-- the first j bytes of a number, fewer than all, and then the end: 4
pub number_cut : (s : List ℕ) (at v j : ℕ) → drop at s ≡ take j (number v) → j < length (number v) → number_at s at ≡ refusal (refusal_number Truncated)
unfolding number groups
number_cut s at v zero d h = read_none s at (drop-end s at d)
number_cut s at v (suc j) d h = go (dec_lt v 128)
  where
    go : Dec (v < 128) → number_at s at ≡ refusal (refusal_number Truncated)
    go (yes l) = let h' : suc j < 1 = rw (lt-ltb v 128 l) at h in absurd (omega arith)
    go (no l) =
        let t : 128 ≤ v = omega arith in
        let d' : drop at s ≡ (v % 128 + 128) ∷ take j (groups 3 (v / 128)) = rw (le-ltb v 128 t) at d in
        let h' : suc j < suc (length (groups 3 (v / 128))) = rw (le-ltb v 128 t) at h in
        let f = head-is s at (v % 128 + 128) (take j (groups 3 (v / 128))) d' in
        let g = f.1 in
        sym (read_first s at (v % 128) f.0 (omega arith) (omega arith)) ∙ rest-cut 3 s (at + 1) 128 (v % 128) (v / 128) j f.2 (omega arith)
