-- Laws of numbers and bits, and of the list of all strings of one syndrome.
use Rattle.std.specs.Prelude.{◌≡◌, Bool, eqb}
use Rattle.std.proofs.Math.Path.{refl, ap}
use Rattle.std.proofs.Common.{sym, ap₂, ◌∙◌, subst, pow-suc, length-append}
use Rattle.std.proofs.Math.Bool.{true, false, cond}
use Rattle.std.proofs.Math.Logic.{◌⊎◌, ⊎_elim, ite}
use mathlib.Core.List.Memᴰ
use mathlib.Core.List.{List, [], ◌∷◌, ◌++◌, map, filter, Memᴰ}
use Prim.Native.Nat.{ℕ, zero, suc, ◌+◌, ◌-◌, ◌*◌, ◌/◌, ◌%◌, ◌^◌, ◌≤◌, ◌<◌}
use Rattle.std.proofs.Math.Decide.{ℕ_discrete}
use native.Mathlib.Omega.{arith}
use Rattle.std.proofs.Math.ListN.{length}
use Rattle.std.proofs.lemmas.List.{length-map}
use Rattle.std.proofs.lemmas.List.Edits.{sets}
use mir.Val.{bool_byte}
use borrow.Author.Tests.{le-leb, lt-leb, eq-eqb, ne_eqb, eqb-true}
use Rattle.strings.specs.Bits.{at_front}
use Rattle.strings.specs.Refusals.{refusal_number}
use Rattle.strings.specs.Results.{refusal, value}
use Rattle.strings.specs.declared.Refusal.TheVariants.{OutOfRange, ListTooShort}
use Rattle.strings.specs.laws.StoreLaws.{sets-front}
use Rattle.codes.specs.Syndrome.{syndrome}
use Rattle.codes.specs.Counting.{strings, of_syndrome}
use Rattle.codes.specs.Listing.{number_of, bits_of, listing, Rising, list_range, list_call, list_outcome}
use Rattle.codes.specs.code.Linking.{kept, list_from}

-- ---- numbers and bits
pub length-bits : (n v : ℕ) → length (bits_of n v) ≡ n
unfolding bits_of
length-bits zero v = refl
length-bits (suc n) v = length-append (bits_of n (v / 2)) (eqb (v % 2) 1 ∷ []) ∙ (let h = length-bits n (v / 2) in omega arith)

pub number-below : (l : List Bool) → number_of l < 2 ^ length l
unfolding number_of
number-below [] = omega arith
number-below (true ∷ l) = let h = number-below l in let p = pow-suc 2 (length l) in omega arith
number-below (false ∷ l) = let h = number-below l in let p = pow-suc 2 (length l) in omega arith

-- one more digit
pub number-snoc : (l : List Bool) (b : Bool) → number_of (l ++ (b ∷ [])) ≡ 2 * number_of l + bool_byte b
unfolding number_of
number-snoc [] true = refl
number-snoc [] false = refl
number-snoc (true ∷ l) b =
    let i = number-snoc l b in
    let e : length (l ++ (b ∷ [])) ≡ suc (length l) = length-append l (b ∷ []) ∙ omega arith in
    let f = ap (λ (k : ℕ). 2 ^ k) e in
    let p = pow-suc 2 (length l) in
    omega arith
number-snoc (false ∷ l) b = number-snoc l b

pub odd_byte : (v : ℕ) → bool_byte (eqb (v % 2) 1) ≡ v % 2
odd_byte v = go (ℕ_discrete (v % 2) 1)
  where
    go : Dec (v % 2 ≡ 1) → bool_byte (eqb (v % 2) 1) ≡ v % 2
    go (yes e) = rw (eq-eqb (v % 2) 1 e) (sym e)
    go (no e) = rw (ne_eqb (v % 2) 1 e) (omega arith)

pub number-none : number_of [] ≡ 0
unfolding number_of
number-none = refl

-- the number of a number's bits is the number
pub number-bits : (n v : ℕ) → v < 2 ^ n → number_of (bits_of n v) ≡ v
unfolding bits_of
number-bits zero v h = number-none ∙ omega arith
number-bits (suc n) v h =
    let q = pow-suc 2 n in
    let i = number-bits n (v / 2) (omega arith) in
    let b = odd_byte v in
    number-snoc (bits_of n (v / 2)) (eqb (v % 2) 1) ∙ omega arith

-- strings of the same length with the same number are the same
same_number : (l m : List Bool) → length l ≡ length m → number_of l ≡ number_of m → l ≡ m
unfolding number_of
same_number [] [] e f = refl
same_number [] (c ∷ m) e f = absurd (omega arith)
same_number (b ∷ l) [] e f = absurd (omega arith)
same_number (true ∷ l) (true ∷ m) e f =
    let k : length l ≡ length m = omega arith in
    let p = ap (λ (x : ℕ). 2 ^ x) k in
    ap (λ (x : List Bool). true ∷ x) (same_number l m k (omega arith))
same_number (true ∷ l) (false ∷ m) e f =
    let p = ap (λ (x : ℕ). 2 ^ x) {x = length l} {y = length m} (omega arith) in
    let h = number-below m in
    absurd (omega arith)
same_number (false ∷ l) (true ∷ m) e f =
    let p = ap (λ (x : ℕ). 2 ^ x) {x = length l} {y = length m} (omega arith) in
    let h = number-below l in
    absurd (omega arith)
same_number (false ∷ l) (false ∷ m) e f = ap (λ (x : List Bool). false ∷ x) (same_number l m (omega arith) f)

-- the bits of a string's number are the string
pub bits-number : (l : List Bool) → bits_of (length l) (number_of l) ≡ l
bits-number l =
    same_number (bits_of (length l) (number_of l)) l (length-bits (length l) (number_of l)) (number-bits (length l) (number_of l) (number-below l))

-- ---- the list is the numbers counted up, of which those are kept whose bits have the syndrome
-- the strings have n bits and the numbers v, v + 1, .. w - 1
abbrev Numbered : (n v w : ℕ) → List (List Bool) → Type 0
Numbered n v w [] = v ≡ w
Numbered n v w (x ∷ xs) = (length x ≡ n) × (number_of x ≡ v) × Numbered n (suc v) w xs

numbered-most : (n v w : ℕ) (xs : List (List Bool)) → Numbered n v w xs → v ≤ w
numbered-most n v w [] e = omega arith
numbered-most n v w (x ∷ xs) s = let h = numbered-most n (suc v) w xs s.2 in omega arith

numbered-append : (n u v w : ℕ) (xs ys : List (List Bool)) → Numbered n u v xs → Numbered n v w ys → Numbered n u w (xs ++ ys)
numbered-append n u v w [] ys s t = subst (λ (x : ℕ). Numbered n x w ys) (sym s) t
numbered-append n u v w (x ∷ xs) ys s t = (s.0, s.1, numbered-append n (suc u) v w xs ys s.2 t)

numbered-zero : (n v w : ℕ) (xs : List (List Bool)) → Numbered n v w xs → Numbered (suc n) v w (map (λ (x : List Bool). false ∷ x) xs)
unfolding number_of
numbered-zero n v w [] s = s
numbered-zero n v w (x ∷ xs) s = (ap suc s.0, s.1, numbered-zero n (suc v) w xs s.2)

numbered-one : (n u v w : ℕ) (xs : List (List Bool)) → u ≡ 2 ^ n + v → Numbered n v w xs → Numbered (suc n) u (2 ^ n + w) (map (λ (x : List Bool). true ∷ x) xs)
unfolding number_of
numbered-one n u v w [] e s = omega arith
numbered-one n u v w (x ∷ xs) e s =
    let p = ap (λ (k : ℕ). 2 ^ k) s.0 in
    let q = s.1 in
    (ap suc s.0, omega arith, numbered-one n (suc u) (suc v) w xs (omega arith) s.2)

strings-numbered : (n : ℕ) → Numbered n 0 (2 ^ n) (strings n)
unfolding strings number_of
strings-numbered zero = (refl, refl, refl)
strings-numbered (suc n) =
    let p = pow-suc 2 n in
    let xs = map (λ (x : List Bool). false ∷ x) (strings n) in
    let ys = map (λ (x : List Bool). true ∷ x) (strings n) in
    let t : Numbered (suc n) (2 ^ n) (2 ^ n + 2 ^ n) ys = numbered-one n (2 ^ n) 0 (2 ^ n) (strings n) (omega arith) (strings-numbered n) in
    let e : 2 ^ n + 2 ^ n ≡ 2 ^ suc n = omega arith in
    numbered-append (suc n) 0 (2 ^ n) (2 ^ suc n) xs ys (numbered-zero n 0 (2 ^ n) (strings n) (strings-numbered n))
    (subst (λ (w : ℕ). Numbered (suc n) (2 ^ n) w ys) e t)

filtered : (n a v w : ℕ) (xs : List (List Bool)) → Numbered n v w xs
    → map number_of (filter {p = λ (x : List Bool). syndrome x ≡ a} (λ x. ℕ_discrete (syndrome x) a) xs) ≡ list_from n a (w - v) v
unfolding kept
filtered n a v w [] s = ap (λ (c : ℕ). list_from n a c v) {x = 0} {y = w - v} (omega arith)
filtered n a v w (x ∷ xs) s =
    go (ℕ_discrete (syndrome x) a) _ _ (filtered n a (suc v) w xs s.2)
    ∙ ap (λ (c : ℕ). list_from n a c v) {x = suc (w - suc v)} {y = w - v} (let h = numbered-most n (suc v) w xs s.2 in omega arith)
  where
    bits : bits_of n v ≡ x
    bits = ap₂ bits_of (sym s.0) (sym s.1) ∙ bits-number x

    go : (d : Dec (syndrome x ≡ a)) (kept : List (List Bool)) (later : List ℕ) → map number_of kept ≡ later
        → map number_of (ite {C = List (List Bool)} d (x ∷ kept) kept) ≡ cond (eqb (syndrome (bits_of n v)) a) (v ∷ later) later
    go (yes h) kept later i = rw (eq-eqb (syndrome (bits_of n v)) a (ap syndrome bits ∙ h)) (ap₂ (λ (y : ℕ) (l : List ℕ). y ∷ l) s.1 i)
    go (no h) kept later i = rw (ne_eqb (syndrome (bits_of n v)) a (λ e. h (sym (ap syndrome bits) ∙ e))) i

pub listing-from : (n a : ℕ) → listing n a ≡ list_from n a (2 ^ n) 0
unfolding listing of_syndrome
listing-from n a = filtered n a 0 (2 ^ n) (strings n) (strings-numbered n) ∙ ap (λ (c : ℕ). list_from n a c 0) {x = 2 ^ n - 0} {y = 2 ^ n} (omega arith)

-- ---- numbers that are kept: rising, all that pass the test, and no others
module _ (test : ℕ → Bool) where
  rising-front : (count v x : ℕ) → x < v → Rising (kept test count v) → Rising (x ∷ kept test count v)
  unfolding kept
  rising-front zero v x h s = tt
  rising-front (suc count) v x h s = go (test v) (kept test count (suc v)) (rising-front count (suc v) x (omega arith)) s
    where
      go : (t : Bool) (later : List ℕ) → (Rising later → Rising (x ∷ later)) → Rising (cond t (v ∷ later) later) → Rising (x ∷ cond t (v ∷ later) later)
      go true later i s = (h, s)
      go false later i s = i s

  kept-rising : (count v : ℕ) → Rising (kept test count v)
  unfolding kept
  kept-rising zero v = tt
  kept-rising (suc count) v = go (test v) (kept test count (suc v)) (kept-rising count (suc v)) (rising-front count (suc v) v (omega arith))
    where
      go : (t : Bool) (later : List ℕ) → Rising later → (Rising later → Rising (v ∷ later)) → Rising (cond t (v ∷ later) later)
      go true later s f = f s
      go false later s f = s

  kept-right : (count v x : ℕ) → Memᴰ x (kept test count v) → (x < v + count) × (test x ≡ true)
  unfolding kept
  kept-right zero v x m = absurd (Memᴰ.not-nil m)
  kept-right (suc count) v x m = go (test v) (kept test count (suc v)) refl (λ k. let r = kept-right count (suc v) x k in let h = r.0 in (omega arith, r.1)) m
    where
      go : (t : Bool) (later : List ℕ) → test v ≡ t → (Memᴰ x later → (x < v + suc count) × (test x ≡ true)) → Memᴰ x (cond t (v ∷ later) later)
          → (x < v + suc count) × (test x ≡ true)
      go true later e i m = ⊎_elim (λ q. (omega arith, ap test q ∙ e)) i (Memᴰ.cases_cons m)
      go false later e i m = i m

  kept-all : (count v x : ℕ) → v ≤ x → x < v + count → test x ≡ true → Memᴰ x (kept test count v)
  unfolding kept
  kept-all zero v x h k e = absurd (omega arith)
  kept-all (suc count) v x h k e = go (ℕ_discrete x v) (kept test count (suc v)) (λ l. kept-all count (suc v) x l (omega arith) e)
    where
      keep : (t : Bool) (later : List ℕ) → Memᴰ x later → Memᴰ x (cond t (v ∷ later) later)
      keep true later m = Memᴰ.tail m
      keep false later m = m

      go : Dec (x ≡ v) → (later : List ℕ) → (suc v ≤ x → Memᴰ x later) → Memᴰ x (cond (test v) (v ∷ later) later)
      go (yes q) later i = subst (λ (t : Bool). Memᴰ x (cond t (v ∷ later) later)) (sym e ∙ ap test q) (Memᴰ.head q)
      go (no q) later i = keep (test v) later (i (omega arith))

  pub kept-most : (count v : ℕ) → length (kept test count v) ≤ count
  unfolding kept
  kept-most zero v = omega arith
  kept-most (suc count) v = go (test v) (kept test count (suc v)) (kept-most count (suc v))
    where
      go : (t : Bool) (later : List ℕ) → length later ≤ count → length (cond t (v ∷ later) later) ≤ suc count
      go true later h = omega arith
      go false later h = omega arith

-- ---- the list is rising, so each number stands in it once
pub listing-rising : (n a : ℕ) → Rising (listing n a)
listing-rising n a = subst Rising (sym (listing-from n a)) (kept-rising (λ (x : ℕ). eqb (syndrome (bits_of n x)) a) (2 ^ n) 0)

pub rising-later : (x : ℕ) (l : List ℕ) → Rising (x ∷ l) → (y : ℕ) → Memᴰ y l → x < y
rising-later x [] s y m = absurd (Memᴰ.not-nil m)
rising-later x (z ∷ l) s y m =
    let h = s.0 in
    ⊎_elim (λ e. omega arith) (λ k. let g = rising-later z l s.1 y k in omega arith) (Memᴰ.cases_cons m)

-- ---- a number is in the list exactly if it is below 2 ^ n and its bits have the syndrome
pub listing-right : (n a x : ℕ) → Memᴰ x (listing n a) → (x < 2 ^ n) × (syndrome (bits_of n x) ≡ a)
listing-right n a x m =
    let r = kept-right (λ (y : ℕ). eqb (syndrome (bits_of n y)) a) (2 ^ n) 0 x (subst (Memᴰ x) (listing-from n a) m) in
    let h = r.0 in
    (omega arith, eqb-true (syndrome (bits_of n x)) a r.1)

pub listing-all : (n a x : ℕ) → x < 2 ^ n → syndrome (bits_of n x) ≡ a → Memᴰ x (listing n a)
listing-all n a x h e =
    subst (Memᴰ x) (sym (listing-from n a)) (kept-all (λ (y : ℕ). eqb (syndrome (bits_of n y)) a) (2 ^ n) 0 x (omega arith) (omega arith) (eq-eqb (syndrome (bits_of n x)) a e))

-- ---- the count
pub listing-count : (n a : ℕ) → length (listing n a) ≡ length (of_syndrome n a)
unfolding listing
listing-count n a = length-map (of_syndrome n a) number_of

pub listing-most : (n a : ℕ) → length (listing n a) ≤ 2 ^ n
listing-most n a = let e = ap length (listing-from n a) in let h = kept-most (λ (x : ℕ). eqb (syndrome (bits_of n x)) a) (2 ^ n) 0 in omega arith

-- ---- tests and returns of the call
module _ (n a : ℕ) where
  pub list-range-long : 20 < n → list_range n a ≡ false
  unfolding list_range
  list-range-long h = rw (lt-leb n 20 h) refl

  pub list-range-above : n ≤ 20 → n < a → list_range n a ≡ false
  unfolding list_range
  list-range-above h k = rw (le-leb n 20 h, lt-leb a n k) refl

  pub list-range-out : (20 < n) ⊎ ((n ≤ 20) × (n < a)) → list_range n a ≡ false
  list-range-out = ⊎_elim list-range-long (λ h. list-range-above h.0 h.1)

  pub list-range-in : n ≤ 20 → a ≤ n → list_range n a ≡ true
  unfolding list_range
  list-range-in h k = rw (le-leb n 20 h, le-leb a n k) refl

  module _ (out : List ℕ) where
    pub list-out-of-range : list_range n a ≡ false → record { answer = refusal (refusal_number OutOfRange); buffer = out } ≡ list_outcome n a out
    unfolding list_call
    list-out-of-range e = rw e refl

    pub list-too-short : list_range n a ≡ true → length out < length (listing n a) → record { answer = refusal (refusal_number ListTooShort); buffer = out } ≡ list_outcome n a out
    unfolding list_call
    list-too-short e h = rw (e, lt-leb (length (listing n a)) (length out) h) refl

    -- the count is the list's length
    pub list_done : list_range n a ≡ true → length (listing n a) ≤ length out → record { answer = value (length (listing n a)); buffer = at_front (listing n a) out } ≡ list_outcome n a out
    unfolding list_call
    list_done e h = rw (e, le-leb (length (listing n a)) (length out) h) refl

    -- of a list stored from the first entry on
    pub list-stored : (k : ℕ) (out' : List ℕ) → list_range n a ≡ true → k ≡ length (listing n a) → k ≤ length out → out' ≡ sets out 0 (listing n a)
        → record { answer = value k; buffer = out' } ≡ list_outcome n a out
    list-stored k out' e f h g =
        let l : length (listing n a) ≤ length out = omega arith in
        ap₂ (λ (x : ℕ) (y : List ℕ). record { answer = value x; buffer = y }) f (g ∙ sets-front out (listing n a) l) ∙ list_done e l
