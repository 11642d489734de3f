-- Laws for the functions that find a place: the steps of their scans, and what they compute from the numbers that they hold.
use Rattle.std.specs.Prelude.{◌≡◌, Option, Some, None, SomeIff, IfSome, unwrap_or, Bool, not, List, [], ◌∷◌, ◌++◌, take, drop, get_or, leb}
use Rattle.std.proofs.Math.Path.{refl, sym, ap, ap₂}
use Rattle.std.proofs.Common.{◌∙◌, subst, add-zero, zero-add, zero-mul, suc-mul, mod-lt, mod-eq_of_lt, div-add-mod', length-drop, drop-cons, drop-drop}
use Rattle.std.proofs.Math.Bool.{true, false, cond, beq}
use Rattle.std.proofs.Math.Option.{none, some}
use Prim.Native.Nat.{ℕ, zero, suc, ◌+◌, ◌-◌, ◌*◌, ◌/◌, ◌%◌, ◌≤◌, ◌<◌}
use Rattle.std.proofs.Math.Nat.{mod-add-mod, add-mod_right, add-mul-mod_self_right, mul-add-mod_self_right}
use Rattle.std.proofs.Math.Decide.{dec_lt, ℕ_discrete}
use native.Mathlib.Omega.{arith}
use Rattle.std.proofs.Math.ListN.{length}
use Rattle.std.proofs.Math.Dec.{eqb}
use borrow.Author.Tests.{le-leb, lt-leb, leb-true, eq-eqb, ne_eqb, eqb-true, eqb-false}
use mir.Val.{bool_byte}
use Rattle.std.specs.Bool.{then_some}
use Rattle.std.proofs.lemmas.List.{get_or_default, get_or_past}
use Rattle.strings.specs.Bits.{range, byte_bits, differs, Eight}
use Rattle.strings.specs.laws.Tests.{true-false}
use Rattle.strings.proofs.laws.RangeLaws.{rest, range-add}
use Rattle.codes.specs.Syndrome.{weighted_sum, syndrome}
use Rattle.codes.specs.laws.SyndromeLaws.{weighted-sum-without, ones-next, ones-zeros, ones-append, ones-drop, ones-drop-most, place-ones, syndrome-most}
use Rattle.codes.specs.Repair.{without, take_out}
use Rattle.codes.specs.laws.RepairLaws.{zero-place-ones, length_without, without-deletion, take-out-unique, take-out-no}
use Rattle.codes.specs.code.Sums.{Residue}
use Rattle.codes.specs.code.Place.{ones, zeros, zero_place, one_place, count_of, place_after, other_after, lack, put_bit, put_place, first_take, take_place, zero_fall, one_fall, Falls, FirstFall}

-- ---- the place of a 0
pub zero-place-stop : (r : ℕ) (l : List Bool) → ones l ≤ r → zero_place r l ≡ 0
zero-place-stop r [] h = refl
zero-place-stop r (b ∷ l) h = rw (le-leb (ones (b ∷ l)) r h) refl

pub zero-place-next : (r : ℕ) (l l' : List Bool) (b : Bool) → l ≡ b ∷ l' → r < ones l → zero_place r l ≡ suc (zero_place r l')
zero-place-next r l l' b e h = let h' : r < ones (b ∷ l') = rw e at h in rw (e, lt-leb (ones (b ∷ l')) r h') refl

-- bits are passed together where more than r ones stand behind them
pub zero-place-pass : (r : ℕ) (l m : List Bool) → r < ones m → zero_place r (l ++ m) ≡ length l + zero_place r m
zero-place-pass r [] m h = sym (zero-add (zero_place r m))
zero-place-pass r (b ∷ l) m h =
    let o = ones-append (b ∷ l) m in
    let e = zero-place-next r (b ∷ (l ++ m)) (l ++ m) b refl (omega arith) in
    let f = zero-place-pass r l m h in
    omega arith

-- ---- the place of a 1
pub one-place-stop : (z : ℕ) (l : List Bool) → z ≡ 0 → one_place z l ≡ 0
one-place-stop z l e = rw e refl

pub one-place-empty : (z : ℕ) → one_place z [] ≡ 0
one-place-empty zero = refl
one-place-empty (suc z) = refl

one-place-one : (z : ℕ) (l l' : List Bool) → l ≡ true ∷ l' → (z ≡ 0 → ⊥) → one_place z l ≡ suc (one_place z l')
one-place-one zero l l' e h = absurd (h refl)
one-place-one (suc z) l l' e h = rw e refl

one-place-zero : (z : ℕ) (l l' : List Bool) → l ≡ false ∷ l' → (z ≡ 0 → ⊥) → one_place z l ≡ suc (one_place (z - 1) l')
one-place-zero zero l l' e h = absurd (h refl)
one-place-zero (suc z) l l' e h = let q : suc z - 1 ≡ z = omega arith in rw (e, q) refl

pub one-place-next : (z : ℕ) (l l' : List Bool) (b : Bool) → l ≡ b ∷ l' → (z ≡ 0 → ⊥) → one_place z l ≡ suc (one_place (z - bool_byte (not b)) l')
one-place-next z l l' true e h = one-place-one z l l' e h ∙ ap (λ (x : ℕ). suc (one_place x l')) (let q : z ≡ z - 0 = omega arith in q)
one-place-next z l l' false e h = one-place-zero z l l' e h

-- bits are passed together where they have fewer zeros than are to be passed
pub one-place-pass : (z : ℕ) (l m : List Bool) → zeros l < z → one_place z (l ++ m) ≡ length l + one_place (z - zeros l) m
one-place-pass z [] m h = let q : z ≡ z - 0 = omega arith in ap (λ (x : ℕ). one_place x m) q ∙ sym (zero-add (one_place (z - 0) m))
one-place-pass z (true ∷ l) m h =
    let e = one-place-one z (true ∷ (l ++ m)) (l ++ m) refl (λ q. omega arith) in
    let f = one-place-pass z l m h in
    omega arith
one-place-pass z (false ∷ l) m h =
    let e = one-place-zero z (false ∷ (l ++ m)) (l ++ m) refl (λ q. omega arith) in
    let f = one-place-pass (z - 1) l m (omega arith) in
    let q : z - 1 - zeros l ≡ z - suc (zeros l) = omega arith in
    let g = ap (λ (x : ℕ). one_place x m) q in
    omega arith

-- ---- the place with k bits b before it
pub place-after-stop : (b : Bool) (k : ℕ) (l : List Bool) → k ≡ 0 → place_after b k l ≡ 0
place-after-stop b k l e = rw e refl

pub place-after-empty : (b : Bool) (k : ℕ) → place_after b k [] ≡ 0
place-after-empty b zero = refl
place-after-empty b (suc k) = refl

pub place-after-next : (b : Bool) (k : ℕ) (l l' : List Bool) (x : Bool) → l ≡ x ∷ l' → (k ≡ 0 → ⊥) → place_after b k l ≡ suc (place_after b (k - bool_byte (beq x b)) l')
place-after-next b zero l l' x e h = absurd (h refl)
place-after-next true (suc k) l l' true e h = rw e (ap (λ (n : ℕ). suc (place_after true n l')) (let q : k ≡ suc k - 1 = omega arith in q))
place-after-next true (suc k) l l' false e h = rw e (ap (λ (n : ℕ). suc (place_after true n l')) (let q : suc k ≡ suc k - 0 = omega arith in q))
place-after-next false (suc k) l l' true e h = rw e (ap (λ (n : ℕ). suc (place_after false n l')) (let q : suc k ≡ suc k - 0 = omega arith in q))
place-after-next false (suc k) l l' false e h = rw e (ap (λ (n : ℕ). suc (place_after false n l')) (let q : k ≡ suc k - 1 = omega arith in q))

pub count-next : (b x : Bool) (l : List Bool) → count_of b (x ∷ l) ≡ bool_byte (beq x b) + count_of b l
count-next true true l = omega arith
count-next true false l = omega arith
count-next false true l = omega arith
count-next false false l = omega arith

pub one-place-after : (z : ℕ) (l : List Bool) → place_after false z l ≡ one_place z l
one-place-after zero l = refl
one-place-after (suc z) [] = refl
one-place-after (suc z) (true ∷ l) = ap suc (one-place-after (suc z) l)
one-place-after (suc z) (false ∷ l) = ap suc (one-place-after z l)

pub zero-place-after : (r : ℕ) (l : List Bool) → place_after true (ones l - r) l ≡ zero_place r l
zero-place-after r [] = ap (λ (n : ℕ). place_after true n []) (let q : 0 - r ≡ 0 = omega arith in q)
zero-place-after r (x ∷ l) = go (dec_lt r (ones (x ∷ l))) (zero-place-after r l)
  where
    go : Dec (r < ones (x ∷ l)) → place_after true (ones l - r) l ≡ zero_place r l → place_after true (ones (x ∷ l) - r) (x ∷ l) ≡ zero_place r (x ∷ l)
    go (yes h) ih =
        let c = count-next true x l in
        let q : ones (x ∷ l) - r - bool_byte (beq x true) ≡ ones l - r = omega arith in
        place-after-next true (ones (x ∷ l) - r) (x ∷ l) l x refl (λ z. omega arith) ∙ ap (λ (n : ℕ). suc (place_after true n l)) q
        ∙ ap suc ih ∙ sym (zero-place-next r (x ∷ l) l x refl h)
    go (no h) ih = place-after-stop true (ones (x ∷ l) - r) (x ∷ l) (omega arith) ∙ sym (zero-place-stop r (x ∷ l) (omega arith))

-- bits are passed together where fewer of them than are to be passed are b
pub place-after-pass : (b : Bool) (k : ℕ) (l m : List Bool) → count_of b l < k → place_after b k (l ++ m) ≡ length l + place_after b (k - count_of b l) m
place-after-pass b k [] m h = go b
  where
    go : (b : Bool) → place_after b k m ≡ 0 + place_after b (k - count_of b []) m
    go true = let q : k ≡ k - 0 = omega arith in ap (λ (n : ℕ). place_after true n m) q ∙ sym (zero-add (place_after true (k - 0) m))
    go false = let q : k ≡ k - 0 = omega arith in ap (λ (n : ℕ). place_after false n m) q ∙ sym (zero-add (place_after false (k - 0) m))
place-after-pass b k (x ∷ l) m h =
    let e = place-after-next b k (x ∷ (l ++ m)) (l ++ m) x refl (λ q. omega arith) in
    let c : count_of b (x ∷ l) ≡ bool_byte (beq x b) + count_of b l = count-next b x l in
    let f = place-after-pass b (k - bool_byte (beq x b)) l m (omega arith) in
    let q : k - bool_byte (beq x b) - count_of b l ≡ k - count_of b (x ∷ l) = omega arith in
    let g = ap (λ (n : ℕ). place_after b n m) q in
    omega arith

pub count-rest : (b : Bool) (l : List Bool) (n w : ℕ) → length l ≡ n → w ≡ ones l → b ≡ false → n - w ≡ count_of b l
count-rest b l n w e f h = let o = ones-zeros l in let z : n - w ≡ zeros l = omega arith in rw h z

-- the places of a 0 and of a 1 that are put in, from the count w of ones
pub zero-after : (l : List Bool) (w r p : ℕ) → w ≡ ones l → p ≡ place_after true (w - r) l → p ≡ zero_place r l
zero-after l w r p e f = f ∙ ap (λ (n : ℕ). place_after true (n - r) l) e ∙ zero-place-after r l

pub one-after : (l : List Bool) (z p : ℕ) → p ≡ place_after false z l → p ≡ one_place z l
one-after l z p f = f ∙ one-place-after z l

-- ---- whether the other bit stands there
differs-not : (x b : Bool) → not (beq x b) ≡ differs x b
differs-not true true = refl
differs-not true false = refl
differs-not false true = refl
differs-not false false = refl

differs-same : (b : Bool) → differs b b ≡ false
differs-same true = refl
differs-same false = refl

pub other-past : (b : Bool) (l : List Bool) (n p : ℕ) → length l ≡ n → n ≤ p → false ≡ differs (get_or l p b) b
other-past b l n p e h = sym (ap (λ (x : Bool). differs x b) (get_or_past l p b (omega arith)) ∙ differs-same b)

pub other-at : (b x : Bool) (l : List Bool) (n p : ℕ) → length l ≡ n → p < n → x ≡ get_or l p false → not (beq x b) ≡ differs (get_or l p b) b
other-at b x l n p e h f = differs-not x b ∙ ap (λ (y : Bool). differs y b) (f ∙ get_or_default l p false b (omega arith))

pub other-after-none : (b : Bool) (k : Option ℕ) (l : List Bool) → k ≡ None → None ≡ other_after b k l
unfolding other_after
other-after-none b k l e = rw e refl

-- p is the place with j bits b before it, t whether the other bit stands there
pub other-after-is : (b : Bool) (k : Option ℕ) (j : ℕ) (l : List Bool) (p : ℕ) (t : Bool) → k ≡ Some j → p ≡ place_after b j l → t ≡ differs (get_or l p b) b → then_some t p ≡ other_after b k l
unfolding other_after
other-after-is b k j l p t h e f = rw h (ap₂ (λ (u : Bool) (q : ℕ). then_some u q) (f ∙ ap (λ (q : ℕ). differs (get_or l q b) b) e) e)

differs-there : (x b : Bool) → differs x b ≡ true → x ≡ not b
differs-there true true d = absurd (true-false (sym d))
differs-there true false d = refl
differs-there false true d = refl
differs-there false false d = absurd (true-false (sym d))

differs-absent : (x b : Bool) → differs x b ≡ false → x ≡ b
differs-absent true true d = refl
differs-absent true false d = absurd (true-false d)
differs-absent false true d = absurd (true-false d)
differs-absent false false d = refl

other-there : (b : Bool) (l : List Bool) (p : ℕ) → differs (get_or l p b) b ≡ true → (p < length l) × (get_or l p false ≡ not b)
other-there b l p d = go (dec_lt p (length l))
  where
    go : Dec (p < length l) → (p < length l) × (get_or l p false ≡ not b)
    go (yes h) = (h, get_or_default l p false b h ∙ differs-there (get_or l p b) b d)
    go (no h) = absurd (true-false (sym d ∙ sym (other-past b l (length l) p refl (omega arith))))

other-absent : (b : Bool) (l : List Bool) (p : ℕ) → p < length l → differs (get_or l p b) b ≡ false → get_or l p false ≡ b
other-absent b l p h d = get_or_default l p false b h ∙ differs-absent (get_or l p b) b d

-- the other bit stands within
pub other-within : (b : Bool) (k o : Option ℕ) (l : List Bool) (n : ℕ) → length l ≡ n → o ≡ other_after b k l → IfSome o (λ i. i < n)
unfolding other_after
other-within b None o l n e q = rw q tt
other-within b (Some k) o l n e q = rw q (go (differs (get_or l (place_after b k l) b) b) refl)
  where
    go : (t : Bool) → differs (get_or l (place_after b k l) b) b ≡ t → IfSome (then_some t (place_after b k l)) (λ i. i < n)
    go true d = let t = other-there b l (place_after b k l) d in omega (arith, t.0)
    go false d = tt

-- ---- a byte passed
module _ (s : List ℕ) (start len i v : ℕ) (h : i + 8 ≤ len) (e : Eight s (start + i) v) where
  rest-eight : rest s start len i ≡ byte_bits v ++ rest s start len (i + 8)
  rest-eight =
      let n : len - i ≡ 8 + (len - (i + 8)) = omega arith in
      let j : start + i + 8 ≡ start + (i + 8) = omega arith in
      ap (range s (start + i)) n ∙ range-add s (start + i) 8 (len - (i + 8)) ∙ ap₂ (λ (l : List Bool) (x : ℕ). l ++ range s x (len - (i + 8))) e.bits j

  pub ones-byte-pass : ones (rest s start len i) ≡ ones (byte_bits v) + ones (rest s start len (i + 8))
  ones-byte-pass = ap ones rest-eight ∙ ones-append (byte_bits v) (rest s start len (i + 8))

  pub zero-place-byte : (r : ℕ) → r < ones (rest s start len (i + 8)) → zero_place r (rest s start len i) ≡ 8 + zero_place r (rest s start len (i + 8))
  zero-place-byte r k = ap (zero_place r) rest-eight ∙ zero-place-pass r (byte_bits v) (rest s start len (i + 8)) k

  -- n are the zeros of the byte
  pub one-place-byte : (z n : ℕ) → n ≡ 8 - ones (byte_bits v) → n < z → one_place z (rest s start len i) ≡ 8 + one_place (z - n) (rest s start len (i + 8))
  one-place-byte z n f k =
      let o : ones (byte_bits v) + zeros (byte_bits v) ≡ 8 = ones-zeros (byte_bits v) in
      let q : zeros (byte_bits v) ≡ n = omega arith in
      ap (one_place z) rest-eight ∙ one-place-pass z (byte_bits v) (rest s start len (i + 8)) (omega arith) ∙ ap (λ (x : ℕ). 8 + one_place (z - x) (rest s start len (i + 8))) q

  -- n are the bits b of the byte
  pub place-after-byte : (b : Bool) (k n : ℕ) → n ≡ count_of b (byte_bits v) → n < k → place_after b k (rest s start len i) ≡ 8 + place_after b (k - n) (rest s start len (i + 8))
  place-after-byte b k n f g =
      ap (place_after b k) rest-eight ∙ place-after-pass b k (byte_bits v) (rest s start len (i + 8)) (omega arith)
      ∙ ap (λ (x : ℕ). 8 + place_after b (k - x) (rest s start len (i + 8))) (sym f)

-- ---- the bit and the place, from the length n, the modulus m, the sum x modulo m, the ones w and the lack d
pub lack-residue : (a : ℕ) (l : List Bool) (n m x d : ℕ) → length l ≡ n → m ≡ n + 2 → Residue m (weighted_sum 1 l) x → Residue m (a + (m - x)) d → d ≡ lack a l
unfolding lack
lack-residue a l n m x d e f p q =
    q.is ∙ ap (λ (z : ℕ). (a + (m - z)) % m) p.is ∙ ap (λ (k : ℕ). (a + (k - weighted_sum 1 l % k)) % k) (f ∙ ap (λ (k : ℕ). k + 2) (sym e))

module _ (a : ℕ) (l : List Bool) (w d p : ℕ) (e : w ≡ ones l) (f : d ≡ lack a l) where
  pub put-zero : d ≤ w → p ≡ zero_place d l → (p ≡ put_place a l) × (false ≡ put_bit a l)
  unfolding put_place put_bit
  put-zero h g = let t = le-leb (lack a l) (ones l) (omega arith) in rw t (g ∙ ap (λ (x : ℕ). zero_place x l) f, refl)

  pub put_one : w < d → p ≡ one_place (d - w - 1) l → (p ≡ put_place a l) × (true ≡ put_bit a l)
  unfolding put_place put_bit
  put_one h g = let t = lt-leb (lack a l) (ones l) (omega arith) in rw t (g ∙ ap₂ (λ (x y : ℕ). one_place (x - y - 1) l) f e, refl)

-- ---- the syndrome without bit i, from the length n, the sum x, the weight d of the bit and the ones r behind it
pub without-syndrome : (i : ℕ) (l : List Bool) (n x d r : ℕ) → length l ≡ n → i < n → x ≡ weighted_sum 1 l → d ≡ cond (get_or l i false) (1 + i) 0 → r ≡ ones (drop (suc i) l)
    → (d + r ≤ x) × ((x - d - r) % n ≡ syndrome (without i l))
unfolding syndrome
without-syndrome i l n x d r e h f g k =
    let o = weighted-sum-without 1 i l (omega arith) in
    let m : length (without i l) + 1 ≡ n = length_without i l (omega arith) ∙ e in
    let y : x - d - r ≡ weighted_sum 1 (without i l) = omega arith in
    (omega arith, ap₂ (λ (p q : ℕ). p % q) y (sym m))

-- ---- what a fall of the sum leaves
-- the fall from the sum x modulo m, which is n
pub zero-fall-is : (n m x a y f : ℕ) → m ≡ n → Residue m x y → Residue m (y + (m - a)) f → f ≡ zero_fall n x a
zero-fall-is n m x a y f e p q = q.is ∙ ap (λ (z : ℕ). (z + (m - a)) % m) p.is ∙ ap (λ (k : ℕ). zero_fall k x a) e

eqb-iff : (a b c d : ℕ) → (a ≡ b → c ≡ d) → (c ≡ d → a ≡ b) → eqb a b ≡ eqb c d
eqb-iff a b c d f g = go (ℕ_discrete a b)
  where
    go : Dec (a ≡ b) → eqb a b ≡ eqb c d
    go (yes e) = eq-eqb a b e ∙ sym (eq-eqb c d (f e))
    go (no e) = ne_eqb a b e ∙ sym (ne_eqb c d (λ z. e (g z)))

module _ (n x a : ℕ) (h : a < n) where
  fall-of : (f y : ℕ) → f < n → x ≡ y + f → y % n ≡ a → f ≡ zero_fall n x a
  fall-of f y k p e =
      let d = div-add-mod' y n in
      let z : x + (n - a) ≡ f + y / n * n + n = omega arith in
      sym (mod-add-mod x n (n - a) ∙ ap (λ (m : ℕ). m % n) z ∙ add-mod_right (f + y / n * n) n ∙ add-mul-mod_self_right f (y / n) n ∙ mod-eq_of_lt k)

  of-fall : (f : ℕ) → f ≤ x → f ≡ zero_fall n x a → (x - f) % n ≡ a
  of-fall f k e = go ((x + (n - a)) / n) (sym (div-add-mod' (x + (n - a)) n) ∙ ap (λ (m : ℕ). (x + (n - a)) / n * n + m) (sym (e ∙ mod-add-mod x n (n - a))))
    where
      go : (q : ℕ) → x + (n - a) ≡ q * n + f → (x - f) % n ≡ a
      go zero p = absurd (let z = zero-mul n in omega arith)
      go (suc q) p =
          let z = suc-mul q n in
          let y : x - f ≡ q * n + a = omega arith in
          ap (λ (m : ℕ). m % n) y ∙ mul-add-mod_self_right q n a ∙ mod-eq_of_lt h

  pub zero-fall : (f : ℕ) → f < n → f ≤ x → eqb f (zero_fall n x a) ≡ eqb ((x - f) % n) a
  zero-fall f k l = eqb-iff f (zero_fall n x a) ((x - f) % n) a (of-fall f l) (fall-of f (x - f) k (omega arith))

  pub one-fall : (f : ℕ) → 1 ≤ f → f ≤ n → f ≤ x → eqb f (one_fall n (zero_fall n x a)) ≡ eqb ((x - f) % n) a
  one-fall f k l m = go (dec_lt f n) (ℕ_discrete (zero_fall n x a) 0)
    where
      below : zero_fall n x a < n
      below = mod-lt (x % n + (n - a)) (omega arith)

      go : Dec (f < n) → Dec (zero_fall n x a ≡ 0) → eqb f (cond (eqb (zero_fall n x a) 0) n (zero_fall n x a)) ≡ eqb ((x - f) % n) a
      go (yes p) (no q) = rw (ne_eqb (zero_fall n x a) 0 q) (zero-fall f p m)
      go (yes p) (yes q) =
          rw (eq-eqb (zero_fall n x a) 0 q)
          (ne_eqb f n (λ z. omega arith) ∙ sym (ne_eqb f (zero_fall n x a) (λ z. omega arith)) ∙ zero-fall f p m)
      go (no p) r =
          let y : x - 0 ≡ x - f + n = omega arith in
          whole r ∙ zero-fall 0 (omega arith) (omega arith) ∙ ap (λ (u : ℕ). eqb u a) (ap (λ (u : ℕ). u % n) y ∙ add-mod_right (x - f) n)
        where
          whole : Dec (zero_fall n x a ≡ 0) → eqb f (cond (eqb (zero_fall n x a) 0) n (zero_fall n x a)) ≡ eqb 0 (zero_fall n x a)
          whole (yes q) = rw (eq-eqb (zero_fall n x a) 0 q) (eq-eqb f n (omega arith) ∙ sym (eq-eqb 0 (zero_fall n x a) (sym q)))
          whole (no q) = let b = below in rw (ne_eqb (zero_fall n x a) 0 q) (ne_eqb f (zero_fall n x a) (λ z. omega arith) ∙ sym (ne_eqb 0 (zero_fall n x a) (λ z. q (sym z))))

-- ---- the first 0, the first 1 that lowers the sum so
-- a 0 with f ones behind it stands at the place where such a 0 is put in, or after it with zeros between
zero-first : (f : ℕ) (l : List Bool) (k : ℕ) → k < length l → get_or l k false ≡ false → ones (drop k l) ≡ f → (zero_place f l ≤ k) × (get_or l (zero_place f l) false ≡ false)
zero-first f [] k h b e = absurd (omega arith)
zero-first f (x ∷ l) zero h b e = rw (le-leb (ones (x ∷ l)) f (omega arith)) (omega arith, b)
zero-first f (x ∷ l) (suc k) h b e = go x (leb (ones (x ∷ l)) f) refl (zero-first f l k (omega arith) b e)
  where
    go : (x t : Bool) → leb (ones (x ∷ l)) f ≡ t → (zero_place f l ≤ k) × (get_or l (zero_place f l) false ≡ false)
        → (cond t 0 (suc (zero_place f l)) ≤ suc k) × (get_or (x ∷ l) (cond t 0 (suc (zero_place f l))) false ≡ false)
    go x false q ih = let m = ih.0 in (omega arith, ih.1)
    go false true q ih = (omega arith, refl)
    go true true q ih = let m = leb-true (suc (ones l)) f q in let o = ones-drop k l in absurd (omega arith)

-- a 1 stands at the place where a 1 is put in that has as many zeros before it, or after it with ones between
one-first : (l : List Bool) (k : ℕ) → k < length l → get_or l k false ≡ true
    → (one_place (zeros (take k l)) l ≤ k) × (get_or l (one_place (zeros (take k l)) l) false ≡ true)
one-first [] k h b = absurd (omega arith)
one-first (x ∷ l) zero h b = (omega arith, b)
one-first (true ∷ l) (suc k) h b = go (zeros (take k l)) (one-first l k (omega arith) b)
  where
    go : (z : ℕ) → (one_place z l ≤ k) × (get_or l (one_place z l) false ≡ true) → (one_place z (true ∷ l) ≤ suc k) × (get_or (true ∷ l) (one_place z (true ∷ l)) false ≡ true)
    go zero ih = (omega arith, refl)
    go (suc z) ih = let m = ih.0 in (omega arith, ih.1)
one-first (false ∷ l) (suc k) h b = let ih = one-first l k (omega arith) b in let m = ih.0 in (omega arith, ih.1)

one-place-found : (z : ℕ) (l : List Bool) → one_place z l < length l → zeros (take (one_place z l) l) ≡ z
one-place-found zero l h = refl
one-place-found (suc z) [] h = absurd (omega arith)
one-place-found (suc z) (true ∷ l) h = one-place-found (suc z) l (omega arith)
one-place-found (suc z) (false ∷ l) h = ap suc (one-place-found z l (omega arith))

module _ (l : List Bool) (n : ℕ) (e : length l ≡ n) where
  no-fall : (b : Bool) (f : ℕ) → ((k : ℕ) → k < n → Falls b f l k → ⊥) → FirstFall b f l n
  no-fall b f h = record { within = omega arith; found = λ k. absurd (omega arith); first = h }

  pub zero-out-above : (f : ℕ) → ones l < f → FirstFall false f l n
  zero-out-above f h = no-fall false f (λ k g d. let o = ones-drop k l in let s = d.fall in omega arith)

  pub one-out-below : (f : ℕ) → f < ones l → FirstFall true f l n
  one-out-below f h = no-fall true f (λ k g d. let o = place-ones k l (omega arith) in let s = d.fall in omega arith)

  module _ (f p : ℕ) (q : p ≡ zero_place f l) where
    zero-out-first : (k : ℕ) → k < n → Falls false f l k → (p ≤ k) × (get_or l p false ≡ false)
    zero-out-first k h d = subst (λ (x : ℕ). (x ≤ k) × (get_or l x false ≡ false)) (sym q) (zero-first f l k (omega arith) d.bit (sym (zero-add (ones (drop k l))) ∙ d.fall))

    pub zero-out-none : (p < n → get_or l p false ≡ true) → FirstFall false f l n
    zero-out-none h = no-fall false f (λ k g d. let z = zero-out-first k g d in let m = z.0 in true-false (sym (h (omega arith)) ∙ z.1))

    pub zero-out-found : f ≤ ones l → p < n → get_or l p false ≡ false → FirstFall false f l p
    zero-out-found h g b = record {
      within = omega arith;
      found = λ k. record { bit = b; fall = zero-add (ones (drop p l)) ∙ ap (λ (x : ℕ). ones (drop x l)) q ∙ zero-place-ones f l h };
      first = λ k m d. let z = (zero-out-first k (omega arith) d).0 in omega arith;
    }

  module _ (f p : ℕ) (h : ones l ≤ f) (q : p ≡ one_place (f - ones l) l) where
    one-out-first : (k : ℕ) → k < n → Falls true f l k → (p ≤ k) × (get_or l p false ≡ true)
    one-out-first k g d =
        let o = place-ones k l (omega arith) in
        let s = d.fall in
        let z : zeros (take k l) ≡ f - ones l = omega arith in
        subst (λ (x : ℕ). (x ≤ k) × (get_or l x false ≡ true)) (ap (λ (x : ℕ). one_place x l) z ∙ sym q) (one-first l k (omega arith) d.bit)

    pub one-out-none : (p < n → get_or l p false ≡ false) → FirstFall true f l n
    one-out-none b = no-fall true f (λ k g d. let z = one-out-first k g d in let m = z.0 in true-false (sym z.1 ∙ b (omega arith)))

    pub one-out-found : p < n → get_or l p false ≡ true → FirstFall true f l p
    one-out-found g b =
        let o = place-ones p l (omega arith) in
        let z = ap (λ (x : ℕ). zeros (take x l)) q ∙ one-place-found (f - ones l) l (omega arith) in
        record {
          within = omega arith;
          found = λ k. record { bit = b; fall = omega arith };
          first = λ k m d. let y = (one-out-first k (omega arith) d).0 in omega arith;
        }

  -- the same from the count of ones or zeros before the place
  zero-other : (f : ℕ) → f ≤ ones l → (t : Bool) → differs (get_or l (place_after true (ones l - f) l) true) true ≡ t
      → FirstFall false f l (unwrap_or (then_some t (place_after true (ones l - f) l)) n)
  zero-other f h true d = let p = place_after true (ones l - f) l in
      let t = other-there true l p d in
      zero-out-found f p (zero-place-after f l) h (omega (arith, t.0)) t.1
  zero-other f h false d = let p = place_after true (ones l - f) l in
      zero-out-none f p (zero-place-after f l) (λ k. other-absent true l p (omega arith) d)

  one-other : (f : ℕ) → ones l ≤ f → (t : Bool) → differs (get_or l (place_after false (f - ones l) l) false) false ≡ t
      → FirstFall true f l (unwrap_or (then_some t (place_after false (f - ones l) l)) n)
  one-other f h true d = let p = place_after false (f - ones l) l in
      let t = other-there false l p d in
      one-out-found f p h (one-place-after (f - ones l) l) (omega (arith, t.0)) t.1
  one-other f h false d = let p = place_after false (f - ones l) l in
      one-out-none f p h (one-place-after (f - ones l) l) (λ k. other-absent false l p (omega arith) d)

  -- k is the difference of f and the ones w, if it is not below 0; o is the place that the code found
  module _ (f w : ℕ) (g : w ≡ ones l) where
    pub zero-other-first : (k o : Option ℕ) → SomeIff k (f ≤ w) (w - f) → o ≡ other_after true k l → FirstFall false f l (unwrap_or o n)
    unfolding other_after
    zero-other-first None o h q = rw q (zero-out-above f (let z : f ≤ w → ⊥ = h in omega arith))
    zero-other-first (Some x) o h q =
        let d : x ≡ ones l - f = omega (arith, h.1) in
        let m = h.0 in
        rw (q, d) (zero-other f (omega arith) _ refl)

    pub one-other-first : (k o : Option ℕ) → SomeIff k (w ≤ f) (f - w) → o ≡ other_after false k l → FirstFall true f l (unwrap_or o n)
    unfolding other_after
    one-other-first None o h q = rw q (one-out-below f (let z : w ≤ f → ⊥ = h in omega arith))
    one-other-first (Some x) o h q =
        let d : x ≡ f - ones l = omega (arith, h.1) in
        let m = h.0 in
        rw (q, d) (one-other f (omega arith) _ refl)

-- ---- the first place whose bit can be taken out
module _ (a : ℕ) (l : List Bool) where
  first-take-at : (n m i : ℕ) → ((k : ℕ) → i ≤ k → k < i + m → syndrome (without k l) ≡ a → ⊥) → (0 < n → syndrome (without (i + m) l) ≡ a) → first_take a l (m + n) i ≡ i + m
  unfolding first_take
  first-take-at zero zero i h f = sym (add-zero i)
  first-take-at (suc n) zero i h f =
      let q : 0 + suc n ≡ suc n = omega arith in
      rw (q, eq-eqb (syndrome (without i l)) a (ap (λ (x : ℕ). syndrome (without x l)) (sym (add-zero i)) ∙ f (omega arith))) (sym (add-zero i))
  first-take-at n (suc m) i h f =
      let q : suc m + n ≡ suc (m + n) = omega arith in
      let j : i + suc m ≡ suc i + m = omega arith in
      rw (q, ne_eqb (syndrome (without i l)) a (h i (omega arith) (omega arith)))
      (first-take-at n m (suc i) (λ k p r. h k (omega arith) (omega arith)) (λ p. ap (λ (x : ℕ). syndrome (without x l)) (sym j) ∙ f p) ∙ sym j)

  take-place-at : (n r : ℕ) → length l ≡ n → r ≤ n → ((k : ℕ) → k < r → syndrome (without k l) ≡ a → ⊥) → (r < n → syndrome (without r l) ≡ a) → r ≡ take_place a l
  unfolding take_place
  take-place-at n r e h f g =
      let q : length l ≡ r + (n - r) = omega arith in
      let z : 0 + r ≡ r = omega arith in
      sym (ap (λ (x : ℕ). first_take a l x 0) q
      ∙ first-take-at (n - r) r 0 (λ k p m. f k (omega arith)) (λ p. ap (λ (x : ℕ). syndrome (without x l)) z ∙ g (omega arith)) ∙ z)

  -- a syndrome that is too large for a bit less
  pub take-place-above : (n : ℕ) → length l ≡ n → n ≤ a → n ≡ take_place a l
  take-place-above n e h =
      take-place-at n n e (omega arith) (λ k p z. let m = syndrome-most (without k l) in let w = length_without k l (omega arith) in omega arith) (λ p. absurd (omega arith))

  first-take-found : (n i : ℕ) → first_take a l n i < i + n → syndrome (without (first_take a l n i) l) ≡ a
  unfolding first_take
  first-take-found zero i h = absurd (omega arith)
  first-take-found (suc n) i h = go (eqb (syndrome (without i l)) a) refl (first-take-found n (suc i)) h
    where
      go : (t : Bool) → eqb (syndrome (without i l)) a ≡ t → (first_take a l n (suc i) < suc i + n → syndrome (without (first_take a l n (suc i)) l) ≡ a)
          → cond t i (first_take a l n (suc i)) < i + suc n → syndrome (without (cond t i (first_take a l n (suc i))) l) ≡ a
      go true e ih h = eqb-true (syndrome (without i l)) a e
      go false e ih h = ih (omega arith)

  first-take-passed : (n i k : ℕ) → i ≤ k → k < first_take a l n i → syndrome (without k l) ≡ a → ⊥
  unfolding first_take
  first-take-passed zero i k h p s = omega arith
  first-take-passed (suc n) i k h p s = go (eqb (syndrome (without i l)) a) refl (λ q r. first-take-passed n (suc i) k q r s) p
    where
      go : (t : Bool) → eqb (syndrome (without i l)) a ≡ t → (suc i ≤ k → k < first_take a l n (suc i) → ⊥) → k < cond t i (first_take a l n (suc i)) → ⊥
      go true e ih p = omega arith
      go false e ih p = here (dec_lt i k)
        where
          here : Dec (i < k) → ⊥
          here (yes q) = ih (omega arith) p
          here (no q) = eqb-false (syndrome (without i l)) a e (ap (λ (m : ℕ). syndrome (without m l)) (let z : i ≡ k = omega arith in z) ∙ s)

  -- what it gives is 01's take-out
  pub take-place-found : take_place a l < length l → take_out a l ≡ some (without (take_place a l) l)
  unfolding take_place
  take-place-found h =
      take-out-unique a l (without (take_place a l) l) (without-deletion (take_place a l) l h)
      (first-take-found (length l) 0 (omega arith))

  pub take-place-none : length l ≤ take_place a l → take_out a l ≡ none
  unfolding take_place
  take-place-none h =
      take-out-no a l (λ x d s. let w = d.within in first-take-passed (length l) 0 d.place (omega arith) (omega arith) (ap syndrome (sym d.is) ∙ s))

-- what falls of the sum x say of the syndrome: f₀ is the fall for a 0, f₁ that for a 1
module _ (l : List Bool) (n a x f₀ f₁ : ℕ) (e : length l ≡ n) (k : a < n) (f : x ≡ weighted_sum 1 l) (p : f₀ ≡ zero_fall n x a) (q : f₁ ≡ one_fall n f₀) where
  zero_test : (i : ℕ) → i < n → get_or l i false ≡ false → eqb (ones (drop i l)) f₀ ≡ eqb (syndrome (without i l)) a
  zero_test i h b =
      let right = ones (drop i l) in
      let o = ones-next (drop i l) (drop (suc i) l) false (drop-cons l i false (omega arith) ∙ ap (λ (y : Bool). y ∷ drop (suc i) l) b) in
      let w = without-syndrome i l n x 0 right e h f (sym (ap (λ (y : Bool). cond y (1 + i) 0) b)) (omega arith) in
      let m = w.0 in
      let d : x - right ≡ x - 0 - right = omega arith in
      let z = ones-zeros (drop (suc i) l) in
      let t = length-drop (suc i) l in
      ap (eqb right) p ∙ zero-fall n x a k right (omega arith) (omega arith) ∙ ap (λ (u : ℕ). eqb u a) (ap (λ (u : ℕ). u % n) d ∙ w.1)

  one-test : (i : ℕ) → i < n → get_or l i false ≡ true → eqb (i + ones (drop i l)) f₁ ≡ eqb (syndrome (without i l)) a
  one-test i h b =
      let right = ones (drop i l) in
      let o = ones-next (drop i l) (drop (suc i) l) true (drop-cons l i false (omega arith) ∙ ap (λ (y : Bool). y ∷ drop (suc i) l) b) in
      let w = without-syndrome i l n x (1 + i) (right - 1) e h f (sym (ap (λ (y : Bool). cond y (1 + i) 0) b)) (omega arith) in
      let m = w.0 in
      let d : x - (i + right) ≡ x - (1 + i) - (right - 1) = omega arith in
      let z = ones-zeros (drop i l) in
      let t = length-drop i l in
      ap (eqb (i + right)) (q ∙ ap (one_fall n) p) ∙ one-fall n x a k (i + right) (omega arith) (omega arith) (omega arith) ∙ ap (λ (u : ℕ). eqb u a) (ap (λ (u : ℕ). u % n) d ∙ w.1)

  falls-zero : (i : ℕ) → i < n → Falls false f₀ l i → syndrome (without i l) ≡ a
  falls-zero i h d = eqb-true (syndrome (without i l)) a (sym (zero_test i h d.bit) ∙ eq-eqb (ones (drop i l)) f₀ (sym (zero-add (ones (drop i l))) ∙ d.fall))

  falls-one : (i : ℕ) → i < n → Falls true f₁ l i → syndrome (without i l) ≡ a
  falls-one i h d = eqb-true (syndrome (without i l)) a (sym (one-test i h d.bit) ∙ eq-eqb (i + ones (drop i l)) f₁ d.fall)

  falls-none : (i : ℕ) → i < n → (Falls false f₀ l i → ⊥) → (Falls true f₁ l i → ⊥) → syndrome (without i l) ≡ a → ⊥
  falls-none i h zero-no one-no s = go (get_or l i false) refl
    where
      go : (y : Bool) → get_or l i false ≡ y → ⊥
      go false b = zero-no (record { bit = b; fall = zero-add (ones (drop i l)) ∙ eqb-true (ones (drop i l)) f₀ (zero_test i h b ∙ eq-eqb (syndrome (without i l)) a s) })
      go true b = one-no (record { bit = b; fall = eqb-true (i + ones (drop i l)) f₁ (one-test i h b ∙ eq-eqb (syndrome (without i l)) a s) })

  -- a 1 before a 0 lowers the sum by 1 to n - 1 more than the 0
  one-before-zero : (i u : ℕ) → i < u → u < n → Falls false f₀ l u → Falls true f₁ l i → ⊥
  one-before-zero i u h g z o =
      let from = ones-next (drop i l) (drop (suc i) l) true (drop-cons l i false (omega arith) ∙ ap (λ (y : Bool). y ∷ drop (suc i) l) o.bit) in
      let j : suc i + (u - suc i) ≡ u = omega arith in
      let d = ap ones (drop-drop (u - suc i) (suc i) l ∙ ap (λ (y : ℕ). drop y l) j) in
      let least = ones-drop (u - suc i) (drop (suc i) l) in
      let most = ones-drop-most (u - suc i) (drop (suc i) l) in
      go (ℕ_discrete f₀ 0) from d least most z.fall o.fall
    where
      go : Dec (f₀ ≡ 0) → ones (drop i l) ≡ ones (drop (suc i) l) + 1 → ones (drop (u - suc i) (drop (suc i) l)) ≡ ones (drop u l) → ones (drop (u - suc i) (drop (suc i) l)) ≤ ones (drop (suc i) l)
          → ones (drop (suc i) l) ≤ ones (drop (u - suc i) (drop (suc i) l)) + (u - suc i) → 0 + ones (drop u l) ≡ f₀ → i + ones (drop i l) ≡ f₁ → ⊥
      go (yes y) from d least most z o = let w : f₁ ≡ n = q ∙ ap (λ (t : Bool). cond t n f₀) (eq-eqb f₀ 0 y) in omega arith
      go (no y) from d least most z o = let w : f₁ ≡ f₀ = q ∙ ap (λ (t : Bool). cond t n f₀) (ne_eqb f₀ 0 y) in omega arith

  -- the first 0, or if there is none the first 1
  module _ (u : ℕ) (z : FirstFall false f₀ l u) where
    pub take-place-zero : u < n → u ≡ take_place a l
    take-place-zero h =
        let there = z.found (omega arith) in
        take-place-at a l n u e (omega arith) (λ i g. falls-none i (omega arith) (z.first i g) (one-before-zero i u g h there)) (λ g. falls-zero u g there)

    pub take-place-one : (v : ℕ) → n ≤ u → FirstFall true f₁ l v → v ≡ take_place a l
    take-place-one v h o =
        let m = o.within in
        take-place-at a l n v e (omega arith) (λ i g. falls-none i (omega arith) (z.first i (omega arith)) (o.first i g)) (λ g. falls-one v g (o.found (omega arith)))
