-- Laws of ranges of bits.
use Rattle.std.specs.Prelude.{◌≡◌, refl, Bool, true, false, List, [], ◌∷◌, ◌++◌, ℕ, zero, suc, ◌+◌, ◌-◌, ◌*◌, ◌≤◌, ◌<◌, take, drop, length, get_or}
use Rattle.std.proofs.Common.{sym, ap, ap₂, ◌∙◌, zero-add, suc-add, add-zero, add-suc, add-one, arith, take_at, drop_at}
use Rattle.strings.specs.Bits.{bit_at, range, same_bits}
use Rattle.strings.specs.laws.Tests.{true-false}
use Rattle.strings.proofs.laws.BitLaws.{bit-behind}

pub range_length : (s : List ℕ) (a n : ℕ) → length (range s a n) ≡ n
unfolding range
range_length s a zero = refl
range_length s a (suc n) = ap suc (range_length s (suc a) n)

-- a range begins with its first bit
pub range-step : (s : List ℕ) (a n : ℕ) → 0 < n → range s a n ≡ bit_at s a ∷ range s (a + 1) (n - 1)
unfolding range
range-step s a zero h = absurd (omega arith)
range-step s a (suc n) h =
    let e : suc n - 1 ≡ n = omega arith in
    rw (e, add-one)

pub range_none : (s : List ℕ) (a : ℕ) → range s a 0 ≡ []
unfolding range
range_none s a = refl

-- bit i of a range
pub range_at : (s : List ℕ) (a n i : ℕ) → i < n → get_or (range s a n) i false ≡ bit_at s (a + i)
unfolding range
range_at s a zero i h = absurd (omega arith)
range_at s a (suc n) zero h = ap (bit_at s) (omega arith)
range_at s a (suc n) (suc i) h = range_at s (suc a) n i (omega arith) ∙ ap (bit_at s) (omega arith)

-- equality by bits, in two strings at two places
pub range-equal : (s t : List ℕ) (a b n : ℕ) → ((j : ℕ) → j < n → bit_at s (a + j) ≡ bit_at t (b + j)) → range s a n ≡ range t b n
unfolding range
range-equal s t a b zero h = refl
range-equal s t a b (suc n) h =
    ap₂ (λ (x : Bool) (l : List Bool). x ∷ l)
    (ap (bit_at s) (sym (add-zero a)) ∙ h 0 (omega arith) ∙ ap (bit_at t) (add-zero b))
    (range-equal s t (suc a) (suc b) n (λ j l. ap (bit_at s) (let e : suc a + j ≡ a + suc j = omega arith in e) ∙ h (suc j) (omega arith) ∙ ap (bit_at t) (let e : b + suc j ≡ suc b + j = omega arith in e)))

pub range_same : (s t : List ℕ) (a n : ℕ) → ((j : ℕ) → a ≤ j → j < a + n → bit_at s j ≡ bit_at t j) → range s a n ≡ range t a n
range_same s t a n h = range-equal s t a a n (λ j l. h (a + j) (omega arith) (omega arith))

-- a range split in two
pub range-add : (s : List ℕ) (a n m : ℕ) → range s a (n + m) ≡ range s a n ++ range s (a + n) m
unfolding range
range-add s a zero m = rw (zero-add, add-zero)
range-add s a (suc n) m = rw (suc-add) (ap (λ (l : List Bool). bit_at s a ∷ l) (range-add s (suc a) n m ∙ rw (suc-add, add-suc)))

-- a range of a range
pub range-take : (s : List ℕ) (a n p : ℕ) → p ≤ n → take p (range s a n) ≡ range s a p
range-take s a n p h =
    let e : n ≡ p + (n - p) = omega arith in
    ap (λ (m : ℕ). take p (range s a m)) e ∙ ap (take p) (range-add s a p (n - p)) ∙ take_at (range s a p) (range s (a + p) (n - p)) p (range_length s a p)

pub range-drop : (s : List ℕ) (a n p : ℕ) → p ≤ n → drop p (range s a n) ≡ range s (a + p) (n - p)
range-drop s a n p h =
    let e : n ≡ p + (n - p) = omega arith in
    ap (λ (m : ℕ). drop p (range s a m)) e ∙ ap (drop p) (range-add s a p (n - p)) ∙ drop_at (range s a p) (range s (a + p) (n - p)) p (range_length s a p)

pub range-part : (s : List ℕ) (a n x p : ℕ) → x + p ≤ n → take p (drop x (range s a n)) ≡ range s (a + x) p
range-part s a n x p h = ap (take p) (range-drop s a n x (omega arith)) ∙ range-take s (a + x) (n - x) p (omega arith)

-- bytes in front and behind
pub range-behind : (s t : List ℕ) (a n : ℕ) → range (s ++ t) (8 * length s + a) n ≡ range t a n
range-behind s t a n = range-equal (s ++ t) t (8 * length s + a) a n (λ j l. ap (bit_at (s ++ t)) (let e : 8 * length s + a + j ≡ 8 * length s + (a + j) = omega arith in e) ∙ bit-behind s t (a + j))

-- ---- a loop over the n bits from place a on, at its turn i: what is left to read
abbrev pub rest : List ℕ → ℕ → ℕ → ℕ → List Bool
rest s a n i = range s (a + i) (n - i)

pub rest-first : (s : List ℕ) (a n : ℕ) → rest s a n 0 ≡ range s a n
rest-first s a n = ap₂ (range s) (omega arith) (omega arith)

pub rest-next : (s : List ℕ) (a n i : ℕ) → i < n → rest s a n i ≡ bit_at s (a + i) ∷ rest s a n (i + 1)
rest-next s a n i h =
    range-step s (a + i) (n - i) (omega arith)
    ∙ ap₂ (λ (x y : ℕ). bit_at s (a + i) ∷ range s x y) (omega arith) (omega arith)

pub rest-last : (s : List ℕ) (a n i : ℕ) → n ≤ i → rest s a n i ≡ []
unfolding range
rest-last s a n i h = let e : n - i ≡ 0 = omega arith in rw e refl

-- the bit that a turn read, and that a test found to be y
pub rest-is : (s : List ℕ) (a n i : ℕ) (b y : Bool) → i < n → b ≡ bit_at s (a + i) → b ≡ y → rest s a n i ≡ y ∷ rest s a n (i + 1)
rest-is s a n i b y h e f = rest-next s a n i h ∙ ap (λ (x : Bool). x ∷ rest s a n (i + 1)) (sym e ∙ f)

-- ---- comparing
pub same_refl : (l : List Bool) → same_bits l l ≡ true
unfolding same_bits
same_refl [] = refl
same_refl (true ∷ l) = same_refl l
same_refl (false ∷ l) = same_refl l

pub same-is : (l m : List Bool) → same_bits l m ≡ true → l ≡ m
unfolding same_bits
same-is [] [] e = refl
same-is [] (b ∷ m) e = absurd (true-false (sym e))
same-is (a ∷ l) [] e = absurd (true-false (sym e))
same-is (true ∷ l) (true ∷ m) e = ap (λ (x : List Bool). true ∷ x) (same-is l m e)
same-is (true ∷ l) (false ∷ m) e = absurd (true-false (sym e))
same-is (false ∷ l) (true ∷ m) e = absurd (true-false (sym e))
same-is (false ∷ l) (false ∷ m) e = ap (λ (x : List Bool). false ∷ x) (same-is l m e)
