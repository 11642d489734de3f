-- Laws of the string rule: the test and the statement say the same, and what the code may look at instead.
use Rattle.std.specs.Prelude.{◌≡◌, Bool, ◌&&◌, List, [], ◌∷◌, ℕ, zero, suc, ◌+◌, ◌-◌, ◌*◌, ◌/◌, ◌%◌, ◌^◌, ◌≤◌, ◌<◌, get_or, leb}
use Rattle.std.proofs.Math.Path.{refl, sym, ap}
use Rattle.std.proofs.Common.{ap₂, ◌∙◌}
use Rattle.std.proofs.Math.Bool.{true, false}
use Rattle.std.proofs.Math.Nat.{zero-mod, zero-div, mod-one}
use Rattle.std.proofs.Math.Decide.{dec_lt}
use native.Mathlib.Omega.{arith}
use Rattle.std.proofs.Math.ListN.{length}
use Rattle.std.proofs.Math.Dec.{eqb}
use Rattle.std.proofs.Math.Pow.{field, mod-mod-pow}
use Rattle.std.proofs.lemmas.Nat.{mod-pow-add}
use borrow.Author.Tests.{eqb-true, eq-eqb, le-leb, leb-true}
use Rattle.strings.specs.Bits.{max_bits, bit_at, range, bytes_for}
use Rattle.strings.specs.StringRule.{none_set, string_rule, IsString}
use Rattle.strings.specs.laws.Tests.{true-false, and_left, and_right}
use Rattle.strings.proofs.laws.BitLaws.{bit_past}
use Rattle.strings.proofs.laws.RangeLaws.{range_length, range_at}

-- ---- no bit set
none-at : (l : List Bool) → none_set l ≡ true → (i : ℕ) → get_or l i false ≡ false
unfolding none_set
none-at [] e i = refl
none-at (true ∷ l) e i = absurd (true-false (sym e))
none-at (false ∷ l) e zero = refl
none-at (false ∷ l) e (suc i) = none-at l e i

none-all : (l : List Bool) → ((i : ℕ) → i < length l → get_or l i false ≡ false) → none_set l ≡ true
unfolding none_set
none-all [] h = refl
none-all (true ∷ l) h = absurd (true-false (h 0 (omega arith)))
none-all (false ∷ l) h = none-all l (λ i k. h (suc i) (omega arith))

-- ---- the test and the statement
module _ (s : List ℕ) (n : ℕ) where
  pub rule-is : string_rule s n ≡ true → IsString s n
  unfolding string_rule
  rule-is e =
      let f = leb-true n max_bits (and_left (leb n max_bits) _ e) in
      let g = and_right (leb n max_bits) (eqb (length s) (bytes_for n) && none_set (range s n (8 * bytes_for n - n))) e in
      let b = eqb-true (length s) (bytes_for n) (and_left (eqb (length s) (bytes_for n)) _ g) in
      let z = and_right (eqb (length s) (bytes_for n)) (none_set (range s n (8 * bytes_for n - n))) g in
      record { few = f; bytes = b; spare = λ i l. go i l b z (dec_lt i (8 * length s)) }
    where
      go : (i : ℕ) → n ≤ i → length s ≡ bytes_for n → none_set (range s n (8 * bytes_for n - n)) ≡ true → Dec (i < 8 * length s) → bit_at s i ≡ false
      go i l b z (yes m) =
          ap (bit_at s) (let q : i ≡ n + (i - n) = omega arith in q) ∙ sym (range_at s n (8 * bytes_for n - n) (i - n) (omega arith)) ∙ none-at (range s n (8 * bytes_for n - n)) z (i - n)
      go i l b z (no m) = bit_past s i (omega arith)

  pub is-rule : IsString s n → string_rule s n ≡ true
  unfolding string_rule
  is-rule g =
      let z : none_set (range s n (8 * bytes_for n - n)) ≡ true =
      none-all (range s n (8 * bytes_for n - n)) (λ i l. let k = range_length s n (8 * bytes_for n - n) in range_at s n (8 * bytes_for n - n) i (omega arith) ∙ g.spare (n + i) (omega arith)) in
      rw (le-leb n max_bits g.few, eq-eqb (length s) (bytes_for n) g.bytes, z) refl

-- a test that holds just if the rule does is the rule
as-rule : (s : List ℕ) (n : ℕ) (t : Bool) → (t ≡ true → IsString s n) → (IsString s n → t ≡ true) → t ≡ string_rule s n
as-rule s n true f g = sym (is-rule s n (f refl))
as-rule s n false f g = go (string_rule s n) refl
  where
    go : (u : Bool) → string_rule s n ≡ u → false ≡ u
    go true e = g (rule-is s n e)
    go false e = refl

-- ---- low digits
-- numbers that agree in the k low digits have the same remainder by 2^k
pub low-digits : (x y k : ℕ) → ((m : ℕ) → m < k → x / 2 ^ m % 2 ≡ y / 2 ^ m % 2) → x % 2 ^ k ≡ y % 2 ^ k
low-digits x y zero h = mod-one x ∙ sym (mod-one y)
low-digits x y (suc k) h =
    let e : suc k ≡ 1 + k = omega arith in
    rw e (mod-pow-add x 1 k ∙ ap₂ (λ (a b : ℕ). a * 2 ^ k + b) (h k (omega arith)) (low-digits x y k (λ m l. h m (omega arith))) ∙ sym (mod-pow-add y 1 k))

pub digit-is : (a b : ℕ) → a < 2 → b < 2 → eqb a 1 ≡ eqb b 1 → a ≡ b
digit-is zero zero p q e = refl
digit-is zero (suc zero) p q e = absurd (true-false (sym e))
digit-is (suc zero) zero p q e = absurd (true-false e)
digit-is (suc zero) (suc zero) p q e = refl
digit-is a (suc (suc b)) p q e = absurd (omega arith)
digit-is (suc (suc a)) zero p q e = absurd (omega arith)
digit-is (suc (suc a)) (suc zero) p q e = absurd (omega arith)

low-zero : (x k m : ℕ) → x % 2 ^ k ≡ 0 → m < k → x / 2 ^ m % 2 ≡ 0
low-zero x k m h l =
    let e : k ≡ (k - suc m) + (1 + m) = omega arith in
    let h' : x % 2 ^ ((k - suc m) + (1 + m)) ≡ 0 = rw (← e) h in
    sym (field x 1 m) ∙ ap (λ (n : ℕ). n / 2 ^ m) (sym (mod-mod-pow x (k - suc m) (1 + m)) ∙ ap (λ (n : ℕ). n % 2 ^ (1 + m)) h' ∙ zero-mod (2 ^ (1 + m))) ∙ zero-div (2 ^ m)

zero-digit : (m : ℕ) → 0 / 2 ^ m % 2 ≡ 0
zero-digit m = ap (λ (n : ℕ). n % 2) (zero-div (2 ^ m))

-- ---- what the code looks at: the length and the last byte
module _ (s : List ℕ) (n : ℕ) where
  pub rule-many : max_bits < n → false ≡ string_rule s n
  rule-many h = as-rule s n false (λ e. absurd (true-false (sym e))) (λ g. absurd (let f = g.few in omega arith))

  pub rule-length : (length s ≡ bytes_for n → ⊥) → false ≡ string_rule s n
  rule-length h = as-rule s n false (λ e. absurd (true-false (sym e))) (λ g. absurd (h g.bytes))

  module _ (few : n ≤ max_bits) (bytes : length s ≡ bytes_for n) where
    pub rule-even : n % 8 ≡ 0 → true ≡ string_rule s n
    rule-even z = as-rule s n true (λ e. record { few = few; bytes = bytes; spare = λ i l. bit_past s i (omega arith) }) (λ g. refl)

    spare-zero : (n % 8 ≡ 0 → ⊥) → get_or s (n / 8) 0 % 2 ^ (8 - n % 8) ≡ 0 → (i : ℕ) → n ≤ i → Dec (i < 8 * length s) → bit_at s i ≡ false
    unfolding bit_at
    spare-zero z d i l (no m) = bit_past s i (omega arith)
    spare-zero z d i l (yes m) =
        let q : i / 8 ≡ n / 8 = omega arith in
        rw (q, low-zero (get_or s (n / 8) 0) (8 - n % 8) (7 - i % 8) d (omega arith)) refl

    zero-spare : (n % 8 ≡ 0 → ⊥) → IsString s n → get_or s (n / 8) 0 % 2 ^ (8 - n % 8) ≡ 0
    unfolding bit_at
    zero-spare z g =
        low-digits (get_or s (n / 8) 0) 0 (8 - n % 8) (λ m l.
        let i = n / 8 * 8 + (7 - m) in
        let q : (n / 8 * 8 + (7 - m)) / 8 ≡ n / 8 = omega arith in
        let r : 7 - (n / 8 * 8 + (7 - m)) % 8 ≡ m = omega arith in
        digit-is (get_or s (n / 8) 0 / 2 ^ m % 2) (0 / 2 ^ m % 2) (omega arith) (omega arith)
        ((rw (q, r) at (g.spare (n / 8 * 8 + (7 - m)) (omega arith))) ∙ sym (ap (λ (x : ℕ). eqb x 1) (zero-digit m))))
        ∙ zero-mod (2 ^ (8 - n % 8))

    pub rule-odd : (n % 8 ≡ 0 → ⊥) → eqb (get_or s (n / 8) 0 % 2 ^ (8 - n % 8)) 0 ≡ string_rule s n
    rule-odd z =
        as-rule s n (eqb (get_or s (n / 8) 0 % 2 ^ (8 - n % 8)) 0)
        (λ e. record { few = few; bytes = bytes; spare = λ i l. spare-zero z (eqb-true _ 0 e) i l (dec_lt i (8 * length s)) })
        (λ g. eq-eqb _ 0 (zero-spare z g))
