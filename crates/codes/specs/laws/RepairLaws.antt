-- The theorems on put-in and take-out, for every length and every syndrome.
use Rattle.std.proofs.Math.Path.{◌≡◌, refl, sym, ap}
use Rattle.std.proofs.Common.{ap₂, ◌∙◌, inl, inr, mod-lt, mod-eq_of_lt, div-add-mod', le_refl, arith}
use Rattle.std.specs.Prelude.{Bool, cond, ℕ, zero, suc, ◌+◌, ◌-◌, ◌*◌, ◌/◌, ◌%◌, ◌≤◌, ◌<◌, length, take, drop, get_or, leb}
use Rattle.std.proofs.Math.Bool.{true, false}
use Rattle.std.proofs.Math.Logic.{⊎_elim}
use mathlib.Core.List.Memᴰ
use mathlib.Core.List.{List, [], ◌∷◌, Memᴰ}
use Rattle.std.proofs.Math.Option.{Option, none, some, some-injective, none-ne-some}
use Rattle.std.proofs.Math.Nat.{mod-add-mod, add-mod-mod, add-mul-mod_self_right}
use Rattle.std.proofs.Math.Decide.{dec_lt, dec_le}
use Rattle.std.proofs.Math.Dec.{eqb}
use borrow.Author.Tests.{le-leb, lt-leb, leb-true, leb-false, eq-eqb, ne_eqb, eqb-true, eqb-false}
use Rattle.codes.specs.Syndrome.{weighted_sum, syndrome}
use Rattle.codes.specs.laws.SyndromeLaws.{weighted-sum-insert-zero, weighted-sum-insert-one, ones-zeros, ones-drop, zeros-take, place-ones, syndrome-most}
use Rattle.codes.specs.Repair.{without, insert_at, Deletion, insertions, deletions, with_syndrome, put_in, take_out, OneApart, repair_to}
use Rattle.codes.specs.code.Place.{ones, zeros, zero_place, one_place, lack, put_bit, put_place, filled}

-- ---- one bit put in, one bit taken out
pub length-insert : (p : ℕ) (b : Bool) (l : List Bool) → length (insert_at p b l) ≡ length l + 1
length-insert zero b l = omega arith
length-insert (suc p) b [] = refl
length-insert (suc p) b (x ∷ l) = let e = length-insert p b l in omega arith

pub length_without : (i : ℕ) (l : List Bool) → i < length l → length (without i l) + 1 ≡ length l
length_without i [] h = absurd (omega arith)
length_without zero (x ∷ l) h = omega arith
length_without (suc i) (x ∷ l) h = let e = length_without i l (omega arith) in omega arith

pub without-insert : (p : ℕ) (b : Bool) (l : List Bool) → p ≤ length l → without p (insert_at p b l) ≡ l
without-insert zero b l h = refl
without-insert (suc p) b [] h = absurd (omega arith)
without-insert (suc p) b (x ∷ l) h = ap (λ (r : List Bool). x ∷ r) (without-insert p b l (omega arith))

pub insert-without : (i : ℕ) (l : List Bool) → i < length l → insert_at i (get_or l i false) (without i l) ≡ l
insert-without i [] h = absurd (omega arith)
insert-without zero (x ∷ l) h = refl
insert-without (suc i) (x ∷ l) h = ap (λ (r : List Bool). x ∷ r) (insert-without i l (omega arith))

pub deletion-length : (short long : List Bool) → Deletion short long → length long ≡ length short + 1
deletion-length short long d = sym (ap (λ (x : List Bool). length x + 1) d.is ∙ length_without d.place long d.within)

pub insert-deletion : (p : ℕ) (b : Bool) (l : List Bool) → p ≤ length l → Deletion l (insert_at p b l)
insert-deletion p b l h = record { place = p; within = (let x = length-insert p b l in omega arith); is = sym (without-insert p b l h) }

pub without-deletion : (i : ℕ) (l : List Bool) → i < length l → Deletion (without i l) l
without-deletion i l h = record { place = i; within = h; is = refl }

-- a longer string is the shorter with the bit at the deletion's place put in
pub deletion-insert : (short long : List Bool) (d : Deletion short long) → (d.place ≤ length short) × (insert_at d.place (get_or long d.place false) short ≡ long)
deletion-insert short long d =
    let n = deletion-length short long d in
    let w = d.within in
    (omega arith, ap (insert_at d.place (get_or long d.place false)) d.is ∙ insert-without d.place long d.within)

-- ---- the places found
zero-place-within : (r : ℕ) (l : List Bool) → zero_place r l ≤ length l
zero-place-within r [] = omega arith
zero-place-within r (b ∷ l) = go (leb (ones (b ∷ l)) r) (zero-place-within r l)
  where
    go : (t : Bool) → zero_place r l ≤ length l → cond t 0 (suc (zero_place r l)) ≤ suc (length l)
    go true h = omega arith
    go false h = omega arith

pub zero-place-ones : (r : ℕ) (l : List Bool) → r ≤ ones l → ones (drop (zero_place r l) l) ≡ r
zero-place-ones r [] h = omega arith
zero-place-ones r (b ∷ l) h = go b h (leb (ones (b ∷ l)) r) refl (zero-place-ones r l)
  where
    go : (b : Bool) → r ≤ ones (b ∷ l) → (t : Bool) → leb (ones (b ∷ l)) r ≡ t → (r ≤ ones l → ones (drop (zero_place r l) l) ≡ r)
        → ones (drop (cond t 0 (suc (zero_place r l))) (b ∷ l)) ≡ r
    go b h true e ih = let q = leb-true (ones (b ∷ l)) r e in omega arith
    go true h false e ih = let q = leb-false (suc (ones l)) r e in ih (omega arith)
    go false h false e ih = ih h

one-place-within : (z : ℕ) (l : List Bool) → one_place z l ≤ length l
one-place-within zero l = omega arith
one-place-within (suc z) [] = omega arith
one-place-within (suc z) (true ∷ l) = let h = one-place-within (suc z) l in omega arith
one-place-within (suc z) (false ∷ l) = let h = one-place-within z l in omega arith

one-place-zeros : (z : ℕ) (l : List Bool) → z ≤ zeros l → zeros (take (one_place z l) l) ≡ z
one-place-zeros zero l h = refl
one-place-zeros (suc z) [] h = absurd (omega arith)
one-place-zeros (suc z) (true ∷ l) h = one-place-zeros (suc z) l h
one-place-zeros (suc z) (false ∷ l) h = ap suc (one-place-zeros z l (omega arith))

-- ---- every place with as many ones to its right puts the same 0 in; with as many zeros to its left, the same 1
slide-zero : (p : ℕ) (l : List Bool) → ones l ≤ ones (drop p l) → insert_at p false l ≡ false ∷ l
slide-zero zero l h = refl
slide-zero (suc p) [] h = refl
slide-zero (suc p) (true ∷ l) h = let q = ones-drop p l in absurd (omega arith)
slide-zero (suc p) (false ∷ l) h = ap (λ (r : List Bool). false ∷ r) (slide-zero p l h)

same-zero : (p : ℕ) (l : List Bool) → insert_at p false l ≡ insert_at (zero_place (ones (drop p l)) l) false l
same-zero zero [] = refl
same-zero (suc p) [] = refl
same-zero zero (b ∷ l) = rw (le-leb (ones (b ∷ l)) (ones (b ∷ l)) (le_refl (ones (b ∷ l)))) refl
same-zero (suc p) (b ∷ l) = go b (leb (ones (b ∷ l)) (ones (drop p l))) refl (same-zero p l)
  where
    go : (b : Bool) (t : Bool) → leb (ones (b ∷ l)) (ones (drop p l)) ≡ t → insert_at p false l ≡ insert_at (zero_place (ones (drop p l)) l) false l
        → b ∷ insert_at p false l ≡ insert_at (cond t 0 (suc (zero_place (ones (drop p l)) l))) false (b ∷ l)
    go b false e ih = ap (λ (r : List Bool). b ∷ r) ih
    go true true e ih = let q = leb-true (suc (ones l)) (ones (drop p l)) e in let d = ones-drop p l in absurd (omega arith)
    go false true e ih = ap (λ (r : List Bool). false ∷ r) (slide-zero p l (leb-true (ones l) (ones (drop p l)) e))

slide-one : (p : ℕ) (l : List Bool) → zeros (take p l) ≡ 0 → insert_at p true l ≡ true ∷ l
slide-one zero l h = refl
slide-one (suc p) [] h = refl
slide-one (suc p) (false ∷ l) h = absurd (omega arith)
slide-one (suc p) (true ∷ l) h = ap (λ (r : List Bool). true ∷ r) (slide-one p l h)

same-one : (p : ℕ) (l : List Bool) → insert_at p true l ≡ insert_at (one_place (zeros (take p l)) l) true l
same-one zero l = refl
same-one (suc p) [] = refl
same-one (suc p) (false ∷ l) = ap (λ (r : List Bool). false ∷ r) (same-one p l)
same-one (suc p) (true ∷ l) = go (zeros (take p l)) refl (same-one p l)
  where
    go : (z : ℕ) → zeros (take p l) ≡ z → insert_at p true l ≡ insert_at (one_place (zeros (take p l)) l) true l
        → true ∷ insert_at p true l ≡ insert_at (one_place z (true ∷ l)) true (true ∷ l)
    go zero e ih = ap (λ (r : List Bool). true ∷ r) (slide-one p l e)
    go (suc z) e ih = ap (λ (r : List Bool). true ∷ r) (rw e at ih)

-- ---- modulo m
module _ (s r a m : ℕ) (pos : 0 < m) where
  whole : s + (m - s % m) ≡ (s / m + 1) * m
  whole = let d = div-add-mod' s m in let l = mod-lt s pos in omega arith

  -- a sum s that r more brings to a lacks r
  pub lack-is : (s + r) % m ≡ a → r < m → (a + (m - s % m)) % m ≡ r
  lack-is e h =
      ap (λ (x : ℕ). (x + (m - s % m)) % m) (sym e) ∙ mod-add-mod (s + r) m (m - s % m)
      ∙ ap (λ (x : ℕ). x % m) (let w = whole in omega arith) ∙ add-mul-mod_self_right r (s / m + 1) m ∙ mod-eq_of_lt h

  pub lack-adds : r ≡ (a + (m - s % m)) % m → a < m → (s + r) % m ≡ a
  lack-adds e h =
      ap (λ (x : ℕ). (s + x) % m) e ∙ add-mod-mod s (a + (m - s % m)) m
      ∙ ap (λ (x : ℕ). x % m) (let w = whole in omega arith) ∙ add-mul-mod_self_right a (s / m + 1) m ∙ mod-eq_of_lt h

-- ---- the filled string
filled_zero : (a : ℕ) (l : List Bool) → lack a l ≤ ones l → filled a l ≡ insert_at (zero_place (lack a l) l) false l
unfolding filled put_place put_bit
filled_zero a l h = rw (le-leb (lack a l) (ones l) h) refl

filled-one : (a : ℕ) (l : List Bool) → ones l < lack a l → filled a l ≡ insert_at (one_place (lack a l - ones l - 1) l) true l
unfolding filled put_place put_bit
filled-one a l h = rw (lt-leb (lack a l) (ones l) h) refl

-- at most one: whatever bit is put in where, if the syndrome is a, it is the string filled
insert-is : (a p : ℕ) (b : Bool) (l : List Bool) → p ≤ length l → syndrome (insert_at p b l) ≡ a → insert_at p b l ≡ filled a l
unfolding syndrome lack
insert-is a p false l h e =
    let n : length (insert_at p false l) + 1 ≡ length l + 2 = let x = length-insert p false l in omega arith in
    let s : (weighted_sum 1 l + ones (drop p l)) % (length l + 2) ≡ a = ap₂ (λ (x m : ℕ). x % m) (sym (weighted-sum-insert-zero 1 p l)) (sym n) ∙ e in
    let w : ones (drop p l) ≤ length l = let x = ones-drop p l in let y = ones-zeros l in omega arith in
    let q : lack a l ≡ ones (drop p l) = lack-is (weighted_sum 1 l) (ones (drop p l)) a (length l + 2) (omega arith) s (omega arith) in
    same-zero p l ∙ rw (← q) (sym (filled_zero a l (let x = ones-drop p l in omega arith)))
insert-is a p true l h e =
    let n : length (insert_at p true l) + 1 ≡ length l + 2 = let x = length-insert p true l in omega arith in
    let o = place-ones p l h in
    let r : weighted_sum 1 (insert_at p true l) ≡ weighted_sum 1 l + (1 + zeros (take p l) + ones l) = let x = weighted-sum-insert-one 1 p l h in omega arith in
    let s : (weighted_sum 1 l + (1 + zeros (take p l) + ones l)) % (length l + 2) ≡ a = ap₂ (λ (x m : ℕ). x % m) (sym r) (sym n) ∙ e in
    let w : 1 + zeros (take p l) + ones l < length l + 2 = let x = zeros-take p l in let y = ones-zeros l in omega arith in
    let q : lack a l ≡ 1 + zeros (take p l) + ones l = lack-is (weighted_sum 1 l) (1 + zeros (take p l) + ones l) a (length l + 2) (omega arith) s w in
    let z : zeros (take p l) ≡ lack a l - ones l - 1 = omega arith in
    same-one p l ∙ rw z (sym (filled-one a l (omega arith)))

pub filled-unique : (a : ℕ) (short long : List Bool) → Deletion short long → syndrome long ≡ a → long ≡ filled a short
filled-unique a short long d e =
    let f = deletion-insert short long d in
    sym f.1 ∙ insert-is a d.place (get_or long d.place false) short f.0 (ap syndrome f.1 ∙ e)

-- at least one
pub put-place-within : (a : ℕ) (l : List Bool) → put_place a l ≤ length l
unfolding put_place
put-place-within a l = go (leb (lack a l) (ones l))
  where
    go : (t : Bool) → cond t (zero_place (lack a l) l) (one_place (lack a l - ones l - 1) l) ≤ length l
    go true = zero-place-within (lack a l) l
    go false = one-place-within (lack a l - ones l - 1) l

pub filled-deletion : (a : ℕ) (l : List Bool) → Deletion l (filled a l)
unfolding filled
filled-deletion a l = insert-deletion (put_place a l) (put_bit a l) l (put-place-within a l)

lack-less : (a : ℕ) (l : List Bool) → lack a l < length l + 2
unfolding lack
lack-less a l = mod-lt (a + (length l + 2 - weighted_sum 1 l % (length l + 2))) (omega arith)

filled-sum : (a : ℕ) (l : List Bool) → weighted_sum 1 (filled a l) ≡ weighted_sum 1 l + lack a l
filled-sum a l = go (dec_le (lack a l) (ones l)) (lack-less a l)
  where
    go : Dec (lack a l ≤ ones l) → lack a l < length l + 2 → weighted_sum 1 (filled a l) ≡ weighted_sum 1 l + lack a l
    go (yes h) b =
        ap (weighted_sum 1) (filled_zero a l h) ∙ weighted-sum-insert-zero 1 (zero_place (lack a l) l) l
        ∙ ap (λ (x : ℕ). weighted_sum 1 l + x) (zero-place-ones (lack a l) l h)
    go (no h) b =
        let z = lack a l - ones l - 1 in
        let y = ones-zeros l in
        let w = one-place-within z l in
        let x = weighted-sum-insert-one 1 (one_place z l) l w in
        let o = place-ones (one_place z l) l w in
        let e = one-place-zeros z l (omega arith) in
        ap (weighted_sum 1) (filled-one a l (omega arith)) ∙ omega arith

pub filled-length : (a : ℕ) (l : List Bool) → length (filled a l) ≡ length l + 1
unfolding filled
filled-length a l = length-insert (put_place a l) (put_bit a l) l

pub filled-syndrome : (a : ℕ) (l : List Bool) → a ≤ length l + 1 → syndrome (filled a l) ≡ a
unfolding syndrome lack
filled-syndrome a l h =
    let n : length (filled a l) + 1 ≡ length l + 2 = let x = filled-length a l in omega arith in
    ap₂ (λ (x m : ℕ). x % m) (filled-sum a l) n ∙ lack-adds (weighted_sum 1 l) (lack a l) a (length l + 2) (omega arith) refl (omega arith)

-- ---- taking out: two strings of one syndrome, each with one bit of the same string taken out, are one
both_out : (i j : ℕ) (l : List Bool) → i ≤ j → suc j < length l → without j (without i l) ≡ without i (without (suc j) l)
both_out i j [] h k = absurd (omega arith)
both_out zero j (x ∷ l) h k = refl
both_out (suc i) zero (x ∷ l) h k = absurd (omega arith)
both_out (suc i) (suc j) (x ∷ l) h k = ap (λ (r : List Bool). x ∷ r) (both_out i j l (omega arith) (omega arith))

-- with the place of the one before that of the other: both delete to one shorter string, into which put-in is unique
out-before : (i j : ℕ) (l : List Bool) → i < j → j < length l → syndrome (without i l) ≡ syndrome (without j l) → without i l ≡ without j l
out-before i j l h k e =
    let jj : suc (j - 1) ≡ j = omega arith in
    let c : without (j - 1) (without i l) ≡ without i (without j l) = both_out i (j - 1) l (omega arith) (omega arith) ∙ ap (λ (n : ℕ). without i (without n l)) jj in
    let m = without (j - 1) (without i l) in
    let li = length_without i l (omega arith) in
    let lj = length_without j l k in
    let d₁ : Deletion m (without i l) = record { place = j - 1; within = omega arith; is = refl } in
    let d₂ : Deletion m (without j l) = record { place = i; within = omega arith; is = c } in
    filled-unique (syndrome (without j l)) m (without i l) d₁ e ∙ sym (filled-unique (syndrome (without j l)) m (without j l) d₂ refl)

pub one_out : (long x y : List Bool) → Deletion x long → Deletion y long → syndrome x ≡ syndrome y → x ≡ y
one_out long x y d₁ d₂ e = go (dec_lt d₁.place d₂.place) (dec_lt d₂.place d₁.place)
  where
    e' : syndrome (without d₁.place long) ≡ syndrome (without d₂.place long)
    e' = ap syndrome (sym d₁.is) ∙ e ∙ ap syndrome d₂.is

    go : Dec (d₁.place < d₂.place) → Dec (d₂.place < d₁.place) → x ≡ y
    go (yes h) q = d₁.is ∙ out-before d₁.place d₂.place long h d₂.within e' ∙ sym d₂.is
    go (no h) (yes k) = d₁.is ∙ sym (out-before d₂.place d₁.place long k d₁.within (sym e')) ∙ sym d₂.is
    go (no h) (no k) = d₁.is ∙ ap (λ (n : ℕ). without n long) (let q : d₁.place ≡ d₂.place = omega arith in q) ∙ sym d₂.is

-- ---- the candidates: the members of `insertions l` are the strings that delete to l, those of `deletions l` the strings that l deletes to
deletion-later : (b : Bool) (short long : List Bool) → Deletion short long → Deletion (b ∷ short) (b ∷ long)
deletion-later b short long d = record { place = suc d.place; within = (let h = d.within in omega arith); is = ap (λ (r : List Bool). b ∷ r) d.is }

deletion-cast : (short : List Bool) {x y : List Bool} → x ≡ y → Deletion short x → Deletion short y
deletion-cast short e d = rw e at d

module _ (l : List Bool) where
  insertions-first : Memᴰ (false ∷ l) (insertions l) × Memᴰ (true ∷ l) (insertions l)
  unfolding insertions
  insertions-first = go l
    where
      go : (l : List Bool) → Memᴰ (false ∷ l) (insertions l) × Memᴰ (true ∷ l) (insertions l)
      go [] = (Memᴰ.head refl, Memᴰ.tail (Memᴰ.head refl))
      go (b ∷ l) = (Memᴰ.head refl, Memᴰ.tail (Memᴰ.head refl))

insertions-insert : (p : ℕ) (b : Bool) (l : List Bool) → p ≤ length l → Memᴰ (insert_at p b l) (insertions l)
unfolding insertions
insertions-insert zero false l h = (insertions-first l).0
insertions-insert zero true l h = (insertions-first l).1
insertions-insert (suc p) b [] h = absurd (omega arith)
insertions-insert (suc p) b (x ∷ l) h =
    Memᴰ.tail (Memᴰ.tail (Memᴰ.map (λ (r : List Bool). x ∷ r) (insertions-insert p b l (omega arith))))

-- x is a member of insertions l if, and only if, deleting one bit of x gives l
pub member-of-insertions : (l x : List Bool) → Deletion l x → Memᴰ x (insertions l)
member-of-insertions l x d = let f = deletion-insert l x d in Memᴰ.cast (sym f.1) (insertions-insert d.place (get_or x d.place false) l f.0)

pub insertions-delete : (l x : List Bool) → Memᴰ x (insertions l) → Deletion l x
unfolding insertions
insertions-delete [] x m =
    ⊎_elim (λ e. deletion-cast [] (sym e) (insert-deletion 0 false [] (omega arith)))
    (λ m'. ⊎_elim (λ e. deletion-cast [] (sym e) (insert-deletion 0 true [] (omega arith))) (λ m''. absurd (Memᴰ.not-nil m'')) (Memᴰ.cases_cons m'))
    (Memᴰ.cases_cons m)
insertions-delete (b ∷ l) x m =
    ⊎_elim (λ e. deletion-cast (b ∷ l) (sym e) (insert-deletion 0 false (b ∷ l) (omega arith)))
    (λ m'.
    ⊎_elim (λ e. deletion-cast (b ∷ l) (sym e) (insert-deletion 0 true (b ∷ l) (omega arith)))
    (λ m''. let y = Memᴰ.of_map (λ (r : List Bool). b ∷ r) (insertions l) m'' in
    deletion-cast (b ∷ l) y.2 (deletion-later b l y.0 (insertions-delete l y.0 y.1)))
    (Memᴰ.cases_cons m'))
    (Memᴰ.cases_cons m)

deletions-without : (i : ℕ) (l : List Bool) → i < length l → Memᴰ (without i l) (deletions l)
unfolding deletions
deletions-without i [] h = absurd (omega arith)
deletions-without zero (b ∷ l) h = Memᴰ.head refl
deletions-without (suc i) (b ∷ l) h = Memᴰ.tail (Memᴰ.map (λ (r : List Bool). b ∷ r) (deletions-without i l (omega arith)))

-- x is a member of deletions l if, and only if, deleting one bit of l gives x
pub member-of-deletions : (l x : List Bool) → Deletion x l → Memᴰ x (deletions l)
member-of-deletions l x d = Memᴰ.cast d.is (deletions-without d.place l d.within)

pub deletions-delete : (l x : List Bool) → Memᴰ x (deletions l) → Deletion x l
unfolding deletions
deletions-delete [] x m = absurd (Memᴰ.not-nil m)
deletions-delete (b ∷ l) x m =
    ⊎_elim (λ e. record { place = 0; within = omega arith; is = e })
    (λ m'. let y = Memᴰ.of_map (λ (r : List Bool). b ∷ r) (deletions l) m' in
    let d = deletion-later b y.0 l (deletions-delete l y.0 y.1) in
    record { place = d.place; within = d.within; is = sym y.2 ∙ d.is })
    (Memᴰ.cases_cons m)

-- ---- the first candidate with the syndrome a
module _ (a : ℕ) where
  with-syndrome-found : (xs : List (List Bool)) (x : List Bool) → with_syndrome a xs ≡ some x → Memᴰ x xs × (syndrome x ≡ a)
  unfolding with_syndrome
  with-syndrome-found [] x e = absurd (none-ne-some x e)
  with-syndrome-found (y ∷ xs) x e = go (eqb (syndrome y) a) refl (with-syndrome-found xs x) e
    where
      go : (t : Bool) → eqb (syndrome y) a ≡ t → (with_syndrome a xs ≡ some x → Memᴰ x xs × (syndrome x ≡ a))
          → (elim t [ true ↦ some y | false ↦ with_syndrome a xs ]) ≡ some x → Memᴰ x (y ∷ xs) × (syndrome x ≡ a)
      go true h ih e = let q = some-injective y x e in (Memᴰ.head (sym q), ap syndrome (sym q) ∙ eqb-true (syndrome y) a h)
      go false h ih e = let r = ih e in (Memᴰ.tail r.0, r.1)

  with-syndrome-none : (xs : List (List Bool)) → with_syndrome a xs ≡ none → (x : List Bool) → Memᴰ x xs → syndrome x ≡ a → ⊥
  unfolding with_syndrome
  with-syndrome-none [] e x m s = Memᴰ.not-nil m
  with-syndrome-none (y ∷ xs) e x m s = go (eqb (syndrome y) a) refl (λ e' m'. with-syndrome-none xs e' x m' s) e
    where
      go : (t : Bool) → eqb (syndrome y) a ≡ t → (with_syndrome a xs ≡ none → Memᴰ x xs → ⊥)
          → ◌≡◌ {A = Option (List Bool)} (elim t [ true ↦ some y | false ↦ with_syndrome a xs ]) none → ⊥
      go true h ih e = none-ne-some y (sym e)
      go false h ih e = ⊎_elim (λ q. eqb-false (syndrome y) a h (ap syndrome (sym q) ∙ s)) (λ m'. ih e m') (Memᴰ.cases_cons m)

  -- where no other candidate has it, it is the one
  with-syndrome-only : (xs : List (List Bool)) (x : List Bool) → Memᴰ x xs → syndrome x ≡ a
      → ((y : List Bool) → Memᴰ y xs → syndrome y ≡ a → y ≡ x) → with_syndrome a xs ≡ some x
  with-syndrome-only xs x m s only = go (with_syndrome a xs) refl
    where
      go : (o : Option (List Bool)) → with_syndrome a xs ≡ o → with_syndrome a xs ≡ some x
      go none e = absurd (with-syndrome-none xs e x m s)
      go (some y) e = let f = with-syndrome-found xs y e in e ∙ ap some (only y f.0 f.1)

-- ---- 01, put-in: "There is always exactly one"
module _ (a : ℕ) (l : List Bool) where
  pub put-in-found : (x : List Bool) → put_in a l ≡ some x → Deletion l x × (syndrome x ≡ a)
  unfolding put_in
  put-in-found x e = let f = with-syndrome-found a (insertions l) x e in (insertions-delete l x f.0, f.1)

  -- at most one
  pub put-in-unique : (x : List Bool) → Deletion l x → syndrome x ≡ a → put_in a l ≡ some x
  unfolding put_in
  put-in-unique x d s =
      with-syndrome-only a (insertions l) x (member-of-insertions l x d) s
      (λ y m t. filled-unique a l y (insertions-delete l y m) t ∙ sym (filled-unique a l x d s))

  -- the string that the code's place gives
  pub put-in-filled : a ≤ length l + 1 → put_in a l ≡ some (filled a l)
  put-in-filled h = put-in-unique (filled a l) (filled-deletion a l) (filled-syndrome a l h)

  -- at least one, for a from 0 to n = length l + 1
  pub put-in-exists : a ≤ length l + 1 → (x : List Bool) × (put_in a l ≡ some x) × Deletion l x × (syndrome x ≡ a)
  put-in-exists h = (filled a l, put-in-filled h, filled-deletion a l, filled-syndrome a l h)

  -- a syndrome above n is no string's
  pub put-in-above : length l + 1 < a → put_in a l ≡ none
  put-in-above h = go (put_in a l) refl
    where
      go : (o : Option (List Bool)) → put_in a l ≡ o → put_in a l ≡ none
      go none e = e
      go (some x) e =
          let f = put-in-found x e in
          let n = deletion-length l x f.0 in
          let s = f.1 in
          let m = syndrome-most x in
          absurd (omega arith)

  pub put-in-length : (x : List Bool) → put_in a l ≡ some x → length x ≡ length l + 1
  put-in-length x e = deletion-length l x (put-in-found x e).0

-- ---- 01, take-out: the one, or none "exactly if there is none"
module _ (a : ℕ) (l : List Bool) where
  pub take-out-found : (x : List Bool) → take_out a l ≡ some x → Deletion x l × (syndrome x ≡ a)
  unfolding take_out
  take-out-found x e = let f = with-syndrome-found a (deletions l) x e in (deletions-delete l x f.0, f.1)

  pub take-out-none : take_out a l ≡ none → (x : List Bool) → Deletion x l → syndrome x ≡ a → ⊥
  unfolding take_out
  take-out-none e x d s = with-syndrome-none a (deletions l) e x (member-of-deletions l x d) s

  pub take-out-unique : (x : List Bool) → Deletion x l → syndrome x ≡ a → take_out a l ≡ some x
  unfolding take_out
  take-out-unique x d s =
      with-syndrome-only a (deletions l) x (member-of-deletions l x d) s (λ y m t. one_out l y x (deletions-delete l y m) d (t ∙ sym s))

  -- and none if there is none
  pub take-out-no : ((x : List Bool) → Deletion x l → syndrome x ≡ a → ⊥) → take_out a l ≡ none
  take-out-no f = go (take_out a l) refl
    where
      go : (o : Option (List Bool)) → take_out a l ≡ o → take_out a l ≡ none
      go none e = e
      go (some x) e = let d = take-out-found x e in absurd (f x d.0 d.1)

  pub take-out-length : (x : List Bool) → take_out a l ≡ some x → length x + 1 ≡ length l
  take-out-length x e = sym (deletion-length x l (take-out-found x e).0)

-- ---- the repair to n bits
pub repair-put-in : (n a : ℕ) (l : List Bool) → length l + 1 ≡ n → repair_to n a l ≡ put_in a l
unfolding repair_to
repair-put-in n a l e = rw (eq-eqb (length l + 1) n e) refl

pub repair-take-out : (n a : ℕ) (l : List Bool) → (length l + 1 ≡ n → ⊥) → repair_to n a l ≡ take_out a l
unfolding repair_to
repair-take-out n a l e = rw (ne_eqb (length l + 1) n e) refl

-- it has n bits
pub repair-length : (n a len : ℕ) (l x : List Bool) → length l ≡ len → OneApart len n → repair_to n a l ≡ some x → length x ≡ n
repair-length n a len l x k (inl h) e = let m = put-in-length a l x (sym (repair-put-in n a l (omega arith)) ∙ e) in omega arith
repair-length n a len l x k (inr h) e = let m = take-out-length a l x (sym (repair-take-out n a l (λ z. omega arith)) ∙ e) in omega arith

-- ---- what the rebuilder rests on
-- if long deletes to short, put-in of short with long's syndrome is long
pub put-in-repairs : (short long : List Bool) → Deletion short long → put_in (syndrome long) short ≡ some long
put-in-repairs short long d = put-in-unique (syndrome long) short long d refl

-- if long deletes to x, take-out of long with x's syndrome is x
pub take-out-repairs : (x long : List Bool) → Deletion x long → take_out (syndrome x) long ≡ some x
take-out-repairs x long d = take-out-unique (syndrome x) long x d refl
