-- Lists whose elements stand in them once, and double counting, for any elements.
use Rattle.std.specs.Prelude.{◌≡◌, refl, ◌⊎◌, ℕ, ◌+◌, length}
use Rattle.std.proofs.Common.{sym, ap, ap₂, ◌∙◌, subst, inl, inr, ⊎_elim, arith}
use mathlib.Core.HLevel.{Discrete}
use Rattle.std.proofs.Math.Logic.{ite}
use mathlib.Core.List.Memᴰ
use mathlib.Core.List.{List, [], ◌∷◌, ◌++◌, map, filter, Memᴰ}
use Rattle.codes.specs.Counting.{EachOnce, AllOnce, ExactlyOne, sum_over}

-- ---- each once
module _ {A : Type 0} where
  pub once-append : (xs ys : List A) → EachOnce xs → EachOnce ys → ((z : A) → Memᴰ z xs → Memᴰ z ys → ⊥) → EachOnce (xs ++ ys)
  once-append [] ys o p d = p
  once-append (x ∷ xs) ys o p d =
      ((λ m. ⊎_elim (λ k. o.0 k) (λ k. d x (Memᴰ.head refl) k) (Memᴰ.append_cases xs m)), once-append xs ys o.1 p (λ z k. d z (Memᴰ.tail k)))

  -- where exactly one element has P, the list of those with P has length 1
  pub one-length : (P : A → Type 0) (xs : List A) → AllOnce P xs → ExactlyOne P → length xs ≡ 1
  one-length P [] a e = absurd (Memᴰ.not-nil (a.all e.one e.has))
  one-length P (x ∷ []) a e = refl
  one-length P (x ∷ y ∷ xs) a e =
      let u = e.only x (a.right x (Memᴰ.head refl)) in
      let v = e.only y (a.right y (Memᴰ.tail (Memᴰ.head refl))) in
      absurd (a.once.0 (Memᴰ.head (u ∙ sym v)))

  pub dec-member : Discrete A → (x : A) (xs : List A) → Dec (Memᴰ x xs)
  dec-member eq x [] = no (λ m. Memᴰ.not-nil m)
  dec-member eq x (y ∷ xs) = go (eq x y) (dec-member eq x xs)
    where
      go : Dec (x ≡ y) → Dec (Memᴰ x xs) → Dec (Memᴰ x (y ∷ xs))
      go (yes e) d = yes (Memᴰ.head e)
      go (no e) (yes m) = yes (Memᴰ.tail m)
      go (no e) (no k) = no (λ m. ⊎_elim e k (Memᴰ.cases_cons m))

module _ {A B : Type 0} where
  -- where f takes different members to different elements
  pub once-map : (f : A → B) (xs : List A) → EachOnce xs → ((x y : A) → Memᴰ x xs → Memᴰ y xs → f x ≡ f y → x ≡ y) → EachOnce (map f xs)
  once-map f [] o i = tt
  once-map f (x ∷ xs) o i = (
    (λ m. let y = Memᴰ.of_map f xs m in o.0 (Memᴰ.cast (i x y.0 (Memᴰ.head refl) (Memᴰ.tail y.1) (sym y.2)) y.1)),
    once-map f xs o.1 (λ u v k l. i u v (Memᴰ.tail k) (Memᴰ.tail l)),
  )

-- 1 for what holds, 0 for what does not
abbrev indicator : {P : Type 0} → Dec P → ℕ
indicator (yes h) = 1
indicator (no h) = 0

module _ {A : Type 0} {p : A → Type 0} (d : (x : A) → Dec (p x)) where
  filter-right : (xs : List A) (x : A) → Memᴰ x (filter d xs) → Memᴰ x xs × p x
  filter-right [] x m = absurd (Memᴰ.not-nil m)
  filter-right (y ∷ xs) x m = go (d y) (filter-right xs x) m
    where
      go : (e : Dec (p y)) → (Memᴰ x (filter d xs) → Memᴰ x xs × p x) → Memᴰ x (ite {C = List A} e (y ∷ filter d xs) (filter d xs)) → Memᴰ x (y ∷ xs) × p x
      go (yes h) ih m = ⊎_elim (λ e. (Memᴰ.head e, subst p (sym e) h)) (λ k. let r = ih k in (Memᴰ.tail r.0, r.1)) (Memᴰ.cases_cons m)
      go (no h) ih m = let r = ih m in (Memᴰ.tail r.0, r.1)

  filter-all : (xs : List A) (x : A) → Memᴰ x xs → p x → Memᴰ x (filter d xs)
  filter-all [] x m h = absurd (Memᴰ.not-nil m)
  filter-all (y ∷ xs) x m h = go (d y) (λ k. filter-all xs x k h) (Memᴰ.cases_cons m)
    where
      go : (e : Dec (p y)) → (Memᴰ x xs → Memᴰ x (filter d xs)) → (x ≡ y) ⊎ Memᴰ x xs → Memᴰ x (ite {C = List A} e (y ∷ filter d xs) (filter d xs))
      go (yes q) ih (inl e) = Memᴰ.head e
      go (yes q) ih (inr k) = Memᴰ.tail (ih k)
      go (no q) ih (inl e) = absurd (q (subst p e h))
      go (no q) ih (inr k) = ih k

  filter-once : (xs : List A) → EachOnce xs → EachOnce (filter d xs)
  filter-once [] o = tt
  filter-once (x ∷ xs) o = go (d x) (filter-once xs o.1)
    where
      go : (e : Dec (p x)) → EachOnce (filter d xs) → EachOnce (ite {C = List A} e (x ∷ filter d xs) (filter d xs))
      go (yes q) ih = ((λ m. o.0 (filter-right xs x m).0), ih)
      go (no q) ih = ih

  -- of a list of all elements with P, those with p are all with both
  pub filter-are : (P : A → Type 0) (xs : List A) → AllOnce P xs → AllOnce (λ (x : A). P x × p x) (filter d xs)
  filter-are P xs a = record {
    right = λ x m. (let r = filter-right xs x m in (a.right x r.0, r.1));
    all = λ x h. filter-all xs x (a.all x h.0) h.1;
    once = filter-once xs a.once;
  }

  length-filter-cons : (x : A) (xs : List A) → length (filter d (x ∷ xs)) ≡ indicator (d x) + length (filter d xs)
  length-filter-cons x xs = go (d x)
    where
      go : (e : Dec (p x)) → length (ite {C = List A} e (x ∷ filter d xs) (filter d xs)) ≡ indicator e + length (filter d xs)
      go (yes h) = omega arith
      go (no h) = omega arith

  length-filter : (xs : List A) → length (filter d xs) ≡ sum_over (λ (x : A). indicator (d x)) xs
  length-filter [] = refl
  length-filter (x ∷ xs) = length-filter-cons x xs ∙ ap (λ (n : ℕ). indicator (d x) + n) (length-filter xs)

-- ---- sums
module _ {A : Type 0} where
  pub sum_same : (f g : A → ℕ) (xs : List A) → ((x : A) → Memᴰ x xs → f x ≡ g x) → sum_over f xs ≡ sum_over g xs
  sum_same f g [] e = refl
  sum_same f g (x ∷ xs) e = ap₂ (λ (m n : ℕ). m + n) (e x (Memᴰ.head refl)) (sum_same f g xs (λ y k. e y (Memᴰ.tail k)))

  sum-add : (f g : A → ℕ) (xs : List A) → sum_over (λ x. f x + g x) xs ≡ sum_over f xs + sum_over g xs
  sum-add f g [] = refl
  sum-add f g (x ∷ xs) = let h = sum-add f g xs in omega arith

  sum_zeros : (xs : List A) → sum_over (λ x. 0) xs ≡ 0
  sum_zeros [] = refl
  sum_zeros (x ∷ xs) = let h = sum_zeros xs in omega arith

  sum_ones : (xs : List A) → sum_over (λ x. 1) xs ≡ length xs
  sum_ones [] = refl
  sum_ones (x ∷ xs) = let h = sum_ones xs in omega arith

-- ---- double counting
module _ {A B : Type 0} {R : A → B → Type 0} (d : (x : A) (y : B) → Dec (R x y)) where
  -- how many ys each x is related to, summed over xs, and how many xs each y is related to, summed over ys: both are the related pairs
  pub double-counting : (xs : List A) (ys : List B) → sum_over (λ (x : A). length (filter (d x) ys)) xs ≡ sum_over (λ (y : B). length (filter (λ (x : A). d x y) xs)) ys
  double-counting [] ys = sym (sum_zeros ys)
  double-counting (x ∷ xs) ys =
      ap₂ (λ (m n : ℕ). m + n) (length-filter (d x) ys) (double-counting xs ys)
      ∙ sym (sum-add (λ (y : B). indicator (d x y)) (λ (y : B). length (filter (λ (x : A). d x y) xs)) ys)
      ∙ sum_same (λ (y : B). indicator (d x y) + length (filter (λ (x : A). d x y) xs)) (λ (y : B). length (filter (λ (x : A). d x y) (x ∷ xs))) ys
      (λ y m. sym (length-filter-cons (λ (x : A). d x y) x xs))

  -- where each y is related to one x, the related pairs are as many as the ys
  pub related-once : (xs : List A) (ys : List B) → ((y : B) → Memᴰ y ys → length (filter (λ (x : A). d x y) xs) ≡ 1)
      → sum_over (λ (x : A). length (filter (d x) ys)) xs ≡ length ys
  related-once xs ys e = double-counting xs ys ∙ sum_same (λ (y : B). length (filter (λ (x : A). d x y) xs)) (λ y. 1) ys e ∙ sum_ones ys

-- two lists of the same elements, each once, have one length: each element of one list is equal to one of the other
module _ {A : Type 0} (eq : Discrete A) (P : A → Type 0) where
  pub same_length : (xs ys : List A) → AllOnce P xs → AllOnce P ys → length xs ≡ length ys
  same_length xs ys a b =
      sym (sum_ones xs) ∙ sum_same (λ x. 1) (λ (x : A). length (filter (eq x) ys)) xs (λ x m. sym (right x (a.right x m)))
      ∙ related-once eq xs ys (λ y m. left y (b.right y m))
    where
      right : (x : A) → P x → length (filter (eq x) ys) ≡ 1
      right x h = one-length (λ (y : A). P y × (x ≡ y)) (filter (eq x) ys) (filter-are (eq x) P ys b) (record { one = x; has = (h, refl); only = λ y g. sym g.1 })

      left : (y : A) → P y → length (filter (λ (x : A). eq x y) xs) ≡ 1
      left y h =
          one-length (λ (x : A). P x × (x ≡ y)) (filter (λ (x : A). eq x y) xs) (filter-are (λ (x : A). eq x y) P xs a)
          (record { one = y; has = (h, refl); only = λ x g. g.1 })
