-- 02, CR 11: the lists of Counting are what they are called, the results of one deletion are as many as the runs, and the three claims.
use Rattle.std.specs.Prelude.{◌≡◌, refl, Bool, true, false, cond, ◌↔◌, ℕ, zero, suc, ◌+◌, ◌-◌, ◌^◌, ◌≤◌, ◌<◌, length, take, get_or}
use Rattle.std.proofs.Common.{sym, ap, ap₂, ◌∙◌, ⊎_elim, pow-suc, arith, length-append}
use Rattle.std.specs.Bool.{beq}
use Rattle.std.proofs.Math.Bool.{Bool-discrete}
use Rattle.std.proofs.lemmas.Bool.{false≢true}
use mathlib.Core.HLevel.{Discrete}
use mathlib.Core.List.Memᴰ
use mathlib.Core.List.{List, [], ◌∷◌, ◌++◌, map, filter, List-discrete, Memᴰ, head-eq_of_cons-eq, tail-eq_of_cons-eq}
use Rattle.std.proofs.Math.Option.{Option, none, some, some-injective, none-ne-some}
use Rattle.std.proofs.Math.Decide.{ℕ_discrete}
use Rattle.std.proofs.lemmas.List.{length-map}
use Rattle.codes.specs.Syndrome.{syndrome}
use Rattle.codes.specs.laws.SyndromeLaws.{syndrome-most}
use Rattle.codes.specs.Repair.{without, Deletion, deletions, put_in}
use Rattle.codes.specs.laws.RepairLaws.{deletion-length, member-of-deletions, deletions-delete, put-in-exists, put-in-found, put-in-unique, put-in-repairs}
use Rattle.codes.specs.Counting.{EachOnce, AllOnce, strings, of_syndrome, changes, runs, run_of, up_to, put_ins, TurnsInto, FromExactlyOne, RunsOfSyndrome, PutInsAreAll}
use Rattle.codes.specs.laws.ListCounting.{once-append, once-map, one-length, dec-member, filter-are, sum_same, related-once, same_length}

-- ---- all strings of n bits
-- the bit b in front of each
abbrev in_front : Bool → List (List Bool) → List (List Bool)
in_front b xs = map (λ (x : List Bool). b ∷ x) xs

pub length-strings : (n : ℕ) → length (strings n) ≡ 2 ^ n
unfolding strings
length-strings zero = refl
length-strings (suc n) =
    let xs = in_front false (strings n) in
    let ys = in_front true (strings n) in
    let f : length xs ≡ length (strings n) = length-map (strings n) (λ (x : List Bool). false ∷ x) in
    let t : length ys ≡ length (strings n) = length-map (strings n) (λ (x : List Bool). true ∷ x) in
    let h = length-strings n in
    let p = pow-suc 2 n in
    length-append xs ys ∙ omega arith

of-front : (b : Bool) {x : List Bool} (xs : List (List Bool)) → Memᴰ x (in_front b xs) → (y : List Bool) × Memᴰ y xs × (b ∷ y ≡ x)
of-front b xs m = Memᴰ.of_map (λ (x : List Bool). b ∷ x) xs m

strings-right : (n : ℕ) (x : List Bool) → Memᴰ x (strings n) → length x ≡ n
unfolding strings
strings-right zero x m = ⊎_elim (λ e. ap length e) (λ k. absurd (Memᴰ.not-nil k)) (Memᴰ.cases_cons m)
strings-right (suc n) x m = ⊎_elim (go false (strings-right n)) (go true (strings-right n)) (Memᴰ.append_cases (in_front false (strings n)) m)
  where
    go : (b : Bool) → ((y : List Bool) → Memᴰ y (strings n) → length y ≡ n) → Memᴰ x (in_front b (strings n)) → length x ≡ suc n
    go b ih k = let y = of-front b (strings n) k in sym (ap length y.2) ∙ ap suc (ih y.0 y.1)

strings-all : (n : ℕ) (x : List Bool) → length x ≡ n → Memᴰ x (strings n)
unfolding strings
strings-all zero [] e = Memᴰ.head refl
strings-all zero (b ∷ x) e = absurd (omega arith)
strings-all (suc n) [] e = absurd (omega arith)
strings-all (suc n) (false ∷ x) e = Memᴰ.append_left (in_front true (strings n)) (Memᴰ.map (λ (x : List Bool). false ∷ x) (strings-all n x (omega arith)))
strings-all (suc n) (true ∷ x) e = Memᴰ.append_right (in_front false (strings n)) (Memᴰ.map (λ (x : List Bool). true ∷ x) (strings-all n x (omega arith)))

strings-once : (n : ℕ) → EachOnce (strings n)
unfolding strings
strings-once zero = ((λ m. Memᴰ.not-nil m), tt)
strings-once (suc n) =
    once-append (in_front false (strings n)) (in_front true (strings n)) (once false (strings-once n)) (once true (strings-once n))
    (λ z k l.
    let y = of-front false (strings n) k in
    let w = of-front true (strings n) l in
    false≢true (head-eq_of_cons-eq (y.2 ∙ sym w.2)))
  where
    once : (b : Bool) → EachOnce (strings n) → EachOnce (in_front b (strings n))
    once b o = once-map (λ (x : List Bool). b ∷ x) (strings n) o (λ x y k l e. tail-eq_of_cons-eq e)

pub strings-are : (n : ℕ) → AllOnce (λ (x : List Bool). length x ≡ n) (strings n)
strings-are n = record { right = strings-right n; all = strings-all n; once = strings-once n }

-- ---- those of one syndrome
pub of-syndrome-are : (n a : ℕ) → AllOnce (λ (x : List Bool). (length x ≡ n) × (syndrome x ≡ a)) (of_syndrome n a)
unfolding of_syndrome
of-syndrome-are n a = filter-are (λ (x : List Bool). ℕ_discrete (syndrome x) a) (λ (x : List Bool). length x ≡ n) (strings n) (strings-are n)

-- ---- each string of n - 1 bits comes by one deletion from exactly one string of n bits and syndrome a
pub exactly-one : FromExactlyOne
exactly-one n a h k y e =
    let f = put-in-exists a y (omega arith) in
    let l = deletion-length y f.0 f.2 in
    record {
      one = f.0;
      has = (omega arith, f.3, f.2);
      only = λ x g. some-injective x f.0 (sym (put-in-unique a y x g.2 g.1) ∙ f.1);
    }

-- ---- 0, 1, .. n
pub length-up-to : (n : ℕ) → length (up_to n) ≡ n + 1
unfolding up_to
length-up-to zero = refl
length-up-to (suc n) = let h = length-up-to n in length-append (up_to n) (suc n ∷ []) ∙ omega arith

up-to-right : (n a : ℕ) → Memᴰ a (up_to n) → a ≤ n
unfolding up_to
up-to-right zero a m = ⊎_elim (λ e. omega arith) (λ k. absurd (Memᴰ.not-nil k)) (Memᴰ.cases_cons m)
up-to-right (suc n) a m =
    ⊎_elim (λ k. let h = up-to-right n a k in omega arith) (λ k. ⊎_elim (λ e. omega arith) (λ k'. absurd (Memᴰ.not-nil k')) (Memᴰ.cases_cons k))
    (Memᴰ.append_cases (up_to n) m)

up-to-all : (n a : ℕ) → a ≤ n → Memᴰ a (up_to n)
unfolding up_to
up-to-all zero a h = let e : a ≡ 0 = omega arith in Memᴰ.head e
up-to-all (suc n) a h = go (ℕ_discrete a (suc n)) (up-to-all n a)
  where
    go : Dec (a ≡ suc n) → (a ≤ n → Memᴰ a (up_to n)) → Memᴰ a (up_to n ++ (suc n ∷ []))
    go (yes e) ih = Memᴰ.append_right (up_to n) (Memᴰ.head e)
    go (no e) ih = Memᴰ.append_left (suc n ∷ []) (ih (omega arith))

up-to-once : (n : ℕ) → EachOnce (up_to n)
unfolding up_to
up-to-once zero = ((λ m. Memᴰ.not-nil m), tt)
up-to-once (suc n) =
    once-append (up_to n) (suc n ∷ []) (up-to-once n) ((λ m. Memᴰ.not-nil m), tt)
    (λ z k l. let h = up-to-right n z k in ⊎_elim (λ e. omega arith) (λ k'. Memᴰ.not-nil k') (Memᴰ.cases_cons l))

pub up-to-are : (n : ℕ) → AllOnce (λ (a : ℕ). a ≤ n) (up_to n)
up-to-are n = record { right = up-to-right n; all = up-to-all n; once = up-to-once n }

-- ---- the put-ins over all syndromes are all the strings that one deletion turns into y, each once
module _ (n : ℕ) (h : 1 ≤ n) (y : List Bool) (e : length y ≡ n - 1) where
  put-ins-are : AllOnce (TurnsInto y) (map (λ (a : ℕ). put_in a y) (up_to n))
  put-ins-are = record { right = right; all = all; once = once-map (λ (a : ℕ). put_in a y) (up_to n) (up-to-once n) different }
    where
      given : (o : Option (List Bool)) (x : List Bool) → some x ≡ o → Deletion y x → TurnsInto y o
      given none x q d = absurd (none-ne-some x (sym q))
      given (some z) x q d = rw (some-injective x z q) at d

      right : (o : Option (List Bool)) → Memᴰ o (map (λ (a : ℕ). put_in a y) (up_to n)) → TurnsInto y o
      right o m =
          let a = Memᴰ.of_map (λ (a : ℕ). put_in a y) (up_to n) m in
          let k = up-to-right n a.0 a.1 in
          let f = put-in-exists a.0 y (omega arith) in
          given o f.0 (sym f.1 ∙ a.2) f.2

      all : (o : Option (List Bool)) → TurnsInto y o → Memᴰ o (map (λ (a : ℕ). put_in a y) (up_to n))
      all none d = absurd d
      all (some x) d =
          let s = syndrome-most x in
          let k = deletion-length y x d in
          Memᴰ.cast (sym (put-in-repairs y x d)) (Memᴰ.map (λ (a : ℕ). put_in a y) (up-to-all n (syndrome x) (omega arith)))

      -- two put-ins that are equal have one syndrome
      different : (a b : ℕ) → Memᴰ a (up_to n) → Memᴰ b (up_to n) → put_in a y ≡ put_in b y → a ≡ b
      different a b k m q =
          let ka = up-to-right n a k in
          let f = put-in-exists a y (omega arith) in
          sym f.3 ∙ (put-in-found b y f.0 (sym q ∙ f.1)).1

pub all-put-ins : PutInsAreAll
unfolding put_ins
all-put-ins n h y e = (length-map (up_to n) (λ (a : ℕ). put_in a y) ∙ length-up-to n, put-ins-are n h y e)

-- ---- one deletion and the runs
same_bit : (b c : Bool) → (b ≡ c) ↔ (◌≡◌ {A = ℕ} (cond (beq b c) 0 1) 0)
same_bit true true = ((λ e. refl), (λ e. refl))
same_bit true false = ((λ e. absurd (false≢true (sym e))), (λ e. absurd (omega arith)))
same_bit false true = ((λ e. absurd (false≢true e)), (λ e. absurd (omega arith)))
same_bit false false = ((λ e. refl), (λ e. refl))

-- the bits up to place j equal the first
first-equal : (j : ℕ) (b : Bool) (l : List Bool) → j ≤ length l → (0 ≡ changes b (take j l)) ↔ ((k : ℕ) → k ≤ j → get_or (b ∷ l) k false ≡ b)
first-equal zero b l h = (zeroth, (λ f. refl))
  where
    zeroth : 0 ≡ changes b (take 0 l) → (k : ℕ) → k ≤ 0 → get_or (b ∷ l) k false ≡ b
    zeroth e zero m = refl
    zeroth e (suc k) m = absurd (omega arith)
first-equal (suc j) b [] h = absurd (omega arith)
first-equal (suc j) b (c ∷ l) h = (forth (first-equal j c l (omega arith)), back (first-equal j c l (omega arith)))
  where
    Rest : Type 0
    Rest = (0 ≡ changes c (take j l)) ↔ ((k : ℕ) → k ≤ j → get_or (c ∷ l) k false ≡ c)

    forth : Rest → 0 ≡ changes b (take (suc j) (c ∷ l)) → (k : ℕ) → k ≤ suc j → get_or (b ∷ c ∷ l) k false ≡ b
    forth r e zero m = refl
    forth r e (suc k) m = r.0 (omega arith) k (omega arith) ∙ sym ((same_bit b c).1 (omega arith))

    back : Rest → ((k : ℕ) → k ≤ suc j → get_or (b ∷ c ∷ l) k false ≡ b) → 0 ≡ changes b (take (suc j) (c ∷ l))
    back r f =
        let e : c ≡ b = f 1 (omega arith) in
        let u = (same_bit b c).0 (sym e) in
        let v = r.1 (λ k m. f (suc k) (omega arith) ∙ sym e) in
        omega arith

equal-changes : (i j : ℕ) (b : Bool) (l : List Bool) → i ≤ j → j ≤ length l
    → (changes b (take i l) ≡ changes b (take j l)) ↔ ((k : ℕ) → i ≤ k → k ≤ j → get_or (b ∷ l) k false ≡ get_or (b ∷ l) i false)
equal-changes zero j b l h m = let r = first-equal j b l m in ((λ e k g. r.0 e k), (λ f. r.1 (λ k. f k (omega arith))))
equal-changes (suc i) zero b l h m = absurd (omega arith)
equal-changes (suc i) (suc j) b [] h m = absurd (omega arith)
equal-changes (suc i) (suc j) b (c ∷ l) h m = (forth (equal-changes i j c l (omega arith) (omega arith)), back (equal-changes i j c l (omega arith) (omega arith)))
  where
    Rest : Type 0
    Rest = (changes c (take i l) ≡ changes c (take j l)) ↔ ((k : ℕ) → i ≤ k → k ≤ j → get_or (c ∷ l) k false ≡ get_or (c ∷ l) i false)

    forth : Rest → changes b (take (suc i) (c ∷ l)) ≡ changes b (take (suc j) (c ∷ l))
        → (k : ℕ) → suc i ≤ k → k ≤ suc j → get_or (b ∷ c ∷ l) k false ≡ get_or (c ∷ l) i false
    forth r e zero g n = absurd (omega arith)
    forth r e (suc k) g n = r.0 (omega arith) k (omega arith) (omega arith)

    back : Rest → ((k : ℕ) → suc i ≤ k → k ≤ suc j → get_or (b ∷ c ∷ l) k false ≡ get_or (c ∷ l) i false)
        → changes b (take (suc i) (c ∷ l)) ≡ changes b (take (suc j) (c ∷ l))
    back r f = let v = r.1 (λ k g n. f (suc k) (omega arith) (omega arith)) in omega arith

-- i and j lie in the same run exactly if the bits from i to j are equal: a run has equal bits only, and no run can be made longer
pub run-of-equal : (x : List Bool) (i j : ℕ) → i ≤ j → j < length x
    → (run_of i x ≡ run_of j x) ↔ ((k : ℕ) → i ≤ k → k ≤ j → get_or x k false ≡ get_or x i false)
run-of-equal [] i j h k = absurd (omega arith)
run-of-equal (b ∷ l) i j h k = let r = equal-changes i j b l h (omega arith) in ((λ e. r.0 (omega arith)), (λ f. let v = r.1 f in omega arith))

-- the first bit or that at place j taken out
first-changes : (j : ℕ) (b : Bool) (l : List Bool) → j ≤ length l → (l ≡ without j (b ∷ l)) ↔ (0 ≡ changes b (take j l))
first-changes zero b l h = ((λ e. refl), (λ e. refl))
first-changes (suc j) b [] h = absurd (omega arith)
first-changes (suc j) b (c ∷ l) h =
    let s = same_bit b c in
    let r = first-changes j c l (omega arith) in (
      (λ e.
          let u = s.0 (sym (head-eq_of_cons-eq e)) in
          let v = r.0 (tail-eq_of_cons-eq e) in
          omega arith),
      (λ e. ap₂ (λ (x : Bool) (y : List Bool). x ∷ y) (sym (s.1 (omega arith))) (r.1 (omega arith))),
    )

same-changes : (i j : ℕ) (b : Bool) (l : List Bool) → i ≤ length l → j ≤ length l → (without i (b ∷ l) ≡ without j (b ∷ l)) ↔ (changes b (take i l) ≡ changes b (take j l))
same-changes zero j b l h k = first-changes j b l k
same-changes (suc i) zero b l h k = let r = first-changes (suc i) b l h in ((λ e. sym (r.0 (sym e))), (λ e. sym (r.1 (sym e))))
same-changes (suc i) (suc j) b [] h k = absurd (omega arith)
same-changes (suc i) (suc j) b (c ∷ l) h k =
    let r = same-changes i j c l (omega arith) (omega arith) in
    ((λ e. let v = r.0 (tail-eq_of_cons-eq e) in omega arith), (λ e. ap (λ (y : List Bool). b ∷ y) (r.1 (omega arith))))

-- taking out the bit at i or that at j gives the same string exactly if i and j lie in the same run
pub same-run : (x : List Bool) (i j : ℕ) → i < length x → j < length x → (without i x ≡ without j x) ↔ (run_of i x ≡ run_of j x)
same-run [] i j h k = absurd (omega arith)
same-run (b ∷ l) i j h k = let r = same-changes i j b l (omega arith) (omega arith) in ((λ e. let v = r.0 e in omega arith), (λ e. r.1 (omega arith)))

changes-take : (i : ℕ) (b : Bool) (l : List Bool) → changes b (take i l) ≤ changes b l
changes-take zero b l = omega arith
changes-take (suc i) b [] = omega arith
changes-take (suc i) b (c ∷ l) = let h = changes-take i c l in omega arith

-- the place in b ∷ l where the run begins that has r runs before it
beginning : ℕ → Bool → List Bool → ℕ
beginning zero b l = 0
beginning (suc r) b [] = 0
beginning (suc r) b (c ∷ l) = suc (cond (beq b c) (beginning (suc r) c l) (beginning r c l))

beginning-is : (r : ℕ) (b : Bool) (l : List Bool) → r ≤ changes b l → (beginning r b l ≤ length l) × (changes b (take (beginning r b l) l) ≡ r)
unfolding beginning
beginning-is zero b l h = (omega arith, refl)
beginning-is (suc r) b [] h = absurd (omega arith)
beginning-is (suc r) b (c ∷ l) h = go (beq b c) h (beginning-is (suc r) c l) (beginning-is r c l)
  where
    go : (t : Bool) → suc r ≤ cond t 0 1 + changes c l → (suc r ≤ changes c l → (beginning (suc r) c l ≤ length l) × (changes c (take (beginning (suc r) c l) l) ≡ suc r))
        → (r ≤ changes c l → (beginning r c l ≤ length l) × (changes c (take (beginning r c l) l) ≡ r))
        → (suc (cond t (beginning (suc r) c l) (beginning r c l)) ≤ suc (length l))
        × (cond t 0 1 + changes c (take (cond t (beginning (suc r) c l) (beginning r c l)) l) ≡ suc r)
    go true h later now = let w = later (omega arith) in let u = w.0 in let v = w.1 in (omega arith, omega arith)
    go false h later now = let w = now (omega arith) in let u = w.0 in let v = w.1 in (omega arith, omega arith)

-- the results of one deletion: the first bit of each run taken out
shortened : List Bool → List (List Bool)
shortened [] = []
shortened (b ∷ l) = map (λ (r : ℕ). without (beginning r b l) (b ∷ l)) (up_to (changes b l))

length-shortened : (x : List Bool) → length (shortened x) ≡ runs x
unfolding shortened
length-shortened [] = refl
length-shortened (b ∷ l) =
    let n = length-map (up_to (changes b l)) (λ (r : ℕ). without (beginning r b l) (b ∷ l)) in
    let m = length-up-to (changes b l) in
    n ∙ omega arith

shortened-are : (x : List Bool) → AllOnce (λ (y : List Bool). Deletion y x) (shortened x)
unfolding shortened
shortened-are [] = record { right = (λ y m. absurd (Memᴰ.not-nil m)); all = (λ y d. let h = d.within in absurd (omega arith)); once = tt }
shortened-are (b ∷ l) = record { right = right; all = all; once = once-map f (up_to (changes b l)) (up-to-once (changes b l)) different }
  where
    f : ℕ → List Bool
    f r = without (beginning r b l) (b ∷ l)

    right : (y : List Bool) → Memᴰ y (map f (up_to (changes b l))) → Deletion y (b ∷ l)
    right y m =
        let r = Memᴰ.of_map f (up_to (changes b l)) m in
        let h = (beginning-is r.0 b l (up-to-right (changes b l) r.0 r.1)).0 in
        record { place = beginning r.0 b l; within = omega arith; is = sym r.2 }

    all : (y : List Bool) → Deletion y (b ∷ l) → Memᴰ y (map f (up_to (changes b l)))
    all y d =
        let h = d.within in
        let k = changes-take d.place b l in
        let r = beginning-is (changes b (take d.place l)) b l k in
        Memᴰ.cast (d.is ∙ (same-changes d.place (beginning (changes b (take d.place l)) b l) b l (omega arith) r.0).1 (sym r.1))
        (Memᴰ.map f (up-to-all (changes b l) (changes b (take d.place l)) k))

    different : (r s : ℕ) → Memᴰ r (up_to (changes b l)) → Memᴰ s (up_to (changes b l)) → f r ≡ f s → r ≡ s
    different r s k m e =
        let u = beginning-is r b l (up-to-right (changes b l) r k) in
        let v = beginning-is s b l (up-to-right (changes b l) s m) in
        sym u.1 ∙ (same-changes (beginning r b l) (beginning s b l) b l u.0 v.0).0 e ∙ v.1

eq-strings : Discrete (List Bool)
eq-strings = List-discrete Bool-discrete

-- the different results of one deletion are as many as the runs
pub deletions-are-runs : (x : List Bool) (ys : List (List Bool)) → AllOnce (λ (y : List Bool). Deletion y x) ys → length ys ≡ runs x
deletions-are-runs x ys a = same_length eq-strings (λ (y : List Bool). Deletion y x) ys (shortened x) a (shortened-are x) ∙ length-shortened x

-- ---- the runs of the strings of one syndrome number 2 ^ (n - 1)
dec-deletion : (x y : List Bool) → Dec (Deletion y x)
dec-deletion x y = go (dec-member eq-strings y (deletions x))
  where
    go : Dec (Memᴰ y (deletions x)) → Dec (Deletion y x)
    go (yes m) = yes (deletions-delete x y m)
    go (no k) = no (λ d. k (member-of-deletions x y d))

-- the pairs of a string of syndrome a and a result of one deletion of it: for each string as many as its runs, for each result one
pub runs-summed : RunsOfSyndrome
runs-summed n a h k =
    sum_same runs (λ (x : List Bool). length (filter (dec-deletion x) (strings (n - 1)))) (of_syndrome n a) (λ x m. sym (results x ((of-syndrome-are n a).right x m).0))
    ∙ related-once dec-deletion (of_syndrome n a) (strings (n - 1)) (λ y m. sources y (strings-right (n - 1) y m))
    ∙ length-strings (n - 1)
  where
    results : (x : List Bool) → length x ≡ n → length (filter (dec-deletion x) (strings (n - 1))) ≡ runs x
    results x e =
        let r = filter-are (dec-deletion x) (λ (y : List Bool). length y ≡ n - 1) (strings (n - 1)) (strings-are (n - 1)) in
        deletions-are-runs x (filter (dec-deletion x) (strings (n - 1)))
        (record { right = (λ y m. (r.right y m).1); all = (λ y d. let l = deletion-length y x d in r.all y (omega arith, d)); once = r.once })

    sources : (y : List Bool) → length y ≡ n - 1 → length (filter (λ (x : List Bool). dec-deletion x y) (of_syndrome n a)) ≡ 1
    sources y e =
        let x = exactly-one n a h k y e in
        one-length (λ (x : List Bool). ((length x ≡ n) × (syndrome x ≡ a)) × Deletion y x) (filter (λ (x : List Bool). dec-deletion x y) (of_syndrome n a))
        (filter-are (λ (x : List Bool). dec-deletion x y) (λ (x : List Bool). (length x ≡ n) × (syndrome x ≡ a)) (of_syndrome n a) (of-syndrome-are n a))
        (record { one = x.one; has = ((x.has.0, x.has.1), x.has.2); only = λ z g. x.only z (g.0.0, g.0.1, g.1) })
