-- The theorems on columns (02, CR 1): weaving, a lost run, and the repair of whole bursts, for every B from 1 on and every length.
use Rattle.std.specs.Prelude.{◌≡◌, refl, Bool, false, ◌⊎◌, ℕ, zero, suc, ◌+◌, ◌-◌, ◌*◌, ◌/◌, ◌≤◌, ◌<◌, length, take, drop, get_or}
use Rattle.std.proofs.Common.{sym, ap₂, ◌∙◌, inl, inr, ⊎_elim, suc-mul, add-one, length-append, length-drop, drop-cons, length-take-le}
use Rattle.std.proofs.Math.Path.{ap}
use mathlib.Core.List.{List, [], ◌∷◌, ◌++◌, map, map-append, head-eq_of_cons-eq, tail-eq_of_cons-eq}
use Rattle.std.proofs.Math.Option
use Rattle.std.proofs.Math.Option.{Option, none, some, some-injective, none-ne-some}
use Rattle.std.proofs.Math.Nat.{div-eq_of_lt, add-div_right}
use Rattle.std.proofs.Math.Decide.{dec_le}
use native.Mathlib.Omega.{arith}
use Rattle.std.proofs.Math.ListN.{length-map, get_or-map}
use Rattle.codes.specs.Syndrome.{syndrome}
use Rattle.codes.specs.Repair.{without, Deletion, OneApart, repair_to}
use Rattle.codes.specs.laws.RepairLaws.{deletion-length, put-in-found, take-out-found, put-in-repairs, take-out-repairs, repair-put-in, repair-take-out}
use Rattle.codes.specs.Columns.{column, column_length, columns_from, columns, syndromes, weave, without_run, RunLost, RunApart, with_first, repair_columns, repair_run}

-- ---- column j is every B-th bit from bit j on
pub column-drop : (B j k : ℕ) (l : List Bool) → column B (k + j) l ≡ column B j (drop k l)
column-drop B j zero l = ap (λ (i : ℕ). column B i l) (omega arith)
column-drop B j (suc k) [] = refl
column-drop B j (suc k) (b ∷ l) = ap (λ (i : ℕ). column B i (b ∷ l)) (let e : suc k + j ≡ suc (k + j) = omega arith in e) ∙ column-drop B j k l

-- the first bit of column j is bit j, and the rest is column j of the string without its first B bits
pub column-first : (B j : ℕ) (l : List Bool) → 1 ≤ B → j < length l → column B j l ≡ get_or l j false ∷ column B j (drop B l)
column-first B j l pos h =
    let e₀ : column B j l ≡ column B 0 (drop j l) = ap (λ (i : ℕ). column B i l) (let e : j ≡ j + 0 = omega arith in e) ∙ column-drop B 0 j l in
    let e₁ : column B (B - 1) (drop (suc j) l) ≡ column B j (drop B l) =
    sym (column-drop B (B - 1) (suc j) l) ∙ ap (λ (i : ℕ). column B i l) (let e : suc j + (B - 1) ≡ B + j = omega arith in e) ∙ column-drop B j B l in
    e₀ ∙ ap (column B 0) (drop-cons l j false h) ∙ ap (λ (c : List Bool). get_or l j false ∷ c) e₁

-- bit k of column j is bit j + k·B
pub column-bit : (B j k : ℕ) (l : List Bool) → 1 ≤ B → get_or (column B j l) k false ≡ get_or l (j + k * B) false
column-bit B j k [] pos = refl
column-bit B zero zero (b ∷ l) pos = ap (λ (i : ℕ). get_or (b ∷ l) i false) (let e : 0 ≡ 0 + 0 * B = omega arith in e)
column-bit B zero (suc k) (b ∷ l) pos =
    column-bit B (B - 1) k l pos
    ∙ ap (λ (i : ℕ). get_or (b ∷ l) i false) (let m = suc-mul k B in let e : suc (B - 1 + k * B) ≡ 0 + suc k * B = omega arith in e)
column-bit B (suc j) k (b ∷ l) pos = column-bit B j k l pos ∙ ap (λ (i : ℕ). get_or (b ∷ l) i false) (let e : suc (j + k * B) ≡ suc j + k * B = omega arith in e)

-- ---- the lengths of the columns
pub column-short : (B j : ℕ) (l : List Bool) → length (column B j l) ≤ length l
column-short B j [] = omega arith
column-short B zero (b ∷ l) = let m = column-short B (B - 1) l in omega arith
column-short B (suc j) (b ∷ l) = let m = column-short B j l in omega arith

module _ (B : ℕ) (pos : 1 ≤ B) where
  column-length-none : (j : ℕ) → column_length B j 0 ≡ 0
  column-length-none j = ap (λ (x : ℕ). x / B) (let e : 0 - j + (B - 1) ≡ B - 1 = omega arith in e) ∙ div-eq_of_lt (omega arith)

  column-length-zero : (n : ℕ) → column_length B 0 (suc n) ≡ suc (column_length B (B - 1) n)
  column-length-zero n =
      ap (λ (x : ℕ). x / B) (let e : suc n - 0 + (B - 1) ≡ n + B = omega arith in e) ∙ add-div_right n (omega arith)
      ∙ (let e = go (dec_le (B - 1) n) in omega arith)
    where
      go : Dec (B - 1 ≤ n) → n / B ≡ column_length B (B - 1) n
      go (yes h) = ap (λ (x : ℕ). x / B) (let e : n ≡ n - (B - 1) + (B - 1) = omega arith in e)
      go (no h) = div-eq_of_lt (omega arith) ∙ sym (div-eq_of_lt (omega arith))

  column-length-suc : (j n : ℕ) → column_length B (suc j) (suc n) ≡ column_length B j n
  column-length-suc j n = ap (λ (x : ℕ). (x + (B - 1)) / B) (let e : suc n - suc j ≡ n - j = omega arith in e)

  pub column-length : (j : ℕ) (l : List Bool) → length (column B j l) ≡ column_length B j (length l)
  column-length j [] = sym (column-length-none j)
  column-length zero (b ∷ l) = ap suc (column-length (B - 1) l) ∙ sym (column-length-zero (length l))
  column-length (suc j) (b ∷ l) = column-length j l ∙ sym (column-length-suc j (length l))

  -- B more bits are one more in each column
  pub column-length-run : (j n : ℕ) → j < B → column_length B j (n + B) ≡ column_length B j n + 1
  column-length-run j n h = go (dec_le j n)
    where
      go : Dec (j ≤ n) → column_length B j (n + B) ≡ column_length B j n + 1
      go (yes k) = ap (λ (x : ℕ). x / B) (let e : n + B - j + (B - 1) ≡ n - j + (B - 1) + B = omega arith in e) ∙ add-div_right (n - j + (B - 1)) (omega arith)
      go (no k) =
          ap (λ (x : ℕ). x / B) (let e : n + B - j + (B - 1) ≡ (n + B - j - 1) + B = omega arith in e) ∙ add-div_right (n + B - j - 1) (omega arith)
          ∙ ap (λ (x : ℕ). x + 1) (div-eq_of_lt (omega arith) ∙ sym (div-eq_of_lt (omega arith)))

  -- a column that begins behind the end has no bit
  pub column-length-behind : (j n : ℕ) → n ≤ j → column_length B j n ≡ 0
  column-length-behind j n h = div-eq_of_lt (omega arith)

-- ---- the columns of a string with one bit more in front: the first has the bit, and is behind the others without it
columns-turn : (B j k : ℕ) (b : Bool) (l : List Bool) → columns_from B (suc j) k (b ∷ l) ≡ columns_from B j k l
columns-turn B j zero b l = refl
columns-turn B j (suc k) b l = ap (λ (cs : List (List Bool)). column B j l ∷ cs) (columns-turn B (suc j) k b l)

columns-snoc : (B j k : ℕ) (l : List Bool) → columns_from B j (suc k) l ≡ columns_from B j k l ++ (column B (j + k) l ∷ [])
columns-snoc B j zero l = ap (λ (i : ℕ). column B i l ∷ []) (let e : j ≡ j + 0 = omega arith in e)
columns-snoc B j (suc k) l =
    ap (λ (cs : List (List Bool)). column B j l ∷ cs)
    (columns-snoc B (suc j) k l ∙ ap (λ (i : ℕ). columns_from B (suc j) k l ++ (column B i l ∷ [])) (let e : suc j + k ≡ j + suc k = omega arith in e))

-- the columns from 0 on, turned: m columns, and then the last
turned : (m : ℕ) (b : Bool) (l : List Bool) → columns_from (suc m) 1 m (b ∷ l) ++ (column (suc m) (suc m - 1) l ∷ []) ≡ columns_from (suc m) 0 (suc m) l
turned m b l =
    ap₂ (λ (cs : List (List Bool)) (i : ℕ). cs ++ (column (suc m) i l ∷ [])) (columns-turn (suc m) 0 m b l) (let e : suc m - 1 ≡ 0 + m = omega arith in e)
    ∙ sym (columns-snoc (suc m) 0 m l)

-- ---- weaving the columns of a string gives the string
weave-from : (m : ℕ) (l : List Bool) → weave (length l) (columns_from (suc m) 0 (suc m) l) ≡ l
weave-from m [] = refl
weave-from m (b ∷ l) = ap (λ (r : List Bool). b ∷ r) (ap (weave (length l)) (turned m b l) ∙ weave-from m l)

pub weave-columns : (B : ℕ) (l : List Bool) → 1 ≤ B → weave (length l) (columns B l) ≡ l
unfolding columns
weave-columns zero l pos = absurd (omega arith)
weave-columns (suc m) l pos = weave-from m l

-- ---- one run of B bits lost is one bit lost in each column
deletion-later : (b : Bool) (short long : List Bool) → Deletion short long → Deletion (b ∷ short) (b ∷ long)
deletion-later b short long d = record { place = suc d.place; within = (let h = d.within in omega arith); is = ap (λ (r : List Bool). b ∷ r) d.is }

without-run-later : (B i : ℕ) (b : Bool) (l : List Bool) → without_run B (suc i) (b ∷ l) ≡ b ∷ without_run B i l
without-run-later B i b l = ap (λ (k : ℕ). take (suc i) (b ∷ l) ++ drop k (b ∷ l)) (let e : suc i + B ≡ suc (i + B) = omega arith in e)

-- the same, of a string that is written in another way
deletion-of : (short short' long : List Bool) → short' ≡ short → Deletion short long → Deletion short' long
deletion-of short short' long e d = record { place = d.place; within = d.within; is = e ∙ d.is }

run-deletion : (B i j : ℕ) (l : List Bool) → j < B → i + B ≤ length l → Deletion (column B j (without_run B i l)) (column B j l)
run-deletion B zero j l h w =
    let f = column-first B j l (omega arith) (omega arith) in
    record {
      place = 0;
      within = (let n = ap length f in omega arith);
      is = ap (λ (k : ℕ). column B j (drop k l)) (let e : 0 + B ≡ B = omega arith in e) ∙ ap (without 0) (sym f);
    }
run-deletion B (suc i) j [] h w = absurd (omega arith)
run-deletion B (suc i) zero (b ∷ l) h w =
    deletion-of _ _ _ (ap (column B 0) (without-run-later B i b l))
    (deletion-later b (column B (B - 1) (without_run B i l)) (column B (B - 1) l) (run-deletion B i (B - 1) l (omega arith) (omega arith)))
run-deletion B (suc i) (suc j) (b ∷ l) h w =
    deletion-of _ _ _ (ap (column B (suc j)) (without-run-later B i b l)) (run-deletion B i j l (omega arith) (omega arith))

pub run-lost-column : (B j : ℕ) (short long : List Bool) → RunLost short long B → j < B → Deletion (column B j short) (column B j long)
run-lost-column B j short long r h =
    deletion-of (column B j (without_run B r.place long)) (column B j short) (column B j long) (ap (column B j) r.is)
    (run-deletion B r.place j long h r.within)

pub run-lost-length : (B : ℕ) (short long : List Bool) → RunLost short long B → length long ≡ length short + B
run-lost-length B short long r =
    let w = r.within in
    let a = ap length r.is ∙ length-append (take r.place long) (drop (r.place + B) long) in
    let t = length-take-le r.place long (omega arith) in
    let d = length-drop (r.place + B) long in
    omega arith

-- a run of one bit is a bit
pub run-one : (short long : List Bool) → RunLost short long 1 → Deletion short long
run-one short long r = let w = r.within in record { place = r.place; within = omega arith; is = r.is ∙ ap (λ (k : ℕ). take r.place long ++ drop k long) (add-one r.place) }

pub one-run : (short long : List Bool) → Deletion short long → RunLost short long 1
one-run short long d = let w = d.within in record { place = d.place; within = omega arith; is = d.is ∙ ap (λ (k : ℕ). take d.place long ++ drop k long) (sym (add-one d.place)) }

-- ---- the list of the columns
columns-from-at : (B k j i p : ℕ) (l : List Bool) → i < k → j + i ≡ p → get_or (columns_from B j k l) i [] ≡ column B p l
columns-from-at B zero j i p l h e = absurd (omega arith)
columns-from-at B (suc k) j zero p l h e = ap (λ (q : ℕ). column B q l) (let e' : j ≡ p = omega arith in e')
columns-from-at B (suc k) j (suc i) p l h e = columns-from-at B k (suc j) i p l (omega arith) (omega arith)

columns-from-length : (B k j : ℕ) (l : List Bool) → length (columns_from B j k l) ≡ k
columns-from-length B zero j l = refl
columns-from-length B (suc k) j l = ap suc (columns-from-length B k (suc j) l)

module _ (B : ℕ) (l : List Bool) where
  pub columns-at : (j : ℕ) → j < B → get_or (columns B l) j [] ≡ column B j l
  unfolding columns
  columns-at j h = columns-from-at B B 0 j j l h (omega arith)

  pub columns-length : length (columns B l) ≡ B
  unfolding columns
  columns-length = columns-from-length B B 0 l

  pub syndromes-at : (j : ℕ) → j < B → get_or (syndromes B l) j 0 ≡ syndrome (column B j l)
  unfolding syndromes syndrome
  syndromes-at j h = get_or-map syndrome (columns B l) j [] ∙ ap syndrome (columns-at j h)

  pub syndromes-length : length (syndromes B l) ≡ B
  unfolding syndromes
  syndromes-length = length-map (columns B l) syndrome ∙ columns-length

-- strings of one length with the same columns are the same
columns-from-same : (B k j : ℕ) (x y : List Bool) → ((p : ℕ) → p < j + k → column B p x ≡ column B p y) → columns_from B j k x ≡ columns_from B j k y
columns-from-same B zero j x y same = refl
columns-from-same B (suc k) j x y same =
    ap₂ (λ (c : List Bool) (cs : List (List Bool)). c ∷ cs) (same j (omega arith)) (columns-from-same B k (suc j) x y (λ p h. same p (omega arith)))

pub columns-same : (B : ℕ) (x y : List Bool) → 1 ≤ B → length x ≡ length y → ((j : ℕ) → j < B → column B j x ≡ column B j y) → x ≡ y
unfolding columns
columns-same B x y pos n same =
    sym (weave-columns B x pos) ∙ ap₂ weave n (columns-from-same B B 0 x y (λ j h. same j (omega arith))) ∙ weave-columns B y pos

-- ---- the repair of all columns, by the repair of each
module _ (B n : ℕ) (l : List Bool) where
  -- column j repaired with the syndrome s
  abbrev repaired : ℕ → ℕ → Option (List Bool)
  repaired j s = repair_to (column_length B j n) s (column B j l)

  repairs-some : (z : List Bool) (ss : List ℕ) (j : ℕ) → ((i p : ℕ) → i < length ss → j + i ≡ p → repaired p (get_or ss i 0) ≡ some (column B p z))
      → repair_columns B n j ss l ≡ some (columns_from B j (length ss) z)
  repairs-some z [] j each = refl
  repairs-some z (s ∷ ss) j each =
      ap₂ with_first (each 0 j (omega arith) (omega arith)) (repairs-some z ss (suc j) (λ i p h e. each (suc i) p (omega arith) (omega arith)))

  -- if every column has a repair, and these are the columns of a string of n bits, then the repair is that string
  pub repair-run-some : (ss : List ℕ) (z : List Bool) → 1 ≤ B → length ss ≡ B → length z ≡ n
      → ((j : ℕ) → j < B → repair_to (column_length B j n) (get_or ss j 0) (column B j l) ≡ some (column B j z)) → repair_run B n ss l ≡ some z
  unfolding repair_run columns
  repair-run-some ss z pos k m each =
      ap (Option.map (weave n))
      (repairs-some z ss 0 (λ i p h e. ap (λ (q : ℕ). repaired p (get_or ss q 0)) (let e' : i ≡ p = omega arith in e') ∙ each p (omega arith)))
      ∙ ap some (ap₂ (λ (i p : ℕ). weave i (columns_from B 0 p z)) (sym m) k ∙ weave-columns B z pos)

  with-first-none : (x : Option (List Bool)) → with_first x none ≡ none
  with-first-none none = refl
  with-first-none (some x) = refl

  repairs-none : (ss : List ℕ) (j i p : ℕ) → i < length ss → j + i ≡ p → repaired p (get_or ss i 0) ≡ none → repair_columns B n j ss l ≡ none
  repairs-none [] j i p h q e = absurd (omega arith)
  repairs-none (s ∷ ss) j zero p h q e =
      ap (λ (o : Option (List Bool)). with_first o (repair_columns B n (suc j) ss l)) (ap (λ (i : ℕ). repaired i s) (let q' : j ≡ p = omega arith in q') ∙ e)
  repairs-none (s ∷ ss) j (suc i) p h q e =
      ap (with_first (repaired j s)) (repairs-none ss (suc j) i p (omega arith) (omega arith) e) ∙ with-first-none (repaired j s)

  -- if one column has no repair, there is none
  pub repair-run-none : (ss : List ℕ) (j : ℕ) → j < length ss → repair_to (column_length B j n) (get_or ss j 0) (column B j l) ≡ none → repair_run B n ss l ≡ none
  unfolding repair_run
  repair-run-none ss j h e =
      ap (Option.map (weave n)) (repairs-none ss 0 j j h (omega arith) e)

module _ (B : ℕ) (x l : List Bool) (pos : 1 ≤ B) where
  repair-run-syndromes : ((j : ℕ) → j < B → repair_to (length (column B j x)) (syndrome (column B j x)) (column B j l) ≡ some (column B j x))
      → repair_run B (length x) (syndromes B x) l ≡ some x
  repair-run-syndromes each =
      repair-run-some B (length x) l (syndromes B x) x pos (syndromes-length B x) refl
      (λ j h. ap₂ (λ (m s : ℕ). repair_to m s (column B j l)) (sym (column-length B pos j x)) (syndromes-at B x j h) ∙ each j h)

  -- every column of l has lost one bit
  pub columns-put-in : ((j : ℕ) → j < B → Deletion (column B j l) (column B j x)) → repair_run B (length x) (syndromes B x) l ≡ some x
  columns-put-in d = repair-run-syndromes (λ j h.
      repair-put-in (length (column B j x)) (syndrome (column B j x)) (column B j l) (sym (deletion-length (column B j l) (column B j x) (d j h)))
      ∙ put-in-repairs (column B j l) (column B j x) (d j h))

  -- every column of l has gained one bit
  pub columns-take-out : ((j : ℕ) → j < B → Deletion (column B j x) (column B j l)) → repair_run B (length x) (syndromes B x) l ≡ some x
  columns-take-out d = repair-run-syndromes (λ j h.
      repair-take-out (length (column B j x)) (syndrome (column B j x)) (column B j l)
      (λ e. let n = deletion-length (column B j x) (column B j l) (d j h) in absurd (omega arith))
      ∙ take-out-repairs (column B j x) (column B j l) (d j h))

-- a copy that lost one run of B bits is repaired with the syndromes of the columns of x, and one that gained such a run
pub lost-run-repaired : (B : ℕ) (copy x : List Bool) → 1 ≤ B → RunLost copy x B → repair_run B (length x) (syndromes B x) copy ≡ some x
lost-run-repaired B copy x pos r = columns-put-in B x copy pos (λ j h. run-lost-column B j copy x r h)

pub gained-run-repaired : (B : ℕ) (copy x : List Bool) → 1 ≤ B → RunLost x copy B → repair_run B (length x) (syndromes B x) copy ≡ some x
gained-run-repaired B copy x pos r = columns-take-out B x copy pos (λ j h. run-lost-column B j x copy r h)

-- no other string with these syndromes lost a run and became the copy, and none gained one
pub lost-run-only : (B : ℕ) (copy x y : List Bool) → 1 ≤ B → RunLost copy x B → RunLost copy y B → syndromes B x ≡ syndromes B y → x ≡ y
lost-run-only B copy x y pos r t e =
    let n : length x ≡ length y = run-lost-length B copy x r ∙ sym (run-lost-length B copy y t) in
    some-injective x y
    (sym (lost-run-repaired B copy x pos r) ∙ ap₂ (λ (m : ℕ) (ss : List ℕ). repair_run B m ss copy) n e ∙ lost-run-repaired B copy y pos t)

pub gained-run-only : (B : ℕ) (copy x y : List Bool) → 1 ≤ B → RunLost x copy B → RunLost y copy B → syndromes B x ≡ syndromes B y → x ≡ y
gained-run-only B copy x y pos r t e =
    let a = run-lost-length B x copy r in
    let b = run-lost-length B y copy t in
    let n : length x ≡ length y = omega arith in
    some-injective x y
    (sym (gained-run-repaired B copy x pos r) ∙ ap₂ (λ (m : ℕ) (ss : List ℕ). repair_run B m ss copy) n e ∙ gained-run-repaired B copy y pos t)

-- ---- what a repair gives: n bits with the syndromes given
-- the lengths of the k columns from column j on
abbrev lengths_from : ℕ → ℕ → ℕ → ℕ → List ℕ
lengths_from B j zero n = []
lengths_from B j (suc k) n = column_length B j n ∷ lengths_from B (suc j) k n

module _ (B : ℕ) (pos : 1 ≤ B) where
  lengths-turn : (j k n : ℕ) → lengths_from B (suc j) k (suc n) ≡ lengths_from B j k n
  lengths-turn j zero n = refl
  lengths-turn j (suc k) n = ap₂ (λ (m : ℕ) (ms : List ℕ). m ∷ ms) (column-length-suc B pos j n) (lengths-turn (suc j) k n)

  -- columns of the lengths of no bits have none
  no_bits : (j k : ℕ) (cs : List (List Bool)) → map length cs ≡ lengths_from B j k 0 → columns_from B j k [] ≡ cs
  no_bits j zero [] e = refl
  no_bits j zero (c ∷ cs) e = absurd (let n = ap length e in omega arith)
  no_bits j (suc k) [] e = absurd (let n = ap length e in omega arith)
  no_bits j (suc k) ([] ∷ cs) e = ap (λ (zs : List (List Bool)). [] ∷ zs) (no_bits (suc j) k cs (tail-eq_of_cons-eq e))
  no_bits j (suc k) ((b ∷ c) ∷ cs) e = absurd (let h = head-eq_of_cons-eq e ∙ column-length-none B pos j in omega arith)

lengths-snoc : (B j k n : ℕ) → lengths_from B j (suc k) n ≡ lengths_from B j k n ++ (column_length B (j + k) n ∷ [])
lengths-snoc B j zero n = ap (λ (i : ℕ). column_length B i n ∷ []) (let e : j ≡ j + 0 = omega arith in e)
lengths-snoc B j (suc k) n =
    ap (λ (ms : List ℕ). column_length B j n ∷ ms)
    (lengths-snoc B (suc j) k n ∙ ap (λ (i : ℕ). lengths_from B (suc j) k n ++ (column_length B i n ∷ [])) (let e : suc j + k ≡ j + suc k = omega arith in e))

-- two lists with a last element are the same: the elements are, and what is before them
last-same : (xs ys : List (List Bool)) (x y : List Bool) → xs ++ (x ∷ []) ≡ ys ++ (y ∷ []) → (xs ≡ ys) × (x ≡ y)
last-same [] [] x y e = (refl, head-eq_of_cons-eq e)
last-same [] (b ∷ ys) x y e = absurd (let n = ap length e in let a = length-append ys (y ∷ []) in omega arith)
last-same (a ∷ xs) [] x y e = absurd (let n = ap length e in let a = length-append xs (x ∷ []) in omega arith)
last-same (a ∷ xs) (b ∷ ys) x y e = let r = last-same xs ys x y (tail-eq_of_cons-eq e) in (ap₂ (λ (z : List Bool) (zs : List (List Bool)). z ∷ zs) (head-eq_of_cons-eq e) r.0, r.1)

-- woven of columns of the right lengths, a string has n bits and these columns
woven : (m n : ℕ) (cs : List (List Bool)) → map length cs ≡ lengths_from (suc m) 0 (suc m) n
    → (length (weave n cs) ≡ n) × (columns_from (suc m) 0 (suc m) (weave n cs) ≡ cs)
woven m zero cs e = (refl, no_bits (suc m) (omega arith) 0 (suc m) cs e)
woven m (suc n) [] e = absurd (let k = ap length e in omega arith)
woven m (suc n) ([] ∷ cs) e = absurd (let h = head-eq_of_cons-eq e ∙ column-length-zero (suc m) (omega arith) n in omega arith)
woven m (suc n) ((b ∷ c) ∷ cs) e =
    let h : suc (length c) ≡ suc (column_length (suc m) (suc m - 1) n) = head-eq_of_cons-eq e ∙ column-length-zero (suc m) (omega arith) n in
    let k : length c ≡ column_length (suc m) (0 + m) n =
    (let q : length c ≡ column_length (suc m) (suc m - 1) n = omega arith in q) ∙ ap (λ (j : ℕ). column_length (suc m) j n) (let q : suc m - 1 ≡ 0 + m = omega arith in q) in
    let t : map length cs ≡ lengths_from (suc m) 0 m n = tail-eq_of_cons-eq e ∙ lengths-turn (suc m) (omega arith) 0 m n in
    let r = woven m n (cs ++ (c ∷ []))
    (map-append length cs (c ∷ []) ∙ ap₂ (λ (ms : List ℕ) (x : ℕ). ms ++ (x ∷ [])) t k ∙ sym (lengths-snoc (suc m) 0 m n)) in
    let w = weave n (cs ++ (c ∷ [])) in
    let q = last-same (columns_from (suc m) 1 m (b ∷ w)) cs (column (suc m) (suc m - 1) w) c (turned m b w ∙ r.1) in
    (ap suc r.0, ap₂ (λ (x : List Bool) (xs : List (List Bool)). (b ∷ x) ∷ xs) q.1 q.0)

-- one column: a repair to n bits of a string that is one bit away has n bits and the syndrome
pub repair-to-found : (n s : ℕ) (l x : List Bool) → OneApart (length l) n → repair_to n s l ≡ some x → (length x ≡ n) × (syndrome x ≡ s)
repair-to-found n s l x away e =
    ⊎_elim
    (λ h. let f = put-in-found s l x (sym (repair-put-in n s l h) ∙ e) in (deletion-length l x f.0 ∙ h, f.1))
    (λ h. let f = take-out-found s l x (sym (repair-take-out n s l (λ k. absurd (omega arith))) ∙ e) in
    (let d = deletion-length x l f.0 in omega arith, f.1))
    away

-- a list with an element before it is there only where both are
with-first-found : (x : Option (List Bool)) (xs : Option (List (List Bool))) (zs : List (List Bool)) → with_first x xs ≡ some zs
    → (y : List Bool) × (ys : List (List Bool)) × (x ≡ some y) × (xs ≡ some ys) × (zs ≡ y ∷ ys)
with-first-found none xs zs e = absurd (none-ne-some zs e)
with-first-found (some y) none zs e = absurd (none-ne-some zs e)
with-first-found (some y) (some ys) zs e = (y, ys, refl, refl, sym (some-injective (y ∷ ys) zs e))

module _ (B n : ℕ) (l : List Bool) (pos : 1 ≤ B) (away : RunApart B (length l) n) where
  -- every column is one bit away
  pub column-away : (j : ℕ) → j < B → (length (column B j l) + 1 ≡ column_length B j n) ⊎ (length (column B j l) ≡ column_length B j n + 1)
  column-away j h =
      let c = column-length B pos j l in
      ⊎_elim
      (λ e. inl (let r = column-length-run B pos j (length l) h in let q = ap (column_length B j) e in omega arith))
      (λ e. inr (c ∙ ap (column_length B j) e ∙ column-length-run B pos j n h))
      away

  repairs-found : (ss : List ℕ) (j : ℕ) (xs : List (List Bool)) → j + length ss ≤ B → repair_columns B n j ss l ≡ some xs
      → (map length xs ≡ lengths_from B j (length ss) n) × (map syndrome xs ≡ ss)
  repairs-found [] j xs h e = let q : [] ≡ xs = some-injective [] xs e in (ap (map length) (sym q), ap (map syndrome) (sym q))
  repairs-found (s ∷ ss) j xs h e =
      let f = with-first-found (repair_to (column_length B j n) s (column B j l)) (repair_columns B n (suc j) ss l) xs e in
      let one = repair-to-found (column_length B j n) s (column B j l) f.0 (column-away j (omega arith)) f.2 in
      let rest = repairs-found ss (suc j) f.1 (omega arith) f.3 in (
        ap (map length) f.4 ∙ ap₂ (λ (m : ℕ) (ms : List ℕ). m ∷ ms) one.0 rest.0,
        ap (map syndrome) f.4 ∙ ap₂ (λ (m : ℕ) (ms : List ℕ). m ∷ ms) one.1 rest.1,
      )

  repairs-each : (ss : List ℕ) (j : ℕ) (xs : List (List Bool)) → repair_columns B n j ss l ≡ some xs → (i p : ℕ) → i < length ss → j + i ≡ p
      → repair_to (column_length B p n) (get_or ss i 0) (column B p l) ≡ some (get_or xs i [])
  repairs-each [] j xs e i p h q = absurd (omega arith)
  repairs-each (s ∷ ss) j xs e zero p h q =
      let f = with-first-found (repair_to (column_length B j n) s (column B j l)) (repair_columns B n (suc j) ss l) xs e in
      ap (λ (k : ℕ). repair_to (column_length B k n) s (column B k l)) (let q' : p ≡ j = omega arith in q')
      ∙ f.2 ∙ ap (λ (zs : List (List Bool)). some (get_or zs 0 [])) (sym f.4)
  repairs-each (s ∷ ss) j xs e (suc i) p h q =
      let f = with-first-found (repair_to (column_length B j n) s (column B j l)) (repair_columns B n (suc j) ss l) xs e in
      repairs-each ss (suc j) f.1 f.3 i p (omega arith) (omega arith) ∙ ap (λ (zs : List (List Bool)). some (get_or zs (suc i) [])) (sym f.4)

-- the columns that are repaired are those of the string that they are woven to
record Woven (B n : ℕ) (ss : List ℕ) (l z : List Bool) : Type 0 where
  long : length z ≡ n
  from : repair_columns B n 0 ss l ≡ some (columns B z)
  have : syndromes B z ≡ ss

repair-woven : (B n : ℕ) (ss : List ℕ) (l z : List Bool) → 1 ≤ B → length ss ≡ B → RunApart B (length l) n
    → repair_run B n ss l ≡ some z → Woven B n ss l z
unfolding repair_run syndromes columns
repair-woven zero n ss l z pos k away e = absurd (omega arith)
repair-woven (suc m) n ss l z pos k away e = go (repair_columns (suc m) n 0 ss l) refl e
  where
    go : (o : Option (List (List Bool))) → repair_columns (suc m) n 0 ss l ≡ o → Option.map (weave n) o ≡ some z → Woven (suc m) n ss l z
    go none q e = absurd (none-ne-some z e)
    go (some xs) q e =
        let f = repairs-found (suc m) n l pos away ss 0 xs (omega arith) q in
        let w = woven m n xs (f.0 ∙ ap (λ (i : ℕ). lengths_from (suc m) 0 i n) k) in
        let z≡ : weave n xs ≡ z = some-injective (weave n xs) z e in
        let c : columns_from (suc m) 0 (suc m) z ≡ xs = ap (columns_from (suc m) 0 (suc m)) (sym z≡) ∙ w.1 in
        record { long = ap length (sym z≡) ∙ w.0; from = q ∙ ap some (sym c); have = ap (map syndrome) c ∙ f.1 }

module _ (B n : ℕ) (ss : List ℕ) (l z : List Bool) (pos : 1 ≤ B) (k : length ss ≡ B) where
  -- a string that the repair gives has n bits, and its columns have the syndromes given
  pub repair-run-found : RunApart B (length l) n → repair_run B n ss l ≡ some z → (length z ≡ n) × (syndromes B z ≡ ss)
  repair-run-found away e = let w = repair-woven B n ss l z pos k away e in (w.long, w.have)

  -- each of its columns is the repair of that column of l
  pub repair-run-column : RunApart B (length l) n → repair_run B n ss l ≡ some z
      → (j : ℕ) → j < B → repair_to (column_length B j n) (get_or ss j 0) (column B j l) ≡ some (column B j z)
  repair-run-column away e j h =
      let w = repair-woven B n ss l z pos k away e in
      repairs-each B n l pos away ss 0 (columns B z) w.from j j (omega arith) (omega arith) ∙ ap some (columns-at B z j h)

  -- so each column of l lost one bit of it, or gained one
  pub repair-run-lost : length l + B ≡ n → repair_run B n ss l ≡ some z → (j : ℕ) → j < B → Deletion (column B j l) (column B j z)
  repair-run-lost m e j h =
      (put-in-found (get_or ss j 0) (column B j l) (column B j z)
      (sym (repair-put-in (column_length B j n) (get_or ss j 0) (column B j l)
      (let c = column-length B pos j l in let r = column-length-run B pos j (length l) h in let q = ap (column_length B j) m in omega arith))
      ∙ repair-run-column (inl m) e j h)).0

  pub repair-run-gained : length l ≡ n + B → repair_run B n ss l ≡ some z → (j : ℕ) → j < B → Deletion (column B j z) (column B j l)
  repair-run-gained m e j h =
      (take-out-found (get_or ss j 0) (column B j l) (column B j z)
      (sym (repair-take-out (column_length B j n) (get_or ss j 0) (column B j l)
      (λ x. let c = column-length B pos j l in let r = column-length-run B pos j n h in let q = ap (column_length B j) m in absurd (omega arith)))
      ∙ repair-run-column (inr m) e j h)).0

-- ---- one column alone is the string, and its repair is the repair of 01
one-column : (l : List Bool) → column 1 0 l ≡ l
one-column [] = refl
one-column (b ∷ l) = ap (λ (r : List Bool). b ∷ r) (one-column l)

one-column-woven : (l : List Bool) → weave (length l) (l ∷ []) ≡ l
one-column-woven [] = refl
one-column-woven (b ∷ l) = ap (λ (r : List Bool). b ∷ r) (one-column-woven l)

pub repair-run-one : (n s : ℕ) (l : List Bool) → OneApart (length l) n → repair_run 1 n (s ∷ []) l ≡ repair_to n s l
unfolding repair_run
repair-run-one n s l away =
    ap₂ (λ (m : ℕ) (c : List Bool). Option.map (weave n) (with_first (repair_to m s c) (some []))) (let e : column_length 1 0 n ≡ n = omega arith in e) (one-column l)
    ∙ go (repair_to n s l) refl
  where
    go : (o : Option (List Bool)) → repair_to n s l ≡ o → Option.map (weave n) (with_first o (some [])) ≡ o
    go none e = refl
    go (some x) e = ap some (ap (λ (m : ℕ). weave m (x ∷ [])) (sym (repair-to-found n s l x away e).0) ∙ one-column-woven x)
