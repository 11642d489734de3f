-- 02, CR 11, "Syndromes leave nothing out": the strings of n bits, those of one syndrome, their runs, the put-ins of one input, and what is
-- claimed of them. CountingTheorem names the proofs.
use Rattle.std.specs.Prelude.{◌≡◌, Bool, true, false, cond, ℕ, zero, suc, ◌+◌, ◌-◌, ◌^◌, ◌≤◌, length, take}
use Rattle.std.specs.Bool.{beq}
use mathlib.Core.List.{List, [], ◌∷◌, ◌++◌, map, filter, Memᴰ}
use Rattle.std.proofs.Math.Option.{Option, none, some}
use Rattle.std.proofs.Math.Decide.{ℕ_discrete}
use Rattle.codes.specs.Syndrome.{syndrome}
use Rattle.codes.specs.Repair.{Deletion, put_in}

-- ---- lists of any elements
module _ {A : Type 0} where
  -- no element stands in the list twice; List.Memᴰ x xs says that x stands in xs
  abbrev pub EachOnce : List A → Type 0
  EachOnce [] = Unit {0}
  EachOnce (x ∷ xs) = (Memᴰ x xs → ⊥) × EachOnce xs

  -- the list has the elements with P and no others, each once
  pub record AllOnce (P : A → Type 0) (xs : List A) : Type 0 where
    pub right : (x : A) → Memᴰ x xs → P x
    pub all : (x : A) → P x → Memᴰ x xs
    pub once : EachOnce xs

  -- one element has P, and no other has it
  pub record ExactlyOne (P : A → Type 0) : Type 0 where
    pub one : A
    pub has : P one
    pub only : (x : A) → P x → x ≡ one

  -- the sum of f over the elements of a list
  abbrev pub sum_over : (A → ℕ) → List A → ℕ
  sum_over f [] = 0
  sum_over f (x ∷ xs) = f x + sum_over f xs

-- ---- strings
-- all strings of n bits: first those that begin with 0, then those that begin with 1
unfoldable pub strings : ℕ → List (List Bool)
strings zero = [] ∷ []
strings (suc n) = map (λ (x : List Bool). false ∷ x) (strings n) ++ map (λ (x : List Bool). true ∷ x) (strings n)

-- those of them that have the syndrome a
unfoldable pub of_syndrome : ℕ → ℕ → List (List Bool)
of_syndrome n a = filter {p = λ (x : List Bool). syndrome x ≡ a} (λ x. ℕ_discrete (syndrome x) a) (strings n)

-- ---- maximal runs of equal bits, counted by the places where one begins
-- how many bits of l differ from the bit before them, where b stands before the first
abbrev pub changes : Bool → List Bool → ℕ
changes b [] = 0
changes b (c ∷ l) = cond (beq b c) 0 1 + changes c l

-- the first bit begins a run, and so does each bit that differs from the one before it
abbrev pub runs : List Bool → ℕ
runs [] = 0
runs (b ∷ l) = 1 + changes b l

-- the number of the run in which place i lies: as many runs begin up to there
abbrev pub run_of : ℕ → List Bool → ℕ
run_of i x = runs (take (suc i) x)

-- ---- put-ins
-- 0, 1, .. n
unfoldable pub up_to : ℕ → List ℕ
up_to zero = 0 ∷ []
up_to (suc n) = up_to n ++ (suc n ∷ [])

-- the put-ins of y, a string of n - 1 bits, for the syndromes 0, 1, .. n
unfoldable pub put_ins : ℕ → List Bool → List (Option (List Bool))
put_ins n y = map (λ (a : ℕ). put_in a y) (up_to n)

-- a put-in that gave a string, and one deletion turns this string into y
abbrev pub TurnsInto : List Bool → Option (List Bool) → Type 0
TurnsInto y none = ⊥
TurnsInto y (some x) = Deletion y x

-- ---- what is claimed
-- "For every n from 1 and every a from 0 to n, each string of n - 1 bits must be shown to come by one deletion from exactly one n-bit string of
-- syndrome a"
abbrev pub FromExactlyOne : Type 0
FromExactlyOne = (n a : ℕ) → 1 ≤ n → a ≤ n → (y : List Bool) → length y ≡ n - 1
    → ExactlyOne (λ (x : List Bool). (length x ≡ n) × (syndrome x ≡ a) × Deletion y x)

-- "and the maximal runs of equal bits, summed over all n-bit strings of syndrome a, to number 2^(n - 1)"
abbrev pub RunsOfSyndrome : Type 0
RunsOfSyndrome = (n a : ℕ) → 1 ≤ n → a ≤ n → sum_over runs (of_syndrome n a) ≡ 2 ^ (n - 1)

-- "The n + 1 put-ins of one input over all a must be all strings that one deletion turns into it, each once."
abbrev pub PutInsAreAll : Type 0
PutInsAreAll = (n : ℕ) → 1 ≤ n → (y : List Bool) → length y ≡ n - 1
    → (length (put_ins n y) ≡ n + 1) × AllOnce (TurnsInto y) (put_ins n y)
