-- 01, "Syndrome and repair": one bit put in or taken out.
use Rattle.std.specs.Prelude.{◌≡◌, Bool, true, false, cond, ◌⊎◌, List, [], ◌∷◌, ◌++◌, map, ℕ, suc, ◌+◌, ◌<◌, length, take, drop, eqb}
use Rattle.std.proofs.Math.Option.{Option, none, some}
use Rattle.codes.specs.Syndrome.{syndrome}

-- l with bit i taken out; l with the bit b put in at place p
abbrev pub without : ℕ → List Bool → List Bool
without i l = take i l ++ drop (suc i) l

abbrev pub insert_at : ℕ → Bool → List Bool → List Bool
insert_at p b l = take p l ++ (b ∷ drop p l)

-- "deleting one bit gives": short is long with the bit at some place taken out
pub record Deletion (short long : List Bool) : Type 0 where
  pub place : ℕ
  pub within : place < length long
  pub is : short ≡ without place long

-- every string that l becomes by one bit put in, and by one bit taken out
unfoldable pub insertions : List Bool → List (List Bool)
insertions [] = (false ∷ []) ∷ (true ∷ []) ∷ []
insertions (b ∷ l) = (false ∷ b ∷ l) ∷ (true ∷ b ∷ l) ∷ map (λ (x : List Bool). b ∷ x) (insertions l)

unfoldable pub deletions : List Bool → List (List Bool)
deletions [] = []
deletions (b ∷ l) = l ∷ map (λ (x : List Bool). b ∷ x) (deletions l)

-- the first of the candidates that has the syndrome a. The theorems of RepairLaws say that no other has it, so the order is of no account
unfoldable pub with_syndrome : ℕ → List (List Bool) → Option (List Bool)
with_syndrome a [] = none
with_syndrome a (x ∷ xs) = elim (eqb (syndrome x) a) [ true ↦ some x | false ↦ with_syndrome a xs ]

-- 01, put-in: the string with syndrome a from which deleting one bit gives l
unfoldable pub put_in : ℕ → List Bool → Option (List Bool)
put_in a l = with_syndrome a (insertions l)

-- 01, take-out: the string with syndrome a got by deleting one bit of l; or none
unfoldable pub take_out : ℕ → List Bool → Option (List Bool)
take_out a l = with_syndrome a (deletions l)

-- lengths one apart: n is one more than len, or one less
abbrev pub OneApart : (len n : ℕ) → Type 0
OneApart len n = (len + 1 ≡ n) ⊎ (len ≡ n + 1)

-- the repair of l to n bits: put-in where n is one bit more, else take-out
unfoldable pub repair_to : ℕ → ℕ → List Bool → Option (List Bool)
repair_to n a l = cond (eqb (length l + 1) n) (put_in a l) (take_out a l)
