-- 02, CR 11, for n from 1 to 4: all strings, those of each syndrome, their runs, and the put-ins, computed on the definitions.
use Rattle.std.specs.Prelude.{◌≡◌, refl, Bool, List, [], ◌∷◌, map, ℕ, zero, suc, ◌^◌, ◌/◌, ◌%◌, eqb}
use Rattle.std.proofs.Math.Option.{Option, some}
use Rattle.std.proofs.Math.Decide.{ℕ_discrete}
use Rattle.codes.specs.Syndrome.{syndrome}
use Rattle.codes.specs.Repair.{without, insertions, with_syndrome, put_in}
use Rattle.codes.specs.Counting.{strings, of_syndrome, sum_over, runs, run_of, up_to, put_ins}

-- the string of n bits that the n decimal digits of v spell
abbrev word : ℕ → ℕ → List Bool
word zero v = []
word (suc n) v = eqb (v / 10 ^ n % 10) 1 ∷ word n v

abbrev words : ℕ → List ℕ → List (List Bool)
words n vs = map (word n) vs

abbrev some_words : ℕ → List ℕ → List (Option (List Bool))
some_words n vs = map some (words n vs)

pub record CountingSamples : Type 0 where
  -- all strings of n bits
  pub strings-1 : strings 1 ≡ words 1 (0 ∷ 1 ∷ [])
  pub strings-2 : strings 2 ≡ words 2 (00 ∷ 01 ∷ 10 ∷ 11 ∷ [])
  pub strings-3 : strings 3 ≡ words 3 (000 ∷ 001 ∷ 010 ∷ 011 ∷ 100 ∷ 101 ∷ 110 ∷ 111 ∷ [])
  pub strings-4 : strings 4 ≡ words 4 (0000 ∷ 0001 ∷ 0010 ∷ 0011 ∷ 0100 ∷ 0101 ∷ 0110 ∷ 0111 ∷ 1000 ∷ 1001 ∷ 1010 ∷ 1011 ∷ 1100 ∷ 1101 ∷ 1110 ∷ 1111 ∷ [])
  -- for each a from 0 to n, the strings of syndrome a
  pub of-syndrome-1 : map (of_syndrome 1) (up_to 1) ≡ map (words 1) ((0 ∷ []) ∷ (1 ∷ []) ∷ [])
  pub of-syndrome-2 : map (of_syndrome 2) (up_to 2) ≡ map (words 2) ((00 ∷ 11 ∷ []) ∷ (10 ∷ []) ∷ (01 ∷ []) ∷ [])
  pub of-syndrome-3 : map (of_syndrome 3) (up_to 3) ≡ map (words 3) ((000 ∷ 101 ∷ []) ∷ (011 ∷ 100 ∷ []) ∷ (010 ∷ 111 ∷ []) ∷ (001 ∷ 110 ∷ []) ∷ [])
  pub of-syndrome-4 : map (of_syndrome 4) (up_to 4)
      ≡ map (words 4) ((0000 ∷ 0110 ∷ 1001 ∷ 1111 ∷ []) ∷ (0101 ∷ 1000 ∷ 1110 ∷ []) ∷ (0011 ∷ 0100 ∷ 1101 ∷ [])
      ∷ (0010 ∷ 1011 ∷ 1100 ∷ []) ∷ (0001 ∷ 0111 ∷ 1010 ∷ []) ∷ [])
  -- the runs of each string of n bits; the empty string has none
  pub runs-0 : map runs (strings 0) ≡ 0 ∷ []
  pub runs-1 : map runs (strings 1) ≡ 1 ∷ 1 ∷ []
  pub runs-2 : map runs (strings 2) ≡ 1 ∷ 2 ∷ 2 ∷ 1 ∷ []
  pub runs-3 : map runs (strings 3) ≡ 1 ∷ 2 ∷ 3 ∷ 2 ∷ 2 ∷ 3 ∷ 2 ∷ 1 ∷ []
  pub runs-4 : map runs (strings 4) ≡ 1 ∷ 2 ∷ 3 ∷ 2 ∷ 3 ∷ 4 ∷ 3 ∷ 2 ∷ 2 ∷ 3 ∷ 4 ∷ 3 ∷ 2 ∷ 3 ∷ 2 ∷ 1 ∷ []
  -- the runs of the strings of syndrome a, summed, for each a from 0 to n: 1, 2, 4 and 8
  pub totals-1 : map (λ (a : ℕ). sum_over runs (of_syndrome 1 a)) (up_to 1) ≡ 1 ∷ 1 ∷ []
  pub totals-2 : map (λ (a : ℕ). sum_over runs (of_syndrome 2 a)) (up_to 2) ≡ 2 ∷ 2 ∷ 2 ∷ []
  pub totals-3 : map (λ (a : ℕ). sum_over runs (of_syndrome 3 a)) (up_to 3) ≡ 4 ∷ 4 ∷ 4 ∷ 4 ∷ []
  pub totals-4 : map (λ (a : ℕ). sum_over runs (of_syndrome 4 a)) (up_to 4) ≡ 8 ∷ 8 ∷ 8 ∷ 8 ∷ 8 ∷ []
  -- 1101: the run of each place, and the string without the bit at each place
  pub run-of : map (λ (i : ℕ). run_of i (word 4 1101)) (up_to 3) ≡ 1 ∷ 1 ∷ 2 ∷ 3 ∷ []
  pub deleted : map (λ (i : ℕ). without i (word 4 1101)) (up_to 3) ≡ words 3 (101 ∷ 101 ∷ 111 ∷ 110 ∷ [])
  -- for each string of n - 1 bits, its put-ins for the syndromes 0 to n
  pub put-ins-1 : map (put_ins 1) (strings 0) ≡ map (some_words 1) ((0 ∷ 1 ∷ []) ∷ [])
  pub put-ins-2 : map (put_ins 2) (strings 1) ≡ map (some_words 2) ((00 ∷ 10 ∷ 01 ∷ []) ∷ (11 ∷ 10 ∷ 01 ∷ []) ∷ [])
  pub put-ins-3 : map (put_ins 3) (strings 2) ≡ map (some_words 3) ((000 ∷ 100 ∷ 010 ∷ 001 ∷ []) ∷ (101 ∷ 011 ∷ 010 ∷ 001 ∷ []) ∷ (101 ∷ 100 ∷ 010 ∷ 110 ∷ []) ∷ (101 ∷ 011 ∷ 111 ∷ 110 ∷ []) ∷ [])
  pub put-ins-4 : map (put_ins 4) (strings 3)
      ≡ map (some_words 4) ((0000 ∷ 1000 ∷ 0100 ∷ 0010 ∷ 0001 ∷ []) ∷ (1001 ∷ 0101 ∷ 0011 ∷ 0010 ∷ 0001 ∷ []) ∷ (0110 ∷ 0101 ∷ 0100 ∷ 0010 ∷ 1010 ∷ [])
      ∷ (0110 ∷ 0101 ∷ 0011 ∷ 1011 ∷ 0111 ∷ []) ∷ (1001 ∷ 1000 ∷ 0100 ∷ 1100 ∷ 1010 ∷ []) ∷ (1001 ∷ 0101 ∷ 1101 ∷ 1011 ∷ 1010 ∷ [])
      ∷ (0110 ∷ 1110 ∷ 1101 ∷ 1100 ∷ 1010 ∷ []) ∷ (1111 ∷ 1110 ∷ 1101 ∷ 1011 ∷ 0111 ∷ []) ∷ [])

pub counting-samples : CountingSamples
unfolding strings of_syndrome up_to put_ins put_in with_syndrome insertions syndrome ℕ_discrete
counting-samples = record {
  strings-1 = refl;
  strings-2 = refl;
  strings-3 = refl;
  strings-4 = refl;
  of-syndrome-1 = refl;
  of-syndrome-2 = refl;
  of-syndrome-3 = refl;
  of-syndrome-4 = refl;
  runs-0 = refl;
  runs-1 = refl;
  runs-2 = refl;
  runs-3 = refl;
  runs-4 = refl;
  totals-1 = refl;
  totals-2 = refl;
  totals-3 = refl;
  totals-4 = refl;
  run-of = refl;
  deleted = refl;
  put-ins-1 = refl;
  put-ins-2 = refl;
  put-ins-3 = refl;
  put-ins-4 = refl;
}
