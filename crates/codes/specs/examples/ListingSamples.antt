-- 02, CR 12: lists, counts and calls, computed on the definitions.
use Rattle.std.specs.Prelude.{◌≡◌, refl, [], ◌∷◌, map, ℕ, length}
use Rattle.std.proofs.Math.Decide.{ℕ_discrete}
use Rattle.strings.specs.Results.{refusal, value}
use Rattle.codes.specs.Syndrome.{syndrome}
use Rattle.codes.specs.Counting.{strings, of_syndrome, up_to}
use Rattle.codes.specs.Listing.{number_of, listing, list_range, list_call, list_outcome}

pub record ListingSamples : Type 0 where
  -- the empty string is number 0
  pub none : listing 0 0 ≡ 0 ∷ []
  -- for each a from 0 to n, the strings of syndrome a: of 3 bits 000 and 101, 011 and 100, 010 and 111, 001 and 110
  pub lists-1 : map (listing 1) (up_to 1) ≡ (0 ∷ []) ∷ (1 ∷ []) ∷ []
  pub lists-2 : map (listing 2) (up_to 2) ≡ (0 ∷ 3 ∷ []) ∷ (2 ∷ []) ∷ (1 ∷ []) ∷ []
  pub lists-3 : map (listing 3) (up_to 3) ≡ (0 ∷ 5 ∷ []) ∷ (3 ∷ 4 ∷ []) ∷ (2 ∷ 7 ∷ []) ∷ (1 ∷ 6 ∷ []) ∷ []
  pub lists-4 : map (listing 4) (up_to 4) ≡ (0 ∷ 6 ∷ 9 ∷ 15 ∷ []) ∷ (5 ∷ 8 ∷ 14 ∷ []) ∷ (3 ∷ 4 ∷ 13 ∷ []) ∷ (2 ∷ 11 ∷ 12 ∷ []) ∷ (1 ∷ 7 ∷ 10 ∷ []) ∷ []
  -- the counts, for each a
  pub counts-4 : map (λ (a : ℕ). length (listing 4 a)) (up_to 4) ≡ 4 ∷ 3 ∷ 3 ∷ 3 ∷ 3 ∷ []
  -- n 21 and a above n get 8, whatever the buffer; one entry less than there are strings gets 14
  pub too_long : list_call 21 0 0 ≡ refusal 8
  pub above : list_call 3 4 0 ≡ refusal 8
  pub too_short : list_call 3 0 1 ≡ refusal 14
  pub enough : list_call 3 0 2 ≡ value (0 ∷ 5 ∷ [])
  -- the buffer: later entries are as they were, and all of them after a refusal
  pub left : list_outcome 3 0 (9 ∷ 9 ∷ 9 ∷ []) ≡ record { answer = value 2; buffer = 0 ∷ 5 ∷ 9 ∷ [] }
  pub refused : list_outcome 3 0 (9 ∷ []) ≡ record { answer = refusal 14; buffer = 9 ∷ [] }

pub listing-samples : ListingSamples
unfolding strings of_syndrome up_to syndrome ℕ_discrete number_of listing list_range list_call
listing-samples = record {
  none = refl;
  lists-1 = refl;
  lists-2 = refl;
  lists-3 = refl;
  lists-4 = refl;
  counts-4 = refl;
  too_long = refl;
  above = refl;
  too_short = refl;
  enough = refl;
  left = refl;
  refused = refl;
}
