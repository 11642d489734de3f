-- 02, CR 13: words, readings and calls, computed on the definitions.
use Rattle.std.specs.Prelude.{◌≡◌, refl, Bool, true, false, List, [], ◌∷◌, map, ℕ, zero, suc}
use Rattle.std.proofs.Math.Option.{none, some}
use Rattle.std.proofs.Math.Decide.{ℕ_discrete}
use Rattle.strings.specs.Bits.{bit_at, range, flipped, set_bit, write_bits, pack}
use Rattle.strings.specs.StringRule.{none_set, string_rule}
use Rattle.strings.specs.Results.{refusal, value}
use Rattle.codes.specs.Syndrome.{syndrome}
use Rattle.codes.specs.Repair.{insertions, deletions, with_syndrome, put_in, take_out, repair_to}
use Rattle.codes.specs.Markers.{power_below, is_power, log_from, ceil_log2, check_bits, message_bits, merged, message_sum, wanting, marker, check_number, message, near_word, read_marker, marker_range, received_range, build_call, read_call, build_outcome, read_outcome}

-- bits as they are written
abbrev bits : List ℕ → List Bool
bits [] = []
bits (zero ∷ l) = false ∷ bits l
bits (suc x ∷ l) = true ∷ bits l

-- the message 1011
abbrev sent : List Bool
sent = true ∷ false ∷ true ∷ true ∷ []

pub record MarkerSamples : Type 0 where
  -- t, and the bits of the message: none for n 1 and 2, one for n 3
  pub checks : map check_bits (1 ∷ 2 ∷ 3 ∷ 4 ∷ 7 ∷ 8 ∷ 4095 ∷ 4096 ∷ []) ≡ 1 ∷ 2 ∷ 2 ∷ 3 ∷ 3 ∷ 4 ∷ 12 ∷ 13 ∷ []
  pub messages : map message_bits (1 ∷ 2 ∷ 3 ∷ 4 ∷ 7 ∷ 8 ∷ 4095 ∷ 4096 ∷ []) ≡ 0 ∷ 0 ∷ 1 ∷ 1 ∷ 4 ∷ 4 ∷ 4083 ∷ 4083 ∷ []
  -- 1011 in 7 bits of syndrome 3: the places 3, 5, 6, 7 have 1, 0, 1, 1 with the sum 16, and the number is 3 - 16 modulo 8
  pub number : wanting 7 3 sent ≡ 3
  pub word : marker 7 3 sent ≡ bits (1 ∷ 1 ∷ 1 ∷ 0 ∷ 0 ∷ 1 ∷ 1 ∷ [])
  -- for each a from 0 to n, the words of 1, 2 and 3 bits
  pub words-1 : map (λ (a : ℕ). marker 1 a []) (0 ∷ 1 ∷ []) ≡ map bits ((0 ∷ []) ∷ (1 ∷ []) ∷ [])
  pub words-2 : map (λ (a : ℕ). marker 2 a []) (0 ∷ 1 ∷ 2 ∷ []) ≡ map bits ((0 ∷ 0 ∷ []) ∷ (1 ∷ 0 ∷ []) ∷ (0 ∷ 1 ∷ []) ∷ [])
  pub words-3 : map (λ (a : ℕ). marker 3 a (true ∷ [])) (0 ∷ 1 ∷ 2 ∷ 3 ∷ []) ≡ map bits ((1 ∷ 0 ∷ 1 ∷ []) ∷ (0 ∷ 1 ∷ 1 ∷ []) ∷ (1 ∷ 1 ∷ 1 ∷ []) ∷ (0 ∷ 0 ∷ 1 ∷ []) ∷ [])
  -- the word 1110011, with its first bit lost, a middle one, with a bit added before it, within it
  pub whole : read_marker 7 3 (bits (1 ∷ 1 ∷ 1 ∷ 0 ∷ 0 ∷ 1 ∷ 1 ∷ [])) ≡ some sent
  pub lost-first : read_marker 7 3 (bits (1 ∷ 1 ∷ 0 ∷ 0 ∷ 1 ∷ 1 ∷ [])) ≡ some sent
  pub lost-middle : read_marker 7 3 (bits (1 ∷ 1 ∷ 1 ∷ 0 ∷ 1 ∷ 1 ∷ [])) ≡ some sent
  pub added-first : read_marker 7 3 (bits (0 ∷ 1 ∷ 1 ∷ 1 ∷ 0 ∷ 0 ∷ 1 ∷ 1 ∷ [])) ≡ some sent
  pub added-middle : read_marker 7 3 (bits (1 ∷ 1 ∷ 1 ∷ 0 ∷ 1 ∷ 0 ∷ 1 ∷ 1 ∷ [])) ≡ some sent
  -- of another syndrome it is no word
  pub other-syndrome : read_marker 7 4 (bits (1 ∷ 1 ∷ 1 ∷ 0 ∷ 0 ∷ 1 ∷ 1 ∷ [])) ≡ none
  -- 11 has the syndrome 0 of 2 bits, 11010 the syndrome 1 of 5 bits; the numbers 3 and 7 are above n, so that the builder makes neither. They read as none, also with a bit lost or added
  pub never-built : read_marker 2 0 (bits (1 ∷ 1 ∷ [])) ≡ none
  pub never-built-lost : read_marker 2 0 (bits (1 ∷ [])) ≡ none
  pub never-built-added : read_marker 2 0 (bits (1 ∷ 0 ∷ 1 ∷ [])) ≡ none
  pub never-built-5 : read_marker 5 1 (bits (1 ∷ 1 ∷ 0 ∷ 1 ∷ 0 ∷ [])) ≡ none
  -- the empty message
  pub empty-lost : read_marker 1 1 [] ≡ some []
  pub empty-added : read_marker 2 0 (bits (0 ∷ 1 ∷ 0 ∷ [])) ≡ some []
  -- 2 before 8 before 15 before 9
  pub build-2 : build_call (177 ∷ []) 4 0 0 0 ≡ refusal 2
  pub build-8 : build_call (176 ∷ []) 5 0 0 0 ≡ refusal 8
  pub build-8-long : build_call (176 ∷ []) 5 4097 0 0 ≡ refusal 8
  pub build-8-above : build_call (176 ∷ []) 5 7 8 0 ≡ refusal 8
  pub build-15 : build_call (176 ∷ []) 5 7 3 0 ≡ refusal 15
  pub build-9 : build_call (176 ∷ []) 4 7 3 0 ≡ refusal 9
  -- a received length two away gets 8; a buffer too short for a message gets 9, though there is none; an empty message needs no byte
  pub read-2 : read_call (231 ∷ []) 7 0 0 0 ≡ refusal 2
  pub read-8-less : read_call (230 ∷ []) 7 9 3 0 ≡ refusal 8
  pub read-8-more : read_call (230 ∷ []) 7 5 3 0 ≡ refusal 8
  pub read-9 : read_call (230 ∷ []) 7 7 4 0 ≡ refusal 9
  pub read-empty : read_call (128 ∷ []) 1 1 1 0 ≡ value (some [])
  -- the buffer: later bytes are as they were, and all of them after a refusal or none
  pub built : build_outcome (176 ∷ []) 4 7 3 (9 ∷ 9 ∷ []) ≡ record { answer = value true; buffer = 230 ∷ 9 ∷ [] }
  pub refused : build_outcome (176 ∷ []) 5 7 3 (9 ∷ 9 ∷ []) ≡ record { answer = refusal 15; buffer = 9 ∷ 9 ∷ [] }
  pub read : read_outcome (204 ∷ []) 6 7 3 (9 ∷ 9 ∷ []) ≡ record { answer = value true; buffer = 176 ∷ 9 ∷ [] }
  pub read_none : read_outcome (230 ∷ []) 7 7 4 (9 ∷ 9 ∷ []) ≡ record { answer = value false; buffer = 9 ∷ 9 ∷ [] }

pub marker-samples : MarkerSamples
unfolding ℕ_discrete bit_at range flipped set_bit write_bits pack none_set string_rule syndrome insertions deletions with_syndrome put_in take_out repair_to power_below is_power log_from ceil_log2 check_bits message_bits merged message_sum wanting marker check_number message near_word read_marker marker_range received_range build_call read_call
marker-samples = record {
  checks = refl;
  messages = refl;
  number = refl;
  word = refl;
  words-1 = refl;
  words-2 = refl;
  words-3 = refl;
  whole = refl;
  lost-first = refl;
  lost-middle = refl;
  added-first = refl;
  added-middle = refl;
  other-syndrome = refl;
  never-built = refl;
  never-built-lost = refl;
  never-built-added = refl;
  never-built-5 = refl;
  empty-lost = refl;
  empty-added = refl;
  build-2 = refl;
  build-8 = refl;
  build-8-long = refl;
  build-8-above = refl;
  build-15 = refl;
  build-9 = refl;
  read-2 = refl;
  read-8-less = refl;
  read-8-more = refl;
  read-9 = refl;
  read-empty = refl;
  built = refl;
  refused = refl;
  read = refl;
  read_none = refl;
}
