-- 01, "Samples at the edges": M1 to M12 as one theorem on the definitions of strings, codes and messages.
use Rattle.std.specs.Prelude.{◌≡◌, refl, Bool, true, false, List, [], ◌∷◌, ℕ, ◌%◌}
use Rattle.std.proofs.Math.Option.{none, some}
use Rattle.strings.specs.Bits.{bit_at, range}
use Rattle.strings.specs.Results.{Result, refusal, value}
use Rattle.codes.specs.Syndrome.{syndrome}
use Rattle.codes.specs.Repair.{insertions, deletions, with_syndrome, put_in, take_out}
use Rattle.codes.specs.Hash.{xor_left, xor_right, xorshift, hash_row, hash_from, hash}
use Rattle.messages.specs.Numbers.{groups, number, next_byte, number_at, two_at, three_at}

-- the strings of the samples, as bits of their packed bytes
abbrev bits101 : List Bool
bits101 = true ∷ false ∷ true ∷ []

abbrev bits1011 : List Bool
bits1011 = true ∷ false ∷ true ∷ true ∷ []

-- the number of the refusal that reading gave; 0 for a number read
abbrev refusal_of : Result (ℕ × ℕ) → ℕ
refusal_of (refusal number) = number
refusal_of (value n) = 0

pub record MarkedSamples : Type 0 where
  -- M1 to M5: 101 put in with syndrome 0, 1, 2, 3, 4 gives 1001, 0101, 1101, 1011, 1010
  pub m1 : put_in 0 bits101 ≡ some (true ∷ false ∷ false ∷ true ∷ [])
  pub m2 : put_in 1 bits101 ≡ some (false ∷ true ∷ false ∷ true ∷ [])
  pub m3 : put_in 2 bits101 ≡ some (true ∷ true ∷ false ∷ true ∷ [])
  pub m4 : put_in 3 bits101 ≡ some (true ∷ false ∷ true ∷ true ∷ [])
  pub m5 : put_in 4 bits101 ≡ some (true ∷ false ∷ true ∷ false ∷ [])
  -- M6: empty, syndrome 1, n 1: 1
  pub m6 : put_in 1 [] ≡ some (true ∷ [])
  -- M7: 1 taken out, syndrome 0: empty
  pub m7 : take_out 0 (true ∷ []) ≡ some []
  -- M8: 1011 taken out, syndrome 0: 101; M9: syndrome 3: none
  pub m8 : take_out 0 bits1011 ≡ some bits101
  pub m9 : take_out 3 bits1011 ≡ none
  -- M10: key 1, h 8: rows end in hexadecimal 21, 01, c5, 4f; 1011 hashes to ab
  pub m10-row1 : hash_row 1 1 % 256 ≡ 0x21
  pub m10-row2 : hash_row 1 2 % 256 ≡ 0x01
  pub m10-row3 : hash_row 1 3 % 256 ≡ 0xc5
  pub m10-row4 : hash_row 1 4 % 256 ≡ 0x4f
  pub m10-hash : hash 8 1 bits1011 ≡ 0xab
  -- M11: 127 is 7f, 128 is 80 01
  pub m11-127 : number 127 ≡ 0x7f ∷ []
  pub m11-128 : number 128 ≡ 0x80 ∷ 0x01 ∷ []
  -- M12: 80 00 gets 5, 80 alone gets 4
  pub m12-zero : refusal_of (number_at (0x80 ∷ 0x00 ∷ []) 0) ≡ 5
  pub m12-alone : refusal_of (number_at (0x80 ∷ []) 0) ≡ 4
  -- the strings 101 and 1011 are the first bits of the bytes a0 and b0
  pub packed101 : range (0xa0 ∷ []) 0 3 ≡ bits101
  pub packed1011 : range (0xb0 ∷ []) 0 4 ≡ bits1011

pub marked-samples : MarkedSamples
unfolding put_in take_out with_syndrome insertions deletions syndrome hash_row xorshift xor_left xor_right hash hash_from groups number next_byte number_at two_at three_at bit_at range
marked-samples =
    record {
      m1 = refl;
      m2 = refl;
      m3 = refl;
      m4 = refl;
      m5 = refl;
      m6 = refl;
      m7 = refl;
      m8 = refl;
      m9 = refl;
      m10-row1 = refl;
      m10-row2 = refl;
      m10-row3 = refl;
      m10-row4 = refl;
      m10-hash = refl;
      m11-127 = refl;
      m11-128 = refl;
      m12-zero = refl;
      m12-alone = refl;
      packed101 = refl;
      packed1011 = refl;
    }
