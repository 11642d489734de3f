-- 01's example of a demonstration run, and lines at the edges of the forms, on the definitions.
use Rattle.std.specs.Prelude.{◌≡◌, refl, true, false, List, [], ◌∷◌, ℕ, length}
use Rattle.std.proofs.Math.Option.{none, some, bind}
use Rattle.strings.specs.Bits.{bit_at, flipped, set_bit, write_bits, pack}
use Rattle.strings.specs.Results.{refusal, value}
use Rattle.lines.specs.Fields.{before_first, field_end, field_from, field}
use Rattle.lines.specs.SettingsLine.{is_digit, all_digits, value_from, decimal_of, group_of, five_groups, settings_of, settings_in}
use Rattle.lines.specs.StringLine.{is_bit, all_bits, line_bits, string_of, string_in, leaves_string}
use Rattle.lines.specs.Printing.{hex_digit, hex_of, digits_in, decimal, bit_bytes, message_line, row_line, last_line, refusal_line}

-- the three lines `8 8 1 1 100`, `1011`, `101`
abbrev input : List ℕ
input =
    56 ∷ 32 ∷ 56 ∷ 32 ∷ 49 ∷ 32 ∷ 49 ∷ 32 ∷ 49 ∷ 48 ∷ 48 ∷ 10
    ∷ 49 ∷ 48 ∷ 49 ∷ 49 ∷ 10
    ∷ 49 ∷ 48 ∷ 49 ∷ 10 ∷ []

-- a lent buffer of two bytes
abbrev lent : List ℕ
lent = 7 ∷ 7 ∷ []

pub record ExampleRead : Type 0 where
  pub settings : settings_in input ≡ value (record { m = 8; h = 8; k = 1; key = 1; ceiling = 100 })
  pub x : leaves_string lent (string_in input 1 (length lent)) ≡ record { count = value 4; buffer = 0xb0 ∷ 7 ∷ [] }
  pub y : leaves_string lent (string_in input 2 (length lent)) ≡ record { count = value 3; buffer = 0xa0 ∷ 7 ∷ [] }

pub example-read : ExampleRead
unfolding field field_from field_end before_first settings_in settings_of five_groups group_of bind decimal_of value_from all_digits is_digit string_in string_of all_bits is_bit line_bits pack write_bits set_bit flipped bit_at
example-read = record { settings = refl; x = refl; y = refl }

-- the lines that 01 prints for it, each followed by its bytes
pub record ExamplePrinted : Type 0 where
  -- Q 00010801
  pub opening : message_line 81 (0 ∷ 1 ∷ 8 ∷ 1 ∷ []) ≡ 81 ∷ 32 ∷ 48 ∷ 48 ∷ 48 ∷ 49 ∷ 48 ∷ 56 ∷ 48 ∷ 49 ∷ 10 ∷ []
  -- A 0004
  pub size : message_line 65 (0 ∷ 4 ∷ []) ≡ 65 ∷ 32 ∷ 48 ∷ 48 ∷ 48 ∷ 52 ∷ 10 ∷ []
  -- Q 020004
  pub question : message_line 81 (2 ∷ 0 ∷ 4 ∷ []) ≡ 81 ∷ 32 ∷ 48 ∷ 50 ∷ 48 ∷ 48 ∷ 48 ∷ 52 ∷ 10 ∷ []
  -- A 0203ab01
  pub answer : message_line 65 (2 ∷ 3 ∷ 0xab ∷ 1 ∷ []) ≡ 65 ∷ 32 ∷ 48 ∷ 50 ∷ 48 ∷ 51 ∷ 97 ∷ 98 ∷ 48 ∷ 49 ∷ 10 ∷ []
  -- P 0 4 2
  pub row : row_line 0 4 2 ≡ 80 ∷ 32 ∷ 48 ∷ 32 ∷ 52 ∷ 32 ∷ 50 ∷ 10 ∷ []
  -- X 1011 1 4
  pub last : last_line (true ∷ false ∷ true ∷ true ∷ []) 1 4 ≡ 88 ∷ 32 ∷ 49 ∷ 48 ∷ 49 ∷ 49 ∷ 32 ∷ 49 ∷ 32 ∷ 52 ∷ 10 ∷ []

pub example-printed : ExamplePrinted
unfolding message_line row_line last_line hex_of hex_digit decimal digits_in bit_bytes
example-printed = record { opening = refl; size = refl; question = refl; answer = refl; row = refl; last = refl }

pub record Edges : Type 0 where
  -- `1`, newline, `0`: line 1 ends at the end of input, and there is no line 2
  pub unended : field 10 1 (49 ∷ 10 ∷ 48 ∷ []) ≡ some (2, 3)
  pub missing : field 10 2 (49 ∷ 10 ∷ 48 ∷ []) ≡ none
  pub missing-string : string_in (49 ∷ 10 ∷ 48 ∷ []) 2 (length lent) ≡ refusal 2
  -- with a newline behind line 1, line 2 is there and empty: the empty string
  pub empty : leaves_string lent (string_in (49 ∷ 10 ∷ 48 ∷ 10 ∷ []) 2 (length lent)) ≡ record { count = value 0; buffer = lent }
  -- a carriage return is no bit
  pub carriage-return : leaves_string lent (string_of (49 ∷ 13 ∷ []) (length lent)) ≡ record { count = refusal 2; buffer = lent }
  -- nine bits take two bytes
  pub no-capacity : string_of (49 ∷ 49 ∷ 49 ∷ 49 ∷ 49 ∷ 49 ∷ 49 ∷ 49 ∷ 49 ∷ []) 1 ≡ refusal 9
  -- `0012` is 12; no digit at all, and a sign, make no number
  pub leading_zeros : decimal_of (48 ∷ 48 ∷ 49 ∷ 50 ∷ []) ≡ some 12
  pub no_digit : decimal_of [] ≡ none
  pub sign : decimal_of (43 ∷ 49 ∷ []) ≡ none
  -- 4294967295, 4294967296
  pub largest : decimal_of (52 ∷ 50 ∷ 57 ∷ 52 ∷ 57 ∷ 54 ∷ 55 ∷ 50 ∷ 57 ∷ 53 ∷ []) ≡ some 4294967295
  pub too_large : decimal_of (52 ∷ 50 ∷ 57 ∷ 52 ∷ 57 ∷ 54 ∷ 55 ∷ 50 ∷ 57 ∷ 54 ∷ []) ≡ none
  -- `1 2 3 4 5`; two blanks behind the 1; a blank behind the 5; a blank before the 1; four numbers
  pub five : settings_of (49 ∷ 32 ∷ 50 ∷ 32 ∷ 51 ∷ 32 ∷ 52 ∷ 32 ∷ 53 ∷ []) ≡ value (record { m = 1; h = 2; k = 3; key = 4; ceiling = 5 })
  pub two-blanks : settings_of (49 ∷ 32 ∷ 32 ∷ 50 ∷ 32 ∷ 51 ∷ 32 ∷ 52 ∷ 32 ∷ 53 ∷ []) ≡ refusal 1
  pub blank-behind : settings_of (49 ∷ 32 ∷ 50 ∷ 32 ∷ 51 ∷ 32 ∷ 52 ∷ 32 ∷ 53 ∷ 32 ∷ []) ≡ refusal 1
  pub blank-before : settings_of (32 ∷ 49 ∷ 32 ∷ 50 ∷ 32 ∷ 51 ∷ 32 ∷ 52 ∷ 32 ∷ 53 ∷ []) ≡ refusal 1
  pub four : settings_of (49 ∷ 32 ∷ 50 ∷ 32 ∷ 51 ∷ 32 ∷ 52 ∷ []) ≡ refusal 1
  -- the empty string is printed as nothing between two blanks
  pub empty-string : last_line [] 0 0 ≡ 88 ∷ 32 ∷ 32 ∷ 48 ∷ 32 ∷ 48 ∷ 10 ∷ []
  pub ten-digits : decimal 4294967295 ≡ 52 ∷ 50 ∷ 57 ∷ 52 ∷ 57 ∷ 54 ∷ 55 ∷ 50 ∷ 57 ∷ 53 ∷ []
  -- R 1
  pub refused : refusal_line 1 ≡ 82 ∷ 32 ∷ 49 ∷ 10 ∷ []

pub edges : Edges
unfolding field field_from field_end before_first settings_of five_groups group_of bind decimal_of value_from all_digits is_digit string_in string_of all_bits is_bit line_bits pack write_bits last_line refusal_line decimal digits_in bit_bytes
edges =
    record {
      unended = refl;
      missing = refl;
      missing-string = refl;
      empty = refl;
      carriage-return = refl;
      no-capacity = refl;
      leading_zeros = refl;
      no_digit = refl;
      sign = refl;
      largest = refl;
      too_large = refl;
      five = refl;
      two-blanks = refl;
      blank-behind = refl;
      blank-before = refl;
      four = refl;
      empty-string = refl;
      ten-digits = refl;
      refused = refl;
    }
