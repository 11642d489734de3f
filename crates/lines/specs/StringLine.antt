-- The lines of X and Y: zeros and ones only, at most 65,536; the empty line is the empty string. A line of another form is refused with 2.
use Rattle.std.specs.Prelude.{Bool, true, ◌&&◌, ◌||◌, List, [], ◌∷◌, ℕ, length, eqb, leb, Result as CodeResult, Ok, Err}
use Rattle.strings.specs.Bits.{max_bits, bytes_for, pack, at_front}
use Rattle.strings.specs.declared.Refusal.TheVariants.{BadString, BufferTooShort}
use Rattle.strings.specs.Refusals.{refusal_number}
use Rattle.strings.specs.Results.{Result, refusal, value, unless, and_then}
use Rattle.lines.specs.declared.StringError.{StringError}
use Rattle.lines.specs.declared.StringError.TheVariants.{NotBits, BufferTooShort as TooShort}
use Rattle.lines.specs.Fields.{line_of}

-- the bytes 0 (48) and 1 (49)
unfoldable pub is_bit : ℕ → Bool
is_bit x = eqb x 48 || eqb x 49

unfoldable pub all_bits : List ℕ → Bool
all_bits [] = true
all_bits (x ∷ l) = is_bit x && all_bits l

-- the bits that a line of zeros and ones says
unfoldable pub line_bits : List ℕ → List Bool
line_bits [] = []
line_bits (x ∷ l) = eqb x 49 ∷ line_bits l

-- the string of a line, for a buffer of `capacity` bytes: 2, 9, else the string
unfoldable pub string_of : List ℕ → ℕ → Result (List Bool)
string_of line capacity =
    unless (leb (length line) max_bits && all_bits line) BadString (
    unless (leb (bytes_for (length line)) capacity) BufferTooShort (
    value (line_bits line)))

-- the string of line i of the input: X is line 1, Y line 2
unfoldable pub string_in : List ℕ → ℕ → ℕ → Result (List Bool)
string_in input i capacity = and_then (line_of BadString i input) (λ line. string_of line capacity)

-- what reading a string gives, its bit count or a refusal, and what the lent buffer holds after it
pub record StringSaid : Type 0 where
  pub count : Result ℕ
  pub buffer : List ℕ

-- a string is packed at the front of the buffer, later bytes are as they were; a refusal leaves the buffer as it was
abbrev pub leaves_string : List ℕ → Result (List Bool) → StringSaid
leaves_string out (refusal number) = record { count = refusal number; buffer = out }
leaves_string out (value bits) = record { count = value (length bits); buffer = at_front (pack bits) out }

-- what the code's answer says, and the buffer
abbrev pub said_string : CodeResult ℕ StringError → List ℕ → StringSaid
said_string (Ok n) out = record { count = value n; buffer = out }
said_string (Err NotBits) out = record { count = refusal (refusal_number BadString); buffer = out }
said_string (Err TooShort) out = record { count = refusal (refusal_number BufferTooShort); buffer = out }
