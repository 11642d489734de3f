-- The bytes that the demonstration program prints (01, "The demonstration run"), in ASCII.
use Rattle.std.specs.Prelude.{◌≡◌, Bool, true, false, cond, List, [], ◌∷◌, ◌++◌, ℕ, zero, suc, ◌+◌, ◌-◌, ◌/◌, ◌%◌, length, ltb}
use Rattle.std.proofs.lemmas.List.Edits.{sets}
use Rattle.lines.specs.Fields.{newline_byte, blank_byte}

-- bytes are written into a buffer from index at on, all others stay, and `end` is the index behind them
pub record Puts (buf : List ℕ) (at : ℕ) (bytes after : List ℕ) (end : ℕ) : Type 0 where
  pub ends : end ≡ at + length bytes
  pub holds : after ≡ sets buf at bytes

-- a hexadecimal digit, lower case: 0 (48) to 9, a (97) to f
unfoldable pub hex_digit : ℕ → ℕ
hex_digit d = cond (ltb d 10) (48 + d) (97 + (d - 10))

-- two hexadecimal digits for each byte, the higher first
unfoldable pub hex_of : List ℕ → List ℕ
hex_of [] = []
hex_of (x ∷ l) = hex_digit (x / 16) ∷ hex_digit (x % 16) ∷ hex_of l

-- the decimal digits of v, 0 (48) to 9, highest first, at most k + 1
unfoldable pub digits_in : ℕ → ℕ → List ℕ
digits_in zero v = (48 + v) ∷ []
digits_in (suc k) v = cond (ltb v 10) ((48 + v) ∷ []) (digits_in k (v / 10) ++ ((48 + v % 10) ∷ []))

-- the decimal digits of a number below 2^32: at most ten, no leading zeros
unfoldable pub decimal : ℕ → List ℕ
decimal v = digits_in 9 v

-- the bytes 1 (49) and 0 (48)
abbrev pub bit_byte : Bool → ℕ
bit_byte true = 49
bit_byte false = 48

-- bits as zeros and ones
unfoldable pub bit_bytes : List Bool → List ℕ
bit_bytes [] = []
bit_bytes (b ∷ l) = bit_byte b ∷ bit_bytes l

-- a question (letter Q, 81) or an answer (letter A, 65): the letter, a blank, the message in hexadecimal, a newline
unfoldable pub message_line : ℕ → List ℕ → List ℕ
message_line letter message = letter ∷ blank_byte ∷ (hex_of message ++ (newline_byte ∷ []))

-- a row: P (80), start, length, how
unfoldable pub row_line : ℕ → ℕ → ℕ → List ℕ
row_line start len how = 80 ∷ blank_byte ∷ (decimal start ++ (blank_byte ∷ (decimal len ++ (blank_byte ∷ (decimal how ++ (newline_byte ∷ []))))))

-- X (88), the string, the questions after the opening, the counted bytes; of the empty string nothing stands between the two blanks
unfoldable pub last_line : List Bool → ℕ → ℕ → List ℕ
last_line string questions counted = 88 ∷ blank_byte ∷ (bit_bytes string ++ (blank_byte ∷ (decimal questions ++ (blank_byte ∷ (decimal counted ++ (newline_byte ∷ []))))))

-- R (82) and the number of the refusal
unfoldable pub refusal_line : ℕ → List ℕ
refusal_line n = 82 ∷ blank_byte ∷ (decimal n ++ (newline_byte ∷ []))
