-- Laws of the lines of X and Y, as the code meets them.
use Rattle.std.specs.Prelude.{◌≡◌, Bool, true, false, ◌&&◌, ℕ, suc, ◌+◌, ◌≤◌, ◌<◌, length, get_or, drop, eqb, leb, Option as CodeOption, Some, None, Ok, Err}
use Rattle.std.specs.List.{list_all}
use Rattle.std.specs.Int.{div_ceil}
use native.Mathlib.Omega.{arith}
use Rattle.std.proofs.Math.Path.{refl, sym, ap, ap₂}
use Rattle.std.proofs.Common.{◌∙◌, add-one, drop_of_length-le, drop-cons}
use mathlib.Core.List.{List, [], ◌∷◌}
use borrow.Author.Tests.{lt-leb, le-leb, eq-eqb, ne_eqb}
use Rattle.strings.specs.Bits.{max_bits, bytes_for, pack, set_bit, write_bits, cleared, at_front}
use Rattle.strings.proofs.laws.WriteLaws.{write-none, write-next}
use Rattle.strings.proofs.laws.PackLaws.{packed-into}
use Rattle.strings.specs.declared.Refusal.TheVariants.{BadString, BufferTooShort as TooShort}
use Rattle.strings.specs.Results.{refusal, value, unless}
use Rattle.strings.proofs.laws.BitLaws.{length-set_bit}
use Rattle.std.proofs.lemmas.Grind.{common_steps}
use Rattle.lines.specs.StringLine.{is_bit, all_bits, line_bits, string_of, string_in, leaves_string, said_string}
use Rattle.lines.specs.Fields.{newline_byte, field, bytes_between}
use Rattle.lines.specs.code.Readings.{said_field}
use Rattle.lines.specs.declared.StringError.TheVariants.{NotBits, BufferTooShort}

pub bit-zero : (x : ℕ) → x ≡ 48 → true ≡ is_bit x
unfolding is_bit
bit-zero x h = rw (eq-eqb x 48 h) refl

pub bit-one : (x : ℕ) → (x ≡ 48 → ⊥) → eqb x 49 ≡ is_bit x
unfolding is_bit
bit-one x h = rw (ne_eqb x 48 h) refl

-- ---- a line checked byte by byte
module _ (s : List ℕ) (i : ℕ) where
  module _ (h : i < length s) {t : Bool} (d : t ≡ is_bit (get_or s i 0)) where
    pub bits-other : t ≡ false → false ≡ all_bits (drop i s)
    unfolding all_bits
    bits-other e = rw (drop-cons s i 0 h, ← d, e) refl

    pub bits-next : t ≡ true → all_bits (drop (i + 1) s) ≡ all_bits (drop i s)
    unfolding all_bits
    bits-next e = rw (drop-cons s i 0 h, ← d, e, add-one) refl

  pub bits-last : length s ≤ i → true ≡ all_bits (drop i s)
  unfolding all_bits
  bits-last h = rw (drop_of_length-le s {i = i} h) refl

  -- ---- and written bit by bit
  pub line-next : (t t' u : List ℕ) → i < length s → t' ≡ set_bit t i (eqb (get_or s i 0) 49) → write_bits t i (line_bits (drop i s)) ≡ u → write_bits t' (i + 1) (line_bits (drop (i + 1) s)) ≡ u
  unfolding line_bits
  line-next t t' u h e f =
      ap₂ (λ (x : List ℕ) (k : ℕ). write_bits x (i + 1) (line_bits (drop k s))) e (add-one i)
      ∙ sym (write-next t i (eqb (get_or s i 0) 49) (line_bits (drop (suc i) s)))
      ∙ ap (λ (l : List ℕ). write_bits t i (line_bits l)) (sym (drop-cons s i 0 h))
      ∙ f

  pub line-last : (t u : List ℕ) → length s ≤ i → write_bits t i (line_bits (drop i s)) ≡ u → t ≡ u
  unfolding line_bits
  line-last t u h f = sym (write-none t i) ∙ ap (λ (l : List ℕ). write_bits t i (line_bits l)) (sym (drop_of_length-le s {i = i} h)) ∙ f

-- the same for a loop over the line
pub bits_all : (s : List ℕ) → list_all is_bit s ≡ all_bits s
unfolding all_bits
bits_all [] = refl
bits_all (x ∷ l) = ap (λ (t : Bool). is_bit x && t) (bits_all l)

pub written-next : (t : List ℕ) (i : ℕ) (s : List ℕ) → i < length s → write_bits t i (line_bits (drop i s)) ≡ write_bits (set_bit t i (eqb (get_or s i 0) 49)) (i + 1) (line_bits (drop (i + 1) s))
unfolding line_bits
written-next t i s h =
    ap (λ (l : List ℕ). write_bits t i (line_bits l)) (drop-cons s i 0 h)
    ∙ write-next t i (eqb (get_or s i 0) 49) (line_bits (drop (suc i) s))
    ∙ ap (λ (k : ℕ). write_bits (set_bit t i (eqb (get_or s i 0) 49)) (i + 1) (line_bits (drop k s))) (sym (add-one i))

pub written-last : (t : List ℕ) (i : ℕ) (s : List ℕ) → length s ≤ i → write_bits t i (line_bits (drop i s)) ≡ t
unfolding line_bits
written-last t i s h = ap (λ (l : List ℕ). write_bits t i (line_bits l)) (drop_of_length-le s {i = i} h) ∙ write-none t i

-- the writing of a line, bit by bit
pub ruleset line_steps = (common_steps, length-set_bit, written-next, written-last)

-- as many bytes as the bits fill, rounded up
pub bytes_rounded : (n : ℕ) → div_ceil n 8 ≡ bytes_for n
bytes_rounded n = omega arith

pub length-bits : (l : List ℕ) → length (line_bits l) ≡ length l
unfolding line_bits
length-bits [] = refl
length-bits (x ∷ l) = ap suc (length-bits l)

-- ---- the string of a line, read into the buffer buf
module _ (line buf : List ℕ) where
  pub string-long : max_bits < length line → said_string (Err NotBits) buf ≡ leaves_string buf (string_of line (length buf))
  unfolding string_of
  string-long h = rw (lt-leb (length line) max_bits h) refl

  module _ (few : length line ≤ max_bits) {t : Bool} (d : t ≡ all_bits line) where
    pub string-other : t ≡ false → said_string (Err NotBits) buf ≡ leaves_string buf (string_of line (length buf))
    unfolding string_of
    string-other e = rw (le-leb (length line) max_bits few, ← d, e) refl

    pub string-short : t ≡ true → length buf < bytes_for (length line) → said_string (Err BufferTooShort) buf ≡ leaves_string buf (string_of line (length buf))
    unfolding string_of
    string-short e h = rw (le-leb (length line) max_bits few, ← d, e, lt-leb (bytes_for (length line)) (length buf) h) refl

    pub string-packed : t ≡ true → bytes_for (length line) ≤ length buf → (u w : List ℕ) → u ≡ cleared buf 0 (bytes_for (length line)) → w ≡ write_bits u 0 (line_bits line)
        → said_string (Ok (length line)) w ≡ leaves_string buf (string_of line (length buf))
    unfolding string_of
    string-packed e h u w f g =
        rw (le-leb (length line) max_bits few, ← d, e, le-leb (bytes_for (length line)) (length buf) h) (ap₂ (λ (n : ℕ) (l : List ℕ). said_string (Ok n) l) (sym (length-bits line)) whole)
      where
        whole : w ≡ at_front (pack (line_bits line)) buf
        whole = g ∙ ap (λ (l : List ℕ). write_bits l 0 (line_bits line)) f ∙ packed-into buf (line_bits line) (length line) (length-bits line) h

-- what the line comes to, for a buffer of `capacity` bytes
pub long-refused : (line : List ℕ) (capacity : ℕ) → max_bits < length line → string_of line capacity ≡ refusal 2
unfolding string_of
long-refused line capacity h = rw (lt-leb (length line) max_bits h) refl

pub other-refused : (line : List ℕ) (capacity : ℕ) → all_bits line ≡ false → string_of line capacity ≡ refusal 2
unfolding string_of
other-refused line capacity e = rw e (go (leb (length line) max_bits))
  where
    go : (t : Bool) → unless (t && false) BadString (unless (leb (bytes_for (length line)) capacity) TooShort (value (line_bits line))) ≡ refusal 2
    go true = refl
    go false = refl

module _ (line : List ℕ) (capacity : ℕ) (few : length line ≤ max_bits) (e : all_bits line ≡ true) where
  pub short-refused : capacity < bytes_for (length line) → string_of line capacity ≡ refusal 9
  unfolding string_of
  short-refused h = rw (le-leb (length line) max_bits few, e, lt-leb (bytes_for (length line)) capacity h) refl

  pub string-fits : bytes_for (length line) ≤ capacity → string_of line capacity ≡ value (line_bits line)
  unfolding string_of
  string-fits h = rw (le-leb (length line) max_bits few, e, le-leb (bytes_for (length line)) capacity h) refl

pub packed-line : (buf line : List ℕ) → bytes_for (length line) ≤ length buf → write_bits (cleared buf 0 (bytes_for (length line))) 0 (line_bits line) ≡ at_front (pack (line_bits line)) buf
packed-line buf line h = packed-into buf (line_bits line) (length line) (length-bits line) h

-- the tests of a line, and what is left in the buffer
pub ruleset string_steps = (bytes_rounded, length-bits, long-refused, other-refused, short-refused, string-fits, packed-line)

module _ (input buf : List ℕ) (i : ℕ) {r : CodeOption (ℕ × ℕ)} (p : said_field r ≡ field newline_byte i input) where
  pub string-missing : r ≡ None → said_string (Err NotBits) buf ≡ leaves_string buf (string_in input i (length buf))
  unfolding string_in
  string-missing q = rw (← p, q) refl

  pub string-found : (a b : ℕ) → r ≡ Some (a, b) → leaves_string buf (string_of (bytes_between a b input) (length buf)) ≡ leaves_string buf (string_in input i (length buf))
  unfolding string_in
  string-found a b q = rw (← p, q) refl
