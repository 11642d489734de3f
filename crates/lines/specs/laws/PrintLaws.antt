-- Laws of what is printed, as the code meets them.
use Rattle.std.specs.Prelude.{◌≡◌, refl, Bool, true, false, cond, length, get_or, set, take, drop, ltb}
use Rattle.std.proofs.Common.{sym, ◌∙◌, zero-add, pow-suc, append_assoc, length-append, lt-ltb, le-ltb, lit<, drop_of_length-le}
use Rattle.std.proofs.Math.Path.{ap}
use mathlib.Core.List.{List, [], ◌∷◌, ◌++◌}
use Prim.Native.Nat.{ℕ, zero, suc, ◌+◌, ◌*◌, ◌/◌, ◌%◌, ◌^◌, ◌≤◌, ◌<◌, ◌-◌}
use native.Mathlib.Omega.{arith}
use Rattle.std.proofs.lemmas.List.{take_more, take_at, length-take}
use Rattle.std.proofs.Math.Seq.{length-sets}
use Rattle.std.proofs.lemmas.List.Edits.{sets-eq}
use Rattle.strings.specs.laws.StoreLaws.{sets-append}
use Rattle.std.proofs.lemmas.Grind.{common_steps}
use Rattle.strings.specs.Bits.{bit_at, range}
use Rattle.strings.proofs.laws.RangeLaws.{range_length, range-add, range-step, range_none, rest, rest-is, rest-last}
use Rattle.lines.specs.Fields.{newline_byte, blank_byte}
use Rattle.lines.specs.Printing.{Puts, hex_digit, hex_of, digits_in, decimal, bit_byte, bit_bytes, message_line, row_line, last_line, refusal_line}
use Rattle.std.proofs.Math.Numerals.{add-one}
use Rattle.std.proofs.Math.Seq.{sets, drop-cons}

-- bytes written one behind the other
pub puts-next : {buf l t m u : List ℕ} {at i j : ℕ} → Puts buf at l t i → Puts t i m u j → Puts buf at (l ++ m) u j
puts-next {buf} {l} {t} {m} {u} {at} {i} {j} p q =
    record {
      ends = (let n = length-append l m in let a = p.ends in let b = q.ends in omega arith);
      holds = q.holds ∙ rw (p.ends, p.holds) (sym (sets-append buf l m at));
    }

-- bytes written behind the first `at` of a buffer
pub puts_behind : {buf bytes after : List ℕ} {at end : ℕ} → Puts buf at bytes after end → at + length bytes ≤ length buf → take end after ≡ take at buf ++ bytes
puts_behind {buf} {bytes} {after} {at} {end} p h =
    rw (p.ends, p.holds, sets-eq bytes buf at h) (take_at (take at buf ++ bytes) (drop (at + length bytes) buf) (at + length bytes) long)
  where
    long : length (take at buf ++ bytes) ≡ at + length bytes
    long = let a = length-append (take at buf) bytes in let b = length-take at buf in omega arith

-- nothing written yet
pub puts_none : (buf : List ℕ) (at : ℕ) → Puts buf at [] buf at
puts_none buf at = record { ends = omega arith; holds = refl }

-- a buffer keeps its length
pub puts_long : {buf bytes after : List ℕ} {at end : ℕ} → Puts buf at bytes after end → length after ≡ length buf
puts_long {buf} {bytes} {after} {at} {end} p = ap length p.holds ∙ length-sets buf at bytes

-- one more byte
puts_push : {buf bytes after : List ℕ} {at end : ℕ} → Puts buf at bytes after end → (x : ℕ) → Puts buf at (bytes ++ x ∷ []) (set after end x) (end + 1)
puts_push p x = puts-next p (record { ends = refl; holds = refl })

-- the same of a line, which is the used front of its buffer
pub puts_shown : {buf bytes after line : List ℕ} {at end : ℕ} → Puts buf at bytes after end → take at buf ≡ line → at + length bytes ≤ length buf → take end after ≡ line ++ bytes
puts_shown {buf} {bytes} p e h = puts_behind p h ∙ ap (λ (l : List ℕ). l ++ bytes) e

-- ---- hexadecimal
pub hex-low : (d : ℕ) → d < 10 → 48 + d ≡ hex_digit d
unfolding hex_digit
hex-low d h = rw (lt-ltb d 10 h) refl

pub hex-high : (d : ℕ) → 10 ≤ d → 97 + (d - 10) ≡ hex_digit d
unfolding hex_digit
hex-high d h = rw (le-ltb d 10 h) refl

pub length-hex : (l : List ℕ) → length (hex_of l) ≡ 2 * length l
unfolding hex_of
length-hex [] = refl
length-hex (x ∷ l) = let h = length-hex l in omega arith

module _ (s t u : List ℕ) (i j : ℕ) (so : sets t j (hex_of (drop i s)) ≡ u) where
  pub hex-next : i < length s → (a b : ℕ) → a ≡ hex_digit (get_or s i 0 / 16) → b ≡ hex_digit (get_or s i 0 % 16) → sets (set (set t j a) (j + 1) b) (j + 2) (hex_of (drop (i + 1) s)) ≡ u
  unfolding hex_of
  hex-next h a b e f =
      let k : j + 2 ≡ suc (suc j) = omega arith in
      (rw (k, e, f, add-one i, add-one j, drop-cons s i 0 h) refl) ∙ so

  pub hex-last : length s ≤ i → t ≡ u
  unfolding hex_of
  hex-last h = (rw (drop_of_length-le s {i = i} h) refl) ∙ so

pub hex-whole : (s buf t : List ℕ) (at j : ℕ) → j ≡ at + 2 * length s → t ≡ sets buf at (hex_of s) → Puts buf at (hex_of s) t j
hex-whole s buf t at j e f = record { ends = (let n = length-hex s in omega arith); holds = f }

pub hex_none : hex_of [] ≡ []
unfolding hex_of
hex_none = refl

hex_push : (l : List ℕ) (x : ℕ) → hex_of (l ++ x ∷ []) ≡ (hex_of l ++ hex_digit (x / 16) ∷ []) ++ hex_digit (x % 16) ∷ []
unfolding hex_of
hex_push [] x = refl
hex_push (y ∷ l) x = ap (λ (t : List ℕ). hex_digit (y / 16) ∷ hex_digit (y % 16) ∷ t) (hex_push l x)

-- one more byte
pub hex_more : (s : List ℕ) (i : ℕ) → i < length s → hex_of (take (i + 1) s) ≡ (hex_of (take i s) ++ hex_digit (get_or s i 0 / 16) ∷ []) ++ hex_digit (get_or s i 0 % 16) ∷ []
hex_more s i h = ap hex_of (take_more s i 0 h) ∙ hex_push (take i s) (get_or s i 0)

-- a byte's two digits, written behind those of the bytes before it
pub hex_puts : (s : List ℕ) (i : ℕ) {buf after : List ℕ} {at end a b : ℕ} → i < length s → a ≡ hex_digit (get_or s i 0 / 16) → b ≡ hex_digit (get_or s i 0 % 16)
    → Puts buf at (hex_of (take i s)) after end → Puts buf at (hex_of (take (i + 1) s)) (set (set after end a) (end + 1) b) (end + 2)
hex_puts s i {buf} {after} {at} {end} {a} {b} h e f p =
    rw (e, f, hex_more s i h, two) (puts_push (puts_push p (hex_digit (get_or s i 0 / 16))) (hex_digit (get_or s i 0 % 16)))
  where
    two : end + 2 ≡ (end + 1) + 1
    two = omega arith

-- ---- decimal
pub length_digits : (k v : ℕ) → length (digits_in k v) ≤ suc k
unfolding digits_in
length_digits zero v = omega arith
length_digits (suc k) v = go (ltb v 10) (length_digits k (v / 10))
  where
    go : (t : Bool) → length (digits_in k (v / 10)) ≤ suc k → length (cond t ((48 + v) ∷ []) (digits_in k (v / 10) ++ ((48 + v % 10) ∷ []))) ≤ suc (suc k)
    go true h = omega arith
    go false h = let n = length-append (digits_in k (v / 10)) ((48 + v % 10) ∷ []) in omega arith

pub length-decimal : (v : ℕ) → length (decimal v) ≤ 10
unfolding decimal
length-decimal v = length_digits 9 v

tenth : (k v : ℕ) → v < 10 ^ suc k → v / 10 < 10 ^ k
tenth k v h = let e = pow-suc 10 k in omega arith

-- more digits than a number has make no difference
digits_more : (k v : ℕ) → v < 10 ^ suc k → digits_in k v ≡ digits_in (suc k) v
unfolding digits_in
digits_more zero v h = let l : v < 10 = omega arith in rw (lt-ltb v 10 l) refl
digits_more (suc k) v h = ap (λ (l : List ℕ). cond (ltb v 10) ((48 + v) ∷ []) (l ++ ((48 + v % 10) ∷ []))) (digits_more k (v / 10) (tenth (suc k) v h))

pub decimal-low : (v : ℕ) → v < 10 → decimal v ≡ (48 + v) ∷ []
unfolding decimal digits_in
decimal-low v h = rw (lt-ltb v 10 h) refl

digits-high : (k v : ℕ) → 10 ≤ v → digits_in (suc k) v ≡ digits_in k (v / 10) ++ ((48 + v % 10) ∷ [])
unfolding digits_in
digits-high k v h = rw (le-ltb v 10 h) refl

pub decimal-high : (v : ℕ) → 10 ≤ v → v < 4294967296 → decimal v ≡ decimal (v / 10) ++ ((48 + v % 10) ∷ [])
unfolding decimal
decimal-high v h k = digits-high 8 v h ∙ ap (λ (l : List ℕ). l ++ ((48 + v % 10) ∷ [])) (digits_more 8 (v / 10) (omega arith))

pub length-low : (v : ℕ) → v < 10 → length (decimal v) ≡ 1
length-low v h = ap length (decimal-low v h)

pub length_high : (v : ℕ) → 10 ≤ v → v < 4294967296 → length (decimal v) ≡ length (decimal (v / 10)) + 1
length_high v h k = ap length (decimal-high v h k) ∙ length-append (decimal (v / 10)) ((48 + v % 10) ∷ [])

pub decimal-one : (buf : List ℕ) (at v : ℕ) → v < 10 → Puts buf at (decimal v) (set buf at (48 + v)) (at + 1)
decimal-one buf at v h =
    let e = decimal-low v h in
    record { ends = (let n = length-low v h in omega arith); holds = rw e refl }

pub decimal-more : (buf t : List ℕ) (at j v : ℕ) → 10 ≤ v → v < 4294967296 → Puts buf at (decimal (v / 10)) t j → Puts buf at (decimal v) (set t j (48 + v % 10)) (j + 1)
decimal-more buf t at j v h k p =
    let e = decimal-high v h k in
    rw e (puts-next p (record { ends = refl; holds = refl }))

-- the writing of a number, digit by digit
pub ruleset decimal_steps = (length-low, length_high, decimal-one, decimal-more)

-- ---- bits
length-bytes : (l : List Bool) → length (bit_bytes l) ≡ length l
unfolding bit_bytes
length-bytes [] = refl
length-bytes (b ∷ l) = ap suc (length-bytes l)

pub length-text : (s : List ℕ) (n : ℕ) → length (bit_bytes (range s 0 n)) ≡ n
length-text s n = length-bytes (range s 0 n) ∙ range_length s 0 n

module _ (s t u : List ℕ) (n at i : ℕ) (so : sets t (at + i) (bit_bytes (rest s 0 n i)) ≡ u) where
  pub text-next : i < n → (b : Bool) (x : ℕ) → b ≡ bit_at s i → x ≡ bit_byte b → sets (set t (at + i) x) (at + (i + 1)) (bit_bytes (rest s 0 n (i + 1))) ≡ u
  unfolding bit_bytes
  text-next h b x e f =
      let k : at + (i + 1) ≡ suc (at + i) = omega arith in
      (rw (k, f) refl) ∙ ap (λ (l : List Bool). sets t (at + i) (bit_bytes l)) (sym (rest-is s 0 n i b b h (e ∙ ap (bit_at s) (sym (zero-add i))) refl)) ∙ so

  pub text-last : n ≤ i → t ≡ u
  unfolding bit_bytes
  text-last h = ap (λ (l : List Bool). sets t (at + i) (bit_bytes l)) (sym (rest-last s 0 n i h)) ∙ so

pub text-whole : (s buf t : List ℕ) (n at : ℕ) → t ≡ sets buf at (bit_bytes (range s 0 n)) → Puts buf at (bit_bytes (range s 0 n)) t (at + n)
text-whole s buf t n at f =
    record {
      ends = (let l = length-text s n in omega arith);
      holds = f;
    }

pub text_none : (s : List ℕ) → bit_bytes (range s 0 0) ≡ []
unfolding bit_bytes
text_none s = rw range_none refl

bytes_push : (l : List Bool) (b : Bool) → bit_bytes (l ++ b ∷ []) ≡ bit_bytes l ++ bit_byte b ∷ []
unfolding bit_bytes
bytes_push [] b = refl
bytes_push (c ∷ l) b = ap (λ (t : List ℕ). bit_byte c ∷ t) (bytes_push l b)

-- one more bit
pub text_more : (s : List ℕ) (i : ℕ) → bit_bytes (range s 0 (i + 1)) ≡ bit_bytes (range s 0 i) ++ bit_byte (bit_at s i) ∷ []
text_more s i = ap bit_bytes (range-add s 0 i 1 ∙ one) ∙ bytes_push (range s 0 i) (bit_at s i)
  where
    one : range s 0 i ++ range s (0 + i) 1 ≡ range s 0 i ++ bit_at s i ∷ []
    one = rw (zero-add, range-step s i 1 (lit< tt), range_none) refl

-- a bit's digit, written behind those of the bits before it
pub text_puts : (s : List ℕ) (i : ℕ) {buf after : List ℕ} {at x : ℕ} {b : Bool} → b ≡ bit_at s i → x ≡ bit_byte b
    → Puts buf at (bit_bytes (range s 0 i)) after (at + i) → Puts buf at (bit_bytes (range s 0 (i + 1))) (set after (at + i) x) (at + (i + 1))
text_puts s i {buf} {after} {at} e f p = rw (f, e, text_more s i, more) (puts_push p (bit_byte (bit_at s i)))
  where
    more : at + (i + 1) ≡ (at + i) + 1
    more = omega arith

-- ---- how long the lines are
pub length-message-line : (letter : ℕ) (message : List ℕ) → length (message_line letter message) ≡ 3 + 2 * length message
unfolding message_line
length-message-line letter message = let a = length-append (hex_of message) (newline_byte ∷ []) in let b = length-hex message in omega arith

-- a blank, a number and what follows
length-next : (v : ℕ) (l : List ℕ) → length (blank_byte ∷ (decimal v ++ l)) ≤ 11 + length l
length-next v l = let a = length-append (decimal v) l in let b = length-decimal v in omega arith

pub length-last-line : (s : List ℕ) (n questions counted : ℕ) → length (last_line (range s 0 n) questions counted) ≤ n + 25
unfolding last_line
length-last-line s n questions counted =
    let a = length-next counted (newline_byte ∷ []) in
    let b = length-next questions (blank_byte ∷ (decimal counted ++ (newline_byte ∷ []))) in
    let c = length-append (bit_bytes (range s 0 n)) (blank_byte ∷ (decimal questions ++ (blank_byte ∷ (decimal counted ++ (newline_byte ∷ []))))) in
    let d = length-text s n in
    omega arith

pub length-row-line : (start len how : ℕ) → length (row_line start len how) ≤ 35
unfolding row_line
length-row-line start len how =
    let a = length-next how (newline_byte ∷ []) in
    let b = length-next len (blank_byte ∷ (decimal how ++ (newline_byte ∷ []))) in
    let c = length-next start (blank_byte ∷ (decimal len ++ (blank_byte ∷ (decimal how ++ (newline_byte ∷ []))))) in
    omega arith

pub length-refusal-line : (number : ℕ) → length (refusal_line number) ≤ 13
unfolding refusal_line
length-refusal-line number = let a = length-next number (newline_byte ∷ []) in omega arith

-- ---- rulesets
-- what the goals of writing into a lent buffer need: how long each part is, how it begins and goes on, and that it is written behind what is there
pub ruleset puts_steps = (common_steps, length-append, puts-next, puts_none, puts_long, hex_none, length-hex, text_none, length-text, length-decimal)

-- what the goals of a line's parts need: how long each part is, how it begins and goes on, and that parts are put one behind the other
pub ruleset line_steps = (common_steps, puts_shown, append_assoc, length-append, length-hex, hex_none, hex_more, length-text, text_none, text_more, length-decimal, length-message-line, length-last-line, length-row-line, length-refusal-line)
