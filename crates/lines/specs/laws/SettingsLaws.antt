-- Laws of decimal numbers and of the settings line, as the code meets them.
use Rattle.std.specs.Prelude.{◌≡◌, Bool, ◌&&◌, List, [], ◌∷◌, ℕ, ◌+◌, ◌-◌, ◌*◌, ◌≤◌, ◌<◌, length, get_or, drop, ltb, ◌++◌, zero, suc, leb, Option as CodeOption, Some, None}
use Rattle.std.proofs.Math.Path.{refl}
use Rattle.std.specs.Char.{is_ascii_digit}
use Rattle.std.proofs.Common.{◌∙◌, add-one, arith, drop_of_length-le, drop-cons}
use Rattle.std.proofs.Math.Bool.{true, false, cond}
use Rattle.std.proofs.Math.Option.{Option, none, some, map, bind}
use borrow.Author.Tests.{lt-ltb, le-ltb, lt-leb, le-leb}
use Rattle.lines.specs.Fields.{blank_byte, field, bytes_between, field_text, absent, newline_byte}
use Rattle.lines.specs.SettingsLine.{is_digit, all_digits, value_from, decimal_of, group_of, setting_at, five_groups, longest_line, settings_of, settings_in, said_settings}
use Rattle.strings.specs.declared.settings.Settings.{Settings}
use Rattle.strings.specs.Results.{Result, value, and_then}
use Rattle.lines.specs.code.Readings.{said_field, said_decimal}

pub digit_low : (x : ℕ) → x < 48 → false ≡ is_digit x
unfolding is_digit
digit_low x h = rw (lt-leb 48 x h) refl

pub digit-high : (x : ℕ) → 48 ≤ x → leb x 57 ≡ is_digit x
unfolding is_digit
digit-high x h = rw (le-leb 48 x h) refl

value_grows : (v : ℕ) (l : List ℕ) → v ≤ value_from v l
unfolding value_from
value_grows v [] = omega arith
value_grows v (x ∷ l) = let h = value_grows (v * 10 + (x - 48)) l in omega arith

-- ---- a decimal number read byte by byte: what the digits l make of it behind digits of the value v
unfoldable pub decimal_rest : ℕ → List ℕ → Option ℕ
decimal_rest v l = cond (all_digits l && ltb (value_from v l) 4294967296) (some (value_from v l)) none

pub decimal-none : (s : List ℕ) → length s ≡ 0 → none ≡ decimal_of s
unfolding decimal_of
decimal-none s h = rw h refl

pub decimal-first : (s : List ℕ) → (length s ≡ 0 → ⊥) → decimal_rest 0 s ≡ decimal_of s
unfolding decimal_of decimal_rest
decimal-first s h = rw (lt-ltb 0 (length s) (omega arith)) refl

module _ (s : List ℕ) (v i : ℕ) (r : Option ℕ) (so : decimal_rest v (drop i s) ≡ r) where
  module _ (h : i < length s) {t : Bool} (d : t ≡ is_digit (get_or s i 0)) where
    pub decimal-other : t ≡ false → none ≡ r
    unfolding decimal_rest all_digits
    decimal-other e = (rw (drop-cons s i 0 h, ← d, e) refl) ∙ so

    pub decimal-next : t ≡ true → (w : ℕ) → w ≡ get_or s i 0 - 48 → decimal_rest (v * 10 + w) (drop (i + 1) s) ≡ r
    unfolding decimal_rest all_digits value_from
    decimal-next e w p = (rw (drop-cons s i 0 h, ← d, e, p, add-one) refl) ∙ so

  pub decimal-large : 4294967296 ≤ v → none ≡ r
  unfolding decimal_rest
  decimal-large h =
      let g = value_grows v (drop i s) in
      (rw (le-ltb (value_from v (drop i s)) 4294967296 (omega arith)) (go (all_digits (drop i s)))) ∙ so
    where
      go : (t : Bool) → none ≡ cond (t && false) (some (value_from v (drop i s))) none
      go true = refl
      go false = refl

  pub decimal-last : length s ≤ i → v < 4294967296 → some v ≡ r
  unfolding decimal_rest all_digits value_from
  decimal-last h k = (rw (drop_of_length-le s {i = i} h, lt-ltb v 4294967296 k) refl) ∙ so

-- the same for a loop that goes on with what is left
pub decimal-empty : (s : List ℕ) → length s ≡ 0 → decimal_of s ≡ none
unfolding decimal_of
decimal-empty s h = rw h refl

pub rest-other : (v : ℕ) (s : List ℕ) (i : ℕ) → i < length s → is_ascii_digit (get_or s i 0) ≡ false → decimal_rest v (drop i s) ≡ none
unfolding decimal_rest all_digits is_digit
rest-other v s i h e = rw (drop-cons s i 0 h, e) refl

pub rest-next : (v : ℕ) (s : List ℕ) (i : ℕ) → i < length s → is_ascii_digit (get_or s i 0) ≡ true → decimal_rest v (drop i s) ≡ decimal_rest (v * 10 + (get_or s i 0 - 48)) (drop (i + 1) s)
unfolding decimal_rest all_digits value_from is_digit
rest-next v s i h e = rw (drop-cons s i 0 h, e, add-one) refl

pub rest-large : (v : ℕ) (l : List ℕ) → 4294967296 ≤ v → decimal_rest v l ≡ none
unfolding decimal_rest
rest-large v l h = let g = value_grows v l in rw (le-ltb (value_from v l) 4294967296 (omega arith)) (go (all_digits l))
  where
    go : (t : Bool) → cond (t && false) (some (value_from v l)) none ≡ none
    go true = refl
    go false = refl

pub rest-last : (v : ℕ) (s : List ℕ) (i : ℕ) → length s ≤ i → v < 4294967296 → decimal_rest v (drop i s) ≡ some v
unfolding decimal_rest all_digits value_from
rest-last v s i h k = rw (drop_of_length-le s {i = i} h, lt-ltb v 4294967296 k) refl

-- the reading of a decimal number, digit by digit
pub ruleset decimal_steps = (decimal-empty, decimal-first, rest-other, rest-next, rest-large, rest-last)

-- ---- groups and lines: r is the field found
module _ (line : List ℕ) (i : ℕ) {r : CodeOption (ℕ × ℕ)} (p : said_field r ≡ field blank_byte i line) where
  pub group-missing : r ≡ None → none ≡ group_of line i
  unfolding group_of bind
  group-missing q = rw (← p, q) refl

  pub group-found : (a b : ℕ) → r ≡ Some (a, b) → decimal_of (bytes_between a b line) ≡ group_of line i
  unfolding group_of bind
  group-found a b q = rw (← p, q) refl

-- what a group of the line says, from the bytes of the field that was found
module _ (line : List ℕ) (i : ℕ) where
  pub group-absent : none ≡ field_text blank_byte i line → none ≡ group_of line i
  unfolding group_of bind
  group-absent p = rw (← p) refl

  pub group-text : (text : List ℕ) → some text ≡ field_text blank_byte i line → decimal_of text ≡ group_of line i
  unfolding group_of bind
  group-text text p = rw (← p) refl

-- whether there is a field is told by its bytes
pub absent-text : (sep i : ℕ) (s : List ℕ) → absent (field_text sep i s) ≡ absent (field sep i s)
absent-text sep i s = elim (field sep i s) as (λ f. absent (map (λ (place : ℕ × ℕ). bytes_between place.0 place.1 s) f) ≡ absent f) [ none ↦ refl | some place ↦ refl ]

-- the tests of the settings line
pub ruleset settings_steps = (absent-text, lt-leb, le-leb)

pub settings-long : (line : List ℕ) → longest_line < length line → said_settings None ≡ settings_of line
unfolding settings_of
settings-long line h = rw (lt-leb (length line) longest_line h) refl

module _ (line : List ℕ) (few : length line ≤ longest_line) {r : CodeOption (ℕ × ℕ)} (p : said_field r ≡ field blank_byte 5 line) where
  pub settings-more : (a b : ℕ) → r ≡ Some (a, b) → said_settings None ≡ settings_of line
  unfolding settings_of
  settings-more a b q = rw (le-leb (length line) longest_line few, ← p, q) refl

  pub settings-five : r ≡ None → five_groups line ≡ settings_of line
  unfolding settings_of
  settings-five q = rw (le-leb (length line) longest_line few, ← p, q) refl

module _ (input : List ℕ) {r : CodeOption (ℕ × ℕ)} (p : said_field r ≡ field newline_byte 0 input) where
  pub settings-missing : r ≡ None → said_settings None ≡ settings_in input
  unfolding settings_in
  settings-missing q = rw (← p, q) refl

  pub settings-found : (a b : ℕ) → r ≡ Some (a, b) → settings_of (bytes_between a b input) ≡ settings_in input
  unfolding settings_in
  settings-found a b q = rw (← p, q) refl

-- ---- the five groups, read one after the other: the first that is no number decides
-- what the last n groups make of the numbers l of those before them
abbrev pub groups_on : List ℕ → ℕ → List ℕ → Result Settings
groups_on line zero l = value (record { m = get_or l 0 0; h = get_or l 1 0; k = get_or l 2 0; key = get_or l 3 0; ceiling = get_or l 4 0 })
groups_on line (suc n) l = and_then (setting_at line (length l)) (λ v. groups_on line n (l ++ (v ∷ [])))

-- a line of which all but n of the five groups were read
pub record Groups (n : ℕ) : Type 0 where
  pub line : List ℕ
  pub numbers : List ℕ
  pub so : groups_on line n numbers ≡ five_groups line

pub none_yet : (line : List ℕ) → groups_on line 5 [] ≡ five_groups line
unfolding five_groups
none_yet line = refl

abbrev pub no-group-read : List ℕ → Groups 5
no-group-read line = record { line = line; numbers = []; so = none_yet line }

-- r is what the next group was read as
module _ {n : ℕ} (g : Groups (suc n)) {r : CodeOption ℕ} (p : said_decimal r ≡ group_of g.line (length g.numbers)) where
  pub group-none : r ≡ None → said_settings None ≡ five_groups g.line
  group-none q = (rw (← p, q) refl) ∙ g.so

  abbrev pub group-read : {v : ℕ} → r ≡ Some v → Groups n
  group-read {v} q = record { line = g.line; numbers = g.numbers ++ (v ∷ []); so = (rw (← p, q) refl) ∙ g.so }
