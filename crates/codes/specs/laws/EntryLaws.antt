-- Laws of the tests and the returns of the host's calls.
use Rattle.std.specs.Prelude.{◌≡◌, Bool, true, false, ◌||◌, ◌⊎◌, List, ℕ, ◌+◌, ◌≤◌, ◌<◌}
use Rattle.std.proofs.Math.Path.{refl, ap₂}
use Rattle.std.proofs.Common.{sym, ap, ◌∙◌, arith}
use Rattle.std.proofs.Math.Bool.{◌&&◌}
use Rattle.std.proofs.Math.Logic.{inl, inr}
use Rattle.std.proofs.Math.Option.{Option}
use Rattle.std.proofs.Math.Dec.{eqb, leb}
use borrow.Author.Tests.{le-leb, lt-leb, eq-eqb, ne_eqb, leb-true, eqb-true}
use Rattle.strings.specs.Bits.{max_bits, range, bytes_for, Part}
use Rattle.strings.specs.StringRule.{string_rule}
use Rattle.strings.specs.SettingLimits.{hash_limits, key_limits}
use Rattle.strings.specs.Refusals.{refusal_number}
use Rattle.strings.specs.Results.{refusal, value}
use Rattle.strings.specs.declared.Refusal.TheVariants.{BadSetting, BadString, OutOfRange, BufferTooShort}
use Rattle.strings.proofs.laws.RuleLaws.{rule-is}
use Rattle.strings.specs.laws.Tests.{and_left, and_right}
use Rattle.codes.specs.Syndrome.{syndrome}
use Rattle.codes.specs.Repair.{OneApart, repair_to}
use Rattle.codes.specs.Hash.{hash}
use Rattle.codes.specs.Entries.{syndrome_call, hash_settings, hash_call, repair_range, repair_call}

-- ---- tests
and-false : (a : Bool) → a && false ≡ false
and-false true = refl
and-false false = refl

and-true : (a : Bool) → a && true ≡ a
and-true true = refl
and-true false = refl

or_cases : (a b : Bool) → a || b ≡ true → (a ≡ true) ⊎ (b ≡ true)
or_cases true b e = inl refl
or_cases false b e = inr e

-- a whole string is a range
pub whole_part : (s : List ℕ) (bits : ℕ) → string_rule s bits ≡ true → Part s 0 bits
whole_part s bits e =
    let r = rule-is s bits e in
    let f = r.few in
    let b = r.bytes in
    record { there = omega arith; few = omega arith }

pub string-few : (s : List ℕ) (bits : ℕ) → string_rule s bits ≡ true → bits ≤ max_bits
string-few s bits e = (rule-is s bits e).few

module _ (h key : ℕ) where
  pub hash-settings-are : (a b r : Bool) → a ≡ hash_limits h → b ≡ key_limits key → r ≡ (a && b) → r ≡ hash_settings h key
  unfolding hash_settings
  hash-settings-are a b r e f g = g ∙ ap₂ ◌&&◌ e f

  pub hash-settings-width : hash_settings h key ≡ true → (8 ≤ h) × (h ≤ 32)
  unfolding hash_settings
  hash-settings-width e =
      let w = and_left (hash_limits h) (key_limits key) e in
      (leb-true 8 h (and_left (leb 8 h) (leb h 32) w), leb-true h 32 (and_right (leb 8 h) (leb h 32) w))

  pub hash_width : hash_settings h key ≡ true → h ≤ 32
  hash_width e = (hash-settings-width e).1

module _ (bits n a : ℕ) where
  pub repair-range-long : max_bits < n → false ≡ repair_range bits n a
  unfolding repair_range
  repair-range-long p = rw (lt-leb n max_bits p) (sym (and-false (eqb (bits + 1) n || eqb bits (n + 1))))

  pub repair-range-above : n < a → false ≡ repair_range bits n a
  unfolding repair_range
  repair-range-above p = rw (lt-leb a n p, and-false (leb n max_bits)) (sym (and-false (eqb (bits + 1) n || eqb bits (n + 1))))

  module _ (p : n ≤ max_bits) (q : a ≤ n) where
    pub repair-range-more : bits + 1 ≡ n → true ≡ repair_range bits n a
    unfolding repair_range
    repair-range-more e = rw (eq-eqb (bits + 1) n e, le-leb n max_bits p, le-leb a n q) refl

    pub repair-range-less : (bits + 1 ≡ n → ⊥) → eqb bits (n + 1) ≡ repair_range bits n a
    unfolding repair_range
    repair-range-less e = rw (ne_eqb (bits + 1) n e, le-leb n max_bits p, le-leb a n q) (sym (and-true (eqb bits (n + 1))))

  pub record Apart : Type 0 where
    pub one : OneApart bits n
    pub few : n ≤ max_bits
    pub most : a ≤ n

  pub repair-range-is : repair_range bits n a ≡ true → Apart
  unfolding repair_range
  repair-range-is e =
      let l = and_left (eqb (bits + 1) n || eqb bits (n + 1)) (leb n max_bits && leb a n) e in
      let r = and_right (eqb (bits + 1) n || eqb bits (n + 1)) (leb n max_bits && leb a n) e in
      record {
        one = apart (or_cases (eqb (bits + 1) n) (eqb bits (n + 1)) l);
        few = leb-true n max_bits (and_left (leb n max_bits) (leb a n) r);
        most = leb-true a n (and_right (leb n max_bits) (leb a n) r);
      }
    where
      apart : (eqb (bits + 1) n ≡ true) ⊎ (eqb bits (n + 1) ≡ true) → OneApart bits n
      apart (inl f) = inl (eqb-true (bits + 1) n f)
      apart (inr f) = inr (eqb-true bits (n + 1) f)

  pub repair_few : repair_range bits n a ≡ true → n ≤ max_bits
  repair_few e = (repair-range-is e).few

-- ---- returns
module _ (s : List ℕ) (bits : ℕ) where
  pub syndrome-bad-string : string_rule s bits ≡ false → refusal (refusal_number BadString) ≡ syndrome_call s bits
  unfolding syndrome_call
  syndrome-bad-string e = rw e refl

  pub syndrome-value : (v : ℕ) → string_rule s bits ≡ true → v ≡ syndrome (range s 0 bits) → value v ≡ syndrome_call s bits
  unfolding syndrome_call
  syndrome-value v e f = rw e (ap value f)

  module _ (h key : ℕ) where
    pub hash-bad-setting : hash_settings h key ≡ false → refusal (refusal_number BadSetting) ≡ hash_call s bits h key
    unfolding hash_call
    hash-bad-setting e = rw e refl

    pub hash-bad-string : hash_settings h key ≡ true → string_rule s bits ≡ false → refusal (refusal_number BadString) ≡ hash_call s bits h key
    unfolding hash_call
    hash-bad-string e f = rw (e, f) refl

    pub hash-value : (v : ℕ) → hash_settings h key ≡ true → string_rule s bits ≡ true → v ≡ hash h key (range s 0 bits) → value v ≡ hash_call s bits h key
    unfolding hash_call
    hash-value v e f g = rw (e, f) (ap value g)

  module _ (n a capacity : ℕ) where
    pub repair-bad-string : string_rule s bits ≡ false → repair_call s bits n a capacity ≡ refusal (refusal_number BadString)
    unfolding repair_call
    repair-bad-string e = rw e refl

    module _ (e : string_rule s bits ≡ true) where
      pub repair-out-of-range : repair_range bits n a ≡ false → repair_call s bits n a capacity ≡ refusal (refusal_number OutOfRange)
      unfolding repair_call
      repair-out-of-range f = rw (e, f) refl

      module _ (f : repair_range bits n a ≡ true) where
        pub repair-too-short : capacity < bytes_for n → repair_call s bits n a capacity ≡ refusal (refusal_number BufferTooShort)
        unfolding repair_call
        repair-too-short g = rw (e, f, lt-leb (bytes_for n) capacity g) refl

        pub repair-value : bytes_for n ≤ capacity → (o : Option (List Bool)) → repair_to n a (range s 0 bits) ≡ o → repair_call s bits n a capacity ≡ value o
        unfolding repair_call
        repair-value g o k = rw (e, f, le-leb (bytes_for n) capacity g) (ap value k)
