-- Laws of the markers' tests, of packed words and messages, and of the calls' returns.
use Rattle.std.specs.Prelude.{Ok, Err, ⊤, ◌≡◌, Bool, true, false, ◌&&◌, cond, ℕ, ◌+◌, ◌-◌, ◌%◌, ◌≤◌, ◌<◌, drop, eqb}
use Rattle.std.proofs.Math.Path.{refl, sym, ap}
use Rattle.std.proofs.Common.{◌∙◌, subst, inl, inr}
use mathlib.Core.List.{List, ◌++◌, append-nil}
use Rattle.std.proofs.Math.Option.{Option, none, some}
use Rattle.std.proofs.Math.Decide.{ℕ_discrete}
use native.Mathlib.Omega.{arith}
use Rattle.std.proofs.Math.ListN.{length}
use Rattle.std.proofs.Math.Seq.{drop-length}
use Rattle.std.proofs.Math.Dec.{leb}
use borrow.Author.Tests.{le-leb, lt-leb, eq-eqb, ne_eqb, leb-true}
use Rattle.strings.specs.Bits.{range, bytes_for, pack, at_front, write_bits}
use Rattle.strings.specs.StringRule.{string_rule}
use Rattle.strings.specs.Results.{value}
use Rattle.strings.specs.declared.Refusal.TheVariants.{BadString, OutOfRange, BufferTooShort, MessageLength}
use Rattle.strings.proofs.laws.BitLaws.{bit-front}
use Rattle.strings.proofs.laws.RangeLaws.{range_length, range-equal}
use Rattle.strings.proofs.laws.PackLaws.{length-pack, pack-bits, front-write}
use Rattle.strings.specs.laws.Tests.{and_left, and_right}
use Rattle.codes.specs.Syndrome.{weighted_sum, syndrome}
use Rattle.codes.specs.Repair.{OneApart, repair_to}
use Rattle.codes.specs.Entries.{repair_left, said_repair}
use Rattle.codes.specs.code.Sums.{Residue}
use Rattle.codes.specs.Markers.{max_marker_bits, message_bits, merged, message, message_sum, wanting, marker, near_word, built_message, read_marker, marker_range, received_range, build_call, read_call, build_outcome, read_outcome, said_build, check_number}
use Rattle.codes.specs.laws.SyndromeLaws.{syndrome-most}
use Rattle.codes.specs.laws.MarkerLaws.{length_merged, message-merged, message-bits}

-- ---- ranges
and_no : (a : Bool) → a && false ≡ false
and_no true = refl
and_no false = refl

-- what the range of the words says, and that of the received strings
pub record MarkerLimits (n a : ℕ) : Type 0 where
  pub least : 1 ≤ n
  pub few : n ≤ max_marker_bits
  pub most : a ≤ n

pub record ReceivedLimits (bits n a : ℕ) : Type 0 where
  pub words : MarkerLimits n a
  pub short : n ≤ bits + 1
  pub long : bits ≤ n + 1

module _ (n a : ℕ) where
  pub marker-range-low : n < 1 → false ≡ marker_range n a
  unfolding marker_range
  marker-range-low h = rw (lt-leb 1 n h) refl

  pub marker-range-high : max_marker_bits < n → false ≡ marker_range n a
  unfolding marker_range
  marker-range-high h = rw (lt-leb n max_marker_bits h) (sym (and_no (leb 1 n)))

  pub marker-range-rest : 1 ≤ n → n ≤ max_marker_bits → leb a n ≡ marker_range n a
  unfolding marker_range
  marker-range-rest h g = rw (le-leb 1 n h, le-leb n max_marker_bits g) refl

  pub marker-range-is : marker_range n a ≡ true → MarkerLimits n a
  unfolding marker_range
  marker-range-is e =
      let l = and_left (leb 1 n) (leb n max_marker_bits && leb a n) e in
      let r = and_right (leb 1 n) (leb n max_marker_bits && leb a n) e in
      record {
        least = leb-true 1 n l;
        few = leb-true n max_marker_bits (and_left (leb n max_marker_bits) (leb a n) r);
        most = leb-true a n (and_right (leb n max_marker_bits) (leb a n) r);
      }

  module _ (bits : ℕ) where
    pub received-range-not : marker_range n a ≡ false → false ≡ received_range bits n a
    unfolding received_range
    received-range-not e = rw e refl

    pub received-range-short : bits + 1 < n → false ≡ received_range bits n a
    unfolding received_range
    received-range-short h = rw (lt-leb n (bits + 1) h) (sym (and_no (marker_range n a)))

    pub received-range-rest : marker_range n a ≡ true → n ≤ bits + 1 → leb bits (n + 1) ≡ received_range bits n a
    unfolding received_range
    received-range-rest e h = rw (e, le-leb n (bits + 1) h) refl

    pub received-range-is : received_range bits n a ≡ true → ReceivedLimits bits n a
    unfolding received_range
    received-range-is e =
        let r = and_right (marker_range n a) (leb n (bits + 1) && leb bits (n + 1)) e in
        record {
          words = marker-range-is (and_left (marker_range n a) (leb n (bits + 1) && leb bits (n + 1)) e);
          short = leb-true n (bits + 1) (and_left (leb n (bits + 1)) (leb bits (n + 1)) r);
          long = leb-true bits (n + 1) (and_right (leb n (bits + 1)) (leb bits (n + 1)) r);
        }

    -- another length is one apart
    pub received-apart : ReceivedLimits bits n a → (bits ≡ n → ⊥) → OneApart bits n
    received-apart l d = go (ℕ_discrete (bits + 1) n)
      where
        go : Dec (bits + 1 ≡ n) → OneApart bits n
        go (yes e) = inl e
        go (no e) = let x = l.short in let y = l.long in inr (omega arith)

-- ---- packed words
pub message-bits-most : (n : ℕ) → message_bits n ≤ n
unfolding message_bits
message-bits-most n = omega arith

-- the bits of a packed string
pub front-range : (w : List Bool) (t : List ℕ) (n : ℕ) → length w ≡ n → range (at_front (pack w) t) 0 n ≡ w
front-range w t n e =
    let p = length-pack w in
    range-equal (at_front (pack w) t) (pack w) 0 0 n (λ j h. bit-front (pack w) (drop (length (pack w)) t) (0 + j) (omega arith))
    ∙ ap (range (pack w) 0) (sym e) ∙ pack-bits w

-- a packed string with all of its bits written over
front-over : (x w : List Bool) (t : List ℕ) → length w ≡ length x → write_bits (at_front (pack x) t) 0 w ≡ at_front (pack w) t
front-over x w t e =
    front-write x t 0 w (omega arith)
    ∙ ap (λ (l : List Bool). at_front (pack l) t) (ap (λ (k : ℕ). w ++ drop k x) (let z : 0 + length w ≡ length x = omega arith in z) ∙ ap (λ (l : List Bool). w ++ l) (drop-length x) ∙ append-nil w)

-- the word with the number 0, its syndrome, and the number that the wanted syndrome lacks, written over it
module _ (n a : ℕ) (m : List Bool) (k : length m ≡ message_bits n) (o o₁ : List ℕ) (e : o₁ ≡ at_front (pack (merged n 1 0 m)) o) where
  spread-range : range o₁ 0 n ≡ merged n 1 0 m
  spread-range = ap (λ (x : List ℕ). range x 0 n) e ∙ front-range (merged n 1 0 m) o n (length_merged n 1 0 m)

  sum-seen : (x : ℕ) → x ≡ syndrome (range o₁ 0 n) → x ≡ message_sum n m % (n + 1)
  unfolding syndrome message_sum
  sum-seen x f =
      f ∙ ap (λ (l : List Bool). weighted_sum 1 l % (length l + 1)) spread-range
      ∙ ap (λ (y : ℕ). weighted_sum 1 (merged n 1 0 m) % (y + 1)) (length_merged n 1 0 m)

  number-seen : (x v : ℕ) → x ≡ syndrome (range o₁ 0 n) → Residue (n + 1) (a + (n + 1 - x)) v → merged n 1 v m ≡ marker n a m
  unfolding wanting marker
  number-seen x v f r = ap (λ (y : ℕ). merged n 1 y m) (r.is ∙ ap (λ (y : ℕ). (a + (n + 1 - y)) % (n + 1)) (sum-seen x f))

  spread-message : message 1 (range o₁ 0 n) ≡ m
  spread-message = ap (message 1) spread-range ∙ message-merged n 1 0 m (k ∙ message-bits n)

  pub marker-packed : (x v : ℕ) (o₂ : List ℕ) → x ≡ syndrome (range o₁ 0 n) → {m' : ℕ} → m' ≡ n + 1 → Residue m' (a + (m' - x)) v
      → o₂ ≡ write_bits o₁ 0 (merged n 1 v (message 1 (range o₁ 0 n))) → o₂ ≡ at_front (pack (marker n a m)) o
  marker-packed x v o₂ f same r g =
      g ∙ ap (λ (l : List Bool). write_bits o₁ 0 (merged n 1 v l)) spread-message
      ∙ ap (λ (t : List ℕ). write_bits t 0 (merged n 1 v m)) e
      ∙ front-over (merged n 1 0 m) (merged n 1 v m) o (length_merged n 1 v m ∙ sym (length_merged n 1 0 m))
      ∙ ap (λ (w : List Bool). at_front (pack w) o) (number-seen x v f (subst (λ (y : ℕ). Residue y (a + (y - x)) v) same r))

pub range-syndrome-most : (s : List ℕ) (start n x : ℕ) → x ≡ syndrome (range s start n) → x ≤ n
range-syndrome-most s start n x e = let h = syndrome-most (range s start n) in let k = range_length s start n in omega arith

-- ---- reading
-- of a string that the builder makes, and of one that it doesn't
module _ (n : ℕ) (w : List Bool) (v : ℕ) (e : v ≡ check_number 1 w) where
  pub message-none : n < v → built_message n (some w) ≡ none
  message-none h = ap (λ (u : Bool). cond u (some (message 1 w)) none) (lt-leb (check_number 1 w) n (omega arith))

  pub message-some : v ≤ n → built_message n (some w) ≡ some (message 1 w)
  message-some h = ap (λ (u : Bool). cond u (some (message 1 w)) none) (le-leb (check_number 1 w) n (omega arith))

-- of a string that is received with n bits, and with another length
module _ (n a : ℕ) (l : List Bool) (len : ℕ) (k : length l ≡ len) where
  pub read-wrong : (x : ℕ) → len ≡ n → x ≡ syndrome l → (x ≡ a → ⊥) → read_marker n a l ≡ none
  unfolding read_marker near_word
  read-wrong x e f g = rw (eq-eqb (length l) n (k ∙ e), ne_eqb (syndrome l) a (λ z. g (f ∙ z))) refl

  pub read_right : (x : ℕ) → len ≡ n → x ≡ syndrome l → x ≡ a → read_marker n a l ≡ built_message n (some l)
  unfolding read_marker near_word
  read_right x e f g =
      ap (λ (t : Bool). built_message n (cond t (cond (eqb (syndrome l) a) (some l) none) (repair_to n a l))) (eq-eqb (length l) n (k ∙ e))
      ∙ ap (λ (t : Bool). built_message n (cond t (some l) none)) (eq-eqb (syndrome l) a (sym f ∙ g))

  pub read-other : OneApart len n → (o : Option (List Bool)) → repair_to n a l ≡ o → read_marker n a l ≡ built_message n o
  unfolding read_marker near_word
  read-other d o e =
      ap (λ (t : Bool). built_message n (cond t (cond (eqb (syndrome l) a) (some l) none) (repair_to n a l))) (ne_eqb (length l) n (λ z. apart d (sym k ∙ z)))
      ∙ ap (built_message n) e
    where
      apart : OneApart len n → len ≡ n → ⊥
      apart (inl f) z = omega arith
      apart (inr f) z = omega arith

-- ---- returns
module _ (s : List ℕ) (bits n a : ℕ) (out : List ℕ) where
  pub build-bad-string : string_rule s bits ≡ false → said_build (Err BadString) out ≡ build_outcome s bits n a out
  unfolding build_call
  build-bad-string e = rw e refl

  pub read-bad-string : string_rule s bits ≡ false → said_repair (Err BadString) out ≡ read_outcome s bits n a out
  unfolding read_call
  read-bad-string e = rw e refl

  module _ (e : string_rule s bits ≡ true) where
    pub build-out-of-range : marker_range n a ≡ false → said_build (Err OutOfRange) out ≡ build_outcome s bits n a out
    unfolding build_call
    build-out-of-range f = rw (e, f) refl

    module _ (f : marker_range n a ≡ true) (count : ℕ) (q : count ≡ message_bits n) where
      pub build-message-length : (bits ≡ count → ⊥) → said_build (Err MessageLength) out ≡ build_outcome s bits n a out
      unfolding build_call
      build-message-length g = rw (e, f, ne_eqb bits (message_bits n) (λ z. g (z ∙ sym q))) refl

      module _ (g : bits ≡ count) where
        pub build-too-short : length out < bytes_for n → said_build (Err BufferTooShort) out ≡ build_outcome s bits n a out
        unfolding build_call
        build-too-short h = rw (e, f, eq-eqb bits (message_bits n) (g ∙ q), lt-leb (bytes_for n) (length out) h) refl

        build-word : bytes_for n ≤ length out → record { answer = value true; buffer = at_front (pack (marker n a (range s 0 bits))) out } ≡ build_outcome s bits n a out
        unfolding build_call
        build-word h = rw (e, f, eq-eqb bits (message_bits n) (g ∙ q), le-leb (bytes_for n) (length out) h) refl

        pub build-done : bytes_for n ≤ length out → (out' : List ℕ) → out' ≡ at_front (pack (marker n a (range s 0 (message_bits n)))) out
            → (done : ⊤) → said_build (Ok done) out' ≡ build_outcome s bits n a out
        build-done h out' p done =
            ap (said_build (Ok done)) (p ∙ ap (λ (x : ℕ). at_front (pack (marker n a (range s 0 x))) out) (sym (g ∙ q))) ∙ build-word h

    pub read-out-of-range : received_range bits n a ≡ false → said_repair (Err OutOfRange) out ≡ read_outcome s bits n a out
    unfolding read_call
    read-out-of-range f = rw (e, f) refl

    module _ (f : received_range bits n a ≡ true) (count : ℕ) (q : count ≡ message_bits n) where
      pub read-too-short : length out < bytes_for count → said_repair (Err BufferTooShort) out ≡ read_outcome s bits n a out
      unfolding read_call
      read-too-short h = rw (e, f, lt-leb (bytes_for (message_bits n)) (length out) (subst (λ (x : ℕ). length out < bytes_for x) q h)) refl

      pub read-value : bytes_for count ≤ length out → repair_left out (value (read_marker n a (range s 0 bits))) ≡ read_outcome s bits n a out
      unfolding read_call
      read-value h = rw (e, f, le-leb (bytes_for (message_bits n)) (length out) (subst (λ (x : ℕ). bytes_for x ≤ length out) q h)) refl
