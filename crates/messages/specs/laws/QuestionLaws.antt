-- Laws of questions: lengths, reading what was written, and that nothing else is read to a question.
use Rattle.std.specs.Prelude.{◌≡◌, refl, List, [], ◌++◌, ℕ, ◌+◌, ◌≤◌, ◌<◌, length, drop, leb, eqb}
use Rattle.std.proofs.Common.{sym, ap, ap₂, ◌∙◌, length-append, drop_at, lit≤, le-leb, leb-true, eqb-true}
use native.Mathlib.Omega.{arith}
use Rattle.strings.specs.laws.ResultLaws.{value-is}
use Rattle.strings.specs.Bits.{max_bits}
use Rattle.strings.specs.SettingLimits.{between, hash_limits, key_limits}
use Rattle.strings.specs.Results.{value}
use Rattle.strings.specs.laws.Tests.{and_left, and_right}
use Rattle.strings.specs.Bits.{Bytes}
use Rattle.strings.specs.laws.ResultLaws.{unless-passed, then-passed}
use Rattle.strings.specs.declared.Refusal.TheVariants.{TrailingBytes, OutOfRange, BadBurst}
use Rattle.messages.specs.declared.Kind.{Kind}
use Rattle.messages.specs.declared.Kind.TheVariants.{Open, Hash, Syndrome, Bits, Burst}
use Rattle.messages.specs.declared.Question.{Question}
use Rattle.messages.specs.declared.Question.TheVariants.{AskOpen, AskHash, AskSyndrome, AskBits, AskBurst}
use Rattle.messages.specs.Numbers.{number, two_at, three_at}
use Rattle.messages.specs.laws.NumberLaws.{two-reads-last, three-reads-last, two-form-last, three-form-last, size-last, size-some, size-most, size-short}
use Rattle.messages.specs.Kinds.{kind_number, kind_at}
use Rattle.messages.specs.laws.KindLaws.{kind-size, kind-reads, kind-form}
use Rattle.messages.specs.Questions.{question_kind, question_burst, question_bytes, opening_at, range_question, burst_range_at, fields_at, read_question}

-- ---- the limits: h 8 to 32, key 1 to 2^32 - 1; a range of 1 bit or more that ends by n; of a burst also B 2 to 32
pub record OpeningWithin (h key : ℕ) : Type 0 where
  pub h-least : 8 ≤ h
  pub h-most : h ≤ 32
  pub key-least : 1 ≤ key

pub record RangeWithin (n start len : ℕ) : Type 0 where
  pub some : 1 ≤ len
  pub ends : start + len ≤ n

pub record BurstWithin (n start len b : ℕ) : Type 0 where
  pub range : RangeWithin n start len
  pub b-least : 2 ≤ b
  pub b-most : b ≤ 32

abbrev pub Within : ℕ → Question → Type 0
Within n (AskOpen h key) = OpeningWithin h key
Within n (AskHash start len) = RangeWithin n start len
Within n (AskSyndrome start len) = RangeWithin n start len
Within n (AskBits start len) = RangeWithin n start len
Within n (AskBurst start len b) = BurstWithin n start len b

-- at most 32 columns
pub burst-few : (n : ℕ) (q : Question) → Within n q → question_burst q ≤ 32
burst-few n (AskOpen h key) w = lit≤ tt
burst-few n (AskHash start len) w = lit≤ tt
burst-few n (AskSyndrome start len) w = lit≤ tt
burst-few n (AskBits start len) w = lit≤ tt
burst-few n (AskBurst start len b) w = w.b-most

abbrev pub key_of : Question → ℕ
key_of (AskOpen h key) = key
key_of (AskHash start len) = 0
key_of (AskSyndrome start len) = 0
key_of (AskBits start len) = 0
key_of (AskBurst start len b) = 0

pub record InRange (n : ℕ) (q : Question) : Type 0 where
  pub within : Within n q
  pub key-most : key_of q < 4294967296

-- ---- a question's bytes: its kind, then its fields
abbrev pub field_bytes : Question → List ℕ
field_bytes (AskOpen h key) = number 1 ++ (number h ++ number key)
field_bytes (AskHash start len) = number start ++ number len
field_bytes (AskSyndrome start len) = number start ++ number len
field_bytes (AskBits start len) = number start ++ number len
field_bytes (AskBurst start len b) = number start ++ (number len ++ number b)

pub question-parts : (q : Question) → question_bytes q ≡ number (kind_number (question_kind q)) ++ field_bytes q
unfolding question_bytes
question-parts (AskOpen h key) = refl
question-parts (AskHash start len) = refl
question-parts (AskSyndrome start len) = refl
question-parts (AskBits start len) = refl
question-parts (AskBurst start len b) = refl

-- ---- lengths: 3 to 8 bytes
question-length : (q : Question) → length (question_bytes q) ≡ 1 + length (field_bytes q)
question-length q =
    let e = length-append (number (kind_number (question_kind q))) (field_bytes q) in
    let k = kind-size (question_kind q) in
    let p = ap length (question-parts q) in
    omega arith

pub question-some : (q : Question) → 0 < length (question_bytes q)
question-some q = let e = question-length q in omega arith

range_size : (n start len : ℕ) → n ≤ max_bits → RangeWithin n start len → (length (number start ++ number len) ≤ 6) × (2 ≤ length (number start ++ number len))
range_size n start len m r =
    let x = r.ends in
    let a = size-short start (omega arith) in
    let b = size-short len (omega arith) in
    let c = size-some start in
    let d = size-some len in
    let e = length-append (number start) (number len) in
    (omega arith, omega arith)

field-size : (n : ℕ) (q : Question) → n ≤ max_bits → InRange n q → (length (field_bytes q) ≤ 7) × (2 ≤ length (field_bytes q))
field-size n (AskOpen h key) m r =
    let x = r.within.h-most in
    let a = size-last 1 (omega arith) in
    let b = size-last h (omega arith) in
    let c = size-most key in
    let d = length-append (number 1) (number h ++ number key) in
    let e = length-append (number h) (number key) in
    (omega arith, omega arith)
field-size n (AskHash start len) m r = let h = range_size n start len m r.within in (omega arith, h.1)
field-size n (AskSyndrome start len) m r = let h = range_size n start len m r.within in (omega arith, h.1)
field-size n (AskBits start len) m r = let h = range_size n start len m r.within in (omega arith, h.1)
field-size n (AskBurst start len b) m r =
    let w = r.within in
    let x = w.b-most in
    let h = range_size n start len m w.range in
    let c = size-last b (omega arith) in
    let d = length-append (number start) (number len ++ number b) in
    let e = length-append (number len) (number b) in
    let f = length-append (number start) (number len) in
    (omega arith, omega arith)

pub question-size : (n : ℕ) (q : Question) → n ≤ max_bits → InRange n q → length (question_bytes q) ≤ 8
question-size n q m r = let h = field-size n q m r in let e = question-length q in omega arith

-- ---- what was written is read, wherever the fields stand
pub opening-reads : (s : List ℕ) (at h key : ℕ) → OpeningWithin h key → key < 4294967296 → drop at s ≡ number 1 ++ (number h ++ number key) → opening_at s at ≡ value (AskOpen h key)
unfolding opening_at
opening-reads s at h key w m d =
    let x = w.h-most in
    rw (
      three-reads-last s at 1 h (omega arith) (omega arith) key m d,
      le-leb (length s) (length s) (omega arith),
      le-leb 8 h w.h-least,
      le-leb h 32 w.h-most,
      le-leb 1 key w.key-least,
      le-leb key 4294967295 (omega arith),
    ) refl

pub range-reads : (ask : ℕ → ℕ → Question) (s : List ℕ) (at n start len : ℕ) → n ≤ max_bits → RangeWithin n start len → drop at s ≡ number start ++ number len → range_question ask s at n ≡ value (ask start len)
unfolding range_question
range-reads ask s at n start len m w d =
    let x = w.ends in
    rw (
      two-reads-last s at start len (omega arith) (omega arith) d,
      le-leb (length s) (length s) (omega arith),
      le-leb 1 len w.some,
      le-leb (start + len) n x,
    ) refl

pub burst-reads : (s : List ℕ) (at n start len b : ℕ) → n ≤ max_bits → BurstWithin n start len b → drop at s ≡ number start ++ (number len ++ number b) → burst_range_at s at n ≡ value (AskBurst start len b)
unfolding burst_range_at
burst-reads s at n start len b m w d =
    let x = w.range.ends in
    let y = w.b-most in
    rw (
      three-reads-last s at start len (omega arith) (omega arith) b (omega arith) d,
      le-leb (length s) (length s) (omega arith),
      le-leb 2 b w.b-least,
      le-leb b 32 y,
      le-leb 1 len w.range.some,
      le-leb (start + len) n x,
    ) refl

pub fields_read : (q : Question) (s : List ℕ) (at n : ℕ) → n ≤ max_bits → InRange n q → drop at s ≡ field_bytes q → fields_at (question_kind q) s at n ≡ value q
unfolding fields_at
fields_read (AskOpen h key) s at n m r d = opening-reads s at h key r.within r.key-most d
fields_read (AskHash start len) s at n m r d = range-reads AskHash s at n start len m r.within d
fields_read (AskSyndrome start len) s at n m r d = range-reads AskSyndrome s at n start len m r.within d
fields_read (AskBits start len) s at n m r d = range-reads AskBits s at n start len m r.within d
fields_read (AskBurst start len b) s at n m r d = burst-reads s at n start len b m r.within d

pub question-kind-reads : (q : Question) → kind_at (question_bytes q) ≡ value (question_kind q, 1)
question-kind-reads q = ap kind_at (question-parts q) ∙ kind-reads (question_kind q) (field_bytes q)

pub question-fields-read : (q : Question) (n : ℕ) → n ≤ max_bits → InRange n q → fields_at (question_kind q) (question_bytes q) 1 n ≡ value q
question-fields-read q n m r =
    let k = number (kind_number (question_kind q)) in
    fields_read q (question_bytes q) 1 n m r (ap (drop 1) (question-parts q) ∙ drop_at k (field_bytes q) 1 (kind-size (question_kind q)))

-- once the kind is known the rest is read as its fields
pub question-known : (s : List ℕ) (n : ℕ) {k : Kind} {at : ℕ} → kind_at s ≡ value (k, at) → read_question s n ≡ fields_at k s at n
unfolding read_question
question-known s n e = rw e refl

pub question-reads : (q : Question) (n : ℕ) → n ≤ max_bits → InRange n q → read_question (question_bytes q) n ≡ value q
question-reads q n m r = question-known (question_bytes q) n (question-kind-reads q) ∙ question-fields-read q n m r

-- ---- what is read to a question is in range
-- the numbers that an opening was read from
record OpeningRead (s : List ℕ) (at : ℕ) (q : Question) : Type 0 where
  h : ℕ
  key : ℕ
  end : ℕ
  read : three_at s at ≡ value (1, h, key, end)
  nothing : length s ≤ end
  within : OpeningWithin h key
  is : AskOpen h key ≡ q

opening-read : (s : List ℕ) (at : ℕ) (q : Question) → opening_at s at ≡ value q → OpeningRead s at q
unfolding opening_at
opening-read s at q is =
    let (p, e, is₁) = then-passed (three_at s at) _ q is in
    let h = p.1 in
    let key = p.2 in
    let (t₁, is₂) = unless-passed (leb (length s) p.3) TrailingBytes _ q is₁ in
    let (t₂, is₃) = unless-passed (eqb p.0 1) OutOfRange _ q is₂ in
    let (t₃, is₄) = unless-passed (hash_limits h) OutOfRange _ q is₃ in
    let (t₄, is₅) = unless-passed (key_limits key) OutOfRange _ q is₄ in
    record {
      h = h;
      key = key;
      end = p.3;
      read = e ∙ ap (λ (n : ℕ). value (n, h, key, p.3)) (eqb-true p.0 1 t₂);
      nothing = leb-true (length s) p.3 t₁;
      within = record { h-least = leb-true 8 h (and_left (leb 8 h) (leb h 32) t₃); h-most = leb-true h 32 (and_right (leb 8 h) (leb h 32) t₃); key-least = leb-true 1 key (and_left (leb 1 key) (leb key 4294967295) t₄) };
      is = value-is is₅;
    }

-- the numbers that a range was read from
record RangeRead (ask : ℕ → ℕ → Question) (s : List ℕ) (at n : ℕ) (q : Question) : Type 0 where
  start : ℕ
  len : ℕ
  end : ℕ
  read : two_at s at ≡ value (start, len, end)
  nothing : length s ≤ end
  within : RangeWithin n start len
  is : ask start len ≡ q

range-read : (ask : ℕ → ℕ → Question) (s : List ℕ) (at n : ℕ) (q : Question) → range_question ask s at n ≡ value q → RangeRead ask s at n q
unfolding range_question
range-read ask s at n q is =
    let (p, e, is₁) = then-passed (two_at s at) _ q is in
    let (t₁, is₂) = unless-passed (leb (length s) p.2) TrailingBytes _ q is₁ in
    let (t₂, is₃) = unless-passed (leb 1 p.1) OutOfRange _ q is₂ in
    let (t₃, is₄) = unless-passed (leb (p.0 + p.1) n) OutOfRange _ q is₃ in
    record {
      start = p.0;
      len = p.1;
      end = p.2;
      read = e;
      nothing = leb-true (length s) p.2 t₁;
      within = record { some = leb-true 1 p.1 t₂; ends = leb-true (p.0 + p.1) n t₃ };
      is = value-is is₄;
    }

-- the numbers that a burst question was read from
record BurstRead (s : List ℕ) (at n : ℕ) (q : Question) : Type 0 where
  start : ℕ
  len : ℕ
  b : ℕ
  end : ℕ
  read : three_at s at ≡ value (start, len, b, end)
  nothing : length s ≤ end
  within : BurstWithin n start len b
  is : AskBurst start len b ≡ q

burst-read : (s : List ℕ) (at n : ℕ) (q : Question) → burst_range_at s at n ≡ value q → BurstRead s at n q
unfolding burst_range_at
burst-read s at n q is =
    let (p, e, is₁) = then-passed (three_at s at) _ q is in
    let (t₁, is₂) = unless-passed (leb (length s) p.3) TrailingBytes _ q is₁ in
    let (t₂, is₃) = unless-passed (between 2 p.2 32) BadBurst _ q is₂ in
    let (t₃, is₄) = unless-passed (leb 1 p.1) OutOfRange _ q is₃ in
    let (t₄, is₅) = unless-passed (leb (p.0 + p.1) n) OutOfRange _ q is₄ in
    record {
      start = p.0;
      len = p.1;
      b = p.2;
      end = p.3;
      read = e;
      nothing = leb-true (length s) p.3 t₁;
      within = record {
        range = record { some = leb-true 1 p.1 t₃; ends = leb-true (p.0 + p.1) n t₄ };
        b-least = leb-true 2 p.2 (and_left (leb 2 p.2) (leb p.2 32) t₂);
        b-most = leb-true p.2 32 (and_right (leb 2 p.2) (leb p.2 32) t₂);
      };
      is = value-is is₅;
    }

-- the question has the kind that was read, within the limits
pub fields_within : (k : Kind) (s : List ℕ) (at n : ℕ) (q : Question) → fields_at k s at n ≡ value q → (question_kind q ≡ k) × Within n q
unfolding fields_at
fields_within Open s at n q e = let r = opening-read s at q e in rw (← r.is) (refl, r.within)
fields_within Hash s at n q e = let r = range-read AskHash s at n q e in rw (← r.is) (refl, r.within)
fields_within Syndrome s at n q e = let r = range-read AskSyndrome s at n q e in rw (← r.is) (refl, r.within)
fields_within Bits s at n q e = let r = range-read AskBits s at n q e in rw (← r.is) (refl, r.within)
fields_within Burst s at n q e = let r = burst-read s at n q e in rw (← r.is) (refl, r.within)

-- ---- nothing else is read to a question
pub record FieldsOf (k : Kind) (s : List ℕ) (at n : ℕ) (q : Question) : Type 0 where
  pub kind : question_kind q ≡ k
  pub range : InRange n q
  pub bytes : drop at s ≡ field_bytes q

module _ (s : List ℕ) (bytes : Bytes s) where
  range-form : (ask : ℕ → ℕ → Question) (at n : ℕ) (q : Question) (r : RangeRead ask s at n q) → drop at s ≡ number r.start ++ number r.len
  range-form ask at n q r = two-form-last s bytes at (r.start, r.len, r.end) r.read r.nothing

  pub fields-form : (k : Kind) (at n : ℕ) (q : Question) → fields_at k s at n ≡ value q → FieldsOf k s at n q
  unfolding fields_at
  fields-form Open at n q e =
      let r = opening-read s at q e in
      let f = three-form-last s bytes at (1, r.h, r.key, r.end) r.read r.nothing in
      rw (← r.is) (record { kind = refl; range = record { within = r.within; key-most = f.1 }; bytes = f.0 })
  fields-form Hash at n q e =
      let r = range-read AskHash s at n q e in
      rw (← r.is) (record { kind = refl; range = record { within = r.within; key-most = omega arith }; bytes = range-form AskHash at n q r })
  fields-form Syndrome at n q e =
      let r = range-read AskSyndrome s at n q e in
      rw (← r.is) (record { kind = refl; range = record { within = r.within; key-most = omega arith }; bytes = range-form AskSyndrome at n q r })
  fields-form Bits at n q e =
      let r = range-read AskBits s at n q e in
      rw (← r.is) (record { kind = refl; range = record { within = r.within; key-most = omega arith }; bytes = range-form AskBits at n q r })
  fields-form Burst at n q e =
      let r = burst-read s at n q e in
      let f = three-form-last s bytes at (r.start, r.len, r.b, r.end) r.read r.nothing in
      rw (← r.is) (record { kind = refl; range = record { within = r.within; key-most = omega arith }; bytes = f.0 })

-- what a message that is read to a question is
pub record IsQuestion (s : List ℕ) (n : ℕ) (q : Question) : Type 0 where
  pub range : InRange n q
  pub bytes : s ≡ question_bytes q

pub question-form : (s : List ℕ) (n : ℕ) (q : Question) → Bytes s → read_question s n ≡ value q → IsQuestion s n q
unfolding read_question
question-form s n q bytes e =
    let (p, f, g) = then-passed (kind_at s) _ q e in
    let i = kind-form s p.0 p.1 bytes f in
    let r = fields-form s bytes p.0 p.1 n q g in
    record {
      range = r.range;
      bytes = i.begins ∙ ap₂ (λ (x : Kind) (l : List ℕ). number (kind_number x) ++ l) (sym r.kind) (ap (λ (j : ℕ). drop j s) (sym i.one) ∙ r.bytes) ∙ sym (question-parts q);
    }

-- an empty message is no question
pub empty-no-question : (n : ℕ) (q : Question) → read_question [] n ≡ value q → ⊥
empty-no-question n q e =
    let f = ap length (question-form [] n q (λ i. omega arith) e).bytes in
    let s = question-some q in
    omega arith

-- so two messages that are read to the same question are the same
pub question-one : (s t : List ℕ) (n : ℕ) (q : Question) → Bytes s → Bytes t → read_question s n ≡ value q → read_question t n ≡ value q → s ≡ t
question-one s t n q h k e f = (question-form s n q h e).bytes ∙ sym (question-form t n q k f).bytes
