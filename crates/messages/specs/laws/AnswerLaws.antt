-- Laws of answers: lengths, reading what was written, and that nothing else is read to an answer.
use Rattle.std.specs.Prelude.{◌≡◌, Result as CodeResult, Ok, Err, Bool, true, false, ℕ, zero, suc, ◌+◌, ◌-◌, ◌*◌, ◌^◌, max, ◌≤◌, ◌<◌, get_or, take, drop, ltb, leb, eqb}
use Rattle.std.proofs.Math.Path.{refl, ap, ap₂}
use Rattle.std.proofs.Common.{sym, ◌∙◌, subst, one-mul, add-mul, le-mul_of_pos_right, div-lt_iff_lt-mul, take-append-drop, drop_at, get_or-drop, take_all, length-take-le, pow_mono}
use mathlib.Core.List.{List, [], ◌∷◌, ◌++◌}
use Rattle.std.proofs.Math.Decide.{dec_lt}
use native.Mathlib.Omega.{arith}
use Rattle.std.proofs.Math.ListN.{length, get_or-eq_default, length-append, length-drop}
use borrow.Author.Tests.{lt-ltb, le-leb, lt-leb, eq-eqb, ne_eqb, ltb-true, leb-true, eqb-true}
use Rattle.strings.specs.laws.ResultLaws.{value-is, unless-passed, then-passed}
use Rattle.strings.specs.Bits.{max_bits, range, bytes_for, pack, Bytes}
use Rattle.strings.specs.StringRule.{string_rule, IsString}
use Rattle.strings.specs.Refusals.{refusal_number}
use Rattle.strings.specs.Results.{Result, refusal, value, unless}
use Rattle.strings.specs.laws.Tests.{and_left, and_right, and-true}
use Rattle.strings.proofs.laws.RangeLaws.{range_length, range-behind}
use Rattle.strings.proofs.laws.RuleLaws.{rule-is, is-rule}
use Rattle.strings.proofs.laws.PackLaws.{length-pack, pack-bits, pack-string, string-packed}
use Rattle.strings.specs.declared.Refusal.{Refusal}
use Rattle.strings.specs.declared.Refusal.TheVariants.{Truncated, BadKind, TrailingBytes, OutOfRange}
use Rattle.codes.specs.Columns.{column_length}
use Rattle.messages.specs.declared.Kind.{Kind}
use Rattle.messages.specs.declared.Kind.TheVariants.{Open, Hash, Syndrome, Bits, Burst}
use Rattle.messages.specs.declared.Found.{Found}
use Rattle.messages.specs.declared.Found.TheVariants.{IsSize, IsHash, IsSyndrome, IsBits, IsBurst}
use Rattle.messages.specs.Numbers.{number, number_at, two_at, all_numbers, numbers_at}
use Rattle.messages.specs.laws.NumberLaws.{number-reads, number-reads-last, number-form, number-form-last, two-reads-last, two-form-last, ends_there, drop_past, size-some, size-most, size-short, numbers-short, numbers-read, numbers-form}
use Rattle.messages.specs.Kinds.{kind_number}
use Rattle.messages.specs.laws.KindLaws.{kind-most, kind-size}
use Rattle.messages.specs.Answers.{Answer, size_answer, hash_answer, syndrome_answer, bits_answer, burst_answer, longest_numbers, answer_bytes, size_at, hash_at, syndrome_at, bits_at, within_columns, burst_at, answer_fields, read_answer, burst_syndromes, said_answer, BitsAt, BitsThere, BurstAnswered}

-- ---- an answer of a kind, to a question of len bits, of a burst in b columns, under h, within the limits
abbrev pub answer_kind : Answer → Kind
answer_kind (size_answer n) = Open
answer_kind (hash_answer v) = Hash
answer_kind (syndrome_answer a v) = Syndrome
answer_kind (bits_answer l) = Bits
answer_kind (burst_answer l v) = Burst

-- one syndrome for each column, at most the column's length
pub record BurstValues (len b h : ℕ) (l : List ℕ) (v : ℕ) : Type 0 where
  pub many : length l ≡ b
  pub each : (j : ℕ) → j < b → get_or l j 0 ≤ column_length b j len
  pub hash : v < 2 ^ h

abbrev pub Values : ℕ → ℕ → ℕ → Answer → Type 0
Values len b h (size_answer n) = n ≤ max_bits
Values len b h (hash_answer v) = v < 2 ^ h
Values len b h (syndrome_answer a v) = (a ≤ len) × (v < 2 ^ h)
Values len b h (bits_answer l) = (length l ≡ len) × (len ≤ max_bits)
Values len b h (burst_answer l v) = BurstValues len b h l v

pub record Proper (kind : Kind) (len b h : ℕ) (a : Answer) : Type 0 where
  pub of-kind : answer_kind a ≡ kind
  pub values : Values len b h a

-- ---- an answer's bytes: its kind, then its fields
abbrev pub value_bytes : Answer → List ℕ
value_bytes (size_answer n) = number n
value_bytes (hash_answer v) = number v
value_bytes (syndrome_answer a v) = number a ++ number v
value_bytes (bits_answer l) = pack l
value_bytes (burst_answer l v) = all_numbers l ++ number v

pub answer-parts : (a : Answer) → answer_bytes a ≡ number (kind_number (answer_kind a)) ++ value_bytes a
unfolding answer_bytes
answer-parts (size_answer n) = refl
answer-parts (hash_answer v) = refl
answer-parts (syndrome_answer a v) = refl
answer-parts (bits_answer l) = refl
answer-parts (burst_answer l v) = refl

-- ---- columns
-- a column has no more bits than the whole
pub column-most : (b j len : ℕ) → 1 ≤ b → column_length b j len ≤ len
column-most b j len h =
    let x = len - j in
    let m = le-mul_of_pos_right x h in
    let l : x + (b - 1) < (x + 1) * b = (let e : (x + 1) * b ≡ x * b + b = add-mul x 1 b ∙ ap (λ (n : ℕ). x * b + n) (one-mul b) in omega arith) in
    let k = (div-lt_iff_lt-mul h).1 l in
    omega arith

-- the test of all syndromes holds each to its column's length
pub within-each : (b len i : ℕ) (l : List ℕ) → within_columns b len i l ≡ true → (j : ℕ) → j < length l → get_or l j 0 ≤ column_length b (i + j) len
unfolding within_columns
within-each b len i [] e j h = absurd (omega arith)
within-each b len i (a ∷ l) e zero h =
    let q : i + 0 ≡ i = omega arith in
    rw q (leb-true a (column_length b i len) (and_left (leb a (column_length b i len)) (within_columns b len (suc i) l) e))
within-each b len i (a ∷ l) e (suc j) h =
    let q : i + suc j ≡ suc i + j = omega arith in
    rw q (within-each b len (suc i) l (and_right (leb a (column_length b i len)) (within_columns b len (suc i) l) e) j (omega arith))

pub each_within : (b len i : ℕ) (l : List ℕ) → ((j : ℕ) → j < length l → get_or l j 0 ≤ column_length b (i + j) len) → within_columns b len i l ≡ true
unfolding within_columns
each_within b len i [] f = refl
each_within b len i (a ∷ l) f =
    and-true (leb a (column_length b i len)) (within_columns b len (suc i) l)
    (le-leb a (column_length b i len) (let q : i + 0 ≡ i = omega arith in rw q at (f 0 (omega arith))))
    (each_within b len (suc i) l (λ j h. let q : i + suc j ≡ suc i + j = omega arith in rw q at (f (suc j) (omega arith))))

-- so each is at most the length of the range
syndromes-most : (len b h : ℕ) (l : List ℕ) (v : ℕ) → BurstValues len b h l v → (j : ℕ) → get_or l j 0 ≤ len
syndromes-most len b h l v w j = go (dec_lt j b)
  where
    go : Dec (j < b) → get_or l j 0 ≤ len
    go (yes k) = let m = w.each j k in let n = column-most b j len (omega arith) in omega arith
    go (no k) = let e = get_or-eq_default l 0 {n = j} (let m = w.many in omega arith) in omega arith

-- ---- lengths
pub answer-size : (a : Answer) → length (answer_bytes a) ≡ 1 + length (value_bytes a)
answer-size a =
    let e = length-append (number (kind_number (answer_kind a))) (value_bytes a) in
    let k = kind-size (answer_kind a) in
    let p = ap length (answer-parts a) in
    omega arith

pub size-answer-most : (n : ℕ) → n ≤ max_bits → length (answer_bytes (size_answer n)) ≤ 4
size-answer-most n h = let e = answer-size (size_answer n) in let m = size-short n h in omega arith

pub hash-answer-most : (v : ℕ) → length (answer_bytes (hash_answer v)) ≤ 6
hash-answer-most v = let e = answer-size (hash_answer v) in let m = size-most v in omega arith

pub syndrome-answer-most : (a v : ℕ) → a ≤ max_bits → length (answer_bytes (syndrome_answer a v)) ≤ 9
syndrome-answer-most a v h =
    let e = answer-size (syndrome_answer a v) in
    let f = length-append (number a) (number v) in
    let m = size-short a h in
    let k = size-most v in
    omega arith

pub burst-answer-most : (len b h : ℕ) (l : List ℕ) (v : ℕ) → len ≤ max_bits → b ≤ 32 → BurstValues len b h l v → length (answer_bytes (burst_answer l v)) ≤ longest_numbers
burst-answer-most len b h l v m k w =
    let e = answer-size (burst_answer l v) in
    let f = length-append (all_numbers l) (number v) in
    let g = numbers-short l (λ j. let x = syndromes-most len b h l v w j in omega arith) in
    let n = w.many in
    let s = size-most v in
    omega arith

pub bits-answer-size : (l : List Bool) → length (answer_bytes (bits_answer l)) ≡ 1 + bytes_for (length l)
bits-answer-size l = answer-size (bits_answer l) ∙ ap (λ (n : ℕ). 1 + n) (length-pack l)

-- as 02, CR 1, bounds it: at most 102 bytes, or 1 + ceil(len/8) for bits
pub answer-most : (len b h : ℕ) (a : Answer) → len ≤ max_bits → b ≤ 32 → Values len b h a → length (answer_bytes a) ≤ max longest_numbers (1 + bytes_for len)
answer-most len b h (size_answer n) m c v = let e = size-answer-most n v in omega arith
answer-most len b h (hash_answer x) m c v = let e = hash-answer-most x in omega arith
answer-most len b h (syndrome_answer a x) m c v = let y = v.0 in let e = syndrome-answer-most a x (omega arith) in omega arith
answer-most len b h (bits_answer l) m c v = let y = v.0 in let e = bits-answer-size l in omega arith
answer-most len b h (burst_answer l x) m c v = let e = burst-answer-most len b h l x m c v in omega arith

-- ---- as the code meets them
-- the bits, where the rest of the message is looked at
module _ (len : ℕ) (s : List ℕ) (at : ℕ) (h : at ≤ length s) where
  pub bits-cut : length s - at < bytes_for len → refusal (refusal_number Truncated) ≡ bits_at len s at
  unfolding bits_at
  bits-cut l = rw (lt-leb (at + bytes_for len) (length s) (omega arith)) refl

  pub bits_left : bytes_for len < length s - at → refusal (refusal_number TrailingBytes) ≡ bits_at len s at
  unfolding bits_at
  bits_left l = rw (le-leb (at + bytes_for len) (length s) (omega arith), lt-leb (length s) (at + bytes_for len) (omega arith)) refl

  module _ (l : bytes_for len ≤ length s - at) (m : length s - at ≤ bytes_for len) {b : Bool} (e : b ≡ string_rule (take (length s - at) (drop at s)) len) where
    rest-rule : b ≡ string_rule (drop at s) len
    rest-rule = let n = length-drop at s in e ∙ ap (λ (t : List ℕ). string_rule t len) (take_all (length s - at) (drop at s) (omega arith))

    pub bits-spare : b ≡ false → refusal (refusal_number OutOfRange) ≡ bits_at len s at
    unfolding bits_at
    bits-spare f = rw (le-leb (at + bytes_for len) (length s) (omega arith), le-leb (length s) (at + bytes_for len) (omega arith), ← rest-rule, f) refl

    pub bits-whole : b ≡ true → value (bits_answer (range s (8 * at) len)) ≡ bits_at len s at
    unfolding bits_at
    bits-whole f = rw (le-leb (at + bytes_for len) (length s) (omega arith), le-leb (length s) (at + bytes_for len) (omega arith), ← rest-rule, f) refl

    pub bits-there : b ≡ true → BitsAt len s at
    bits-there f = record { inside = h; string = rule-is (drop at s) len (sym rest-rule ∙ f) }

pub ruleset bits_laws = (bits-cut, bits_left, bits-spare, bits-whole, bits-there)

-- where an answer's bits lie, once it is known to be bits
pub bits-read : (s : List ℕ) (len at : ℕ) {r : CodeResult Found Refusal} → BitsThere s len r → r ≡ Ok (IsBits at) → BitsAt len s at
bits-read s len at b e = subst (BitsThere s len) e b

-- the kind's number v is known
module _ (kind : Kind) (len b h : ℕ) (s : List ℕ) {v at : ℕ} (q : number_at s 0 ≡ value (v, at)) where
  answer-kind : read_answer kind len b h s ≡ unless (eqb v (kind_number kind)) BadKind (answer_fields kind len b h s at)
  unfolding read_answer
  answer-kind = rw q refl

  module _ {k : ℕ} (e : k ≡ kind_number kind) where
    pub answer-other : (v ≡ k → ⊥) → refusal (refusal_number BadKind) ≡ read_answer kind len b h s
    answer-other n = sym (answer-kind ∙ rw (ne_eqb v (kind_number kind) (λ f. n (f ∙ sym e))) refl)

    -- the fields are those of the awaited kind
    pub answer-fields : v ≡ k → {o : Result Answer} {j : Kind} → kind ≡ j → o ≡ answer_fields j len b h s at → o ≡ read_answer kind len b h s
    answer-fields f d g = g ∙ sym (answer-kind ∙ rw (eq-eqb v (kind_number kind) (f ∙ e), d) refl)

-- ---- what was written is read
-- the bits of a message from byte at on are those of its rest
pub range-rest : (s : List ℕ) (at len : ℕ) → at ≤ length s → range s (8 * at) len ≡ range (drop at s) 0 len
range-rest s at len h =
    let e = length-take-le at s h in
    ap₂ (λ (t : List ℕ) (i : ℕ). range t i len) (sym (take-append-drop at s)) (let f : 8 * at ≡ 8 * length (take at s) + 0 = omega arith in f) ∙ range-behind (take at s) (drop at s) 0 len

-- the fields stand behind the kind's one byte
pub answer-rest : (a : Answer) → drop 1 (answer_bytes a) ≡ value_bytes a
answer-rest a = ap (drop 1) (answer-parts a) ∙ drop_at (number (kind_number (answer_kind a))) (value_bytes a) 1 (kind-size (answer_kind a))

module _ (len b h : ℕ) (few : len ≤ max_bits) (narrow : h ≤ 32) where
  hash-fits : (v : ℕ) → v < 2 ^ h → v < 4294967296
  hash-fits v l = let m = pow_mono {i = h} {j = 32} narrow in omega arith

  values-read : (a : Answer) (s : List ℕ) → Values len b h a → drop 1 s ≡ value_bytes a → 1 ≤ length s → answer_fields (answer_kind a) len b h s 1 ≡ value a
  unfolding answer_fields size_at hash_at syndrome_at bits_at burst_at
  values-read (size_answer n) s m d k =
      let z = size-some n in
      let l = ends_there s (number n) 1 d (omega arith) in
      rw (number-reads-last s 1 n (omega arith) d, le-leb (length s) (1 + length (number n)) (omega arith), le-leb n max_bits m) refl
  values-read (hash_answer v) s m d k =
      let z = size-some v in
      let l = ends_there s (number v) 1 d (omega arith) in
      rw (number-reads-last s 1 v (hash-fits v m) d, le-leb (length s) (1 + length (number v)) (omega arith), lt-ltb v (2 ^ h) m) refl
  values-read (syndrome_answer a v) s m d k =
      let x = m.0 in
      rw (two-reads-last s 1 a v (omega arith) (hash-fits v m.1) d, le-leb (length s) (length s) (omega arith), le-leb a len x, lt-ltb v (2 ^ h) m.1) refl
  values-read (bits_answer l) s m d k =
      let e = length-drop 1 s in
      let f = ap length d ∙ length-pack l in
      let x = m.0 in
      let g : IsString (drop 1 s) len = rw (d, ← x) (pack-string l (omega arith)) in
      rw (le-leb (1 + bytes_for len) (length s) (omega arith), le-leb (length s) (1 + bytes_for len) (omega arith), is-rule (drop 1 s) len g)
      (ap (λ (y : List Bool). value (bits_answer y)) (range-rest s 1 len k ∙ ap₂ (λ (t : List ℕ) (n : ℕ). range t 0 n) d (sym x) ∙ pack-bits l))
  values-read (burst_answer l v) s m d k =
      let y = length-append (all_numbers l) (number v) in
      let z = size-some v in
      let e = ends_there s (all_numbers l ++ number v) 1 d (omega arith) in
      let n = ap (λ (i : ℕ). numbers_at i s 1) (sym m.many) ∙ numbers-read l s (number v) 1 (λ j. let x = syndromes-most len b h l v m j in omega arith) d in
      let w = each_within b len 0 l (λ j i. let q : 0 + j ≡ j = omega arith in rw q (m.each j (let c = m.many in omega arith))) in
      rw (
        n,
        number-reads-last s (1 + length (all_numbers l)) v (hash-fits v m.hash) (drop_past s (all_numbers l) (number v) 1 d),
        le-leb (length s) (1 + length (all_numbers l) + length (number v)) (omega arith),
        w,
        lt-ltb v (2 ^ h) m.hash,
      ) refl

  own_read : (a : Answer) → Values len b h a → read_answer (answer_kind a) len b h (answer_bytes a) ≡ value a
  own_read a m =
      let s = answer_bytes a in
      let k = answer_kind a in
      let g = kind-most (answer_kind a) in
      let z = kind-size (answer_kind a) in
      let o : 0 + length (number (kind_number (answer_kind a))) ≡ 1 = omega arith in
      answer-kind k len b h s (number-reads s (value_bytes a) 0 (kind_number k) (omega arith) (answer-parts a))
      ∙ rw (eq-eqb (kind_number (answer_kind a)) (kind_number (answer_kind a)) refl, o)
      (values-read a s m (answer-rest a) (let e = answer-size a in omega arith))

  -- the value is what was written
  pub answer-reads : (kind : Kind) (a : Answer) → Proper kind len b h a → read_answer kind len b h (answer_bytes a) ≡ value a
  answer-reads kind a p = rw (← p.of-kind) (own_read a p.values)

-- ---- what is let through is proper, and nothing else is read to the same answer
-- the fields from position at on are those of a proper answer; the bytes are its own
record FieldsOf (kind : Kind) (len b h : ℕ) (s : List ℕ) (at : ℕ) (a : Answer) : Type 0 where
  of-kind : answer_kind a ≡ kind
  values : Values len b h a
  bytes : Bytes s → drop at s ≡ value_bytes a

size_of : (len b h : ℕ) (s : List ℕ) (at : ℕ) (a : Answer) → size_at s at ≡ value a → FieldsOf Open len b h s at a
unfolding size_at
size_of len b h s at a is =
    let (n, e, is₁) = then-passed (number_at s at) _ a is in
    let (t₁, is₂) = unless-passed (leb (length s) n.1) TrailingBytes _ a is₁ in
    let (t₂, is₃) = unless-passed (leb n.0 max_bits) OutOfRange _ a is₂ in
    rw (← value-is is₃) (record {
      of-kind = refl;
      values = leb-true n.0 max_bits t₂;
      bytes = λ k. number-form-last s at n.0 n.1 k e (leb-true (length s) n.1 t₁);
    })

hash-of : (len b h : ℕ) (s : List ℕ) (at : ℕ) (a : Answer) → hash_at h s at ≡ value a → FieldsOf Hash len b h s at a
unfolding hash_at
hash-of len b h s at a is =
    let (v, e, is₁) = then-passed (number_at s at) _ a is in
    let (t₁, is₂) = unless-passed (leb (length s) v.1) TrailingBytes _ a is₁ in
    let (t₂, is₃) = unless-passed (ltb v.0 (2 ^ h)) OutOfRange _ a is₂ in
    rw (← value-is is₃) (record {
      of-kind = refl;
      values = ltb-true v.0 (2 ^ h) t₂;
      bytes = λ k. number-form-last s at v.0 v.1 k e (leb-true (length s) v.1 t₁);
    })

syndrome-of : (len b h : ℕ) (s : List ℕ) (at : ℕ) (a : Answer) → syndrome_at len h s at ≡ value a → FieldsOf Syndrome len b h s at a
unfolding syndrome_at
syndrome-of len b h s at a is =
    let (p, e, is₁) = then-passed (two_at s at) _ a is in
    let (t₁, is₂) = unless-passed (leb (length s) p.2) TrailingBytes _ a is₁ in
    let (t₂, is₃) = unless-passed (leb p.0 len) OutOfRange _ a is₂ in
    let (t₃, is₄) = unless-passed (ltb p.1 (2 ^ h)) OutOfRange _ a is₃ in
    rw (← value-is is₄) (record {
      of-kind = refl;
      values = (leb-true p.0 len t₂, ltb-true p.1 (2 ^ h) t₃);
      bytes = λ k. two-form-last s k at p e (leb-true (length s) p.2 t₁);
    })

drop-bytes : (s : List ℕ) (at : ℕ) → Bytes s → Bytes (drop at s)
drop-bytes s at h i = let e = get_or-drop at s i 0 in let b = h (at + i) in omega arith

bits_of : (len b h : ℕ) (s : List ℕ) (at : ℕ) (a : Answer) → bits_at len s at ≡ value a → FieldsOf Bits len b h s at a
unfolding bits_at
bits_of len b h s at a is =
    let (t₁, is₁) = unless-passed (leb (at + bytes_for len) (length s)) Truncated _ a is in
    let (t₂, is₂) = unless-passed (leb (length s) (at + bytes_for len)) TrailingBytes _ a is₁ in
    let (t₃, is₃) = unless-passed (string_rule (drop at s) len) OutOfRange _ a is₂ in
    let g = rule-is (drop at s) len t₃ in
    let l = leb-true (at + bytes_for len) (length s) t₁ in
    rw (← value-is is₃) (record {
      of-kind = refl;
      values = (range_length s (8 * at) len, g.few);
      bytes = λ k. string-packed (drop at s) len (drop-bytes s at k) g ∙ ap pack (sym (range-rest s at len (omega arith)));
    })

-- the numbers that a burst's answer was read from
record BurstRead (len b h : ℕ) (s : List ℕ) (at : ℕ) (a : Answer) : Type 0 where
  syndromes : List ℕ × ℕ
  hash : ℕ × ℕ
  read : numbers_at b s at ≡ value syndromes
  read-hash : number_at s syndromes.1 ≡ value hash
  nothing : length s ≤ hash.1
  each : within_columns b len 0 syndromes.0 ≡ true
  fits : hash.0 < 2 ^ h
  is : burst_answer syndromes.0 hash.0 ≡ a

burst-read : (len b h : ℕ) (s : List ℕ) (at : ℕ) (a : Answer) → burst_at len b h s at ≡ value a → BurstRead len b h s at a
unfolding burst_at
burst-read len b h s at a is =
    let (l, e, is₁) = then-passed (numbers_at b s at) _ a is in
    let (v, f, is₂) = then-passed (number_at s l.1) _ a is₁ in
    let (t₁, is₃) = unless-passed (leb (length s) v.1) TrailingBytes _ a is₂ in
    let (t₂, is₄) = unless-passed (within_columns b len 0 l.0) OutOfRange _ a is₃ in
    let (t₃, is₅) = unless-passed (ltb v.0 (2 ^ h)) OutOfRange _ a is₄ in
    record { syndromes = l; hash = v; read = e; read-hash = f; nothing = leb-true (length s) v.1 t₁; each = t₂; fits = ltb-true v.0 (2 ^ h) t₃; is = value-is is₅ }

burst-of : (len b h : ℕ) (s : List ℕ) (at : ℕ) (a : Answer) → burst_at len b h s at ≡ value a → FieldsOf Burst len b h s at a
burst-of len b h s at a is =
    let r = burst-read len b h s at a is in
    let l = r.syndromes in
    let v = r.hash in
    let n = numbers-form b s at l r.read in
    let c = n.many in
    rw (← r.is) (record {
      of-kind = refl;
      values = record { many = c; each = λ j i. (let q : 0 + j ≡ j = omega arith in rw q at (within-each b len 0 l.0 r.each j (omega arith))); hash = r.fits };
      bytes = λ k. n.stands k ∙ ap (λ (x : List ℕ). all_numbers l.0 ++ x) (number-form-last s l.1 v.0 v.1 k r.read-hash r.nothing);
    })

fields-of : (kind : Kind) (len b h : ℕ) (s : List ℕ) (at : ℕ) (a : Answer) → answer_fields kind len b h s at ≡ value a → FieldsOf kind len b h s at a
unfolding answer_fields
fields-of Open len b h s at a = size_of len b h s at a
fields-of Hash len b h s at a = hash-of len b h s at a
fields-of Syndrome len b h s at a = syndrome-of len b h s at a
fields-of Bits len b h s at a = bits_of len b h s at a
fields-of Burst len b h s at a = burst-of len b h s at a

-- only an answer of kind bits is left where it lies
pub not-bits : (kind : Kind) (len b h : ℕ) (s : List ℕ) (at : ℕ) (r : CodeResult Found Refusal) → (kind_number kind ≡ kind_number Bits → ⊥) → said_answer s len b r ≡ answer_fields kind len b h s at → BitsThere s len r
not-bits kind len b h s at (Ok (IsSize n)) other e = tt
not-bits kind len b h s at (Ok (IsHash v)) other e = tt
not-bits kind len b h s at (Ok (IsSyndrome a v)) other e = tt
not-bits kind len b h s at (Ok (IsBits i)) other e =
    absurd (other (ap kind_number (sym (fields-of kind len b h s at (bits_answer (range s (8 * i) len)) (sym e)).of-kind)))
not-bits kind len b h s at (Ok (IsBurst v)) other e = tt
not-bits kind len b h s at (Err x) other e = tt

-- what a message that is read to an answer is
pub record IsAnswer (kind : Kind) (len b h : ℕ) (s : List ℕ) (a : Answer) : Type 0 where
  pub proper : Proper kind len b h a
  pub bytes : Bytes s → s ≡ answer_bytes a

pub answer-form : (kind : Kind) (len b h : ℕ) (s : List ℕ) (a : Answer) → read_answer kind len b h s ≡ value a → IsAnswer kind len b h s a
unfolding read_answer
answer-form kind len b h s a is =
    let (v, e, is₁) = then-passed (number_at s 0) _ a is in
    let (t, is₂) = unless-passed (eqb v.0 (kind_number kind)) BadKind _ a is₁ in
    let f = fields-of kind len b h s v.1 a is₂ in
    let x = eqb-true v.0 (kind_number kind) t in
    record {
      proper = record { of-kind = f.of-kind; values = f.values };
      bytes = λ k. (number-form s 0 v.0 v.1 k e).stands ∙ ap₂ (λ (i : ℕ) (l : List ℕ). number i ++ l) (x ∙ ap kind_number (sym f.of-kind)) (f.bytes k) ∙ sym (answer-parts a);
    }

-- so two messages that are read to the same answer are the same
pub answer-one : (kind : Kind) (len b h : ℕ) (s t : List ℕ) (a : Answer) → Bytes s → Bytes t → read_answer kind len b h s ≡ value a → read_answer kind len b h t ≡ value a → s ≡ t
answer-one kind len b h s t a x y e f = (answer-form kind len b h s a e).bytes x ∙ sym ((answer-form kind len b h t a f).bytes y)

-- ---- the syndromes of a burst's answer
-- they are those that stand behind the kind
pub record BurstStands (b : ℕ) (s l : List ℕ) : Type 0 where
  pub number : ℕ
  pub at : ℕ
  pub end : ℕ
  pub kind : number_at s 0 ≡ value (number, at)
  pub read : numbers_at b s at ≡ value (l, end)

burst-behind : (len b h : ℕ) (s l : List ℕ) (v at n : ℕ) → number_at s 0 ≡ value (n, at) → burst_at len b h s at ≡ value (burst_answer l v) → BurstStands b s l
burst-behind len b h s l v at n e is =
    let r = burst-read len b h s at (burst_answer l v) is in
    let i = r.is in
    let q : r.syndromes.0 ≡ l = cc in
    record { number = n; at = at; end = r.syndromes.1; kind = e; read = r.read ∙ ap (λ (x : List ℕ). value (x, r.syndromes.1)) q }

pub burst-stands : (kind : Kind) (len b h : ℕ) (s l : List ℕ) (v : ℕ) → read_answer kind len b h s ≡ value (burst_answer l v) → BurstStands b s l
unfolding read_answer answer_fields
burst-stands kind len b h s l v is =
    let a = burst_answer l v in
    let (n, e, is₁) = then-passed (number_at s 0) _ a is in
    let (t, is₂) = unless-passed (eqb n.0 (kind_number kind)) BadKind _ a is₁ in
    let k = (fields-of kind len b h s n.1 a is₂).of-kind in
    burst-behind len b h s l v n.1 n.0 e (subst (λ (j : Kind). answer_fields j len b h s n.1 ≡ value a) (sym k) is₂)

pub burst-is : (kind : Kind) (len b h : ℕ) (s l : List ℕ) (v : ℕ) → read_answer kind len b h s ≡ value (burst_answer l v) → l ≡ burst_syndromes b s
unfolding burst_syndromes
burst-is kind len b h s l v is = let r = burst-stands kind len b h s l v is in rw (r.kind, r.read) refl

-- as the caller meets it
pub burst-answered : (kind : Kind) (len b h : ℕ) (s : List ℕ) (v : ℕ) {r : CodeResult Found Refusal} → said_answer s len b r ≡ read_answer kind len b h s → r ≡ Ok (IsBurst v) → BurstAnswered b s
burst-answered kind len b h s v e f = record { kind = kind; len = len; h = h; syndromes = burst_syndromes b s; hash = v; read = sym e ∙ ap (said_answer s len b) f }
