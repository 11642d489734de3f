-- Laws of marker words by blocks, for the loops that pass from power to power.
use Rattle.std.specs.Prelude.{◌≡◌, refl, Bool, true, false, List, [], ◌∷◌, ◌++◌, ◌⊎◌, ℕ, zero, suc, ◌+◌, ◌-◌, ◌*◌, ◌/◌, ◌%◌, ◌≤◌, ◌^◌, ◌<◌, length, get_or, take, drop, eqb}
use Rattle.std.proofs.Common.{sym, ap, ap₂, ◌∙◌, subst, inl, inr, add-zero, zero-add, suc-add, mul-add, mul-zero, mul-one, mul_assoc, mul_comm, one-mul, arith, length-append, take_at, drop_at}
use Rattle.std.proofs.Math.Decide.{dec_lt}
use mir.Val.{bool_byte}
use Rattle.strings.specs.Bits.{bit_at, range, set_bit, write_bits, pack}
use Rattle.strings.proofs.laws.BitLaws.{set_bit-other}
use Rattle.strings.proofs.laws.RangeLaws.{range_length, range-step, range-add, range-take, range-drop, range_none, range_same, range_at, range-equal}
use Rattle.strings.proofs.laws.PackLaws.{pack-bits}
use Rattle.strings.proofs.laws.WriteLaws.{write-next, write-append, write-none}
use Rattle.codes.specs.Markers.{is_power, message_bits, merged, check_number, message}
use Rattle.codes.specs.code.MarkerBlocks.{powers_in, others_in, Block, powers_from, others_from, merged_from, number_from, message_from}
use Rattle.codes.specs.laws.PowerLaws.{power_pos, power-between}
use Rattle.codes.specs.laws.MarkerLaws.{others-powers, check-bits-powers, check-bits-log, message-bits}

-- no power of two among the len places from k on
abbrev Free : ℕ → ℕ → Type 0
Free k len = (i : ℕ) → k ≤ i → i < k + len → is_power i ≡ false

free-first : (k len : ℕ) → Free k (suc len) → is_power k ≡ false
free-first k len f = f k (omega arith) (omega arith)

free-rest : (k len : ℕ) → Free k (suc len) → Free (suc k) len
free-rest k len f = λ i h g. f i (omega arith) (omega arith)

-- ---- over places that are no powers
pass-powers : (len n k : ℕ) → Free k len → powers_in (len + n) k ≡ powers_in n (k + len)
unfolding powers_in
pass-powers zero n k f = rw (zero-add, add-zero)
pass-powers (suc len) n k f =
    rw (suc-add, free-first k len f) (pass-powers len n (suc k) (free-rest k len f) ∙ ap (powers_in n) (omega arith))

pass-others : (len n k : ℕ) → Free k len → others_in (len + n) k ≡ len + others_in n (k + len)
unfolding others_in
pass-others zero n k f = rw (zero-add, add-zero) (omega arith)
pass-others (suc len) n k f =
    rw (suc-add len n, free-first k len f)
    (ap suc (pass-others len n (suc k) (free-rest k len f)) ∙ ap (λ (x : ℕ). suc (len + others_in n x)) (let e : suc k + len ≡ k + suc len = omega arith in e) ∙ omega arith)

pass-merged : (len n k v : ℕ) (m : List Bool) → Free k len → len ≤ length m → merged (len + n) k v m ≡ take len m ++ merged n (k + len) v (drop len m)
unfolding merged
pass-merged zero n k v m f h = rw (zero-add, add-zero)
pass-merged (suc len) n k v [] f h = absurd (omega arith)
pass-merged (suc len) n k v (b ∷ m) f h =
    rw (suc-add len n, free-first k len f)
    (ap (λ (x : List Bool). b ∷ x) (pass-merged len n (suc k) v m (free-rest k len f) (omega arith) ∙ ap (λ (x : ℕ). take len m ++ merged n x v (drop len m)) (omega arith)))

pass-number : (l m : List Bool) (k : ℕ) → Free k (length l) → check_number k (l ++ m) ≡ check_number (k + length l) m
unfolding check_number
pass-number [] m k f = rw add-zero
pass-number (b ∷ l) m k f = rw (free-first k (length l) f) (pass-number l m (suc k) (free-rest k (length l) f) ∙ ap (λ (x : ℕ). check_number x m) (omega arith))

pass-message : (l m : List Bool) (k : ℕ) → Free k (length l) → message k (l ++ m) ≡ l ++ message (k + length l) m
unfolding message
pass-message [] m k f = rw add-zero
pass-message (b ∷ l) m k f =
    rw (free-first k (length l) f)
    (ap (λ (x : List Bool). b ∷ x) (pass-message l m (suc k) (free-rest k (length l) f) ∙ ap (λ (x : ℕ). l ++ message x m) (omega arith)))

-- ---- over the power itself
at-powers : (n k : ℕ) → is_power k ≡ true → powers_in (suc n) k ≡ suc (powers_in n (suc k))
unfolding powers_in
at-powers n k e = rw e refl

at_others : (n k : ℕ) → is_power k ≡ true → others_in (suc n) k ≡ others_in n (suc k)
unfolding others_in
at_others n k e = rw e refl

at-merged : (n k v : ℕ) (m : List Bool) → is_power k ≡ true → merged (suc n) k v m ≡ eqb (v % 2) 1 ∷ merged n (suc k) (v / 2) m
unfolding merged
at-merged n k v m e = rw e refl

at-number : (k : ℕ) (b : Bool) (l : List Bool) → is_power k ≡ true → check_number k (b ∷ l) ≡ bool_byte b + 2 * check_number (suc k) l
unfolding check_number
at-number k b l e = rw e refl

at-message : (k : ℕ) (b : Bool) (l : List Bool) → is_power k ≡ true → message k (b ∷ l) ≡ message (suc k) l
unfolding message
at-message k b l e = rw e refl

-- ---- nothing from a place behind the word's end
powers-zero : (p : ℕ) → powers_in 0 p ≡ 0
unfolding powers_in
powers-zero p = refl

others-zero : (p : ℕ) → others_in 0 p ≡ 0
unfolding others_in
others-zero p = refl

merged-zero : (p v : ℕ) (m : List Bool) → merged 0 p v m ≡ []
unfolding merged
merged-zero p v m = refl

number-zero : (p : ℕ) → check_number p [] ≡ 0
unfolding check_number
number-zero p = refl

message-zero : (p : ℕ) → message p [] ≡ []
unfolding message
message-zero p = refl

gone : (n p : ℕ) → n < p → n - (p - 1) ≡ 0
gone n p h = omega arith

pub powers-none : (n p : ℕ) → n < p → powers_from n p ≡ 0
powers-none n p h = ap (λ (x : ℕ). powers_in x p) (gone n p h) ∙ powers-zero p

pub merged-none : (n p v : ℕ) (m : List Bool) → n < p → merged_from n p v m ≡ []
merged-none n p v m h = ap (λ (x : ℕ). merged x p v m) (gone n p h) ∙ merged-zero p v m

pub number-none : (s : List ℕ) (n p : ℕ) → n < p → number_from s n p ≡ 0
number-none s n p h = ap (λ (x : ℕ). check_number p (range s (p - 1) x)) (gone n p h) ∙ ap (check_number p) (range_none s (p - 1)) ∙ number-zero p

pub message-none : (s : List ℕ) (n p : ℕ) → n < p → message_from s n p ≡ []
message-none s n p h = ap (λ (x : ℕ). message p (range s (p - 1) x)) (gone n p h) ∙ ap (message p) (range_none s (p - 1)) ∙ message-zero p

-- a string's own bits written again
write-own : (s : List ℕ) (a n : ℕ) → write_bits s a (range s a n) ≡ s
unfolding write_bits range set_bit
write-own s a zero = refl
write-own s a (suc n) = go (bit_at s a) refl (write-own s (suc a) n)
  where
    go : (b : Bool) → bit_at s a ≡ b → write_bits s (suc a) (range s (suc a) n) ≡ s → write_bits (set_bit s a (bit_at s a)) (suc a) (range s (suc a) n) ≡ s
    go true e h = rw e h
    go false e h = rw e h

pub bit-times-most : (p : ℕ) (b : Bool) → p * bool_byte b ≤ p
bit-times-most p true = let o = mul-one p in omega arith
bit-times-most p false = let z = mul-zero p in omega arith

weigh : (p d x : ℕ) → p * (d + 2 * x) ≡ p * d + 2 * p * x
weigh p d x = mul-add p d (2 * x) ∙ ap (λ (u : ℕ). p * d + u) (sym (mul_assoc p 2 x) ∙ ap (λ (u : ℕ). u * x) (mul_comm p 2))

-- ---- over a block
module _ (n p len : ℕ) (e : is_power p ≡ true) (x : Block n p len) where
  pub block-pos : 0 < p
  block-pos = power_pos p e

  free : Free (suc p) len
  free = λ i h g. let s = x.short in power-between p i e (omega arith) (omega arith)

  count : n - (p - 1) ≡ suc (len + (n - (p + len)))
  count = let h = block-pos in let f = x.fits in omega arith

  -- what stands behind the block, from the next power on
  behind : {A : Type 0} (f : ℕ → ℕ → A) → ((j k : ℕ) → f 0 j ≡ f 0 k) → f (n - (p + len)) (suc p + len) ≡ f (n - (2 * p - 1)) (2 * p)
  behind {A} f z = go x.full
    where
      go : (len + 1 ≡ p) ⊎ (p + len ≡ n) → f (n - (p + len)) (suc p + len) ≡ f (n - (2 * p - 1)) (2 * p)
      go (inl q) = ap₂ f (omega arith) (omega arith)
      go (inr q) =
          let s = x.short in
          ap (λ (u : ℕ). f u (suc p + len)) (let w : n - (p + len) ≡ 0 = omega arith in w)
          ∙ z (suc p + len) (2 * p)
          ∙ ap (λ (u : ℕ). f u (2 * p)) (let w : 0 ≡ n - (2 * p - 1) = omega arith in w)

  pub powers-block : powers_from n p ≡ suc (powers_from n (2 * p))
  powers-block =
      ap (λ (u : ℕ). powers_in u p) count ∙ at-powers (len + (n - (p + len))) p e
      ∙ ap suc (pass-powers len (n - (p + len)) (suc p) free ∙ behind (λ (u k : ℕ). powers_in u k) (λ j k. powers-zero j ∙ sym (powers-zero k)))

  pub others-block : others_from n p ≡ len + others_from n (2 * p)
  others-block =
      ap (λ (u : ℕ). others_in u p) count ∙ at_others (len + (n - (p + len))) p e
      ∙ pass-others len (n - (p + len)) (suc p) free
      ∙ ap (λ (u : ℕ). len + u) (behind (λ (u k : ℕ). others_in u k) (λ j k. others-zero j ∙ sym (others-zero k)))

  pub merged-block : (v : ℕ) (m : List Bool) → len ≤ length m → merged_from n p v m ≡ eqb (v % 2) 1 ∷ (take len m ++ merged_from n (2 * p) (v / 2) (drop len m))
  merged-block v m h =
      ap (λ (u : ℕ). merged u p v m) count ∙ at-merged (len + (n - (p + len))) p v m e
      ∙ ap (λ (u : List Bool). eqb (v % 2) 1 ∷ u) (
      pass-merged len (n - (p + len)) (suc p) (v / 2) m free h
      ∙ ap (λ (u : List Bool). take len m ++ u) (behind (λ (u k : ℕ). merged u k (v / 2) (drop len m)) (λ j k. merged-zero j (v / 2) (drop len m) ∙ sym (merged-zero k (v / 2) (drop len m)))))

  range-block : (s : List ℕ) → range s (p - 1) (n - (p - 1)) ≡ bit_at s (p - 1) ∷ (range s p len ++ range s (p + len) (n - (p + len)))
  range-block s =
      let h = block-pos in
      let f = x.fits in
      let q : p - 1 + 1 ≡ p = omega arith in
      let r : n - (p - 1) - 1 ≡ len + (n - (p + len)) = omega arith in
      range-step s (p - 1) (n - (p - 1)) (omega arith) ∙ ap (λ (u : List Bool). bit_at s (p - 1) ∷ u) (ap₂ (range s) q r ∙ range-add s p len (n - (p + len)))

  free-range : (s : List ℕ) → Free (suc p) (length (range s p len))
  free-range s = subst (λ (u : ℕ). Free (suc p) u) (sym (range_length s p len)) free

  pub number-block : (s : List ℕ) → number_from s n p ≡ bool_byte (bit_at s (p - 1)) + 2 * number_from s n (2 * p)
  number-block s =
      let rest = range s (p + len) (n - (p + len)) in
      ap (check_number p) (range-block s) ∙ at-number p (bit_at s (p - 1)) (range s p len ++ rest) e
      ∙ ap (λ (u : ℕ). bool_byte (bit_at s (p - 1)) + 2 * u) (
      pass-number (range s p len) rest (suc p) (free-range s)
      ∙ ap (λ (u : ℕ). check_number (suc p + u) rest) (range_length s p len)
      ∙ ap (λ (u : ℕ). check_number (suc p + len) (range s u (n - (p + len)))) (let z : p + len ≡ suc p + len - 1 = omega arith in z)
      ∙ behind (λ (u k : ℕ). check_number k (range s (k - 1) u)) (λ j k. ap (check_number j) (range_none s (j - 1)) ∙ number-zero j ∙ sym (ap (check_number k) (range_none s (k - 1)) ∙ number-zero k)))

  pub message-block : (s : List ℕ) → message_from s n p ≡ range s p len ++ message_from s n (2 * p)
  message-block s =
      let rest = range s (p + len) (n - (p + len)) in
      ap (message p) (range-block s) ∙ at-message p (bit_at s (p - 1)) (range s p len ++ rest) e
      ∙ pass-message (range s p len) rest (suc p) (free-range s)
      ∙ ap (λ (u : List Bool). range s p len ++ u) (
      ap (λ (u : ℕ). message (suc p + u) rest) (range_length s p len)
      ∙ ap (λ (u : ℕ). message (suc p + len) (range s u (n - (p + len)))) (let z : p + len ≡ suc p + len - 1 = omega arith in z)
      ∙ behind (λ (u k : ℕ). message k (range s (k - 1) u)) (λ j k. ap (message j) (range_none s (j - 1)) ∙ message-zero j ∙ sym (ap (message k) (range_none s (k - 1)) ∙ message-zero k)))

  -- ---- a turn of the loops
  -- the bit at the power and the block's bits, and what is left
  write-block : (t t₁ : List ℕ) (b : Bool) (l w : List Bool) → t₁ ≡ set_bit t (p - 1) b → write_bits t (p - 1) (b ∷ (l ++ w)) ≡ write_bits (write_bits t₁ p l) (p + length l) w
  write-block t t₁ b l w f =
      let pos = block-pos in
      let q : p - 1 + 1 ≡ p = omega arith in
      write-next t (p - 1) b (l ++ w) ∙ ap₂ (λ (u : List ℕ) (y : ℕ). write_bits u y (l ++ w)) (sym f) q ∙ write-append t₁ p l w

  -- what is left is written from the next power on
  write-behind-block : (t : List ℕ) (v : ℕ) (m : List Bool) → write_bits t (p + len) (merged_from n (2 * p) v m) ≡ write_bits t (2 * p - 1) (merged_from n (2 * p) v m)
  write-behind-block t v m = go x.full
    where
      go : (len + 1 ≡ p) ⊎ (p + len ≡ n) → write_bits t (p + len) (merged_from n (2 * p) v m) ≡ write_bits t (2 * p - 1) (merged_from n (2 * p) v m)
      go (inl q) = ap (λ (u : ℕ). write_bits t u (merged_from n (2 * p) v m)) (omega arith)
      go (inr q) =
          let s = x.short in
          let w = merged-none n (2 * p) v m (omega arith) in
          ap (write_bits t (p + len)) w ∙ write-none t (p + len) ∙ sym (ap (write_bits t (2 * p - 1)) w ∙ write-none t (2 * p - 1))

  pub spread-turn : (s t t₁ t₂ : List ℕ) (at : ℕ) → t₁ ≡ set_bit t (p - 1) false → t₂ ≡ write_bits t₁ p (range s at len)
      → write_bits t₂ (2 * p - 1) (merged_from n (2 * p) 0 (range s (at + len) (others_from n (2 * p)))) ≡ write_bits t (p - 1) (merged_from n p 0 (range s at (others_from n p)))
  spread-turn s t t₁ t₂ at f g =
      let o = others-block in
      let m = range s at (others_from n p) in
      let w = merged_from n (2 * p) 0 (range s (at + len) (others_from n (2 * p))) in
      let r : others_from n p - len ≡ others_from n (2 * p) = omega arith in
      sym (
      ap (write_bits t (p - 1)) (
      merged-block 0 m (let k = range_length s at (others_from n p) in omega arith)
      ∙ ap₂ (λ (u y : List Bool). false ∷ (u ++ merged_from n (2 * p) 0 y)) (range-take s at (others_from n p) len (omega arith))
      (range-drop s at (others_from n p) len (omega arith) ∙ ap (range s (at + len)) r))
      ∙ write-block t t₁ false (range s at len) w f
      ∙ ap₂ (λ (u : List ℕ) (y : ℕ). write_bits u (p + y) w) (sym g) (range_length s at len)
      ∙ write-behind-block t₂ 0 (range s (at + len) (others_from n (2 * p))))

  -- the message stays where it is
  same-behind : (t t₁ : List ℕ) (b : Bool) → n ≤ 8 * length t → t₁ ≡ set_bit t (p - 1) b → (a c : ℕ) → p ≤ a → range t₁ a c ≡ range t a c
  same-behind t t₁ b h f a c l =
      let pos = block-pos in
      let q = x.fits in
      range_same t₁ t a c (λ j k z. ap (λ (u : List ℕ). bit_at u j) f ∙ set_bit-other t (p - 1) j b (omega arith) (λ y. omega arith))

  pub digit-turn : (t t₁ : List ℕ) (v : ℕ) (b : Bool) → n ≤ 8 * length t → b ≡ eqb (v % 2) 1 → t₁ ≡ set_bit t (p - 1) b
      → write_bits t₁ (2 * p - 1) (merged_from n (2 * p) (v / 2) (message_from t₁ n (2 * p))) ≡ write_bits t (p - 1) (merged_from n p v (message_from t n p))
  digit-turn t t₁ v b h d f =
      let pos = block-pos in
      let here = range t p len in
      let m = message_from t n (2 * p) in
      let w = merged_from n (2 * p) (v / 2) m in
      let l = range_length t p len in
      sym (
      ap (λ (u : List Bool). write_bits t (p - 1) (merged_from n p v u)) (message-block t)
      ∙ ap (write_bits t (p - 1)) (
      merged-block v (here ++ m) (let z = length-append here m in omega arith)
      ∙ ap₂ (λ (u y : List Bool). eqb (v % 2) 1 ∷ (u ++ merged_from n (2 * p) (v / 2) y)) (take_at here m len l) (drop_at here m len l)
      ∙ ap (λ (u : Bool). u ∷ (here ++ w)) (sym d))
      ∙ write-block t t₁ b here w f
      ∙ ap₂ (λ (u : List Bool) (y : ℕ). write_bits (write_bits t₁ p u) (p + y) w) (sym (same-behind t t₁ b h f p len (omega arith))) l
      ∙ ap (λ (u : List ℕ). write_bits u (p + len) w) (write-own t₁ p len)
      ∙ write-behind-block t₁ (v / 2) m
      ∙ ap (λ (u : List Bool). write_bits t₁ (2 * p - 1) (merged_from n (2 * p) (v / 2) (message (2 * p) u))) (sym (same-behind t t₁ b h f (2 * p - 1) (n - (2 * p - 1)) (omega arith))))

  pub gather-turn : (s t t₁ : List ℕ) (at : ℕ) → t₁ ≡ write_bits t at (range s p len) → write_bits t₁ (at + len) (message_from s n (2 * p)) ≡ write_bits t at (message_from s n p)
  gather-turn s t t₁ at f =
      sym (
      ap (write_bits t at) (message-block s) ∙ write-append t at (range s p len) (message_from s n (2 * p))
      ∙ ap₂ (λ (u : List ℕ) (y : ℕ). write_bits u (at + y) (message_from s n (2 * p))) (sym f) (range_length s p len))

  pub number-turn : (s : List ℕ) (v : ℕ) (b : Bool) → b ≡ bit_at s (p - 1) → v + p * bool_byte b + 2 * p * number_from s n (2 * p) ≡ v + p * number_from s n p
  number-turn s v b f =
      let y = number_from s n (2 * p) in
      let h = number-block s ∙ ap (λ (u : Bool). bool_byte u + 2 * y) (sym f) in
      let q = ap (λ (u : ℕ). p * u) h ∙ weigh p (bool_byte b) y in
      omega arith

-- ---- blocks there are
pub block-below : (n p : ℕ) → 1 ≤ p → p ≤ n → n - p < p - 1 → Block n p (n - p)
block-below n p h g k = record { short = omega arith; fits = omega arith; full = inr (omega arith) }

pub block-whole : (n p : ℕ) → 1 ≤ p → p ≤ n → p - 1 ≤ n - p → Block n p (p - 1)
block-whole n p h g k = record { short = omega arith; fits = omega arith; full = inl (omega arith) }

block_of : (n p : ℕ) → 1 ≤ p → p ≤ n → (len : ℕ) × Block n p len
block_of n p h g = go (dec_lt (n - p) (p - 1))
  where
    go : Dec (n - p < p - 1) → (len : ℕ) × Block n p len
    go (yes k) = (n - p, block-below n p h g k)
    go (no k) = (p - 1, block-whole n p h g (omega arith))

pub powers-turn : (n p : ℕ) → is_power p ≡ true → p ≤ n → powers_from n p ≡ suc (powers_from n (2 * p))
powers-turn n p e g = let b = block_of n p (power_pos p e) g in powers-block n p b.0 e b.1

pub number-next : (s : List ℕ) (n p v : ℕ) (b : Bool) → is_power p ≡ true → p ≤ n → b ≡ bit_at s (p - 1) → v + p * bool_byte b + 2 * p * number_from s n (2 * p) ≡ v + p * number_from s n p
number-next s n p v b e g f = let k = block_of n p (power_pos p e) g in number-turn n p k.0 e k.1 s v b f

pub digit-next : (n p v : ℕ) (t t₁ : List ℕ) (b : Bool) → is_power p ≡ true → p ≤ n → n ≤ 8 * length t → b ≡ eqb (v % 2) 1 → t₁ ≡ set_bit t (p - 1) b
    → write_bits t₁ (2 * p - 1) (merged_from n (2 * p) (v / 2) (message_from t₁ n (2 * p))) ≡ write_bits t (p - 1) (merged_from n p v (message_from t n p))
digit-next n p v t t₁ b e g h d f = let k = block_of n p (power_pos p e) g in digit-turn n p k.0 e k.1 t t₁ v b h d f

-- ---- a word that lies anywhere in its bytes is read as one that is packed
pub packed-bit : (s : List ℕ) (a n i : ℕ) → i < n → bit_at (pack (range s a n)) i ≡ bit_at s (a + i)
packed-bit s a n i h =
    let l = range s a n in
    let k = range_length s a n in
    ap (bit_at (pack l)) (let z : i ≡ 0 + i = omega arith in z) ∙ sym (range_at (pack l) 0 (length l) i (omega arith))
    ∙ ap (λ (x : List Bool). get_or x i false) (pack-bits l) ∙ range_at s a n i h

pub packed-part : (s : List ℕ) (a n p len : ℕ) → p + len ≤ n → range (pack (range s a n)) p len ≡ range s (a + p) len
packed-part s a n p len h = range-equal (pack (range s a n)) s p (a + p) len (λ j k. packed-bit s a n (p + j) (omega arith) ∙ ap (bit_at s) (let z : a + (p + j) ≡ a + p + j = omega arith in z))

pub packed-whole : (s : List ℕ) (a n : ℕ) → range (pack (range s a n)) 0 n ≡ range s a n
packed-whole s a n = packed-part s a n 0 n (omega arith) ∙ ap (λ (x : ℕ). range s x n) (let z : a + 0 ≡ a = omega arith in z)

-- ---- from the first place
all_of : (n : ℕ) → n - (1 - 1) ≡ n
all_of n = omega arith

pub powers-first : (n : ℕ) → powers_from n 1 ≡ powers_in n 1
powers-first n = ap (λ (x : ℕ). powers_in x 1) (all_of n)

pub others-first : (n : ℕ) → others_from n 1 ≡ message_bits n
others-first n = ap (λ (x : ℕ). others_in x 1) (all_of n) ∙ sym (message-bits n)

pub spread-first : (n : ℕ) (s : List ℕ) → merged_from n 1 0 (range s 0 (others_from n 1)) ≡ merged n 1 0 (range s 0 (message_bits n))
spread-first n s = ap₂ (λ (x y : ℕ). merged x 1 0 (range s 0 y)) (all_of n) (others-first n)

pub digits-first : (n v : ℕ) (s : List ℕ) → merged_from n 1 v (message_from s n 1) ≡ merged n 1 v (message 1 (range s 0 n))
digits-first n v s = ap (λ (x : ℕ). merged x 1 v (message 1 (range s 0 x))) (all_of n)

pub number-first : (s : List ℕ) (n : ℕ) → 0 + 1 * number_from s n 1 ≡ check_number 1 (range s 0 n)
number-first s n = let e = one-mul (number_from s n 1) in let f = ap (λ (x : ℕ). check_number 1 (range s 0 x)) (all_of n) in omega arith

pub message-first : (s : List ℕ) (n : ℕ) → message_from s n 1 ≡ message 1 (range s 0 n)
message-first s n = ap (λ (x : ℕ). message 1 (range s 0 x)) (all_of n)

-- ---- to the last
pub powers-last : (n p t : ℕ) → n < p → t + powers_from n p ≡ powers_in n 1 → n - t ≡ message_bits n
unfolding message_bits
powers-last n p t h e = let z = powers-none n p h in let c = check-bits-powers n in omega arith

pub message-bits-log : (n t : ℕ) → 2 ^ t ≤ n → n < 2 * 2 ^ t → (t + 1 ≤ n) × (n - (t + 1) ≡ message_bits n)
unfolding message_bits
message-bits-log n t h g = let c = check-bits-log n t h g in let d = check-bits-powers n in let k = others-powers n 1 in (omega arith, omega arith)

pub powers-most : (n : ℕ) → powers_in n 1 ≤ n
powers-most n = let h = others-powers n 1 in omega arith

pub merged-last : (n p v : ℕ) (m : List Bool) (t u : List ℕ) → n < p → write_bits t (p - 1) (merged_from n p v m) ≡ u → t ≡ u
merged-last n p v m t u h e = sym (ap (write_bits t (p - 1)) (merged-none n p v m h) ∙ write-none t (p - 1)) ∙ e

pub message-last : (n p at : ℕ) (s t u : List ℕ) → n < p → write_bits t at (message_from s n p) ≡ u → t ≡ u
message-last n p at s t u h e = sym (ap (write_bits t at) (message-none s n p h) ∙ write-none t at) ∙ e

pub number-last : (s : List ℕ) (n p v u : ℕ) → n < p → v + p * number_from s n p ≡ u → v ≡ u
number-last s n p v u h e = let z = ap (λ (x : ℕ). p * x) (number-none s n p h) in let y = mul-zero p in omega arith
