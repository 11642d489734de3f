-- Laws of written bits.
use Rattle.std.specs.Prelude.{◌≡◌, refl, Bool, ◌⊎◌, List, [], ◌∷◌, ◌++◌, ℕ, suc, ◌+◌, ◌-◌, ◌*◌, ◌≤◌, ◌<◌, length, set, take, drop, replicate}
use Rattle.std.proofs.Common.{sym, ap, ap₂, ◌∙◌, inl, inr, add-zero, zero-add, add-one, arith, length-drop, length-take-le, drop-drop, append_assoc}
use Rattle.std.proofs.lemmas.List.Edits.{sets, sets-eq}
use Rattle.std.proofs.lemmas.List.{length-replicate}
use borrow.Rule.Slice.PartMut.{put_mid}
use Rattle.strings.specs.Bits.{bit_at, range, set_bit, write_bits, zero_bytes, cleared}
use Rattle.strings.proofs.laws.BitLaws.{set_bit-same, set_bit-other, length-set_bit, set_bit-front, set_bit-behind}
use Rattle.strings.proofs.laws.RangeLaws.{range_same, range-add, range-take, range-drop, rest, rest-is}

pub length-write_bits : (s : List ℕ) (a : ℕ) (l : List Bool) → length (write_bits s a l) ≡ length s
unfolding write_bits
length-write_bits s a [] = refl
length-write_bits s a (b ∷ l) = length-write_bits (set_bit s a b) (suc a) l ∙ length-set_bit s a b

pub write-none : (s : List ℕ) (a : ℕ) → write_bits s a [] ≡ s
unfolding write_bits
write-none s a = refl

pub write-next : (s : List ℕ) (a : ℕ) (b : Bool) (l : List Bool) → write_bits s a (b ∷ l) ≡ write_bits (set_bit s a b) (a + 1) l
unfolding write_bits
write-next s a b l = rw (add-one)

-- the bits outside stay
pub write-outside : (s : List ℕ) (a : ℕ) (l : List Bool) (j : ℕ) → a + length l ≤ 8 * length s → (j < a) ⊎ (a + length l ≤ j) → bit_at (write_bits s a l) j ≡ bit_at s j
unfolding write_bits
write-outside s a [] j h o = refl
write-outside s a (b ∷ l) j h (inl o) =
    let e = length-set_bit s a b in
    write-outside (set_bit s a b) (suc a) l j (omega arith) (inl (omega arith)) ∙ set_bit-other s a j b (omega arith) (omega arith)
write-outside s a (b ∷ l) j h (inr o) =
    let e = length-set_bit s a b in
    write-outside (set_bit s a b) (suc a) l j (omega arith) (inr (omega arith)) ∙ set_bit-other s a j b (omega arith) (omega arith)

-- the bits inside are those written
pub write-inside : (s : List ℕ) (a : ℕ) (l : List Bool) → a + length l ≤ 8 * length s → range (write_bits s a l) a (length l) ≡ l
unfolding write_bits range
write-inside s a [] h = refl
write-inside s a (b ∷ l) h =
    let e = length-set_bit s a b in
    ap₂ (λ (x : Bool) (m : List Bool). x ∷ m)
    (write-outside (set_bit s a b) (suc a) l a (omega arith) (inl (omega arith)) ∙ set_bit-same s a b (omega arith))
    (write-inside (set_bit s a b) (suc a) l (omega arith))

pub range-before : (s : List ℕ) (a : ℕ) (l : List Bool) (x n : ℕ) → a + length l ≤ 8 * length s → x + n ≤ a → range (write_bits s a l) x n ≡ range s x n
range-before s a l x n h o = range_same (write_bits s a l) s x n (λ j p q. write-outside s a l j h (inl (omega arith)))

pub range-after : (s : List ℕ) (a : ℕ) (l : List Bool) (x n : ℕ) → a + length l ≤ 8 * length s → a + length l ≤ x → range (write_bits s a l) x n ≡ range s x n
range-after s a l x n h o = range_same (write_bits s a l) s x n (λ j p q. write-outside s a l j h (inr (omega arith)))

-- bits l with the bits b written over them from place x on
abbrev pub over : List Bool → ℕ → List Bool → List Bool
over l x b = take x l ++ (b ++ drop (x + length b) l)

-- a range that a write falls into
pub range-write : (s : List ℕ) (n x : ℕ) (b : List Bool) → x + length b ≤ n → n ≤ 8 * length s → range (write_bits s x b) 0 n ≡ over (range s 0 n) x b
range-write s n x b h k =
    let t = write_bits s x b in
    let m = n - (x + length b) in
    let e : n ≡ x + (length b + (n - (x + length b))) = omega arith in
    ap (range t 0) e
    ∙ range-add t 0 x (length b + m)
    ∙ ap (λ (l : List Bool). range t 0 x ++ l) (range-add t (0 + x) (length b) m)
    ∙ ap₂ (λ (u v : List Bool). u ++ v)
    (range-before s x b 0 x (omega arith) (omega arith) ∙ sym (range-take s 0 n x (omega arith)))
    (ap₂ (λ (u v : List Bool). u ++ v)
    (ap (λ (a : ℕ). range t a (length b)) (zero-add x) ∙ write-inside s x b (omega arith))
    (range-after s x b (0 + x + length b) m (omega arith) (omega arith)
    ∙ ap (λ (a : ℕ). range s a m) (let z : 0 + x + length b ≡ 0 + (x + length b) = omega arith in z)
    ∙ sym (range-drop s 0 n (x + length b) h)))

-- two lists written one behind the other
pub write-append : (s : List ℕ) (a : ℕ) (l m : List Bool) → write_bits s a (l ++ m) ≡ write_bits (write_bits s a l) (a + length l) m
unfolding write_bits
write-append s a [] m = ap (λ (n : ℕ). write_bits s n m) (sym (add-zero a))
write-append s a (b ∷ l) m =
    write-append (set_bit s a b) (suc a) l m ∙ ap (λ (n : ℕ). write_bits (write_bits (set_bit s a b) (suc a) l) n m) (omega arith)

-- bytes in front and behind stay
pub write-front : (s t : List ℕ) (a : ℕ) (l : List Bool) → a + length l ≤ 8 * length s → write_bits (s ++ t) a l ≡ write_bits s a l ++ t
unfolding write_bits
write-front s t a [] h = refl
write-front s t a (b ∷ l) h =
    let e = length-set_bit s a b in
    ap (λ (u : List ℕ). write_bits u (suc a) l) (set_bit-front s t a b (omega arith)) ∙ write-front (set_bit s a b) t (suc a) l (omega arith)

pub write-behind : (s t : List ℕ) (a : ℕ) (l : List Bool) → write_bits (s ++ t) (8 * length s + a) l ≡ s ++ write_bits t a l
unfolding write_bits
write-behind s t a [] = refl
write-behind s t a (b ∷ l) =
    ap₂ (λ (u : List ℕ) (n : ℕ). write_bits u n l) (set_bit-behind s t a b) (let e : suc (8 * length s + a) ≡ 8 * length s + suc a = omega arith in e)
    ∙ write-behind s (set_bit t a b) (suc a) l

-- ---- a turn of a loop that copies, or clears
pub copy-next : (s t t' u : List ℕ) (a n at i : ℕ) (b : Bool) → i < n → b ≡ bit_at s (a + i) → t' ≡ set_bit t (at + i) b
    → write_bits t (at + i) (rest s a n i) ≡ u → write_bits t' (at + (i + 1)) (rest s a n (i + 1)) ≡ u
copy-next s t t' u a n at i b h e f g =
    let k : at + i + 1 ≡ at + (i + 1) = omega arith in
    ap₂ (λ (x : List ℕ) (j : ℕ). write_bits x j (rest s a n (i + 1))) f (sym k)
    ∙ sym (write-next t (at + i) b (rest s a n (i + 1)))
    ∙ ap (write_bits t (at + i)) (sym (rest-is s a n i b b h e refl))
    ∙ g

pub clear_next : (s u : List ℕ) (at n i : ℕ) → i < n → sets s (at + i) (zero_bytes (n - i)) ≡ u → sets (set s (at + i) 0) (at + (i + 1)) (zero_bytes (n - (i + 1))) ≡ u
clear_next s u at n i h e =
    let k : n - i ≡ suc (n - (i + 1)) = omega arith in
    let j : at + (i + 1) ≡ suc (at + i) = omega arith in
    rw j (rw k at e)

-- the bytes of a part filled with 0
pub cleared-filled : (s u : List ℕ) (at n : ℕ) → at + n ≤ length s → u ≡ replicate (length (take (at + n - at) (drop at s))) 0 → put_mid at (at + n - at) s u ≡ cleared s at n
unfolding cleared
cleared-filled s u at n h e =
    let k : at + n - at ≡ n = omega arith in
    let z = zero_bytes n in
    let m : length z ≡ n = length-replicate n 0 in
    let r : at + length z ≤ length s = omega arith in
    let d = length-drop at s in
    let t : length (take n (drop at s)) ≡ n = length-take-le n (drop at s) (omega arith) in
    rw (e, sets-eq z s at r, k, t, m) (ap (λ x. take at s ++ (z ++ x)) (drop-drop n at s) ∙ sym (append_assoc (take at s) z _))

pub clear-last : (s u : List ℕ) (at n i : ℕ) → n ≤ i → sets s (at + i) (zero_bytes (n - i)) ≡ u → s ≡ u
clear-last s u at n i h e =
    let k : n - i ≡ 0 = omega arith in
    rw k at e
