-- Laws of packed bits: a packed list is a string of its bits, and a string's bytes are determined by its bits.
use Rattle.std.specs.Prelude.{◌≡◌, refl, Bool, true, false, cond, List, [], ◌∷◌, ◌++◌, ℕ, suc, ◌+◌, ◌-◌, ◌*◌, ◌/◌, ◌%◌, ◌^◌, ◌≤◌, ◌<◌, length, get_or, set, take, drop, eqb}
use Rattle.std.proofs.Common.{sym, ap, ap₂, ◌∙◌, inr, append_assoc, zero-add, mod-eq_of_lt, arith, length-append, length-drop, length-set, ext_get_or, get_or-set_same, get_or-set_other, length-take-le}
use Rattle.std.proofs.Math.Nat.{zero-div}
use Rattle.std.proofs.Math.Decide.{dec_lt, ℕ_discrete}
use Rattle.std.proofs.lemmas.List.{length-replicate, get_or-replicate}
use Rattle.std.proofs.Math.ListN.{get_or-eq_default}
use Rattle.std.proofs.lemmas.List.Edits.{sets, sets-eq}
use Rattle.std.proofs.Math.Seq.{length-sets}
use Rattle.std.specs.Int.Bits.{bit_xor}
use Rattle.std.proofs.lemmas.Nat.{xor_lt}
use Rattle.std.proofs.Math.Pow.{pow-lt}
use Rattle.strings.specs.Bits.{max_bits, Bytes, bit_at, range, bytes_for, flipped, set_bit, differs, write_bits, zero_bytes, pack, cleared, at_front}
use Rattle.strings.specs.StringRule.{IsString}
use Rattle.strings.specs.laws.StoreLaws.{sets-front}
use Rattle.strings.proofs.laws.RangeLaws.{range_length, range_at}
use Rattle.strings.proofs.laws.WriteLaws.{length-write_bits, write-outside, write-inside, over, range-write, write-front, write-behind}
use Rattle.strings.proofs.laws.RuleLaws.{low-digits, digit-is}

-- ---- zeros
pub length-zeros : (n : ℕ) → length (zero_bytes n) ≡ n
length-zeros n = length-replicate {A = ℕ} n 0

zero-at : (n i : ℕ) → get_or (zero_bytes n) i 0 ≡ 0
zero-at n i = go (dec_lt i n)
  where
    go : Dec (i < n) → get_or (zero_bytes n) i 0 ≡ 0
    go (yes h) = get_or-replicate n i 0 0 h
    go (no h) = let e = length-zeros n in get_or-eq_default (zero_bytes n) 0 (omega arith)

pub zeros-bit : (n i : ℕ) → bit_at (zero_bytes n) i ≡ false
unfolding bit_at
zeros-bit n i = rw (zero-at n (i / 8), zero-div) refl

pub zeros-bytes : (n : ℕ) → Bytes (zero_bytes n)
zeros-bytes n i = let e = zero-at n i in omega arith

-- ---- a packed list
pub length-pack : (l : List Bool) → length (pack l) ≡ bytes_for (length l)
unfolding pack
length-pack l = length-write_bits (zero_bytes (bytes_for (length l))) 0 l ∙ length-zeros (bytes_for (length l))

pub pack-none : pack [] ≡ []
unfolding pack write_bits
pack-none = refl

pub pack-bits : (l : List Bool) → range (pack l) 0 (length l) ≡ l
unfolding pack
pack-bits l = let e = length-zeros (bytes_for (length l)) in write-inside (zero_bytes (bytes_for (length l))) 0 l (omega arith)

pub pack-spare : (l : List Bool) (i : ℕ) → length l ≤ i → bit_at (pack l) i ≡ false
unfolding pack
pack-spare l i h =
    let e = length-zeros (bytes_for (length l)) in
    write-outside (zero_bytes (bytes_for (length l))) 0 l i (omega arith) (inr (omega arith)) ∙ zeros-bit (bytes_for (length l)) i

pub pack-string : (l : List Bool) → length l ≤ max_bits → IsString (pack l) (length l)
pack-string l h = record { few = h; bytes = length-pack l; spare = pack-spare l }

-- ---- bytes stay bytes
pub set-bytes : (s : List ℕ) (j v : ℕ) → Bytes s → v < 256 → Bytes (set s j v)
set-bytes s j v h k i = go (ℕ_discrete i j) (dec_lt j (length s))
  where
    go : Dec (i ≡ j) → Dec (j < length s) → get_or (set s j v) i 0 < 256
    go (yes e) (yes l) = let q = get_or-set_same s j v 0 l in rw e (omega arith)
    go (yes e) (no l) = let q = get_or-eq_default (set s j v) 0 {n = i} (let z = length-set s j v in omega arith) in omega arith
    go (no e) l = let q = get_or-set_other s j i v 0 e in let b = h i in omega arith

pub set_bit-bytes : (s : List ℕ) (i : ℕ) (b : Bool) → Bytes s → Bytes (set_bit s i b)
unfolding set_bit flipped
set_bit-bytes s i b h = go (differs (bit_at s i) b)
  where
    go : (t : Bool) → Bytes (cond t (set s (i / 8) (bit_xor (get_or s (i / 8) 0) (2 ^ (7 - i % 8)))) s)
    go true = set-bytes s (i / 8) (bit_xor (get_or s (i / 8) 0) (2 ^ (7 - i % 8))) h (xor_lt 8 (get_or s (i / 8) 0) (2 ^ (7 - i % 8)) (h (i / 8)) (pow-lt {j = 8} (omega arith)))
    go false = h

pub write_bytes : (s : List ℕ) (a : ℕ) (l : List Bool) → Bytes s → Bytes (write_bits s a l)
unfolding write_bits
write_bytes s a [] h = h
write_bytes s a (b ∷ l) h = write_bytes (set_bit s a b) (suc a) l (set_bit-bytes s a b h)

pub pack-bytes : (l : List Bool) → Bytes (pack l)
unfolding pack
pack-bytes l = write_bytes (zero_bytes (bytes_for (length l))) 0 l (zeros-bytes (bytes_for (length l)))

-- ---- bytes are determined by their bits
byte-by-digits : (x y : ℕ) → x < 256 → y < 256 → ((m : ℕ) → m < 8 → eqb (x / 2 ^ m % 2) 1 ≡ eqb (y / 2 ^ m % 2) 1) → x ≡ y
byte-by-digits x y h k e =
    sym (mod-eq_of_lt h) ∙ low-digits x y 8 (λ m l. digit-is (x / 2 ^ m % 2) (y / 2 ^ m % 2) (omega arith) (omega arith) (e m l)) ∙ mod-eq_of_lt k

pub bytes-by-bits : (s t : List ℕ) → Bytes s → Bytes t → length s ≡ length t → ((i : ℕ) → i < 8 * length s → bit_at s i ≡ bit_at t i) → s ≡ t
unfolding bit_at
bytes-by-bits s t h k e f =
    ext_get_or 0 s t e (λ j l. byte-by-digits (get_or s j 0) (get_or t j 0) (h j) (k j) (λ m p.
    let q : (8 * j + (7 - m)) / 8 ≡ j = omega arith in
    let r : 7 - (8 * j + (7 - m)) % 8 ≡ m = omega arith in
    rw (q, r) at (f (8 * j + (7 - m)) (omega arith))))

-- bytes that have the bits l, as few as can be, and zeros behind them are l packed
pub packed-is : (s : List ℕ) (l : List Bool) → Bytes s → length s ≡ bytes_for (length l) → range s 0 (length l) ≡ l → ((i : ℕ) → length l ≤ i → bit_at s i ≡ false) → s ≡ pack l
packed-is s l h n e z = bytes-by-bits s (pack l) h (pack-bytes l) (n ∙ sym (length-pack l)) (λ i k. go i (dec_lt i (length l)))
  where
    at : (t : List ℕ) (i : ℕ) → i < length l → range t 0 (length l) ≡ l → bit_at t i ≡ get_or l i false
    at t i m f = sym (range_at t 0 (length l) i m ∙ ap (bit_at t) (zero-add i)) ∙ ap (λ (k : List Bool). get_or k i false) f

    go : (i : ℕ) → Dec (i < length l) → bit_at s i ≡ bit_at (pack l) i
    go i (yes m) = at s i m e ∙ sym (at (pack l) i m (pack-bits l))
    go i (no m) = z i (omega arith) ∙ sym (pack-spare l i (omega arith))

-- so a string is its own bits packed
pub string-packed : (s : List ℕ) (n : ℕ) → Bytes s → IsString s n → s ≡ pack (range s 0 n)
string-packed s n h g =
    let e = range_length s 0 n in
    packed-is s (range s 0 n) h (rw e g.bytes) (ap (range s 0) e) (λ i k. g.spare i (omega arith))

-- and two strings of the same bits are the same bytes
pub string-by-bits : (s t : List ℕ) (n : ℕ) → Bytes s → Bytes t → IsString s n → IsString t n → range s 0 n ≡ range t 0 n → s ≡ t
string-by-bits s t n h k g g' e = string-packed s n h g ∙ ap pack e ∙ sym (string-packed t n k g')

-- zeros are packed zeros
pub zeros-packed : (l : List Bool) → ((i : ℕ) → get_or l i false ≡ false) → zero_bytes (bytes_for (length l)) ≡ pack l
zeros-packed l z =
    let s = zero_bytes (bytes_for (length l)) in
    let r = range_length s 0 (length l) in
    packed-is s l (zeros-bytes (bytes_for (length l))) (length-zeros (bytes_for (length l)))
    (ext_get_or false (range s 0 (length l)) l r (λ i k. range_at s 0 (length l) i (omega arith) ∙ zeros-bit (bytes_for (length l)) (0 + i) ∙ sym (z i)))
    (λ i k. zeros-bit (bytes_for (length l)) i)

-- ---- bits written into packed bits, which stand at the front of a lent buffer
pub length_over : (l : List Bool) (x : ℕ) (b : List Bool) → x + length b ≤ length l → length (over l x b) ≡ length l
length_over l x b h =
    let a = length-append (take x l) (b ++ drop (x + length b) l) in
    let c = length-append b (drop (x + length b) l) in
    let t = length-take-le x l (omega arith) in
    let d = length-drop (x + length b) l in
    omega arith

pub pack-write : (l : List Bool) (x : ℕ) (b : List Bool) → x + length b ≤ length l → write_bits (pack l) x b ≡ pack (over l x b)
pack-write l x b h =
    let n = length_over l x b h in
    let p = length-pack l in
    packed-is (write_bits (pack l) x b) (over l x b) (write_bytes (pack l) x b (pack-bytes l)) (length-write_bits (pack l) x b ∙ p ∙ ap bytes_for (sym n))
    (ap (range (write_bits (pack l) x b) 0) n ∙ range-write (pack l) (length l) x b h (omega arith) ∙ ap (λ (k : List Bool). over k x b) (pack-bits l))
    (λ i k. write-outside (pack l) x b i (omega arith) (inr (omega arith)) ∙ pack-spare l i (omega arith))

pub front-write : (l : List Bool) (buf : List ℕ) (x : ℕ) (b : List Bool) → x + length b ≤ length l → write_bits (at_front (pack l) buf) x b ≡ at_front (pack (over l x b)) buf
front-write l buf x b h =
    let p = length-pack l in
    let n : length (pack (over l x b)) ≡ length (pack l) = length-pack (over l x b) ∙ ap bytes_for (length_over l x b h) ∙ sym p in
    write-front (pack l) (drop (length (pack l)) buf) x b (omega arith)
    ∙ ap₂ (λ (m : List ℕ) (k : ℕ). m ++ drop k buf) (pack-write l x b h) (sym n)

-- ---- bits written over cleared bytes are the packed bits, and the bytes around stay
sets-at : (vs buf : List ℕ) (at n : ℕ) → length vs ≡ n → at + n ≤ length buf → sets buf at vs ≡ take at buf ++ (vs ++ drop (at + n) buf)
sets-at vs buf at n e h =
    sets-eq vs buf at (omega arith) ∙ append_assoc (take at buf) vs (drop (at + length vs) buf) ∙ ap (λ (k : ℕ). take at buf ++ (vs ++ drop (at + k) buf)) e

pub write-cleared : (buf : List ℕ) (at : ℕ) (l : List Bool) → at + bytes_for (length l) ≤ length buf
    → write_bits (cleared buf at (bytes_for (length l))) (8 * at) l ≡ sets buf at (pack l)
unfolding cleared pack
write-cleared buf at l h =
    let n = bytes_for (length l) in
    let z = zero_bytes n in
    let tail = drop (at + n) buf in
    let lz = length-zeros (bytes_for (length l)) in
    let lt = length-take-le at buf (omega arith) in
    let a : 8 * at ≡ 8 * length (take at buf) + 0 = omega arith in
    ap₂ (λ (u : List ℕ) (k : ℕ). write_bits u k l) (sets-at z buf at n lz h) a
    ∙ write-behind (take at buf) (z ++ tail) 0 l
    ∙ ap (λ (u : List ℕ). take at buf ++ u) (write-front z tail 0 l (omega arith))
    ∙ sym (sets-at (write_bits z 0 l) buf at n (length-write_bits z 0 l ∙ lz) h)

-- bits written over cleared bytes are a packed string
pub packed-into : (s : List ℕ) (l : List Bool) (n : ℕ) → length l ≡ n → bytes_for n ≤ length s → write_bits (cleared s 0 (bytes_for n)) 0 l ≡ at_front (pack l) s
packed-into s l n e h =
    let k : 0 + bytes_for (length l) ≤ length s = rw e (omega arith) in
    let p = length-pack l in
    let c : write_bits (cleared s 0 (bytes_for (length l))) 0 l ≡ sets s 0 (pack l) = write-cleared s 0 l k in
    (rw e at c) ∙ sets-front s (pack l) (omega arith)

-- ---- cleared bytes
pub cleared-sets : (s : List ℕ) (at n : ℕ) → cleared s at n ≡ sets s at (zero_bytes n)
unfolding cleared
cleared-sets s at n = refl

pub cleared-first : (s : List ℕ) (k : ℕ) → k ≤ length s → cleared s 0 k ≡ zero_bytes k ++ drop k s
unfolding cleared
cleared-first s k h = sets-at (zero_bytes k) s 0 k (length-zeros k) (omega arith) ∙ ap (λ (n : ℕ). zero_bytes k ++ drop n s) (zero-add k)

pub length-cleared : (s : List ℕ) (at k : ℕ) → length (cleared s at k) ≡ length s
unfolding cleared
length-cleared s at k = length-sets s at (zero_bytes k)

-- a buffer's first bytes cleared are packed zeros at its front
pub front-cleared : (l : List Bool) (buf : List ℕ) → ((i : ℕ) → get_or l i false ≡ false) → bytes_for (length l) ≤ length buf → cleared buf 0 (bytes_for (length l)) ≡ at_front (pack l) buf
front-cleared l buf z h =
    cleared-first buf (bytes_for (length l)) h ∙ ap₂ (λ (m : List ℕ) (k : ℕ). m ++ drop k buf) (zeros-packed l z) (sym (length-pack l))
