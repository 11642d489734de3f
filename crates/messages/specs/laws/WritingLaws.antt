-- Laws of writing messages: parts written one behind the other are the whole, and the two cases of a lent buffer.
use Rattle.std.specs.Prelude.{◌≡◌, Result as CodeResult, Ok, Err, List, [], ◌++◌, ℕ, ◌+◌, ◌-◌, ◌≤◌, ◌<◌, length, take, drop}
use Rattle.std.proofs.Math.Path.{refl}
use Rattle.std.proofs.Common.{sym, ap, ap₂, ◌∙◌, append-nil, append_assoc, zero-add, arith, length-append, length-drop, drop_of_length-le, take_all, drop-drop, le-leb}
use Rattle.std.proofs.lemmas.List.Edits.{sets, sets-eq}
use Rattle.std.proofs.lemmas.Bool.{lt-leb}
use Rattle.strings.specs.Bits.{range, bytes_for, pack, cleared, write_bits, at_front}
use Rattle.strings.proofs.laws.RangeLaws.{range_length}
use Rattle.strings.specs.laws.StoreLaws.{sets-append, sets-front}
use Rattle.strings.proofs.laws.PackLaws.{write-cleared}
use Rattle.strings.specs.Refusals.{refusal_number}
use Rattle.strings.specs.declared.Refusal.{Refusal}
use Rattle.strings.specs.declared.Refusal.TheVariants.{BufferTooShort}
use Rattle.strings.specs.laws.ResultLaws.{no_value, value-is}
use Rattle.messages.specs.laws.NumberLaws.{size-last, size-most, numbers-most}
use Rattle.messages.specs.Writing.{Wrote, said_write, put_front}

module _ (m buf : List ℕ) where
  pub put-short : length buf < length m → said_write (Err BufferTooShort) buf ≡ put_front m buf
  unfolding put_front
  put-short h = rw (lt-leb (length m) (length buf) h) refl

  pub put-fits : length m ≤ length buf → put_front m buf ≡ said_write (Ok (length m)) (at_front m buf)
  unfolding put_front
  put-fits h = rw (le-leb (length m) (length buf) h) refl

  -- as the code meets it: n bytes were stored, and left the list t
  pub put_whole : {n : ℕ} {t : List ℕ} → length m ≤ length buf → n ≡ length m → t ≡ sets buf 0 m → said_write (Ok n) t ≡ put_front m buf
  put_whole h e f = ap₂ (λ (n : ℕ) (t : List ℕ). said_write (Ok n) t) e (f ∙ sets-front buf m h) ∙ sym (put-fits h)

-- ---- a message of parts, each written behind the one before
-- after the part m at the front of s the list is t, and i is the position behind it
record Stored (s m t : List ℕ) (i : ℕ) : Type 0 where
  is : t ≡ sets s 0 m
  behind : i ≡ length m

stored-first : (s m t : List ℕ) (i : ℕ) → t ≡ sets s 0 m → i ≡ 0 + length m → Stored s m t i
stored-first s m t i e f = record { is = e; behind = omega arith }

stored_next : (s m l t u : List ℕ) (i j : ℕ) → Stored s m t i → u ≡ sets t i l → j ≡ i + length l → Stored s (m ++ l) u j
stored_next s m l t u i j w e f =
    record {
      is = e ∙ rw (w.behind, w.is) (ap (λ (k : ℕ). sets (sets s 0 m) k l) (sym (zero-add (length m))) ∙ sym (sets-append s m l 0));
      behind = (let n = length-append m l in let b = w.behind in omega arith);
    }

stored-all : (s m t : List ℕ) (n : ℕ) → length m ≤ length s → Stored s m t n → said_write (Ok n) t ≡ put_front m s
stored-all s m t n h w = put_whole m s h w.behind w.is

module _ (s a b : List ℕ) where
  pub two-short : length s < length a + length b → said_write (Err BufferTooShort) s ≡ put_front (a ++ b) s
  two-short h = let l = length-append a b in put-short (a ++ b) s (omega arith)

  module _ (t u : List ℕ) (i j : ℕ) (e : t ≡ sets s 0 a) (f : i ≡ 0 + length a) (e₂ : u ≡ sets t i b) (f₂ : j ≡ i + length b) where
    stored-two : Stored s (a ++ b) u j
    stored-two = stored_next s a b t u i j (stored-first s a t i e f) e₂ f₂

    pub two-whole : length a + length b ≤ length s → said_write (Ok j) u ≡ put_front (a ++ b) s
    two-whole h = let l = length-append a b in stored-all s (a ++ b) u j (omega arith) stored-two

    module _ (c w : List ℕ) (k : ℕ) (e₃ : w ≡ sets u j c) (f₃ : k ≡ j + length c) where
      stored-three : Stored s (a ++ b ++ c) w k
      stored-three = stored_next s (a ++ b) c u w j k stored-two e₃ f₃

      pub three-whole : length a + length b + length c ≤ length s → said_write (Ok k) w ≡ put_front (a ++ (b ++ c)) s
      three-whole h =
          let l = length-append a b in
          let m = length-append (a ++ b) c in
          stored-all s (a ++ b ++ c) w k (omega arith) stored-three ∙ ap (λ (x : List ℕ). put_front x s) (append_assoc a b c)

      pub four-whole : (d x : List ℕ) (n : ℕ) → x ≡ sets w k d → n ≡ k + length d → length a + length b + length c + length d ≤ length s
          → said_write (Ok n) x ≡ put_front (a ++ (b ++ (c ++ d))) s
      four-whole d x n e₄ f₄ h =
          let l = length-append a b in
          let m = length-append (a ++ b) c in
          let o = length-append (a ++ b ++ c) d in
          stored-all s (a ++ b ++ c ++ d) x n (omega arith) (stored_next s (a ++ b ++ c) d w x k n stored-three e₄ f₄)
          ∙ ap (λ (y : List ℕ). put_front y s) (append_assoc (a ++ b) c d ∙ append_assoc a b (c ++ d))

pub three-short : (s a b c : List ℕ) → length s < length a + length b + length c → said_write (Err BufferTooShort) s ≡ put_front (a ++ (b ++ c)) s
three-short s a b c h = let l = length-append a (b ++ c) in let m = length-append b c in put-short (a ++ (b ++ c)) s (omega arith)

pub four-short : (s a b c d : List ℕ) → length s < length a + length b + length c + length d → said_write (Err BufferTooShort) s ≡ put_front (a ++ (b ++ (c ++ d))) s
four-short s a b c d h =
    let l = length-append a (b ++ (c ++ d)) in
    let m = length-append b (c ++ d) in
    let n = length-append c d in
    put-short (a ++ (b ++ (c ++ d))) s (omega arith)

-- ---- bits
-- bytes cleared, then bits copied in
pub bits-first : (x buf t u : List ℕ) (start len : ℕ) → bytes_for len ≤ length buf → t ≡ cleared buf 0 (bytes_for len) → u ≡ write_bits t 0 (range x start len) → u ≡ sets buf 0 (pack (range x start len))
bits-first x buf t u start len h e f =
    let n = range_length x start len in
    f ∙ ap (λ (l : List ℕ). write_bits l 0 (range x start len)) (e ∙ ap (λ (k : ℕ). cleared buf 0 (bytes_for k)) (sym n)) ∙ write-cleared buf 0 (range x start len) (omega arith)

-- what is written at the front of the part of a buffer from index at on is written at index at
pub part-sets : (buf u m : List ℕ) (at : ℕ) → at + length m ≤ length buf → u ≡ sets (take (length buf - at) (drop at buf)) 0 m → take at buf ++ (u ++ drop (length buf - at) (drop at buf)) ≡ sets buf at m
part-sets buf u m at h e =
    let n = length-drop at buf in
    let f : drop (length buf - at) (drop at buf) ≡ [] = drop_of_length-le (drop at buf) {i = length buf - at} (omega arith) in
    let g : take (length buf - at) (drop at buf) ≡ drop at buf = take_all (length buf - at) (drop at buf) (omega arith) in
    let k : sets (drop at buf) 0 m ≡ m ++ drop (at + length m) buf =
    sets-eq m (drop at buf) 0 (omega arith) ∙ ap (λ (l : List ℕ). m ++ l) (ap (λ (i : ℕ). drop i (drop at buf)) (zero-add (length m)) ∙ drop-drop (length m) at buf) in
    rw (f, append-nil u) (ap (λ (l : List ℕ). take at buf ++ l) (e ∙ ap (λ (l : List ℕ). sets l 0 m) g ∙ k) ∙ sym (append_assoc (take at buf) m (drop (at + length m) buf)) ∙ sym (sets-eq m buf at h))

-- a message that fits the buffer was written
pub wrote-is : (w : CodeResult ℕ Refusal) (t m buf : List ℕ) → said_write w t ≡ put_front m buf → length m ≤ length buf → (w ≡ Ok (length m)) × (t ≡ at_front m buf)
wrote-is (Ok n) t m buf e h =
    let f = e ∙ put-fits m buf h in
    (ap Ok (value-is (ap (λ (r : Wrote). r.answer) f)), ap (λ (r : Wrote). r.buffer) f)
wrote-is (Err x) t m buf e h = absurd (no_value (refusal_number x) (length m) (ap (λ (r : Wrote). r.answer) (e ∙ put-fits m buf h)))

-- what the writers cite
pub ruleset writing_laws = (size-last, size-most, numbers-most, two-short, two-whole, three-short, three-whole)
