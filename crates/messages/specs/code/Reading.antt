-- The terms of the reader's contracts, and what the loops over numbers keep.
use Rattle.std.specs.Prelude.{◌≡◌, Result as CodeResult, Ok, Err, Bool, true, false, ◌&&◌, length, get_or, set, drop, leb, ltb, eqb}
use Rattle.std.proofs.Math.Path.{refl, sym, ap, ap₂}
use Rattle.std.proofs.Common.{◌∙◌, add-one, length-append, drop_of_length-le, drop-cons, take-suc-set, take_all, le-leb, get_or-take, length-take-le}
use mathlib.Core.List.{List, [], ◌∷◌, ◌++◌, append-nil, append_assoc}
use Prim.Native.Nat.{ℕ, suc, ◌+◌, ◌-◌, ◌^◌, ◌≤◌, ◌<◌}
use native.Mathlib.Omega.{arith}
use Rattle.std.proofs.Math.ListN.{take}
use Rattle.std.proofs.lemmas.List.Edits.{sets}
use Rattle.std.proofs.lemmas.List.Recursion.{is_sum_by}
use Rattle.std.specs.List.{sum_by}
use Rattle.std.proofs.lemmas.Bool.{lt-leb}
use Rattle.strings.specs.Bits.{max_bits}
use Rattle.strings.specs.SettingLimits.{hash_limits, key_limits}
use Rattle.strings.specs.Refusals.{refusal_number}
use Rattle.strings.specs.Results.{Result, refusal, value, unless, and_then, said}
use Rattle.strings.specs.laws.StoreLaws.{sets-append}
use Rattle.strings.specs.laws.ResultLaws.{no_value, value-is, then-passed, unless-passed}
use Rattle.strings.specs.declared.Refusal.{Refusal}
use Rattle.strings.specs.declared.Refusal.TheVariants.{TrailingBytes, OutOfRange, BadBurst}
use Rattle.codes.specs.Columns.{column_length, column_limits}
use Rattle.messages.specs.declared.Question.{Question}
use Rattle.messages.specs.declared.Question.TheVariants.{AskOpen, AskBurst}
use Rattle.messages.specs.Numbers.{number, number_at, two_at, three_at, all_numbers, numbers_at}
use Rattle.messages.specs.Questions.{opening_at, range_question, burst_range_at}
use Rattle.messages.specs.Answers.{Answer, size_answer, hash_answer, syndrome_answer, burst_answer, size_at, hash_at, syndrome_at, within_columns, burst_at, the_numbers, burst_syndromes, BurstAnswered}
use Rattle.messages.specs.laws.NumberLaws.{size-most, numbers-most}
use Rattle.messages.specs.laws.AnswerLaws.{burst-stands, burst-is}

-- what a reader that stands at position at now says that it read, a number or numbers
abbrev pub said_next : CodeResult ℕ Refusal → ℕ → Result (ℕ × ℕ)
said_next (Ok v) at = value (v, at)
said_next (Err e) at = refusal (refusal_number e)

-- what it says of a burst's answer, of which it read the hash behind the syndromes l
abbrev pub said_burst : CodeResult ℕ Refusal → List ℕ → Result Answer
said_burst (Ok v) l = value (burst_answer l v)
said_burst (Err e) l = refusal (refusal_number e)

abbrev pub said_numbers : CodeResult (Unit {0}) Refusal → List ℕ → ℕ → Result (List ℕ × ℕ)
said_numbers (Ok _) l at = value (l, at)
said_numbers (Err e) l at = refusal (refusal_number e)

-- the number at position at, behind which nothing may follow
abbrev pub last_at : List ℕ → ℕ → Result ℕ
last_at s at =
    and_then (number_at s at) (λ (v, end).
    unless (leb (length s) end) TrailingBytes (
    value v))

-- the fields of a question, which nothing follows
abbrev pub opening_of : ℕ → ℕ → ℕ → Result Question
opening_of version h key =
    unless (eqb version 1) OutOfRange (
    unless (hash_limits h) OutOfRange (
    unless (key_limits key) OutOfRange (
    value (AskOpen h key))))

-- what a call at start and len may give, as post says, is the question of ask
abbrev pub Asks : (ℕ → ℕ → Question → Type 0) → (ℕ → ℕ → Question) → Type 0
Asks post ask = (start len : ℕ) (q : Question) → start < 2 ^ 32 → len < 2 ^ 32 → post start len q → q ≡ ask start len

abbrev pub range_of : (ℕ → ℕ → Question) → ℕ → ℕ → ℕ → Result Question
range_of ask n start len =
    unless (leb 1 len) OutOfRange (
    unless (leb (start + len) n) OutOfRange (
    value (ask start len)))

abbrev pub burst_of : ℕ → ℕ → ℕ → ℕ → Result Question
burst_of n start len b =
    unless (column_limits b) BadBurst (
    unless (leb 1 len) OutOfRange (
    unless (leb (start + len) n) OutOfRange (
    value (AskBurst start len b))))

-- ---- what the code reads number by number is what the definitions read
then-then : {A B C : Type 0} (r : Result A) (f : A → Result B) (g : B → Result C) → and_then (and_then r f) g ≡ and_then r (λ a. and_then (f a) g)
then-then (refusal k) f g = refl
then-then (value a) f g = refl

then-each : {A B : Type 0} (r : Result A) (f g : A → Result B) → ((a : A) → f a ≡ g a) → and_then r f ≡ and_then r g
then-each (refusal k) f g e = refl
then-each (value a) f g e = e a

unless-then : {A B : Type 0} (b : Bool) (e : Refusal) (a : A) (f : A → Result B) → unless b e (f a) ≡ and_then (unless b e (value a)) f
unless-then true e a f = refl
unless-then false e a f = refl

-- a test behind the last number, of what the number gives
last-then : {B : Type 0} (s : List ℕ) (at : ℕ) (f : ℕ → Result B) → and_then (number_at s at) (λ (v, end). unless (leb (length s) end) TrailingBytes (f v)) ≡ and_then (last_at s at) f
last-then s at f =
    then-each (number_at s at) _ _ (λ p. unless-then (leb (length s) p.1) TrailingBytes p.0 f)
    ∙ sym (then-then (number_at s at) (λ (v, end). unless (leb (length s) end) TrailingBytes (value v)) f)

two-then : {B : Type 0} (s : List ℕ) (at : ℕ) (f : ℕ → ℕ → Result B) → and_then (two_at s at) (λ (a, b, end). unless (leb (length s) end) TrailingBytes (f a b))
    ≡ and_then (number_at s at) (λ (a, i). and_then (last_at s i) (λ b. f a b))
unfolding two_at
two-then s at f =
    then-then (number_at s at) _ _
    ∙ then-each (number_at s at) _ _ (λ p. then-then (number_at s p.1) _ _ ∙ last-then s p.1 (f p.0))

three-then : {B : Type 0} (s : List ℕ) (at : ℕ) (f : ℕ → ℕ → ℕ → Result B) → and_then (three_at s at) (λ (a, b, c, end). unless (leb (length s) end) TrailingBytes (f a b c))
    ≡ and_then (number_at s at) (λ (a, i). and_then (number_at s i) (λ (b, j). and_then (last_at s j) (λ c. f a b c)))
unfolding two_at three_at
three-then s at f =
    then-then (two_at s at) _ _
    ∙ then-then (number_at s at) _ _
    ∙ then-each (number_at s at) _ _ (λ p. then-then (number_at s p.1) _ _
    ∙ then-each (number_at s p.1) _ _ (λ q. then-then (number_at s q.1) _ _ ∙ last-then s q.1 (f p.0 q.0)))

module _ (s : List ℕ) (at : ℕ) where
  pub opening_read : opening_at s at ≡ and_then (number_at s at) (λ (version, i). and_then (number_at s i) (λ (h, j). and_then (last_at s j) (λ key. opening_of version h key)))
  unfolding opening_at
  opening_read = three-then s at opening_of

  pub range_read : (ask : ℕ → ℕ → Question) (n : ℕ) → range_question ask s at n ≡ and_then (number_at s at) (λ (start, i). and_then (last_at s i) (λ len. range_of ask n start len))
  unfolding range_question
  range_read ask n = two-then s at (range_of ask n)

  pub burst_read : (n : ℕ) → burst_range_at s at n ≡ and_then (number_at s at) (λ (start, i). and_then (number_at s i) (λ (len, j). and_then (last_at s j) (λ b. burst_of n start len b)))
  unfolding burst_range_at
  burst_read n = three-then s at (burst_of n)

  pub size_read : size_at s at ≡ and_then (last_at s at) (λ n. unless (leb n max_bits) OutOfRange (value (size_answer n)))
  unfolding size_at
  size_read = last-then s at _

  pub hash_read : (h : ℕ) → hash_at h s at ≡ and_then (last_at s at) (λ v. unless (ltb v (2 ^ h)) OutOfRange (value (hash_answer v)))
  unfolding hash_at
  hash_read h = last-then s at _

  pub syndrome_read : (len h : ℕ) → syndrome_at len h s at
      ≡ and_then (number_at s at) (λ (a, i). and_then (last_at s i) (λ v. unless (leb a len) OutOfRange (unless (ltb v (2 ^ h)) OutOfRange (value (syndrome_answer a v)))))
  unfolding syndrome_at
  syndrome_read len h = two-then s at (λ a v. unless (leb a len) OutOfRange (unless (ltb v (2 ^ h)) OutOfRange (value (syndrome_answer a v))))

  pub columns_read : (len b h : ℕ) → burst_at len b h s at
      ≡ and_then (numbers_at b s at) (λ (l, i). and_then (last_at s i) (λ v. unless (within_columns b len 0 l) OutOfRange (unless (ltb v (2 ^ h)) OutOfRange (value (burst_answer l v)))))
  unfolding burst_at
  columns_read len b h = then-each (numbers_at b s at) _ _ (λ p. last-then s p.1 _)

-- ---- readings put together
-- behind the number that was read at position at; still there where none was read
abbrev pub behind_number : CodeResult (ℕ × ℕ) Refusal → ℕ → ℕ
behind_number (Ok (v, end)) at = end
behind_number (Err e) at = at

-- the first refusal, or the numbers and the position behind the last
abbrev pub two_of : (first second : Result (ℕ × ℕ)) → Result (ℕ × ℕ × ℕ)
two_of first second =
    and_then first (λ (a, next).
    and_then second (λ (b, end).
    value (a, b, end)))

abbrev pub three_of : (first second third : Result (ℕ × ℕ)) → Result (ℕ × ℕ × ℕ × ℕ)
three_of first second third =
    and_then (two_of first second) (λ (a, b, next).
    and_then third (λ (c, end).
    value (a, b, c, end)))

-- ---- readings of the message s, each behind the one before, are the numbers that stand there
module _ (s : List ℕ) (at : ℕ) where
  pub two-read : (first second : CodeResult (ℕ × ℕ) Refusal) → said first ≡ number_at s at → said second ≡ number_at s (behind_number first at) → two_of (said first) (said second) ≡ two_at s at
  unfolding two_at
  two-read (Ok (a, next)) second p q = rw (← p, ← q) refl
  two-read (Err e) second p q = rw (← p) refl

  pub three-read : (first second third : CodeResult (ℕ × ℕ) Refusal) → said first ≡ number_at s at → said second ≡ number_at s (behind_number first at)
      → said third ≡ number_at s (behind_number second (behind_number first at)) → three_of (said first) (said second) (said third) ≡ three_at s at
  unfolding two_at three_at
  three-read (Ok (a, next)) (Ok (b, end)) third p q r = rw (← p, ← q, ← r) refl
  three-read (Ok (a, next)) (Err e) third p q r = rw (← p, ← q) refl
  three-read (Err e) second third p q r = rw (← p) refl

-- ---- numbers read one behind the other
-- the first k of an array, and the position behind them, if the last reading says one
abbrev pub said_many : ℕ → List ℕ → CodeResult (ℕ × ℕ) Refusal → Result (List ℕ × ℕ)
said_many k list last = and_then (said last) (λ (v, end). value (take k list, end))

-- the numbers l, which were read, and those of a reading behind them
abbrev pub behind_numbers : List ℕ → Result (List ℕ × ℕ) → Result (List ℕ × ℕ)
behind_numbers l r = and_then r (λ (m, end). value (l ++ m, end))

behind-none : (r : Result (List ℕ × ℕ)) → behind_numbers [] r ≡ r
behind-none (refusal k) = refl
behind-none (value (l, end)) = refl

behind_more : (l : List ℕ) (a : ℕ) (r : Result (List ℕ × ℕ)) → behind_numbers l (and_then r (λ (m, end). value (a ∷ m, end))) ≡ behind_numbers (l ++ (a ∷ [])) r
behind_more l a (refusal k) = refl
behind_more l a (value (m, end)) = ap (λ (x : List ℕ). value (x, end)) (sym (append_assoc l (a ∷ []) m))

module _ (s : List ℕ) where
  -- one number less is to be read
  more-at : (k i at : ℕ) → i < k → numbers_at (k - i) s at ≡ and_then (number_at s at) (λ (a, next). and_then (numbers_at (k - (i + 1)) s next) (λ (l, end). value (a ∷ l, end)))
  unfolding numbers_at
  more-at k i at h = let e : k - i ≡ suc (k - (i + 1)) = omega arith in rw e refl

  -- a loop's first turn, a turn, and its ends: i numbers were read up to position end
  pub many-first : (k at : ℕ) → behind_numbers [] (numbers_at (k - 0) s at) ≡ numbers_at k s at
  many-first k at = behind-none (numbers_at (k - 0) s at) ∙ ap (λ (j : ℕ). numbers_at j s at) (let e : k - 0 ≡ k = omega arith in e)

  module _ (k i end : ℕ) (list : List ℕ) (o : Result (List ℕ × ℕ)) (is : behind_numbers (take i list) (numbers_at (k - i) s end) ≡ o) where
    pub many-none : i < k → (j : ℕ) → number_at s end ≡ refusal j → refusal j ≡ o
    many-none h j e = let f : numbers_at (k - i) s end ≡ refusal j = more-at k i end h ∙ rw e refl in sym (ap (behind_numbers (take i list)) f) ∙ is

    pub many-next : i < k → i < length list → (v next : ℕ) → number_at s end ≡ value (v, next) → behind_numbers (take (i + 1) (set list i v)) (numbers_at (k - (i + 1)) s next) ≡ o
    many-next h m v next e =
        let f : numbers_at (k - i) s end ≡ and_then (numbers_at (k - (i + 1)) s next) (λ (l, last). value (v ∷ l, last)) = more-at k i end h ∙ rw e refl in
        let g : take (i + 1) (set list i v) ≡ take i list ++ (v ∷ []) = ap (λ (j : ℕ). take j (set list i v)) (add-one i) ∙ take-suc-set list i v m in
        ap (λ (l : List ℕ). behind_numbers l (numbers_at (k - (i + 1)) s next)) g
        ∙ sym (behind_more (take i list) v (numbers_at (k - (i + 1)) s next))
        ∙ sym (ap (behind_numbers (take i list)) f)
        ∙ is

    pub many-all : i ≡ k → value (take k list, end) ≡ o
    unfolding numbers_at
    many-all e =
        let f : k - i ≡ 0 = omega arith in
        ap₂ (λ (l : List ℕ) (n : ℕ). value (l, end)) (ap (λ (j : ℕ). take j list) (sym e) ∙ sym (append-nil (take i list))) f
        ∙ sym (ap (λ (j : ℕ). behind_numbers (take i list) (numbers_at j s end)) f) ∙ is

    -- the same where the list has no other numbers
    pub many-whole : k ≤ i → length list ≤ i → value (list, end) ≡ o
    unfolding numbers_at
    many-whole e m =
        let f : k - i ≡ 0 = omega arith in
        ap₂ (λ (l : List ℕ) (n : ℕ). value (l, end)) (sym (take_all i list m) ∙ sym (append-nil (take i list))) f
        ∙ sym (ap (λ (j : ℕ). behind_numbers (take i list) (numbers_at j s end)) f) ∙ is

-- ---- the first k numbers of an array, from number i on
pub rest-next : (a : List ℕ) (k i : ℕ) → i < k → k ≤ length a → drop i (take k a) ≡ get_or a i 0 ∷ drop (i + 1) (take k a)
rest-next a k i h m =
    let n = length-take-le k a m in
    drop-cons (take k a) i 0 (omega arith) ∙ ap₂ (λ (x : ℕ) (l : List ℕ). x ∷ l) (get_or-take k a i 0 h) (ap (λ (j : ℕ). drop j (take k a)) (sym (add-one i)))

pub rest-none : (a : List ℕ) (k i : ℕ) → k ≤ i → k ≤ length a → drop i (take k a) ≡ []
rest-none a k i h m = let n = length-take-le k a m in drop_of_length-le (take k a) {i = i} (omega arith)

-- the bytes that are still to be written
abbrev pub rest_bytes : List ℕ → ℕ → ℕ → List ℕ
rest_bytes a k i = all_numbers (drop i (take k a))

pub bytes_next : (a : List ℕ) (k i : ℕ) → i < k → k ≤ length a → rest_bytes a k i ≡ number (get_or a i 0) ++ rest_bytes a k (i + 1)
unfolding all_numbers
bytes_next a k i h m = ap all_numbers (rest-next a k i h m)

pub bytes-none : (a : List ℕ) (k i : ℕ) → k ≤ i → k ≤ length a → rest_bytes a k i ≡ []
unfolding all_numbers
bytes-none a k i h m = ap all_numbers (rest-none a k i h m)

pub size-turn : (a : List ℕ) (k i : ℕ) → i < k → k ≤ length a → length (rest_bytes a k i) ≡ length (number (get_or a i 0)) + length (rest_bytes a k (i + 1))
size-turn a k i h m = ap length (bytes_next a k i h m) ∙ length-append (number (get_or a i 0)) (rest_bytes a k (i + 1))

pub put-turn : (a : List ℕ) (k i : ℕ) → i < k → k ≤ length a → (s t u : List ℕ) (at end : ℕ) → sets s at (rest_bytes a k i) ≡ u
    → t ≡ sets s at (number (get_or a i 0)) → end ≡ at + length (number (get_or a i 0)) → sets t end (rest_bytes a k (i + 1)) ≡ u
put-turn a k i h m s t u at end is e f = rw (e, f) (sym (sets-append s (number (get_or a i 0)) (rest_bytes a k (i + 1)) at) ∙ ap (sets s at) (sym (bytes_next a k i h m)) ∙ is)

pub put-end : (a : List ℕ) (k i : ℕ) → k ≤ i → k ≤ length a → (s u : List ℕ) (at : ℕ) → sets s at (rest_bytes a k i) ≡ u → s ≡ u
put-end a k i h m s u at is = sym (ap (sets s at) (bytes-none a k i h m)) ∙ is

-- ---- the syndromes among the first b of an array that are still to be tested
module _ (a : List ℕ) (b len j : ℕ) (m : b ≤ length a) where
  pub within-next : j < b → within_columns b len j (drop j (take b a)) ≡ leb (get_or a j 0) (column_length b j len) && within_columns b len (j + 1) (drop (j + 1) (take b a))
  unfolding within_columns
  within-next h = ap (within_columns b len j) (rest-next a b j h m) ∙ rw (add-one j) refl

  pub within_end : b ≤ j → within_columns b len j (drop j (take b a)) ≡ true
  unfolding within_columns
  within_end h = ap (within_columns b len j) (rest-none a b j h m)

  -- x is the length of column j, and o is the answer
  module _ {x : ℕ} {o : Bool} (h : j < b) (e : x ≡ column_length b j len) (is : within_columns b len j (drop j (take b a)) ≡ o) where
    pub within-fails : x < get_or a j 0 → false ≡ o
    within-fails l =
        let t = lt-leb (get_or a j 0) (column_length b j len) (omega arith) in
        let f : within_columns b len j (drop j (take b a)) ≡ false = within-next h ∙ rw t refl in
        sym f ∙ is

    pub within-turn : get_or a j 0 ≤ x → within_columns b len (j + 1) (drop (j + 1) (take b a)) ≡ o
    within-turn l =
        let t = le-leb (get_or a j 0) (column_length b j len) (omega arith) in
        let f : within_columns b len j (drop j (take b a)) ≡ within_columns b len (j + 1) (drop (j + 1) (take b a)) = within-next h ∙ rw t refl in
        sym f ∙ is

-- ---- numbers of a list, from number i on
from-next : (a : List ℕ) (i : ℕ) → i < length a → drop i a ≡ get_or a i 0 ∷ drop (i + 1) a
from-next a i h = drop-cons a i 0 h ∙ ap (λ (j : ℕ). get_or a i 0 ∷ drop j a) (sym (add-one i))

-- the bytes that are still to be written
abbrev pub bytes_from : List ℕ → ℕ → List ℕ
bytes_from a i = all_numbers (drop i a)

bytes_from-next : (a : List ℕ) (i : ℕ) → i < length a → bytes_from a i ≡ number (get_or a i 0) ++ bytes_from a (i + 1)
unfolding all_numbers
bytes_from-next a i h = ap all_numbers (from-next a i h)

pub from-none : (a : List ℕ) (i : ℕ) → length a ≤ i → bytes_from a i ≡ []
unfolding all_numbers
from-none a i h = ap all_numbers (drop_of_length-le a {i = i} h)

pub from-size : (a : List ℕ) (i : ℕ) → i < length a → length (bytes_from a i) ≡ length (number (get_or a i 0)) + length (bytes_from a (i + 1))
from-size a i h = ap length (bytes_from-next a i h) ∙ length-append (number (get_or a i 0)) (bytes_from a (i + 1))

pub from-put : (a : List ℕ) (i : ℕ) → i < length a → (s t u : List ℕ) (at end : ℕ) → sets s at (bytes_from a i) ≡ u
    → t ≡ sets s at (number (get_or a i 0)) → end ≡ at + length (number (get_or a i 0)) → sets t end (bytes_from a (i + 1)) ≡ u
from-put a i h s t u at end is e f = rw (e, f) (sym (sets-append s (number (get_or a i 0)) (bytes_from a (i + 1)) at) ∙ ap (sets s at) (sym (bytes_from-next a i h)) ∙ is)

pub from-end : (a : List ℕ) (i : ℕ) → length a ≤ i → (s u : List ℕ) (at : ℕ) → sets s at (bytes_from a i) ≡ u → s ≡ u
from-end a i h s u at is = sym (ap (sets s at) (from-none a i h)) ∙ is

-- ---- the syndromes that are still to be tested
module _ (a : List ℕ) (b len j : ℕ) where
  tested-next : j < length a → within_columns b len j (drop j a) ≡ leb (get_or a j 0) (column_length b j len) && within_columns b len (j + 1) (drop (j + 1) a)
  unfolding within_columns
  tested-next h = ap (within_columns b len j) (from-next a j h) ∙ rw (add-one j) refl

  pub tested_end : length a ≤ j → within_columns b len j (drop j a) ≡ true
  unfolding within_columns
  tested_end h = ap (within_columns b len j) (drop_of_length-le a {i = j} h)

  -- as the code meets it: x is the length of column j, and o is the answer
  module _ {x : ℕ} {o : Bool} (h : j < length a) (e : x ≡ column_length b j len) (is : within_columns b len j (drop j a) ≡ o) where
    pub tested-fails : x < get_or a j 0 → false ≡ o
    tested-fails l =
        let t = lt-leb (get_or a j 0) (column_length b j len) (omega arith) in
        let f : within_columns b len j (drop j a) ≡ false = tested-next h ∙ rw t refl in
        sym f ∙ is

    pub tested-turn : get_or a j 0 ≤ x → within_columns b len (j + 1) (drop (j + 1) a) ≡ o
    tested-turn l =
        let t = le-leb (get_or a j 0) (column_length b j len) (omega arith) in
        let f : within_columns b len j (drop j a) ≡ within_columns b len (j + 1) (drop (j + 1) a) = tested-next h ∙ rw t refl in
        sym f ∙ is

-- ---- the hash behind the syndromes l, which are within their columns' lengths or not
abbrev pub behind_syndromes : ℕ → List ℕ → ℕ → Bool → List ℕ → Result Answer
behind_syndromes h s at within l =
    and_then (number_at s at) (λ (v, end).
    unless (leb (length s) end) TrailingBytes (
    unless within OutOfRange (
    unless (ltb v (2 ^ h)) OutOfRange (
    value (burst_answer l v)))))

module _ (len b h : ℕ) (s : List ℕ) (at n : ℕ) (kind : number_at s 0 ≡ value (n, at)) where
  pub burst-none : (e : Refusal) → refusal (refusal_number e) ≡ numbers_at b s at → refusal (refusal_number e) ≡ burst_at len b h s at
  unfolding burst_at
  burst-none e is = rw (← is) refl

  pub burst-some : (l : List ℕ) (next : ℕ) → value (l, next) ≡ numbers_at b s at → {t : Bool} → t ≡ within_columns b len 0 l → {o : Result Answer} → o ≡ behind_syndromes h s next t (burst_syndromes b s) → o ≡ burst_at len b h s at
  unfolding burst_at burst_syndromes
  burst-some l next is {t} e {o} so =
      let f : behind_syndromes h s next t (burst_syndromes b s) ≡ burst_at len b h s at = rw (kind, ← is, e) refl in
      so ∙ f

-- the numbers behind the kind of a message that was read to a burst's answer
pub burst-numbers : (b : ℕ) (s : List ℕ) → BurstAnswered b s → (first : CodeResult (ℕ × ℕ) Refusal) (list : List ℕ) (last : CodeResult (ℕ × ℕ) Refusal) → said first ≡ number_at s 0
    → said_many b list last ≡ numbers_at b s (behind_number first 0) → take b list ≡ burst_syndromes b s
burst-numbers b s w (Err x) list last e f =
    let r = burst-stands w.kind w.len b w.h s w.syndromes w.hash w.read in
    absurd (no_value (refusal_number x) (r.number, r.at) (e ∙ r.kind))
burst-numbers b s w (Ok (n, at)) list (Err x) e f =
    let r = burst-stands w.kind w.len b w.h s w.syndromes w.hash w.read in
    let g : at ≡ r.at = ap (λ (p : ℕ × ℕ). p.1) (value-is (e ∙ r.kind)) in
    absurd (no_value (refusal_number x) (w.syndromes, r.end) (f ∙ ap (numbers_at b s) g ∙ r.read))
burst-numbers b s w (Ok (n, at)) list (Ok (v, end)) e f =
    let r = burst-stands w.kind w.len b w.h s w.syndromes w.hash w.read in
    let g : at ≡ r.at = ap (λ (p : ℕ × ℕ). p.1) (value-is (e ∙ r.kind)) in
    ap (λ (p : List ℕ × ℕ). p.0) (value-is (f ∙ ap (numbers_at b s) g ∙ r.read)) ∙ burst-is w.kind w.len b w.h s w.syndromes w.hash w.read

-- the same, where the reader stands at position end behind them
pub burst-filled : (b : ℕ) (s : List ℕ) → BurstAnswered b s → (first : CodeResult ℕ Refusal) (read : CodeResult (Unit {0}) Refusal) (list : List ℕ) (at end : ℕ)
    → said_next first at ≡ number_at s 0 → said_numbers read list end ≡ numbers_at b s at → list ≡ burst_syndromes b s
burst-filled b s w (Err x) read list at end e f =
    let r = burst-stands w.kind w.len b w.h s w.syndromes w.hash w.read in
    absurd (no_value (refusal_number x) (r.number, r.at) (e ∙ r.kind))
burst-filled b s w (Ok v) (Err x) list at end e f =
    let r = burst-stands w.kind w.len b w.h s w.syndromes w.hash w.read in
    let g : at ≡ r.at = ap (λ (p : ℕ × ℕ). p.1) (value-is (e ∙ r.kind)) in
    absurd (no_value (refusal_number x) (w.syndromes, r.end) (f ∙ ap (numbers_at b s) g ∙ r.read))
burst-filled b s w (Ok v) (Ok u) list at end e f =
    let r = burst-stands w.kind w.len b w.h s w.syndromes w.hash w.read in
    let g : at ≡ r.at = ap (λ (p : ℕ × ℕ). p.1) (value-is (e ∙ r.kind)) in
    ap (λ (p : List ℕ × ℕ). p.0) (value-is (f ∙ ap (numbers_at b s) g ∙ r.read)) ∙ burst-is w.kind w.len b w.h s w.syndromes w.hash w.read

-- a burst's answer: the syndromes beside which a hash was read are those that stand at position at
pub burst-stood : (len b h : ℕ) (s : List ℕ) (at : ℕ) (r : CodeResult ℕ Refusal) (l : List ℕ) → said_burst r l ≡ burst_at len b h s at → said_burst r (the_numbers (numbers_at b s at)) ≡ burst_at len b h s at
burst-stood len b h s at (Err e) l is = is
burst-stood len b h s at (Ok v) l is =
    let a = burst_answer l v in
    let (p, e, is₁) = then-passed (numbers_at b s at) _ a (sym (is ∙ columns_read s at len b h)) in
    let (x, f, is₂) = then-passed (last_at s p.1) _ a is₁ in
    let (t, is₃) = unless-passed (within_columns b len 0 p.0) OutOfRange _ a is₂ in
    let (u, is₄) = unless-passed (ltb x (2 ^ h)) OutOfRange _ a is₃ in
    let g = value-is is₄ in
    let q : p.0 ≡ l = cc in
    ap (λ (m : List ℕ). value (burst_answer m v)) (ap the_numbers e ∙ q) ∙ is

-- they are those of the message, once its kind is known to end at position at
pub syndromes-behind : (b : ℕ) (s : List ℕ) {n at : ℕ} → number_at s 0 ≡ value (n, at) → burst_syndromes b s ≡ the_numbers (numbers_at b s at)
unfolding burst_syndromes
syndromes-behind b s e = rw e refl

-- ---- the sizes of numbers, added up
pub sizes-are : (l : List ℕ) → sum_by (λ v. length (number v)) l ≡ length (all_numbers l)
unfolding all_numbers
sizes-are l = sym (is_sum_by (λ (m : List ℕ). length (all_numbers m)) (λ v. length (number v)) refl (λ v m. length-append (number v) (all_numbers m)) l)

pub sizes-fit : (l : List ℕ) → length l ≤ 32 → sum_by (λ v. length (number v)) l < 2 ^ 64
sizes-fit l h = let e = sizes-are l in let m = numbers-most l in omega arith

-- what the loops over numbers cite
pub ruleset size_turns = (size-most, from-size, from-none)

pub ruleset put_turns = (from-size, from-none, from-put, from-end)

pub ruleset within_turns = (tested_end, tested-fails, tested-turn)
