-- For every width h and every key some nonzero string of h + 1 bits hashes to 0: among h + 1 numbers below 2 ^ h some have the xor 0.
-- So two strings of one length can agree in hash, and demand 3's exception is real.
use Rattle.std.specs.Prelude.{◌≡◌, refl, Bool, true, false, cond, List, [], ◌∷◌, map, ◌⊎◌, ℕ, zero, suc, ◌+◌, ◌/◌, ◌%◌, ◌^◌, ◌≤◌, ◌<◌, eqb, length, get_or}
use Rattle.std.proofs.Common.{sym, ap, ap₂, ◌∙◌, inl, inr, mod-lt, div-lt_iff_lt-mul, zero-lt-suc, pow-suc, le_refl, arith, pow_pos, eqb-true}
use Rattle.std.proofs.Math.Decide.{ℕ_discrete}
use Rattle.std.proofs.Math.Arith.{lt-one}
use Rattle.std.specs.Int.Bits.{bit_xor, differ, xor_zero_l, xor_zero_r, xor_self}
use Rattle.std.proofs.lemmas.Nat.{xor_comm, xor_lt, xor_shr}
use Rattle.std.proofs.lemmas.Bool.{eqb-false}
use Rattle.strings.proofs.laws.BitLaws.{xor-odd}
use Rattle.codes.specs.Repair.{insert_at}
use Rattle.codes.specs.laws.RepairLaws.{length-insert}
use Rattle.codes.specs.code.Place.{ones}
use Rattle.codes.specs.Hash.{xor_left, xor_right, xorshift, hash_from, hash}
use Rattle.codes.specs.laws.HashLaws.{xor_assoc}

-- the xor of the numbers that l picks
pick : List Bool → List ℕ → ℕ
pick [] rs = 0
pick (b ∷ l) [] = 0
pick (b ∷ l) (r ∷ rs) = bit_xor (cond b r 0) (pick l rs)

-- each number keeps P
data All (P : ℕ → Type 0) : List ℕ → Type 0 where
  none : All P []
  more : {r : ℕ} {rs : List ℕ} → P r → All P rs → All P (r ∷ rs)

abbrev Even : ℕ → Type 0
Even r = r % 2 ≡ 0

abbrev Below : ℕ → ℕ → Type 0
Below h r = r < 2 ^ h

-- some of the numbers, not none of them, have the xor 0
record Dependent (rs : List ℕ) : Type 0 where
  some : List Bool
  as_many : length some ≡ length rs
  nonzero : 0 < ones some
  xor-zero : pick some rs ≡ 0

-- ---- xor
xor-swap : (a b c : ℕ) → bit_xor a (bit_xor b c) ≡ bit_xor b (bit_xor a c)
xor-swap a b c = sym (xor_assoc a b c) ∙ ap (λ (x : ℕ). bit_xor x c) (xor_comm a b) ∙ xor_assoc b a c

xor-twice : (a b : ℕ) → bit_xor a (bit_xor a b) ≡ b
xor-twice a b = sym (xor_assoc a a b) ∙ ap (λ (x : ℕ). bit_xor x b) (xor_self a) ∙ xor_zero_l b

by-halves : (x : ℕ) → x / 2 ≡ 0 → x % 2 ≡ 0 → x ≡ 0
by-halves x e f = omega arith

even-xor : (a b : ℕ) → Even a → Even b → Even (bit_xor a b)
even-xor a b e f = xor-odd a b ∙ ap₂ differ e f

odd-xor : (a b : ℕ) → (a % 2 ≡ 0 → ⊥) → (b % 2 ≡ 0 → ⊥) → Even (bit_xor a b)
odd-xor a b e f =
    let p : a % 2 ≡ 1 = omega (arith, one a e) in
    let q : b % 2 ≡ 1 = omega (arith, one b f) in
    xor-odd a b ∙ ap₂ differ p q
  where
    one : (x : ℕ) → (x % 2 ≡ 0 → ⊥) → x % 2 ≡ 1
    one x h = go (ℕ_discrete (x % 2) 0)
      where
        go : Dec (x % 2 ≡ 0) → x % 2 ≡ 1
        go (yes z) = absurd (h z)
        go (no z) = omega arith

-- ---- picks
abbrev half : ℕ → ℕ
half x = x / 2

pick-half : (l : List Bool) (rs : List ℕ) → pick l rs / 2 ≡ pick l (map half rs)
unfolding pick
pick-half [] rs = refl
pick-half (b ∷ l) [] = refl
pick-half (true ∷ l) (r ∷ rs) = xor_shr r (pick l rs) 1 ∙ ap (bit_xor (r / 2)) (pick-half l rs)
pick-half (false ∷ l) (r ∷ rs) = xor_shr 0 (pick l rs) 1 ∙ ap (bit_xor 0) (pick-half l rs)

pick_even : (l : List Bool) (rs : List ℕ) → All Even rs → Even (pick l rs)
unfolding pick
pick_even [] rs a = refl
pick_even (b ∷ l) [] a = refl
pick_even (true ∷ l) (r ∷ rs) (more e a) = even-xor r (pick l rs) e (pick_even l rs a)
pick_even (false ∷ l) (r ∷ rs) (more e a) = even-xor 0 (pick l rs) refl (pick_even l rs a)

-- even numbers whose halves have the xor 0 have the xor 0
halves-zero : (l : List Bool) (rs : List ℕ) → All Even rs → pick l (map half rs) ≡ 0 → pick l rs ≡ 0
halves-zero l rs a e = by-halves (pick l rs) (pick-half l rs ∙ e) (pick_even l rs a)

-- ---- one number taken out of the list
remove_at : ℕ → List ℕ → List ℕ
remove_at k [] = []
remove_at zero (r ∷ rs) = rs
remove_at (suc k) (r ∷ rs) = r ∷ remove_at k rs

length-remove : (k : ℕ) (rs : List ℕ) → k < length rs → length (remove_at k rs) + 1 ≡ length rs
unfolding remove_at
length-remove k [] h = absurd (omega arith)
length-remove zero (r ∷ rs) h = omega arith
length-remove (suc k) (r ∷ rs) h = let e = length-remove k rs (omega arith) in omega arith

all_remove : {P : ℕ → Type 0} (k : ℕ) (rs : List ℕ) → All P rs → All P (remove_at k rs)
unfolding remove_at
all_remove k [] a = a
all_remove zero (r ∷ rs) (more p a) = a
all_remove (suc k) (r ∷ rs) (more p a) = more p (all_remove k rs a)

all-at : (h k : ℕ) (rs : List ℕ) → All (Below h) rs → k < length rs → get_or rs k 0 < 2 ^ h
all-at h k [] a l = absurd (omega arith)
all-at h zero (r ∷ rs) (more p a) l = p
all-at h (suc k) (r ∷ rs) (more p a) l = all-at h k rs a (omega arith)

pick-insert : (k : ℕ) (b : Bool) (l : List Bool) (rs : List ℕ) → k < length rs → k ≤ length l
    → pick (insert_at k b l) rs ≡ bit_xor (cond b (get_or rs k 0) 0) (pick l (remove_at k rs))
unfolding pick remove_at
pick-insert k b l [] h q = absurd (omega arith)
pick-insert zero b l (r ∷ rs) h q = refl
pick-insert (suc k) b [] (r ∷ rs) h q = absurd (omega arith)
pick-insert (suc k) b (x ∷ l) (r ∷ rs) h q =
    ap (bit_xor (cond x r 0)) (pick-insert k b l rs (omega arith) (omega arith))
    ∙ xor-swap (cond x r 0) (cond b (get_or rs k 0) 0) (pick l (remove_at k rs))

ones-insert : (k : ℕ) (b : Bool) (l : List Bool) → ones l ≤ ones (insert_at k b l)
ones-insert zero true l = omega arith
ones-insert zero false l = le_refl (ones l)
ones-insert (suc k) b [] = omega arith
ones-insert (suc k) b (true ∷ l) = let e = ones-insert k b l in omega arith
ones-insert (suc k) b (false ∷ l) = ones-insert k b l

-- ---- an odd number p is added to the other odd numbers, which makes them even
fix : ℕ → ℕ → ℕ
fix p x = cond (eqb (x % 2) 0) x (bit_xor x p)

fix-even : (p x : ℕ) → (p % 2 ≡ 0 → ⊥) → Even (fix p x)
unfolding fix
fix-even p x o = go (eqb (x % 2) 0) refl
  where
    go : (t : Bool) → eqb (x % 2) 0 ≡ t → Even (cond t x (bit_xor x p))
    go true e = eqb-true (x % 2) 0 e
    go false e = odd-xor x p (eqb-false (x % 2) 0 e) o

fix-below : (h p x : ℕ) → p < 2 ^ h → x < 2 ^ h → fix p x < 2 ^ h
unfolding fix
fix-below h p x a b = go (eqb (x % 2) 0)
  where
    go : (t : Bool) → cond t x (bit_xor x p) < 2 ^ h
    go true = b
    go false = xor_lt h x p b a

all-fixed-even : (p : ℕ) (rs : List ℕ) → (p % 2 ≡ 0 → ⊥) → All Even (map (fix p) rs)
all-fixed-even p [] o = none
all-fixed-even p (r ∷ rs) o = more (fix-even p r o) (all-fixed-even p rs o)

all-fixed-below : (h p : ℕ) (rs : List ℕ) → p < 2 ^ h → All (Below h) rs → All (Below h) (map (fix p) rs)
all-fixed-below h p [] b a = none
all-fixed-below h p (r ∷ rs) b (more q a) = more (fix-below h p r b q) (all-fixed-below h p rs b a)

all-half-below : (h : ℕ) (rs : List ℕ) → All (Below (suc h)) rs → All (Below h) (map half rs)
all-half-below h [] a = none
all-half-below h (r ∷ rs) (more q a) = more ((div-lt_iff_lt-mul (zero-lt-suc 1)).1 (rw pow-suc at q)) (all-half-below h rs a)

length-mapped : (f : ℕ → ℕ) (rs : List ℕ) → length (map f rs) ≡ length rs
length-mapped f [] = refl
length-mapped f (r ∷ rs) = ap suc (length-mapped f rs)

-- the xor then changes by p or not at all
fixed-pick : (p : ℕ) (l : List Bool) (rs : List ℕ) → (c : Bool) × (pick l (map (fix p) rs) ≡ bit_xor (cond c p 0) (pick l rs))
unfolding pick fix
fixed-pick p [] rs = (false, sym (xor_zero_l 0))
fixed-pick p (b ∷ l) [] = (false, sym (xor_zero_l 0))
fixed-pick p (false ∷ l) (r ∷ rs) =
    let q = fixed-pick p l rs in
    (q.0, ap (bit_xor 0) q.1 ∙ xor-swap 0 (cond q.0 p 0) (pick l rs))
fixed-pick p (true ∷ l) (r ∷ rs) = let q = fixed-pick p l rs in go (eqb (r % 2) 0) q.0 q.1
  where
    go : (t c : Bool) → pick l (map (fix p) rs) ≡ bit_xor (cond c p 0) (pick l rs)
        → (d : Bool) × (bit_xor (cond t r (bit_xor r p)) (pick l (map (fix p) rs)) ≡ bit_xor (cond d p 0) (bit_xor r (pick l rs)))
    go true c e = (c, ap (bit_xor r) e ∙ xor-swap r (cond c p 0) (pick l rs))
    go false true e =
        (false, ap (bit_xor (bit_xor r p)) e ∙ xor_assoc r p (bit_xor p (pick l rs)) ∙ ap (bit_xor r) (xor-twice p (pick l rs)) ∙ sym (xor_zero_l (bit_xor r (pick l rs))))
    go false false e =
        (true, ap (bit_xor (bit_xor r p)) (e ∙ xor_zero_l (pick l rs)) ∙ xor_assoc r p (pick l rs) ∙ xor-swap r p (pick l rs))

-- ---- the theorem on numbers
find-odd : (rs : List ℕ) → All Even rs ⊎ ((k : ℕ) × (k < length rs) × (get_or rs k 0 % 2 ≡ 0 → ⊥))
find-odd [] = inl none
find-odd (r ∷ rs) = go (ℕ_discrete (r % 2) 0) (find-odd rs)
  where
    go : Dec (r % 2 ≡ 0) → All Even rs ⊎ ((k : ℕ) × (k < length rs) × (get_or rs k 0 % 2 ≡ 0 → ⊥))
        → All Even (r ∷ rs) ⊎ ((k : ℕ) × (k < suc (length rs)) × (get_or (r ∷ rs) k 0 % 2 ≡ 0 → ⊥))
    go (no o) q = inr (0, omega arith, o)
    go (yes e) (inl a) = inl (more e a)
    go (yes e) (inr (k, l, o)) = inr (suc k, omega arith, o)

dependent : (h : ℕ) (rs : List ℕ) → length rs ≡ suc h → All (Below h) rs → Dependent rs
unfolding pick
dependent zero [] e a = absurd (omega arith)
dependent zero (r ∷ s ∷ rs) e a = absurd (omega arith)
dependent zero (r ∷ []) e (more p a) = record { some = true ∷ []; as_many = refl; nonzero = omega arith; xor-zero = xor_zero_r r ∙ lt-one p }
dependent (suc h) [] e a = absurd (omega arith)
dependent (suc h) (r ∷ rs) e a = go (find-odd (r ∷ rs)) a (dependent h)
  where
    go : All Even (r ∷ rs) ⊎ ((k : ℕ) × (k < suc (length rs)) × (get_or (r ∷ rs) k 0 % 2 ≡ 0 → ⊥)) → All (Below (suc h)) (r ∷ rs)
        → ((xs : List ℕ) → length xs ≡ suc h → All (Below h) xs → Dependent xs) → Dependent (r ∷ rs)
    go (inl (more p v)) (more q b) fewer =
        let d = fewer (map half rs) (let n = length-mapped half rs in omega arith) (all-half-below h rs b) in
        let n = d.as_many in
        let m = length-mapped half rs in
        record {
          some = false ∷ d.some;
          as_many = omega arith;
          nonzero = d.nonzero;
          xor-zero = xor_zero_l (pick d.some rs) ∙ halves-zero d.some rs v d.xor-zero;
        }
    go (inr (k, l, o)) b fewer =
        let p = get_or (r ∷ rs) k 0 in
        let others = remove_at k (r ∷ rs) in
        let fixed = map (fix p) others in
        let n = length-remove k (r ∷ rs) l in
        let m = length-mapped (fix p) others in
        let m' = length-mapped half fixed in
        let below = all-fixed-below (suc h) p others (all-at (suc h) k (r ∷ rs) b l) (all_remove k (r ∷ rs) b) in
        let d = fewer (map half fixed) (omega arith) (all-half-below h fixed below) in
        let c = fixed-pick p d.some others in
        let many = d.as_many in
        let more-ones = ones-insert k c.0 d.some in
        let above = d.nonzero in
        let i = length-insert k c.0 d.some in
        record {
          some = insert_at k c.0 d.some;
          as_many = omega arith;
          nonzero = omega arith;
          xor-zero = pick-insert k c.0 d.some (r ∷ rs) l (omega arith) ∙ sym c.1 ∙ halves-zero d.some fixed (all-fixed-even p others o) d.xor-zero;
        }

-- ---- the low h bits of the rows are such numbers
low_rows : (h v n : ℕ) → List ℕ
low_rows h v zero = []
low_rows h v (suc n) = xorshift v % 2 ^ h ∷ low_rows h (xorshift v) n

length-rows : (h v n : ℕ) → length (low_rows h v n) ≡ n
unfolding low_rows
length-rows h v zero = refl
length-rows h v (suc n) = ap suc (length-rows h (xorshift v) n)

rows-below : (h v n : ℕ) → All (Below h) (low_rows h v n)
unfolding low_rows
rows-below h v zero = none
rows-below h v (suc n) = more (mod-lt (xorshift v) (pow_pos h)) (rows-below h (xorshift v) n)

hash-pick : (h v n : ℕ) (l : List Bool) → length l ≡ n → hash_from h v l ≡ pick l (low_rows h v n)
unfolding hash_from pick low_rows
hash-pick h v n [] e = refl
hash-pick h v zero (b ∷ l) e = absurd (omega arith)
hash-pick h v (suc n) (b ∷ l) e = ap (bit_xor (cond b (xorshift v % 2 ^ h) 0)) (hash-pick h (xorshift v) n l (omega arith))

pub record Collision (h key : ℕ) : Type 0 where
  pub bits : List Bool
  pub long : length bits ≡ h + 1
  pub nonzero : 0 < ones bits
  pub hashes : hash h key bits ≡ 0

pub hash-collides : (h key : ℕ) → Collision h key
unfolding hash
hash-collides h key =
    let d = dependent h (low_rows h key (suc h)) (length-rows h key (suc h)) (rows-below h key (suc h)) in
    let n = length-rows h key (suc h) in
    let many = d.as_many in
    record {
      bits = d.some;
      long = omega arith;
      nonzero = d.nonzero;
      hashes = hash-pick h key (suc h) d.some (omega arith) ∙ d.xor-zero;
    }

-- for h 8 and key 1 it is this one
pub hash-eight-collides : hash 8 1 (false ∷ true ∷ false ∷ false ∷ true ∷ true ∷ false ∷ false ∷ false ∷ []) ≡ 0
unfolding hash hash_from xorshift xor_left xor_right
hash-eight-collides = refl
