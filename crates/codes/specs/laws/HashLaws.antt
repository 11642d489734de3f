-- Laws of the xorshift rows and of the hash, for every width h, every row before the first bit and every length.
use Rattle.std.specs.Prelude.{◌≡◌, refl, Bool, true, false, cond, List, [], ◌∷◌, ◌++◌, ℕ, zero, suc, ◌+◌, ◌*◌, ◌/◌, ◌%◌, ◌^◌, ◌<◌, ◌≤◌, length}
use Rattle.std.proofs.Common.{sym, ap, ap₂, ◌∙◌, subst, mod-lt, mod-eq_of_lt, one-mul, add-zero, add-suc, arith, length-append, pow_pos}
use Rattle.std.proofs.Math.Nat.{zero-mod}
use Rattle.std.proofs.Math.Arith.{bin_ind}
use Rattle.std.proofs.Math.Pow.{pow-lt}
use Rattle.std.proofs.lemmas.Nat.{shr_le, xor_shr, xor_lt, xor_mod}
use Rattle.std.specs.Int.Bits.{bit_xor, differ, xor_step, xor_zero_l, xor_zero_r}
use Rattle.strings.proofs.laws.BitLaws.{xor-odd}
use Rattle.codes.specs.Hash.{xor_left, xor_right, xorshift, hash_row, hash_from, hash}
use Rattle.codes.specs.declared.rows.Hashing.{Hashing}
use Rattle.codes.specs.code.HashForms.{hash_rows, whole_hash, Went}

-- ---- xor is associative
xor-half : (a b : ℕ) → bit_xor a b / 2 ≡ bit_xor (a / 2) (b / 2)
xor-half a b = xor_shr a b 1

differ-assoc : (a b c : ℕ) → a < 2 → b < 2 → c < 2 → differ (differ a b) c ≡ differ a (differ b c)
differ-assoc zero b c ha hb hc = refl
differ-assoc (suc zero) zero c ha hb hc = refl
differ-assoc (suc zero) (suc zero) zero ha hb hc = refl
differ-assoc (suc zero) (suc zero) (suc zero) ha hb hc = refl
differ-assoc (suc zero) (suc zero) (suc (suc c)) ha hb hc = absurd (omega arith)
differ-assoc (suc zero) (suc (suc b)) c ha hb hc = absurd (omega arith)
differ-assoc (suc (suc a)) b c ha hb hc = absurd (omega arith)

pub xor_assoc : (a b c : ℕ) → bit_xor (bit_xor a b) c ≡ bit_xor a (bit_xor b c)
xor_assoc a =
    bin_ind (λ (n : ℕ). (b c : ℕ) → bit_xor (bit_xor n b) c ≡ bit_xor n (bit_xor b c))
    (λ b c. ap (λ (x : ℕ). bit_xor x c) (xor_zero_l b) ∙ sym (xor_zero_l (bit_xor b c)))
    (λ n ih b c.
    xor_step (bit_xor n b) c ∙ ap₂ (λ (x y : ℕ). bit_xor x (c / 2) * 2 + differ y (c % 2)) (xor-half n b) (xor-odd n b)
    ∙ ap₂ (λ (x y : ℕ). x * 2 + y) (ih (b / 2) (c / 2)) (differ-assoc (n % 2) (b % 2) (c % 2) (omega arith) (omega arith) (omega arith))
    ∙ ap₂ (λ (x y : ℕ). bit_xor (n / 2) x * 2 + differ (n % 2) y) (sym (xor-half b c)) (sym (xor-odd b c)) ∙ sym (xor_step n (bit_xor b c)))
    a

-- ---- rows stay below 2^32
xor-left-below : (k v : ℕ) → v < 2 ^ 32 → xor_left k v < 2 ^ 32
unfolding xor_left
xor-left-below k v h = xor_lt 32 v (v * 2 ^ k % 2 ^ 32) h (mod-lt (v * 2 ^ k) (pow_pos 32))

xor-right-below : (k v : ℕ) → v < 2 ^ 32 → xor_right k v < 2 ^ 32
unfolding xor_right
xor-right-below k v h = xor_lt 32 v (v / 2 ^ k) h (let e = shr_le v k in omega arith)

pub xorshift-below : (v : ℕ) → v < 2 ^ 32 → xorshift v < 2 ^ 32
unfolding xorshift
xorshift-below v h = xor-left-below 5 (xor_right 17 (xor_left 13 v)) (xor-right-below 17 (xor_left 13 v) (xor-left-below 13 v h))

pub hash-row-below : (v i : ℕ) → v < 2 ^ 32 → hash_row v i < 2 ^ 32
unfolding hash_row
hash-row-below v zero h = h
hash-row-below v (suc i) h = xorshift-below (hash_row v i) (hash-row-below v i h)

-- one step before, one row later
pub hash-row-shift : (v i : ℕ) → hash_row (xorshift v) i ≡ hash_row v (suc i)
unfolding hash_row
hash-row-shift v zero = refl
hash-row-shift v (suc i) = ap xorshift (hash-row-shift v i)

-- i rows and then j are i + j rows
pub hash-row-add : (v i j : ℕ) → hash_row (hash_row v i) j ≡ hash_row v (i + j)
unfolding hash_row
hash-row-add v i zero = ap (hash_row v) (sym (add-zero i))
hash-row-add v i (suc j) = ap xorshift (hash-row-add v i j) ∙ ap (hash_row v) (sym (add-suc i j))

-- ---- the hash
pub hash-empty : (h v : ℕ) → hash_from h v [] ≡ 0
unfolding hash_from
hash-empty h v = refl

cut_below : (h : ℕ) (b : Bool) (v : ℕ) → cond b (v % 2 ^ h) 0 < 2 ^ h
cut_below h true v = mod-lt v (pow_pos h)
cut_below h false v = pow_pos h

pub hash-from-below : (h v : ℕ) (l : List Bool) → hash_from h v l < 2 ^ h
unfolding hash_from
hash-from-below h v [] = pow_pos h
hash-from-below h v (b ∷ l) = xor_lt h (cond b (xorshift v % 2 ^ h) 0) (hash_from h (xorshift v) l) (cut_below h b (xorshift v)) (hash-from-below h (xorshift v) l)

pub hash-below : (h key : ℕ) (l : List Bool) → hash h key l < 2 ^ h
unfolding hash
hash-below h key l = hash-from-below h key l

-- ---- 01's words: "the xor of the low h bits of row i over its set bits, i counted from the piece's start", i from 1
hash-rows-from : (h key i : ℕ) (l : List Bool) → hash_from h (hash_row key i) l ≡ hash_rows h key (suc i) l
unfolding hash_from hash_rows hash_row
hash-rows-from h key i [] = refl
hash-rows-from h key i (b ∷ l) = ap (bit_xor (cond b (hash_row key (suc i) % 2 ^ h) 0)) (hash-rows-from h key (suc i) l)

pub hash-rows : (h key : ℕ) (l : List Bool) → hash h key l ≡ hash_rows h key 1 l
unfolding hash hash_row
hash-rows h key l = hash-rows-from h key 0 l

-- ---- the low h bits can be taken once, at the end
cut-whole : (h : ℕ) (b : Bool) (v : ℕ) → cond b (v % 2 ^ h) 0 ≡ cond b v 0 % 2 ^ h
cut-whole h true v = refl
cut-whole h false v = sym (zero-mod (2 ^ h))

pub hash-whole : (h v : ℕ) (l : List Bool) → hash_from h v l ≡ whole_hash v l % 2 ^ h
unfolding hash_from whole_hash
hash-whole h v [] = sym (zero-mod (2 ^ h))
hash-whole h v (b ∷ l) =
    ap₂ bit_xor (cut-whole h b (xorshift v)) (hash-whole h (xorshift v) l) ∙ sym (xor_mod (cond b (xorshift v) 0) (whole_hash (xorshift v) l) h)

-- over ++: the second part goes on with the rows behind the first
whole_append : (v : ℕ) (l m : List Bool) → whole_hash v (l ++ m) ≡ bit_xor (whole_hash v l) (whole_hash (hash_row v (length l)) m)
unfolding whole_hash hash_row
whole_append v [] m = sym (xor_zero_l (whole_hash v m))
whole_append v (b ∷ l) m =
    ap (bit_xor (cond b (xorshift v) 0)) (whole_append (xorshift v) l m ∙ ap (λ (x : ℕ). bit_xor (whole_hash (xorshift v) l) (whole_hash x m)) (hash-row-shift v (length l)))
    ∙ sym (xor_assoc (cond b (xorshift v) 0) (whole_hash (xorshift v) l) (whole_hash (hash_row v (suc (length l))) m))

-- ---- a hash under way
pub went-first : (x v : ℕ) (l m : List Bool) → l ≡ m → Went x v l (bit_xor x (whole_hash v m)) (hash_row v (length m))
went-first x v l m e = record { sums = ap (λ (u : List Bool). bit_xor x (whole_hash v u)) (sym e); rows = ap (λ (u : List Bool). hash_row v (length u)) (sym e) }

pub went_none : (x v : ℕ) → Went x v [] x v
unfolding whole_hash hash_row
went_none x v = record { sums = sym (xor_zero_r x); rows = refl }

pub went-last : (x v y w : ℕ) (l : List Bool) → l ≡ [] → Went x v l y w → (x ≡ y) × (v ≡ w)
unfolding whole_hash hash_row
went-last x v y w l e p =
    (sym (p.sums ∙ ap (λ (u : List Bool). bit_xor x (whole_hash v u)) e ∙ xor_zero_r x), sym (p.rows ∙ ap (λ (u : List Bool). hash_row v (length u)) e))

pub went-bit : (x v x' v' : ℕ) (b : Bool) → x' ≡ bit_xor x (cond b v' 0) → v' ≡ xorshift v → Went x v (b ∷ []) x' v'
unfolding whole_hash hash_row
went-bit x v x' v' b e f =
    record { sums = e ∙ ap (λ (u : ℕ). bit_xor x (cond b u 0)) f ∙ ap (bit_xor x) (sym (xor_zero_r (cond b (xorshift v) 0))); rows = f }

module _ (x v x' v' y w : ℕ) (l m : List Bool) (p : Went x v l x' v') where
  pub went_on : Went x' v' m y w → Went x v (l ++ m) y w
  went_on q = record {
    sums =
        q.sums ∙ ap₂ (λ (a b : ℕ). bit_xor a (whole_hash b m)) p.sums p.rows ∙ xor_assoc x (whole_hash v l) (whole_hash (hash_row v (length l)) m)
        ∙ ap (bit_xor x) (sym (whole_append v l m));
    rows = q.rows ∙ ap (λ (a : ℕ). hash_row a (length m)) p.rows ∙ hash-row-add v (length l) (length m) ∙ ap (hash_row v) (sym (length-append l m));
  }

  -- what a loop keeps: it has gone over l, the first of the bits k that lead to y and w, and m is left
  pub went-next : (k : List Bool) → k ≡ l ++ m → Went x v k y w → Went x' v' m y w
  went-next k e q = record {
    sums =
        q.sums ∙ ap (λ (u : List Bool). bit_xor x (whole_hash v u)) e ∙ ap (bit_xor x) (whole_append v l m) ∙ sym (xor_assoc x (whole_hash v l) (whole_hash (hash_row v (length l)) m))
        ∙ ap₂ (λ (a b : ℕ). bit_xor a (whole_hash b m)) (sym p.sums) (sym p.rows);
    rows = q.rows ∙ ap (λ (u : List Bool). hash_row v (length u)) e ∙ ap (hash_row v) (length-append l m) ∙ sym (hash-row-add v (length l) (length m)) ∙ ap (λ (a : ℕ). hash_row a (length m)) (sym p.rows);
  }

pub went-as : (x v y w : ℕ) (l m : List Bool) → l ≡ m → Went x v l y w → Went x v m y w
went-as x v y w l m e p = subst (λ (u : List Bool). Went x v u y w) e p

pub went-cut : (h key x v : ℕ) (l : List Bool) → Went 0 key l x v → x % 2 ^ h ≡ hash h key l
unfolding hash
went-cut h key x v l p = ap (λ (u : ℕ). u % 2 ^ h) (p.sums ∙ xor_zero_l (whole_hash key l)) ∙ sym (hash-whole h key l)

-- a hash from its start on
pub went-start : (key x v : ℕ) (l m : List Bool) (from : Hashing) → from ≡ record { sum = 0; row = key } → l ≡ m → Went from.sum from.row l x v → Went 0 key m x v
went-start key x v l m from e f p = went-as 0 key x v l m f (subst (λ (u : Hashing). Went u.sum u.row l x v) e p)

-- 1 shifted left by h in 64 bits
pub one_shifted : (h : ℕ) → h ≤ 32 → (1 * 2 ^ h) % 2 ^ 64 ≡ 2 ^ h
one_shifted h l = ap (λ (x : ℕ). x % 2 ^ 64) (one-mul (2 ^ h)) ∙ mod-eq_of_lt (pow-lt {j = 64} (omega arith))
