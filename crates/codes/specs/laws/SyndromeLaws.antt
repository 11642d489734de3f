-- Laws of the weighted sum and of the syndrome, for every length.
use Rattle.std.specs.Prelude.{◌≡◌, refl, Bool, true, false, cond, List, [], ◌∷◌, ◌++◌, ℕ, zero, suc, ◌+◌, ◌%◌, ◌≤◌, ◌<◌, length, take, drop, get_or}
use Rattle.std.proofs.Common.{sym, ap, ◌∙◌, mod-lt, le_refl, add-zero, zero-add, arith}
use mir.Val.{bool_byte}
use Rattle.codes.specs.Syndrome.{weighted_sum, syndrome}
use Rattle.codes.specs.Repair.{without, insert_at}
use Rattle.codes.specs.code.Place.{ones, zeros}

-- ---- the sum
pub weighted-sum-append : (k : ℕ) (l m : List Bool) → weighted_sum k (l ++ m) ≡ weighted_sum k l + weighted_sum (k + length l) m
weighted-sum-append k [] m = sym (zero-add (weighted_sum (k + 0) m) ∙ ap (λ (x : ℕ). weighted_sum x m) (add-zero k))
weighted-sum-append k (true ∷ l) m =
    let e = weighted-sum-append (suc k) l m in
    let n : suc k + length l ≡ k + suc (length l) = omega arith in
    let f = ap (λ (x : ℕ). weighted_sum x m) n in
    omega arith
weighted-sum-append k (false ∷ l) m =
    let e = weighted-sum-append (suc k) l m in
    let n : suc k + length l ≡ k + suc (length l) = omega arith in
    let f = ap (λ (x : ℕ). weighted_sum x m) n in
    omega arith

-- every place one later
pub weighted-sum-later : (k : ℕ) (l : List Bool) → weighted_sum (suc k) l ≡ weighted_sum k l + ones l
weighted-sum-later k [] = refl
weighted-sum-later k (true ∷ l) = let h = weighted-sum-later (suc k) l in omega arith
weighted-sum-later k (false ∷ l) = weighted-sum-later (suc k) l

-- a 0 put in adds the ones to its right
pub weighted-sum-insert-zero : (k p : ℕ) (l : List Bool) → weighted_sum k (insert_at p false l) ≡ weighted_sum k l + ones (drop p l)
weighted-sum-insert-zero k zero l = weighted-sum-later k l
weighted-sum-insert-zero k (suc p) [] = refl
weighted-sum-insert-zero k (suc p) (true ∷ l) = let h = weighted-sum-insert-zero (suc k) p l in omega arith
weighted-sum-insert-zero k (suc p) (false ∷ l) = weighted-sum-insert-zero (suc k) p l

-- a 1 put in adds its place and the ones to its right
pub weighted-sum-insert-one : (k p : ℕ) (l : List Bool) → p ≤ length l → weighted_sum k (insert_at p true l) ≡ weighted_sum k l + k + p + ones (drop p l)
weighted-sum-insert-one k zero l h = let e = weighted-sum-later k l in omega arith
weighted-sum-insert-one k (suc p) [] h = absurd (omega arith)
weighted-sum-insert-one k (suc p) (true ∷ l) h = let e = weighted-sum-insert-one (suc k) p l (omega arith) in omega arith
weighted-sum-insert-one k (suc p) (false ∷ l) h = let e = weighted-sum-insert-one (suc k) p l (omega arith) in omega arith

-- a bit taken out takes its weight and the ones to its right
pub weighted-sum-without : (k i : ℕ) (l : List Bool) → i < length l → weighted_sum k (without i l) + cond (get_or l i false) (k + i) 0 + ones (drop (suc i) l) ≡ weighted_sum k l
weighted-sum-without k i [] h = absurd (omega arith)
weighted-sum-without k zero (true ∷ l) h = let e = weighted-sum-later k l in omega arith
weighted-sum-without k zero (false ∷ l) h = let e = weighted-sum-later k l in omega arith
weighted-sum-without k (suc i) (true ∷ l) h = let e = weighted-sum-without (suc k) i l (omega arith) in go (get_or l i false) e
  where
    go : (b : Bool) → weighted_sum (suc k) (without i l) + cond b (suc k + i) 0 + ones (drop (suc i) l) ≡ weighted_sum (suc k) l
        → k + weighted_sum (suc k) (without i l) + cond b (k + suc i) 0 + ones (drop (suc i) l) ≡ k + weighted_sum (suc k) l
    go true e = omega arith
    go false e = omega arith
weighted-sum-without k (suc i) (false ∷ l) h = let e = weighted-sum-without (suc k) i l (omega arith) in go (get_or l i false) e
  where
    go : (b : Bool) → weighted_sum (suc k) (without i l) + cond b (suc k + i) 0 + ones (drop (suc i) l) ≡ weighted_sum (suc k) l
        → weighted_sum (suc k) (without i l) + cond b (k + suc i) 0 + ones (drop (suc i) l) ≡ weighted_sum (suc k) l
    go true e = omega arith
    go false e = omega arith

-- ---- counts
pub ones-zeros : (l : List Bool) → ones l + zeros l ≡ length l
ones-zeros [] = refl
ones-zeros (true ∷ l) = let h = ones-zeros l in omega arith
ones-zeros (false ∷ l) = let h = ones-zeros l in omega arith

pub ones-append : (l m : List Bool) → ones (l ++ m) ≡ ones l + ones m
ones-append [] m = omega arith
ones-append (true ∷ l) m = let h = ones-append l m in omega arith
ones-append (false ∷ l) m = ones-append l m

pub ones-drop : (p : ℕ) (l : List Bool) → ones (drop p l) ≤ ones l
ones-drop zero l = le_refl (ones l)
ones-drop (suc p) [] = omega arith
ones-drop (suc p) (true ∷ l) = let h = ones-drop p l in omega arith
ones-drop (suc p) (false ∷ l) = ones-drop p l

pub ones-drop-most : (p : ℕ) (l : List Bool) → ones l ≤ ones (drop p l) + p
ones-drop-most zero l = omega arith
ones-drop-most (suc p) [] = omega arith
ones-drop-most (suc p) (true ∷ l) = let h = ones-drop-most p l in omega arith
ones-drop-most (suc p) (false ∷ l) = let h = ones-drop-most p l in omega arith

pub zeros-take : (p : ℕ) (l : List Bool) → zeros (take p l) ≤ zeros l
zeros-take zero l = omega arith
zeros-take (suc p) [] = omega arith
zeros-take (suc p) (true ∷ l) = zeros-take p l
zeros-take (suc p) (false ∷ l) = let h = zeros-take p l in omega arith

-- a place and the ones from there on: the zeros before it and all the ones
pub place-ones : (p : ℕ) (l : List Bool) → p ≤ length l → p + ones (drop p l) ≡ zeros (take p l) + ones l
place-ones zero l h = omega arith
place-ones (suc p) [] h = absurd (omega arith)
place-ones (suc p) (true ∷ l) h = let e = place-ones p l (omega arith) in omega arith
place-ones (suc p) (false ∷ l) h = let e = place-ones p l (omega arith) in omega arith

-- ---- the syndrome
pub syndrome-empty : syndrome [] ≡ 0
unfolding syndrome
syndrome-empty = refl

pub syndrome-most : (l : List Bool) → syndrome l ≤ length l
unfolding syndrome
syndrome-most l = let h : weighted_sum 1 l % (length l + 1) < length l + 1 = mod-lt (weighted_sum 1 l) (omega arith) in omega arith

-- from the numbers that a function holds: the length and the sum
pub syndrome-is : (l : List Bool) (n x : ℕ) → length l ≡ n → x ≡ weighted_sum 1 l → x % (n + 1) ≡ syndrome l
unfolding syndrome
syndrome-is l n x e f = rw (e, f) refl

-- ---- one more bit read, for a function that passes over the bits
pub bit-most : (b : Bool) → bool_byte b ≤ 1
bit-most true = omega arith
bit-most false = omega arith

pub ones-next : (l l' : List Bool) (b : Bool) → l ≡ b ∷ l' → ones l ≡ ones l' + bool_byte b
ones-next l l' b e = ap ones e ∙ go b
  where
    go : (b : Bool) → ones (b ∷ l') ≡ ones l' + bool_byte b
    go true = omega arith
    go false = omega arith
