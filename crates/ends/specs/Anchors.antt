-- 01, "The rebuilder": where an anchor is placed.
use Rattle.std.specs.Prelude.{◌≡◌, Bool, true, cond, ◌&&◌, List, [], ◌∷◌, ℕ, zero, suc, ◌+◌, ◌-◌, ◌*◌, ◌≤◌, ◌<◌, length, take, drop, leb}
use Rattle.std.proofs.Math.Option.{Option, none, some}
use Rattle.strings.specs.Bits.{same_bits}

-- the p elements of l from x on
abbrev pub part : List Bool → ℕ → ℕ → List Bool
part l x p = take p (drop x l)

-- the largest number whose square is at most n
unfoldable pub isqrt : ℕ → ℕ
isqrt zero = 0
isqrt (suc n) = cond (leb ((isqrt n + 1) * (isqrt n + 1)) (suc n)) (isqrt n + 1) (isqrt n)

-- |a - b|
abbrev pub distance : ℕ → ℕ → ℕ
distance a b = (a - b) + (b - a)

-- |2r - (2s + q - p)|: how far from its due place an anchor at offset s of a piece of p bits stands at place r of q bits, doubled
abbrev pub place_distance : (p q s r : ℕ) → ℕ
place_distance p q s r = distance (2 * r + p) (2 * s + q)

-- the anchor b may stand at place r of ys: the bits there equal it, and it is near enough for the window factor k
abbrev pub fits : (m k p s : ℕ) → (ys b : List Bool) → ℕ → Bool
fits m k p s ys b r = same_bits (part ys r m) b && leb (place_distance p (length ys) s r) (2 * k * isqrt (length ys))

-- o is 01's choice among the places i to i + n - 1 that pass the test f: of the smallest distance d, on a tie the smaller; none if none passes
abbrev pub Best : (ℕ → Bool) → (ℕ → ℕ) → ℕ → ℕ → Option ℕ → Type 0
Best f d i n none = (r : ℕ) → i ≤ r → r < i + n → f r ≡ true → ⊥
Best f d i n (some b) = (i ≤ b) × (b < i + n) × (f b ≡ true) × ((r : ℕ) → i ≤ r → r < i + n → f r ≡ true → (d b ≤ d r) × (d b ≡ d r → b ≤ r))

-- the places i to i + n - 1
abbrev pub places : ℕ → ℕ → List ℕ
places i zero = []
places i (suc n) = i ∷ places (suc i) n

abbrev pub nearer : (ℕ → ℕ) → ℕ → Option ℕ → ℕ
nearer d r none = r
nearer d r (some q) = cond (leb (d r) (d q)) r q

-- the choice computed
abbrev pub nearest : (ℕ → Bool) → (ℕ → ℕ) → List ℕ → Option ℕ
nearest f d [] = none
nearest f d (r ∷ l) = cond (f r) (some (nearer d r (nearest f d l))) (nearest f d l)

-- where the anchor b of m bits, at offset s of a piece of p bits, is placed in its copy ys: among the places 0 to q - m (AnchorLaws: it is Best there)
unfoldable pub place : (m k p s : ℕ) → (ys b : List Bool) → Option ℕ
place m k p s ys b = nearest (fits m k p s ys b) (place_distance p (length ys) s) (places 0 (length ys + 1 - m))
