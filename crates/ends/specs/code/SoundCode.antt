-- What the functions of src/sound.rt require, and laws for their proofs. The test itself is defined in Soundness.
use Rattle.std.specs.Prelude.{◌≡◌, Bool, true, false, ◌&&◌, List, [], ◌∷◌, get_or, length, take, drop, ◌++◌, reverse}
use Rattle.std.proofs.Math.Path.{refl}
use Rattle.std.proofs.Common.{sym, ap, ◌∙◌, div-le_self, mul-le-mul, add-one}
use Rattle.std.proofs.lemmas.List.{get_or-take, get_or-drop, length-take, length-drop, take_more, reverse-append, length-reverse}
use Prim.Native.Nat.{ℕ, zero, suc, ◌+◌, ◌-◌, ◌*◌, ◌/◌, ◌≤◌, ◌<◌}
use native.Mathlib.Omega.{arith}
use borrow.Author.Tests.{lt-leb, le-leb}
use Rattle.ends.specs.declared.Piece.{Piece}
use Rattle.ends.specs.declared.Rebuilder.{Rebuilder}
use Rattle.strings.specs.SettingLimits.{Limits, within_limits}
use Rattle.ends.specs.Soundness.{bound, is_blank, blank_from, piece_fits, in_order, rows_of_waiting, asks_left, phase_sound, sound, sound_at}
use Rattle.ends.specs.States.{no_piece, held}
use Rattle.ends.specs.laws.StackLaws.{held-length}
use Rattle.strings.specs.Bits.{max_bits}
use Rattle.ends.specs.declared.Phase.{Phase}

-- the sum of a·floor(p/m) + b over pieces
unfoldable pub work_left : (a b m : ℕ) → List Piece → ℕ
work_left a b m [] = 0
work_left a b m (pc ∷ l) = a * (pc.p / m) + b + work_left a b m l

-- ---- what is required
-- what the first tests show
pub record Sized (st : Rebuilder) : Type 0 where
  pub limits : Limits st.settings
  pub n-most : st.n ≤ max_bits
  pub few : st.waiting ≤ 32

pub record Work (st : Rebuilder) (a b : ℕ) : Type 0 where
  pub few : st.waiting ≤ 32
  pub m-least : 0 < st.settings.m
  pub a-most : a ≤ 16
  pub b-most : b ≤ 16

-- the sum, with a bound for what is added to it
pub record Sum (st : Rebuilder) (a b r : ℕ) : Type 0 where
  pub is : r ≡ work_left a b st.settings.m (held st.waiting st.pieces)
  pub small : r ≤ 2199023255552

-- ---- laws of the loops
module _ (l : List Piece) (i : ℕ) where
  pub blank-next : i < 32 → (b : Bool) → b ≡ is_blank (get_or l i no_piece) → b ≡ true → blank_from l (32 - i) i ≡ blank_from l (32 - (i + 1)) (i + 1)
  unfolding blank_from
  blank-next h b e f = let n : 32 - i ≡ suc (32 - (i + 1)) = omega arith in rw (n, ← e, f, add-one) refl

  pub blank-not : i < 32 → (b : Bool) → b ≡ is_blank (get_or l i no_piece) → b ≡ false → blank_from l (32 - i) i ≡ false
  unfolding blank_from
  blank-not h b e f = let n : 32 - i ≡ suc (32 - (i + 1)) = omega arith in rw (n, ← e, f) refl

  pub blank-all : 32 ≤ i → blank_from l (32 - i) i ≡ true
  unfolding blank_from
  blank-all h = let n : 32 - i ≡ 0 = omega arith in rw n refl

-- one turn of a loop over the entries from index w on
pub blank-turn : (l : List Piece) (w k : ℕ) → length l ≡ 32 → k < length (take (length l - w) (drop w l)) → (b t : Bool)
    → b ≡ is_blank (get_or (take (length l - w) (drop w l)) k no_piece)
    → ((t && b) && blank_from l (32 - (w + (k + 1))) (w + (k + 1))) ≡ (t && blank_from l (32 - (w + k)) (w + k))
unfolding blank_from
blank-turn l w k z h b true e =
    let d = length-drop w l in
    let s = length-take (length l - w) (drop w l) in
    let n : 32 - (w + k) ≡ suc (32 - (w + (k + 1))) = omega arith in
    let i : suc (w + k) ≡ w + (k + 1) = omega arith in
    rw (n, e, get_or-take (length l - w) (drop w l) k no_piece (omega arith), get_or-drop w l k no_piece, i) refl
blank-turn l w k z h b false e = refl

pub blank-done : (l : List Piece) (w k : ℕ) → length l ≡ 32 → length (take (length l - w) (drop w l)) ≤ k
    → (t : Bool) → (t && blank_from l (32 - (w + k)) (w + k)) ≡ t
blank-done l w k z h true = let d = length-drop w l in let s = length-take (length l - w) (drop w l) in blank-all l (w + k) (omega arith)
blank-done l w k z h false = refl

pub bound-next : (b i : ℕ) → b ≡ bound i → 5 * b / 8 ≡ bound (i + 1)
bound-next b i e = rw (add-one, e) refl

-- the pieces from index i down to 0
pub held_next : (l : List Piece) (i : ℕ) → 0 < i → held i l ≡ get_or l (i - 1) no_piece ∷ held (i - 1) l
held_next l i h = let n : i ≡ suc (i - 1) = omega arith in ap (λ (k : ℕ). held k l) n

-- the waiting pieces are the first w entries, the last of them leftmost
pub held-is : (w : ℕ) (l : List Piece) → w ≤ length l → held w l ≡ reverse (take w l)
held-is zero l h = refl
held-is (suc w) l h =
    let t : take (suc w) l ≡ take w l ++ get_or l w no_piece ∷ [] = rw (← add-one) (take_more l w no_piece (omega arith)) in
    ap (λ (r : List Piece). get_or l w no_piece ∷ r) (held-is w l (omega arith))
    ∙ sym (ap reverse t ∙ reverse-append (take w l) (get_or l w no_piece ∷ []))

-- one turn of a loop over pieces from the last on: of l the last is pc, and r are the others
module _ (n e x y : ℕ) (l r : List Piece) (pc : Piece) (is : l ≡ r ++ pc ∷ []) (b : Bool) (fits : b ≡ piece_fits n e x y (length r) pc) where
  pub order-fits : b ≡ true → (x' y' : ℕ) → x' ≡ pc.x + pc.p → y' ≡ pc.y + pc.q
      → in_order n e x y (reverse l) ≡ in_order n e x' y' (reverse r)
  unfolding in_order
  order-fits f x' y' a c = rw (is, reverse-append r (pc ∷ []), length-reverse r, ← fits, f, a, c) refl

  pub order-fails : b ≡ false → in_order n e x y (reverse l) ≡ false
  unfolding in_order
  order-fails f = rw (is, reverse-append r (pc ∷ []), length-reverse r, ← fits, f) refl

pub order-none : (n e x y : ℕ) (l : List Piece) → length l ≡ 0 → in_order n e x y (reverse l) ≡ true
unfolding in_order
order-none n e x y [] h = refl
order-none n e x y (pc ∷ l) h = absurd (omega arith)

module _ (n e x y : ℕ) (l : List Piece) (i : ℕ) where
  pub order-next : 0 < i → (b : Bool) → b ≡ piece_fits n e x y (i - 1) (get_or l (i - 1) no_piece) → b ≡ true → (x' y' : ℕ)
      → x' ≡ (get_or l (i - 1) no_piece).x + (get_or l (i - 1) no_piece).p → y' ≡ (get_or l (i - 1) no_piece).y + (get_or l (i - 1) no_piece).q
      → in_order n e x y (held i l) ≡ in_order n e x' y' (held (i - 1) l)
  unfolding in_order
  order-next h b f g x' y' a c = rw (held_next l i h, held-length (i - 1) l, ← f, g, a, c) refl

  pub order-not : 0 < i → (b : Bool) → b ≡ piece_fits n e x y (i - 1) (get_or l (i - 1) no_piece) → b ≡ false → in_order n e x y (held i l) ≡ false
  unfolding in_order
  order-not h b f g = rw (held_next l i h, held-length (i - 1) l, ← f, g) refl

  pub order-all : i ≤ 0 → in_order n e x y (held i l) ≡ true
  unfolding in_order
  order-all h = let z : i ≡ 0 = omega arith in rw z refl

module _ (a b m : ℕ) (l : List Piece) (i : ℕ) where
  pub work-next : 0 < i → work_left a b m (held i l) ≡ a * ((get_or l (i - 1) no_piece).p / m) + b + work_left a b m (held (i - 1) l)
  unfolding work_left
  work-next h = rw (held_next l i h) refl

  -- one turn of the loop
  pub work-turn : 0 < i → (p d sum total : ℕ) → p ≡ (get_or l (i - 1) no_piece).p → d ≡ m → sum + work_left a b m (held i l) ≡ total
      → sum + (a * (p / d) + b) + work_left a b m (held (i - 1) l) ≡ total
  work-turn h p d sum total e f g = let w = work-next h in rw (e, f) (omega arith)

  -- one turn of a loop over the first w pieces from index 0 on
  pub work-more : (w : ℕ) → i < length (take w l) → (p d sum : ℕ) → p ≡ (get_or (take w l) i no_piece).p → d ≡ m
      → sum ≡ work_left a b m (held i l)
      → sum + (a * (p / d) + b) ≡ work_left a b m (held (i + 1) l)
  unfolding work_left
  work-more w h p d sum e f g = let k = length-take w l in rw (e, f, g, get_or-take w l i no_piece (omega arith), add-one) (omega arith)

  pub work_none : i ≤ 0 → work_left a b m (held i l) ≡ 0
  unfolding work_left
  work_none h = let z : i ≡ 0 = omega arith in rw z refl

-- one piece's part
pub part_small : (a p m : ℕ) → a ≤ 16 → p ≤ 4294967295 → a * (p / m) ≤ 68719476720
part_small a p m h k = let d = div-le_self p m in let e : p / m ≤ 4294967295 = omega arith in mul-le-mul h e

pub rows_left : (m : ℕ) (l : List Piece) → rows_of_waiting m l ≡ work_left 2 1 m l
unfolding rows_of_waiting work_left
rows_left m [] = refl
rows_left m (pc ∷ l) = ap (λ (k : ℕ). 2 * (pc.p / m) + 1 + k) (rows_left m l)

pub asks-left : (m : ℕ) (l : List Piece) → asks_left m l ≡ work_left 9 5 m l
unfolding asks_left work_left
asks-left m [] = refl
asks-left m (pc ∷ l) = ap (λ (k : ℕ). 9 * (pc.p / m) + 5 + k) (asks-left m l)

-- ---- the test by its cases
module _ (st : Rebuilder) where
  pub sound-phase : (ph : Phase) → st.phase ≡ ph → {r : Bool} → r ≡ sound_at ph st → r ≡ phase_sound st
  sound-phase ph e f = f ∙ ap (λ (p : Phase). sound_at p st) (sym e)

  pub sound-settings : (t : Bool) → t ≡ within_limits st.settings → t ≡ false → false ≡ sound st
  unfolding sound
  sound-settings t e f = rw (← e, f) refl

  module _ (t : Bool) (e : t ≡ within_limits st.settings) (f : t ≡ true) where
    pub sound-ybits : max_bits < st.ybits → false ≡ sound st
    unfolding sound
    sound-ybits a = rw (← e, f, lt-leb st.ybits max_bits a) refl

    pub sound-n : st.ybits ≤ max_bits → max_bits < st.n → false ≡ sound st
    unfolding sound
    sound-n a b = rw (← e, f, le-leb st.ybits max_bits a, lt-leb st.n max_bits b) refl

    pub sound-waiting : st.ybits ≤ max_bits → st.n ≤ max_bits → 32 < st.waiting → false ≡ sound st
    unfolding sound
    sound-waiting a b c = rw (← e, f, le-leb st.ybits max_bits a, le-leb st.n max_bits b, lt-leb st.waiting 32 c) refl

    pub sound-rest : st.ybits ≤ max_bits → st.n ≤ max_bits → st.waiting ≤ 32 → (u v r : Bool) → u ≡ blank_from st.pieces (32 - st.waiting) st.waiting → v ≡ phase_sound st
        → r ≡ u && v → r ≡ sound st
    unfolding sound
    sound-rest a b c u v r g h k = rw (k, g, h, ← e, f, le-leb st.ybits max_bits a, le-leb st.n max_bits b, le-leb st.waiting 32 c) refl
