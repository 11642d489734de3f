-- Pieces that calls of a closure read, one after the other.
use Rattle.std.proofs.Common.{◌≡◌, sym, ap, ap₂, ◌∙◌, List, ◌∷◌, ℕ, zero, suc, ◌+◌, ◌*◌, length, drop, drop-cons, add-one, arith}
use Rattle.std.proofs.lemmas.List.{drop_all}
use denote.Param.Members.{Mut, Called}
use Rattle.std.specs.Array.{IsFromFnResult, IsFromFnResultFrom}
use Rattle.ends.specs.declared.Piece.{Piece}
use Rattle.ends.specs.States.{no_piece}
use Rattle.layout.specs.Layout.{piece_at, pieces_at}

-- Keeps f: what holds of the closure before each call; gives: a call reads the piece at its index
module _ {F : Type 0} {g : Mut F (ℕ × Unit {0}) Piece} (s : List ℕ) (Keeps : F → Type 0)
    (gives : (f q : F) (i : ℕ) (y : Piece) → Keeps f → Called g f (i, tt) y q → (y ≡ piece_at s (52 + 16 * i)) × Keeps q) where
  read_from : (f : F) (ys : List Piece) (i n : ℕ) → Keeps f → length ys ≡ i + n → IsFromFnResultFrom g f ys i n → drop i ys ≡ pieces_at s (52 + 16 * i) n
  unfolding pieces_at
  read_from f ys i zero k e t = drop_all i ys (omega arith)
  read_from f ys i (suc n) k e t =
      let m = gives f t.0 i t.1 k t.3 in
      let r = read_from t.0 ys (i + 1) n m.1 (omega arith) t.4 in
      let o : 52 + 16 * (i + 1) ≡ 52 + 16 * i + 16 = omega arith in
      drop-cons ys i no_piece (omega arith)
      ∙ ap₂ (λ (x : Piece) (l : List Piece). x ∷ l) (t.2.1 no_piece ∙ m.0)
      (ap (λ (j : ℕ). drop j ys) (sym (add-one i)) ∙ r ∙ ap (λ (j : ℕ). pieces_at s j n) o)

  pub read_by : {f : F} {ys : List Piece} → Keeps f → IsFromFnResult g f ys 32 → ys ≡ pieces_at s 52 32
  read_by {f} {ys} k t = read_from f ys 0 32 k t.long t.each
