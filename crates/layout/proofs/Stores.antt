-- Lemmas of lists that are stored one after the other.
use Rattle.std.proofs.Common.{◌≡◌, refl, sym, ap, ◌∙◌, List, [], ◌∷◌, ◌++◌, ℕ, zero, suc, ◌+◌, ◌-◌, ◌*◌, ◌≤◌, ◌<◌, length, length-take-le, zero-add, add-zero, take, drop, take_all, get_or, replicate, append_assoc, append-nil, add-one, arith}
use Rattle.std.specs.Int.{w32, to_le_bytes}
use Rattle.std.proofs.lemmas.List.{take_more, length-replicate}
use Rattle.std.proofs.lemmas.List.Edits.{sets, sets-eq}
use Rattle.std.proofs.lemmas.Slice.{put_mid-paste}
use borrow.Rule.Slice.PartMut.{put_mid}
use Rattle.ends.specs.declared.Piece.{Piece}
use Rattle.ends.specs.RebuilderCall.{no_row}
use Rattle.ends.specs.States.{no_piece}
use Rattle.layout.specs.Bytes32.{bytes_of}
use Rattle.layout.specs.Layout.{all_bytes, piece_bytes, pieces_bytes}
use Rattle.layout.specs.Sheet.{rows_bytes}
use Rattle.layout.specs.laws.LayoutLaws.{store-next, length-pieces}
use Rattle.layout.specs.laws.SheetLaws.{zero-rows}

-- a part that is written as a whole
pub put_mid-sets : (s ys : List ℕ) (at k : ℕ) → at + k ≤ length s → length ys ≡ k → put_mid at k s ys ≡ sets s at ys
put_mid-sets s ys at k h e =
    put_mid-paste at k s ys ys (length ys) refl e refl
    ∙ ap (λ (l : List ℕ). take at s ++ l ++ drop (at + length ys) s) (take_all (length ys) ys (omega arith))
    ∙ sym (sets-eq ys s at (omega arith))

pub number-stored : (s t : List ℕ) (at v : ℕ) → at + 4 ≤ length s → t ≡ to_le_bytes w32 v → put_mid at (at + 4 - at) s t ≡ sets s at (bytes_of v)
unfolding bytes_of
number-stored s t at v h e = put_mid-sets s t at (at + 4 - at) (omega arith) (ap length e ∙ omega arith) ∙ ap (λ (b : List ℕ). sets s at b) e

pub rows-cleared : (s t : List ℕ) (from to : ℕ) → from < to → 12 * to ≤ length s → t ≡ replicate (12 * to - 12 * from) 0
    → put_mid (12 * from) (12 * to - 12 * from) s t ≡ sets s (12 * from) (rows_bytes (replicate (to - from) no_row))
rows-cleared s t from to h k e =
    let n : 12 * to - 12 * from ≡ 12 * (to - from) = omega arith in
    put_mid-sets s t (12 * from) (12 * to - 12 * from) (omega arith) (ap length e ∙ length-replicate (12 * to - 12 * from) 0)
    ∙ ap (λ (b : List ℕ). sets s (12 * from) b) (e ∙ ap (λ (m : ℕ). replicate m 0) n ∙ sym (zero-rows (to - from)))

all_bytes-append : (l m : List ℕ) → all_bytes (l ++ m) ≡ all_bytes l ++ all_bytes m
unfolding all_bytes
all_bytes-append [] m = refl
all_bytes-append (v ∷ l) m = ap (λ (b : List ℕ). bytes_of v ++ b) (all_bytes-append l m) ∙ sym (append_assoc (bytes_of v) (all_bytes l) (all_bytes m))

length-all_bytes : (l : List ℕ) → length (all_bytes l) ≡ 4 * length l
unfolding all_bytes bytes_of
length-all_bytes [] = refl
length-all_bytes (v ∷ l) = let e = length-all_bytes l in omega arith

-- one more number
pub number-more : (s t u l : List ℕ) (at i : ℕ) → i < length l → t ≡ sets s at (all_bytes (take i l)) → u ≡ sets t (at + 4 * i) (bytes_of (get_or l i 0))
    → u ≡ sets s at (all_bytes (take (i + 1) l))
unfolding all_bytes
number-more s t u l at i h e f =
    let n = length-all_bytes (take i l) in
    let v : List ℕ = get_or l i 0 ∷ [] in
    store-next s t u at (at + 4 * i) (all_bytes (take i l)) (bytes_of (get_or l i 0)) e f (let k : length (take i l) ≡ i = length-take-le i l (omega arith) in omega arith)
    ∙ ap (λ (b : List ℕ). sets s at (all_bytes (take i l) ++ b)) (sym (append-nil (bytes_of (get_or l i 0))))
    ∙ ap (λ (b : List ℕ). sets s at b) (sym (all_bytes-append (take i l) v))
    ∙ ap (λ (b : List ℕ). sets s at (all_bytes b)) (sym (take_more l i 0 h))

pieces-snoc : (l : List Piece) (j n : ℕ) → pieces_bytes l j (suc n) ≡ pieces_bytes l j n ++ piece_bytes (get_or l (j + n) no_piece)
unfolding pieces_bytes
pieces-snoc l j zero = append-nil (piece_bytes (get_or l j no_piece)) ∙ ap (λ (i : ℕ). piece_bytes (get_or l i no_piece)) (sym (add-zero j))
pieces-snoc l j (suc n) =
    let e : suc j + n ≡ j + suc n = omega arith in
    ap (λ (b : List ℕ). piece_bytes (get_or l j no_piece) ++ b) (pieces-snoc l (suc j) n)
    ∙ sym (append_assoc (piece_bytes (get_or l j no_piece)) (pieces_bytes l (suc j) n) (piece_bytes (get_or l (suc j + n) no_piece)))
    ∙ ap (λ (i : ℕ). pieces_bytes l j (suc n) ++ piece_bytes (get_or l i no_piece)) e

-- one more piece
pub piece-more : (s t u : List ℕ) (l : List Piece) (at i : ℕ) → t ≡ sets s at (pieces_bytes l 0 i) → u ≡ sets t (at + 16 * i) (piece_bytes (get_or l i no_piece))
    → u ≡ sets s at (pieces_bytes l 0 (i + 1))
piece-more s t u l at i e f =
    let n = length-pieces l 0 i in
    store-next s t u at (at + 16 * i) (pieces_bytes l 0 i) (piece_bytes (get_or l i no_piece)) e f (omega arith)
    ∙ ap (λ (j : ℕ). sets s at (pieces_bytes l 0 i ++ piece_bytes (get_or l j no_piece))) (sym (zero-add i))
    ∙ ap (λ (b : List ℕ). sets s at b) (sym (pieces-snoc l 0 i) ∙ ap (λ (j : ℕ). pieces_bytes l 0 j) (sym (add-one i)))
