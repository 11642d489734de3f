-- The bytes of a state: 32-bit numbers, little-endian, at fixed offsets (docs/LAYOUT.md). The cases of a state are numbers only here.
use Rattle.std.specs.Prelude.{Bool, true, false, cond, not, ◌&&◌, List, [], ◌∷◌, ◌++◌, ℕ, zero, suc, ◌+◌, length, get_or, leb, eqb}
use Rattle.ends.specs.declared.Attempt.TheVariants.{First, Second, Third}
use Rattle.ends.specs.declared.Holder.{Holder}
use Rattle.ends.specs.declared.Phase.{Phase}
use Rattle.ends.specs.declared.Phase.TheVariants.{AtOpening, AtPieces, AtWhole}
use Rattle.ends.specs.declared.Piece.{Piece}
use Rattle.ends.specs.declared.Rebuilder.{Rebuilder}
use Rattle.ends.specs.declared.Stage.{Stage}
use Rattle.ends.specs.declared.Stage.TheVariants.{Hashing, PuttingIn, TakingOut, Anchor, AllBits, Columns}
use Rattle.ends.specs.States.{no_piece}
use Rattle.layout.specs.Bytes32.{bytes_of, word_at}

-- numbers, one after the other
unfoldable pub all_bytes : List ℕ → List ℕ
all_bytes [] = []
all_bytes (v ∷ l) = bytes_of v ++ all_bytes l

-- ---- the cases as numbers; a number that is no case's reads as the last case, so that reading is total
abbrev pub opened_number : Bool → ℕ
opened_number false = 0
opened_number true = 1

abbrev pub opened_of : ℕ → Bool
opened_of v = not (eqb v 0)

abbrev pub phase_number : Phase → ℕ
phase_number AtOpening = 0
phase_number AtPieces = 1
phase_number AtWhole = 2

unfoldable pub phase_of : ℕ → Phase
phase_of v = cond (eqb v 0) AtOpening (cond (eqb v 1) AtPieces AtWhole)

abbrev pub stage_number : Stage → ℕ
stage_number Hashing = 0
stage_number PuttingIn = 1
stage_number TakingOut = 2
stage_number (Anchor First) = 3
stage_number (Anchor Second) = 4
stage_number (Anchor Third) = 5
stage_number AllBits = 6
stage_number Columns = 7

unfoldable pub stage_of : ℕ → Stage
stage_of v =
    cond (eqb v 0) Hashing (
    cond (eqb v 1) PuttingIn (
    cond (eqb v 2) TakingOut (
    cond (eqb v 3) (Anchor First) (
    cond (eqb v 4) (Anchor Second) (
    cond (eqb v 5) (Anchor Third) (
    cond (eqb v 6) AllBits Columns))))))

-- ---- the holder's state: 20 bytes
abbrev pub holder_size : ℕ
holder_size = 20

unfoldable pub holder_bytes : Holder → List ℕ
holder_bytes st = all_bytes (opened_number st.opened ∷ st.bits ∷ st.h ∷ st.key ∷ st.answers ∷ [])

unfoldable pub holder_of : List ℕ → Holder
holder_of s = record { opened = opened_of (word_at s 0); bits = word_at s 4; h = word_at s 8; key = word_at s 12; answers = word_at s 16 }

-- bytes that some state can have at their front: enough of them, and a case's number
unfoldable pub is_holder : List ℕ → Bool
is_holder s = leb holder_size (length s) && leb (word_at s 0) 1

-- ---- a piece: 16 bytes
unfoldable pub piece_bytes : Piece → List ℕ
piece_bytes pc = all_bytes (pc.x ∷ pc.p ∷ pc.y ∷ pc.q ∷ [])

unfoldable pub piece_at : List ℕ → ℕ → Piece
piece_at s at = record { x = word_at s at; p = word_at s (at + 4); y = word_at s (at + 8); q = word_at s (at + 12) }

-- n pieces of a list, from number i on
unfoldable pub pieces_bytes : List Piece → (i n : ℕ) → List ℕ
pieces_bytes l i zero = []
pieces_bytes l i (suc n) = piece_bytes (get_or l i no_piece) ++ pieces_bytes l (suc i) n

-- n pieces, from offset `at` on
unfoldable pub pieces_at : List ℕ → (at n : ℕ) → List Piece
pieces_at s at zero = []
pieces_at s at (suc n) = piece_at s at ∷ pieces_at s (at + 16) n

-- ---- the rebuilder's state: 564 bytes, 52 of single numbers and 32 pieces
abbrev pub rebuilder_size : ℕ
rebuilder_size = 564

unfoldable pub head_bytes : Rebuilder → List ℕ
head_bytes st = all_bytes (
    st.settings.m ∷ st.settings.h ∷ st.settings.k ∷ st.settings.key ∷ st.settings.ceiling ∷
    st.ybits ∷ phase_number st.phase ∷ st.n ∷ st.answered ∷ st.counted ∷ st.rows ∷ stage_number st.stage ∷ st.waiting ∷ [])

unfoldable pub rebuilder_bytes : Rebuilder → List ℕ
rebuilder_bytes st = head_bytes st ++ pieces_bytes st.pieces 0 32

-- the state whose numbers stand in s, with the pieces l
unfoldable pub fields_of : List ℕ → List Piece → Rebuilder
fields_of s l = record {
  settings = record { m = word_at s 0; h = word_at s 4; k = word_at s 8; key = word_at s 12; ceiling = word_at s 16 };
  ybits = word_at s 20;
  phase = phase_of (word_at s 24);
  n = word_at s 28;
  answered = word_at s 32;
  counted = word_at s 36;
  rows = word_at s 40;
  stage = stage_of (word_at s 44);
  waiting = word_at s 48;
  pieces = l;
}

unfoldable pub rebuilder_of : List ℕ → Rebuilder
rebuilder_of s = fields_of s (pieces_at s 52 32)

-- bytes that some state can have at their front: enough of them, and cases' numbers
unfoldable pub is_rebuilder : List ℕ → Bool
is_rebuilder s = leb rebuilder_size (length s) && (leb (word_at s 24) 2 && leb (word_at s 44) 7)
