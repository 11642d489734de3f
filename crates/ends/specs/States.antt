-- The rebuilder's state: the stack of waiting pieces, and the question that a state asks.
use Rattle.std.specs.Prelude.{cond, List, [], ◌∷◌, ℕ, zero, suc, ◌+◌, ◌-◌, get_or, set, eqb}
use Rattle.std.proofs.Math.Option.{Option, none, some}
use Rattle.messages.specs.declared.Question.{Question}
use Rattle.messages.specs.declared.Question.TheVariants.{AskOpen, AskBits}
use Rattle.ends.specs.declared.Piece.{Piece}
use Rattle.ends.specs.declared.Rebuilder.{Rebuilder}
use Rattle.ends.specs.declared.Phase.{Phase}
use Rattle.ends.specs.declared.Phase.TheVariants.{AtOpening, AtPieces, AtWhole}
use Rattle.ends.specs.declared.Stage.{Stage}
use Rattle.ends.specs.declared.Stage.TheVariants.{Hashing}
use Rattle.ends.specs.Segments.{first_stage, next_stage, asks}

abbrev pub no_piece : Piece
no_piece = record { x = 0; p = 0; y = 0; q = 0 }

-- ---- the stack
-- the state with another stage and other pieces
abbrev pub stacked : Rebuilder → Stage → (waiting : ℕ) → List Piece → Rebuilder
stacked st t w l = record {
  settings = st.settings;
  ybits = st.ybits;
  phase = st.phase;
  n = st.n;
  answered = st.answered;
  counted = st.counted;
  rows = st.rows;
  stage = t;
  waiting = w;
  pieces = l;
}

-- the leftmost waiting piece
unfoldable pub top : Rebuilder → Piece
top st = get_or st.pieces (st.waiting - 1) no_piece

unfoldable pub popped : Rebuilder → Rebuilder
popped st = stacked st st.stage (st.waiting - 1) (set st.pieces (st.waiting - 1) no_piece)

-- 01, step 1: an empty piece is dropped
unfoldable pub pushed : Rebuilder → Piece → Rebuilder
pushed st pc = cond (eqb pc.p 0) st (stacked st st.stage (st.waiting + 1) (set st.pieces st.waiting pc))

-- the leftmost piece at its first stage
unfoldable pub restaged : Rebuilder → Rebuilder
restaged st = stacked st (cond (eqb st.waiting 0) Hashing (first_stage st.settings (top st).p (top st).q)) st.waiting st.pieces

-- the leftmost piece at the stage after its own
unfoldable pub retried : Rebuilder → Rebuilder
retried st = stacked st (next_stage st.settings (top st).p (top st).q st.stage) st.waiting st.pieces

-- the two pieces that an anchor of m bits at offset s, placed at r, leaves
abbrev pub left_piece : (t : Piece) (s r : ℕ) → Piece
left_piece t s r = record { x = t.x; p = s; y = t.y; q = r }

abbrev pub right_piece : (m : ℕ) (t : Piece) (s r : ℕ) → Piece
right_piece m t s r = record { x = t.x + s + m; p = t.p - (s + m); y = t.y + r + m; q = t.q - (r + m) }

unfoldable pub split_at : Rebuilder → (s r : ℕ) → Rebuilder
split_at st s r = restaged (pushed (pushed (popped st) (right_piece st.settings.m (top st) s r)) (left_piece (top st) s r))

-- ---- the question that waits
-- by what is awaited; none after the finish
abbrev pub planned_at : Phase → Rebuilder → Option Question
planned_at AtOpening st = some (AskOpen st.settings.h st.settings.key)
planned_at AtPieces st = cond (eqb st.waiting 0) none (some (asks st.settings (top st).x (top st).p (top st).q st.stage))
planned_at AtWhole st = some (AskBits 0 st.n)

unfoldable pub planned : Rebuilder → Option Question
planned st = planned_at st.phase st

-- ---- the waiting pieces as a list, the leftmost first
abbrev pub held : ℕ → List Piece → List Piece
held zero arr = []
held (suc w) arr = get_or arr w no_piece ∷ held w arr
