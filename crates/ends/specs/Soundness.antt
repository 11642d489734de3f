-- docs/STATE.md: the test for an unsound state (01, refusal 3). Every state from the calls passes it, and a state that passes is safe to go on from.
use Rattle.std.specs.Prelude.{Bool, true, false, cond, not, ◌&&◌, List, [], ◌∷◌, ℕ, zero, suc, ◌+◌, ◌-◌, ◌*◌, ◌/◌, length, get_or, leb, ltb, eqb}
use Rattle.strings.specs.declared.settings.Settings.{Settings}
use Rattle.ends.specs.declared.Piece.{Piece}
use Rattle.ends.specs.declared.Rebuilder.{Rebuilder}
use Rattle.ends.specs.declared.Holder.{Holder}
use Rattle.strings.specs.Bits.{max_bits}
use Rattle.ends.specs.declared.Attempt.TheVariants.{First, Second, Third}
use Rattle.ends.specs.declared.Phase.{Phase}
use Rattle.ends.specs.declared.Phase.TheVariants.{AtOpening, AtPieces, AtWhole}
use Rattle.ends.specs.declared.Stage.{Stage}
use Rattle.ends.specs.declared.Stage.TheVariants.{Hashing, PuttingIn, TakingOut, Anchor, AllBits, Columns}
use Rattle.strings.specs.SettingLimits.{between, hash_limits, within_limits}
use Rattle.ends.specs.Segments.{is_burst, too_small}
use Rattle.ends.specs.Runs.{full, longest_answer}
use Rattle.ends.specs.States.{no_piece, held, top}

-- 01, "Messages": a holder state gives at most 1,000,000 answers
abbrev pub most_answers : ℕ
most_answers = 1000000

-- ---- the holder
-- opened, with its fields within their limits, or fresh, with all other fields 0
unfoldable pub holder_sound : Holder → Bool
holder_sound st =
    cond st.opened
    (leb st.bits max_bits && (hash_limits st.h && (leb 1 st.key && between 1 st.answers most_answers)))
    (eqb st.bits 0 && (eqb st.h 0 && (eqb st.key 0 && eqb st.answers 0)))

-- ---- the rebuilder's pieces
unfoldable pub is_blank : Piece → Bool
is_blank pc = eqb pc.x 0 && (eqb pc.p 0 && (eqb pc.y 0 && eqb pc.q 0))

-- the k entries from index i on are zeros
unfoldable pub blank_from : List Piece → (k i : ℕ) → Bool
blank_from l zero i = true
blank_from l (suc k) i = is_blank (get_or l i no_piece) && blank_from l k (suc i)

-- how long a waiting piece with so many others to its right can be: a split leaves at most 5/8
abbrev pub bound : ℕ → ℕ
bound zero = max_bits
bound (suc i) = 5 * bound i / 8

-- a waiting piece with d others to its right, of n bits of X and e of Y, not before x and y: it has bits, ends in time, and is not longer than splitting leaves
unfoldable pub piece_fits : (n e x y d : ℕ) → Piece → Bool
piece_fits n e x y d pc =
    leb x pc.x && (leb y pc.y && (ltb 0 pc.p && (leb (pc.x + pc.p) n && (leb (pc.y + pc.q) e && leb pc.p (bound d)))))

-- the waiting pieces, from the leftmost on, follow one another
unfoldable pub in_order : (n e x y : ℕ) → List Piece → Bool
in_order n e x y [] = true
in_order n e x y (pc ∷ l) = piece_fits n e x y (length l) pc && in_order n e (pc.x + pc.p) (pc.y + pc.q) l

-- how many rows and questions the waiting pieces can still take, each at its first stage
unfoldable pub rows_of_waiting : ℕ → List Piece → ℕ
rows_of_waiting m [] = 0
rows_of_waiting m (pc ∷ l) = 2 * (pc.p / m) + 1 + rows_of_waiting m l

unfoldable pub asks_left : ℕ → List Piece → ℕ
asks_left m [] = 0
asks_left m (pc ∷ l) = 9 * (pc.p / m) + 5 + asks_left m l

-- the leftmost piece's stage suits its lengths
unfoldable pub stage_fits : Settings → (p q : ℕ) → Stage → Bool
stage_fits S p q Hashing = eqb q p
stage_fits S p q PuttingIn = eqb (q + 1) p
stage_fits S p q TakingOut = eqb q (p + 1)
stage_fits S p q Columns = is_burst p q
stage_fits S p q (Anchor i) = not (too_small S p q)
stage_fits S p q AllBits = true

-- with none waiting the stage is Hashing
abbrev pub is_hashing : Stage → Bool
is_hashing Hashing = true
is_hashing PuttingIn = false
is_hashing TakingOut = false
is_hashing Columns = false
is_hashing (Anchor i) = false
is_hashing AllBits = false

unfoldable pub top_fits : Rebuilder → Bool
top_fits st = cond (eqb st.waiting 0) (is_hashing st.stage) (stage_fits st.settings (top st).p (top st).q st.stage)

-- the rows used and still to come are within the sheet that 01 asks for
abbrev pub rows_in_limit : Rebuilder → Bool
rows_in_limit st = leb (st.rows + rows_of_waiting st.settings.m (held st.waiting st.pieces)) (2 * (st.n / st.settings.m) + 1)

unfoldable pub stack_sound : Rebuilder → Bool
stack_sound st = top_fits st && (in_order st.n st.ybits 0 0 (held st.waiting st.pieces) && rows_in_limit st)

-- ---- by phase
unfoldable pub opening_sound : Rebuilder → Bool
opening_sound st =
    eqb st.n 0 && (eqb st.answered 0 && (eqb st.counted 0 && (eqb st.rows 0 && (is_hashing st.stage && eqb st.waiting 0))))

-- how many questions a piece has had at most before it came to a stage
abbrev pub asks_before : Stage → ℕ
asks_before Hashing = 0
asks_before PuttingIn = 0
asks_before TakingOut = 0
asks_before Columns = 0
asks_before (Anchor First) = 1
asks_before (Anchor Second) = 2
asks_before (Anchor Third) = 3
asks_before AllBits = 4

-- what may still be asked is within the bound; the leftmost piece has so many questions less to come
abbrev pub asks_fit : Rebuilder → Bool
asks_fit st = leb (st.answered + asks_left st.settings.m (held st.waiting st.pieces)) (9 * (st.n / st.settings.m) + 6 + asks_before st.stage)

-- the count is past the ceiling only where nothing waits
abbrev pub most_counted : Rebuilder → ℕ
most_counted st = cond (eqb st.waiting 0) (st.settings.ceiling + full st.n + longest_answer st.n) st.settings.ceiling

unfoldable pub pieces_sound : Rebuilder → Bool
pieces_sound st = stack_sound st && (leb 1 st.answered && (asks_fit st && leb st.counted (most_counted st)))

-- one more question, for bits 0, n, is within the bound
abbrev pub last_ask_fits : Rebuilder → Bool
last_ask_fits st = leb (st.answered + 1) (9 * (st.n / st.settings.m) + 6)

-- the count is past the ceiling, and pieces wait
unfoldable pub whole_sound : Rebuilder → Bool
whole_sound st =
    stack_sound st
    && (leb 1 st.answered
    && (last_ask_fits st
    && (ltb 0 st.waiting
    && (ltb st.settings.ceiling st.counted && leb st.counted (st.settings.ceiling + longest_answer st.n)))))

abbrev pub sound_at : Phase → Rebuilder → Bool
sound_at AtOpening st = opening_sound st
sound_at AtPieces st = pieces_sound st
sound_at AtWhole st = whole_sound st

abbrev pub phase_sound : Rebuilder → Bool
phase_sound st = sound_at st.phase st

unfoldable pub sound : Rebuilder → Bool
sound st =
    within_limits st.settings
    && (leb st.ybits max_bits
    && (leb st.n max_bits
    && (leb st.waiting 32
    && (blank_from st.pieces (32 - st.waiting) st.waiting
    && phase_sound st))))
