-- What demand 3 claims of pieces, bits and rows; Statement has the claim itself.
use Rattle.std.specs.Prelude.{◌≡◌, Bool, false, cond, ◌&&◌, List, [], ◌∷◌, ◌++◌, ◌⊎◌, ℕ, ◌+◌, ◌-◌, ◌≤◌, ◌<◌, length, get_or, drop, replicate, ltb, leb}
use Rattle.codes.specs.Columns.{RunLost, syndromes}
use Rattle.codes.specs.Syndrome.{syndrome}
use Rattle.ends.specs.Segments.{Segment, dropped, settled, span, waiting, hash_of}
use Rattle.ends.specs.Anchors.{distance, part}
use Rattle.ends.specs.Runs.{Run, opening, working, whole, question, answer_for, continued, pieces_of, sheet_of, string}
use Rattle.ends.specs.RebuilderCall.{no_row}
use Rattle.ends.specs.declared.Row.{Row}
use Rattle.strings.specs.declared.settings.Settings.{Settings}
use Rattle.ends.specs.declared.How.{How}
use Rattle.ends.specs.declared.How.TheVariants.{ByAnchor, ByHash, ByPutIn, ByTakeOut, ByBits, ByBurst}

-- ---- sums over pieces and over rows
abbrev pub total : (Segment → ℕ) → List Segment → ℕ
total f [] = 0
total f (s ∷ r) = f s + total f r

abbrev pub row_sum : (Row → ℕ) → List Row → ℕ
row_sum g [] = 0
row_sum g (r ∷ l) = g r + row_sum g l

-- 1 for a piece that waits, else 0
abbrev pub is_wait : Segment → ℕ
is_wait (dropped ys) = 0
is_wait (waiting p ys t) = 1
is_wait (settled w ys b) = 0

-- 1 where the row covers bit i, else 0
abbrev pub covers : ℕ → Row → ℕ
covers i r = cond (leb r.start i && ltb i (r.start + r.len)) 1 0

-- ---- what is claimed of a settled piece; x is the reference's
abbrev pub Agrees : Settings → How → (x copy b : List Bool) → Type 0
Agrees S ByHash x ys b = hash_of S b ≡ hash_of S x
Agrees S ByPutIn x ys b = (syndrome b ≡ syndrome x) × (hash_of S b ≡ hash_of S x)
Agrees S ByTakeOut x ys b = (syndrome b ≡ syndrome x) × (hash_of S b ≡ hash_of S x)
Agrees S ByAnchor x ys b = b ≡ x
Agrees S ByBits x ys b = b ≡ x
Agrees S ByBurst x ys b = (syndromes (distance (length x) (length ys)) b ≡ syndromes (distance (length x) (length ys)) x) × (hash_of S b ≡ hash_of S x)

-- the copy is the reference's with nothing changed, or with one run of bits lost or gained: one bit (01), or a burst (02, CR 1)
pub data Near (x y : List Bool) : Type 0 where
  unchanged : y ≡ x → Near x y
  run_lost : (B : ℕ) → 1 ≤ B → RunLost y x B → Near x y
  run_gained : (B : ℕ) → 1 ≤ B → RunLost x y B → Near x y

pub record Settled (S : Settings) (x : List Bool) (w : How) (ys b : List Bool) : Type 0 where
  pub len : length b ≡ length x
  pub agrees : Agrees S w x ys b
  pub exact : Near x ys → b ≡ x

-- ---- places of pieces and bits
-- the piece s stands at y, in pieces that begin at x
abbrev pub At : ℕ → List Segment → ℕ → Segment → Type 0
At x [] y s = ⊥
At x (u ∷ r) y s = ((x ≡ y) × (u ≡ s)) ⊎ At (x + span u) r y s

-- bit i lies in a settled piece that differs from the reference's, though it agrees with it as Settled says
pub record Collision (S : Settings) (X : List Bool) (x : ℕ) (segs : List Segment) (i : ℕ) : Type 0 where
  pub start : ℕ
  pub how : How
  pub copy : List Bool
  pub bits : List Bool
  pub at : At x segs start (settled how copy bits)
  pub from : start ≤ i
  pub to : i < start + length bits
  pub differs : bits ≡ part X start (length bits) → ⊥
  pub settled : Settled S (part X start (length bits)) how copy bits

-- at the finish: as many bits as X; each is X's, or lies in a piece as above; the rows cover each exactly once
pub record Finished (S : Settings) (X : List Bool) (s : Run) : Type 0 where
  pub size : length (string (pieces_of s)) ≡ length X
  pub bits : (i : ℕ) → i < length X → (get_or (string (pieces_of s)) i false ≡ get_or X i false) ⊎ Collision S X 0 (pieces_of s) i
  pub rows : (i : ℕ) → i < length X → row_sum (covers i) (sheet_of s) ≡ 1

-- ---- the lent sheet
-- a lent sheet with the rows l at its front, z rows of zeros behind them, and then what it had
abbrev pub rows_at_front : List Row → (z : ℕ) → List Row → List Row
rows_at_front l z sheet = l ++ (replicate z no_row ++ drop (length l + z) sheet)

-- how many used rows the next answer sets to zeros: those behind the first, if it is the whole string's
abbrev pub zeroed_next : Run → ℕ
zeroed_next opening = 0
zeroed_next (working n c segs rows) = 0
zeroed_next (whole n c segs rows) = length rows - 1

-- how many the messages of a run set to zeros: the whole string's answer is the last
abbrev pub zeroed_from : Settings → List Bool → Run → List (List ℕ) → ℕ
zeroed_from S Y s [] = 0
zeroed_from S Y s (m ∷ ms) = zeroed_next s + zeroed_from S Y (continued S Y s (answer_for S (question S s) m)) ms

abbrev pub zeroed : Settings → List Bool → List (List ℕ) → ℕ
zeroed S Y ms = zeroed_from S Y opening ms
