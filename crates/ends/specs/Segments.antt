-- 01, "The rebuilder", steps 1 to 4: pieces, what is asked for one, and what an answer makes of it.
use Rattle.std.specs.Prelude.{Bool, true, false, cond, ◌||◌, List, [], ◌∷◌, ◌++◌, ℕ, zero, suc, ◌+◌, ◌-◌, ◌*◌, ◌/◌, length, take, drop, ltb, eqb}
use Rattle.std.proofs.Math.Option.{Option, none, some}
use Rattle.codes.specs.Repair.{put_in, take_out}
use Rattle.codes.specs.Columns.{column_limits, repair_run}
use Rattle.codes.specs.Hash.{hash}
use Rattle.messages.specs.declared.Question.{Question}
use Rattle.messages.specs.declared.Question.TheVariants.{AskHash, AskSyndrome, AskBits, AskBurst}
use Rattle.messages.specs.Answers.{Answer, size_answer, hash_answer, syndrome_answer, bits_answer, burst_answer}
use Rattle.strings.specs.declared.settings.Settings.{Settings}
use Rattle.ends.specs.declared.How.{How}
use Rattle.ends.specs.declared.How.TheVariants.{ByHash, ByPutIn, ByTakeOut, ByAnchor, ByBits, ByBurst}
use Rattle.ends.specs.declared.Stage.{Stage}
use Rattle.ends.specs.declared.Stage.TheVariants.{Hashing, PuttingIn, TakingOut, Anchor, AllBits, Columns}
use Rattle.ends.specs.declared.Attempt.{Attempt}
use Rattle.ends.specs.declared.Attempt.TheVariants.{First, Second, Third}
use Rattle.ends.specs.declared.Row.{Row}
use Rattle.ends.specs.Anchors.{distance, part, place}

-- a row's how: 1 hash, 2 put-in, 3 take-out, 4 anchor, 5 bits; 6 burst (02, CR 1)
abbrev pub how_number : How → ℕ
how_number ByHash = 1
how_number ByPutIn = 2
how_number ByTakeOut = 3
how_number ByAnchor = 4
how_number ByBits = 5
how_number ByBurst = 6

-- the hash under the settings
unfoldable pub hash_of : Settings → List Bool → ℕ
hash_of S l = hash S.h S.key l

-- the fields of an answer; a reader sees to it that those asked for are there
abbrev pub the_size : Answer → ℕ
the_size (size_answer n) = n
the_size (hash_answer v) = 0
the_size (syndrome_answer a v) = 0
the_size (bits_answer l) = 0
the_size (burst_answer ss v) = 0

abbrev pub the_hash : Answer → ℕ
the_hash (size_answer n) = 0
the_hash (hash_answer v) = v
the_hash (syndrome_answer a v) = v
the_hash (bits_answer l) = 0
the_hash (burst_answer ss v) = v

abbrev pub the_syndrome : Answer → ℕ
the_syndrome (size_answer n) = 0
the_syndrome (hash_answer v) = 0
the_syndrome (syndrome_answer a v) = a
the_syndrome (bits_answer l) = 0
the_syndrome (burst_answer ss v) = 0

abbrev pub the_syndromes : Answer → List ℕ
the_syndromes (size_answer n) = []
the_syndromes (hash_answer v) = []
the_syndromes (syndrome_answer a v) = []
the_syndromes (bits_answer l) = []
the_syndromes (burst_answer ss v) = ss

abbrev pub the_bits : Answer → List Bool
the_bits (size_answer n) = []
the_bits (hash_answer v) = []
the_bits (syndrome_answer a v) = []
the_bits (bits_answer l) = l
the_bits (burst_answer ss v) = []

-- a piece of X with its copy, its range of Y: dropped, since it has no bits (step 1); waiting, of p bits, at a stage (Stage: what is asked of it); or settled, with its bits
pub data Segment : Type 0 where
  dropped : (copy : List Bool) → Segment
  waiting : (p : ℕ) (copy : List Bool) → Stage → Segment
  settled : How → (copy bits : List Bool) → Segment

-- how many bits of X a piece has
abbrev pub span : Segment → ℕ
span (dropped ys) = 0
span (waiting p ys t) = p
span (settled w ys b) = length b

-- step 4's three offsets
abbrev pub middle : (m p : ℕ) → ℕ
middle m p = (p - m) / 2

abbrev pub offset : (m p : ℕ) → Attempt → ℕ
offset m p First = middle m p
offset m p Second = middle m p + m
offset m p Third = middle m p - m

abbrev pub too_small : Settings → ℕ → ℕ → Bool
too_small S p q = ltb p (4 * (S.m + S.h)) || ltb q S.m

-- step 4, for p bits of X and q of Y
unfoldable pub later_stage : Settings → ℕ → ℕ → Stage
later_stage S p q = cond (too_small S p q) AllBits (Anchor First)

-- 02, CR 1: "A piece whose lengths differ by B, 2 to 32"
unfoldable pub is_burst : ℕ → ℕ → Bool
is_burst p q = column_limits (distance p q)

-- the step at which a piece begins; CR 1's comes in place of step 4
unfoldable pub first_stage : Settings → ℕ → ℕ → Stage
first_stage S p q =
    cond (eqb q p) Hashing (
    cond (eqb (q + 1) p) PuttingIn (
    cond (eqb q (p + 1)) TakingOut (
    cond (is_burst p q) Columns (later_stage S p q))))

-- "while none can be placed": the stage after an anchor that isn't; after three, all bits
abbrev pub after_anchor : Attempt → Stage
after_anchor First = Anchor Second
after_anchor Second = Anchor Third
after_anchor Third = AllBits

-- the stage after one whose answer did not settle the piece
abbrev pub next_stage : Settings → (p q : ℕ) → Stage → Stage
next_stage S p q Hashing = later_stage S p q
next_stage S p q PuttingIn = later_stage S p q
next_stage S p q TakingOut = later_stage S p q
next_stage S p q Columns = later_stage S p q
next_stage S p q (Anchor i) = after_anchor i
next_stage S p q AllBits = AllBits

-- a new piece
unfoldable pub begin : Settings → ℕ → List Bool → Segment
begin S zero ys = dropped ys
begin S (suc p) ys = waiting (suc p) ys (first_stage S (suc p) (length ys))

-- ---- what an answer makes of a piece
-- it is settled; it stays, at another stage; or it is split by the anchor b at offset s, placed at r
pub data Effect : Type 0 where
  settles : How → (bits : List Bool) → Effect
  stays : Stage → Effect
  splits : (s r : ℕ) → (b : List Bool) → Effect

-- a trial, kept if its hash is v
abbrev pub trial : Settings → ℕ → How → List Bool → Effect → Effect
trial S v w b other = cond (eqb (hash_of S b) v) (settles w b) other

abbrev pub trial_of : Settings → ℕ → How → Option (List Bool) → Effect → Effect
trial_of S v w none other = other
trial_of S v w (some b) other = trial S v w b other

abbrev pub placed : ℕ → List Bool → Stage → Option ℕ → Effect
placed s b next none = stays next
placed s b next (some r) = splits s r b

abbrev pub retry : Settings → ℕ → List Bool → Effect
retry S p ys = stays (later_stage S p (length ys))

unfoldable pub effect : Settings → Answer → ℕ → List Bool → Stage → Effect
effect S a p ys Hashing = trial S (the_hash a) ByHash ys (retry S p ys)
effect S a p ys PuttingIn = trial_of S (the_hash a) ByPutIn (put_in (the_syndrome a) ys) (retry S p ys)
effect S a p ys TakingOut = trial_of S (the_hash a) ByTakeOut (take_out (the_syndrome a) ys) (retry S p ys)
effect S a p ys Columns = trial_of S (the_hash a) ByBurst (repair_run (distance p (length ys)) p (the_syndromes a) ys) (retry S p ys)
effect S a p ys (Anchor i) = placed (offset S.m p i) (the_bits a) (after_anchor i) (place S.m S.k p (offset S.m p i) ys (the_bits a))
effect S a p ys AllBits = settles ByBits (the_bits a)

-- the pieces that come of it: a placed anchor is one too
abbrev pub made : Settings → ℕ → List Bool → Effect → List Segment
made S p ys (settles w b) = settled w ys b ∷ []
made S p ys (stays t) = waiting p ys t ∷ []
made S p ys (splits s r b) =
    begin S s (take r ys) ∷ settled ByAnchor (part ys r S.m) b ∷ begin S (p - (s + S.m)) (drop (r + S.m) ys) ∷ []

abbrev pub work : Settings → Answer → ℕ → List Bool → Stage → List Segment
work S a p ys t = made S p ys (effect S a p ys t)

-- ---- the leftmost waiting piece
-- the question for a piece that starts at x of X, with p bits and a copy of q
abbrev pub asks : Settings → (x p q : ℕ) → Stage → Question
asks S x p q Hashing = AskHash x p
asks S x p q PuttingIn = AskSyndrome x p
asks S x p q TakingOut = AskSyndrome x p
asks S x p q Columns = AskBurst x p (distance p q)
asks S x p q (Anchor i) = AskBits (x + offset S.m p i) S.m
asks S x p q AllBits = AskBits x p

-- the question for the leftmost waiting piece, of pieces that start at x; none if none waits
abbrev pub ask : Settings → ℕ → List Segment → Option Question
ask S x [] = none
ask S x (dropped ys ∷ r) = ask S x r
ask S x (settled w ys b ∷ r) = ask S (x + length b) r
ask S x (waiting p ys t ∷ r) = some (asks S x p (length ys) t)

-- the pieces after the answer to it
abbrev pub step : Settings → Answer → List Segment → List Segment
step S a [] = []
step S a (dropped ys ∷ r) = dropped ys ∷ step S a r
step S a (settled w ys b ∷ r) = settled w ys b ∷ step S a r
step S a (waiting p ys t ∷ r) = work S a p ys t ++ r

abbrev pub waits : List Segment → Bool
waits [] = false
waits (dropped ys ∷ r) = waits r
waits (settled w ys b ∷ r) = waits r
waits (waiting p ys t ∷ r) = true

-- ---- rows
abbrev pub row : ℕ → ℕ → How → Row
row x n w = record { start = x; len = n; how = how_number w }

-- the rows of the settled ones among pieces that start at x
abbrev pub rows_of : ℕ → List Segment → List Row
rows_of x [] = []
rows_of x (dropped ys ∷ r) = rows_of x r
rows_of x (waiting p ys t ∷ r) = rows_of (x + p) r
rows_of x (settled w ys b ∷ r) = row x (length b) w ∷ rows_of (x + length b) r

-- the rows of what the answer settles
abbrev pub new_rows : Settings → Answer → ℕ → List Segment → List Row
new_rows S a x [] = []
new_rows S a x (dropped ys ∷ r) = new_rows S a x r
new_rows S a x (settled w ys b ∷ r) = new_rows S a (x + length b) r
new_rows S a x (waiting p ys t ∷ r) = rows_of x (work S a p ys t)
