-- A state with numbers for pieces and a list of bits keeps step with the runs: a device of the proofs.
use Rattle.std.specs.Prelude.{◌≡◌, Bool, cond, ◌&&◌, List, [], ◌∷◌, ◌++◌, take, drop, leb, ltb, eqb}
use Rattle.std.proofs.Math.Path.{refl}
use Rattle.std.proofs.Common.{sym, ap, ap₂, ◌∙◌, append_assoc, append-nil, zero-add, add-zero, arith, length-append, length-drop, take_at, drop_at, length-take-le}
use Rattle.std.proofs.Math.Bool.{true, false}
use Rattle.std.proofs.Math.Option.{Option, none, some}
use Prim.Native.Nat.{ℕ, zero, suc, ◌+◌, ◌-◌, ◌≤◌, ◌<◌}
use Rattle.std.proofs.Math.ListN.{length}
use Rattle.std.proofs.Math.Seq.{drop-append-add}
use Rattle.std.proofs.Math.Dec.{eqb-suc-zero}
use Rattle.codes.specs.Repair.{put_in, take_out}
use Rattle.messages.specs.Answers.{Answer}
use Rattle.messages.specs.declared.Question.{Question}
use Rattle.messages.specs.declared.Question.TheVariants.{AskBits, AskOpen}
use Rattle.ends.specs.Anchors.{place_distance, fits, nearer, nearest, part, place, places, distance}
use Rattle.ends.specs.laws.Counts.{Sane, begin-norow, sane}
use Rattle.ends.specs.laws.Invariant.{Inv, work-chain}
use Rattle.ends.specs.laws.Kept.{blank-length}
use Rattle.strings.specs.SettingLimits.{Limits}
use Rattle.ends.specs.laws.Right.{begin-span}
use Rattle.ends.specs.Runs.{Run, advance, bits_of, blank, copies, judge, opening, question, size_of, string, whole, working}
use Rattle.ends.specs.laws.SegmentLaws.{Chain, ask-waits, chain-end, copies-append}
use Rattle.ends.specs.Claims.{total}
use Rattle.ends.specs.Segments.{Effect, Segment, ask, asks, begin, dropped, effect, first_stage, hash_of, made, new_rows, placed, retry, row, rows_of, settled, settles, span, splits, stays, step, the_bits, the_hash, the_size, the_syndrome, trial, trial_of, waiting, waits, work, offset, after_anchor, the_syndromes}
use Rattle.ends.specs.laws.Shape.{ProperFor, Shape}
use Rattle.ends.specs.declared.How.{How}
use Rattle.ends.specs.declared.How.TheVariants.{ByAnchor, ByBits, ByHash, ByPutIn, ByTakeOut, ByBurst}
use Rattle.ends.specs.declared.Piece.{Piece}
use Rattle.ends.specs.declared.Row.{Row}
use Rattle.strings.specs.declared.settings.Settings.{Settings}
use Rattle.strings.specs.laws.Tests.{by-test, true-false}
use Rattle.strings.proofs.laws.WriteLaws.{over}
use Rattle.ends.specs.declared.Stage.TheVariants.{Anchor, AllBits, Hashing, PuttingIn, TakingOut, Columns}
use Rattle.ends.specs.declared.Phase.{Phase}
use Rattle.ends.specs.declared.Phase.TheVariants.{AtOpening, AtPieces, AtWhole}
use Rattle.ends.specs.declared.Stage.{Stage}
use Rattle.codes.specs.Columns.{repair_run}

-- ---- the state in numbers: a device of the proofs between the runs and the state struct
-- the phase, n, the counted bytes, the leftmost piece's stage, the waiting pieces with the leftmost first, the string's bits, the rows
pub data Store : Type 0 where
  store : Phase → (n count : ℕ) → Stage → List Piece → List Bool → List Row → Store

abbrev pub push : Piece → List Piece → List Piece
push pc l = cond (eqb pc.p 0) l (pc ∷ l)

-- the stage at which the leftmost piece begins
abbrev pub top_stage : Settings → List Piece → Stage
top_stage S [] = Hashing
top_stage S (pc ∷ l) = first_stage S pc.p pc.q

abbrev pub any_piece : List Piece → Bool
any_piece [] = false
any_piece (pc ∷ l) = true

abbrev pub phase_after : Settings → ℕ → List Piece → Phase
phase_after S c st = cond (ltb S.ceiling c && any_piece st) AtWhole AtPieces

abbrev pub stack_after : Settings → Piece → List Piece → Effect → List Piece
stack_after S pc st (settles w b) = st
stack_after S pc st (stays t) = pc ∷ st
stack_after S pc st (splits s r b) =
    push (record { x = pc.x; p = s; y = pc.y; q = r })
    (push (record { x = pc.x + s + S.m; p = pc.p - (s + S.m); y = pc.y + r + S.m; q = pc.q - (r + S.m) }) st)

abbrev pub stage_after : Settings → List Piece → Effect → Stage
stage_after S st (settles w b) = top_stage S st
stage_after S st (stays t) = t
stage_after S st (splits s r b) = top_stage S st

abbrev pub bits_after : Piece → List Bool → Effect → List Bool
bits_after pc str (settles w b) = over str pc.x b
bits_after pc str (stays t) = str
bits_after pc str (splits s r b) = over str (pc.x + s) b

abbrev pub rows_after : Settings → Piece → Effect → List Row
rows_after S pc (settles w b) = row pc.x pc.p w ∷ []
rows_after S pc (stays t) = []
rows_after S pc (splits s r b) = row (pc.x + s) S.m ByAnchor ∷ []

abbrev pub applied : Settings → (n c : ℕ) → Piece → List Piece → List Bool → List Row → Effect → Store
applied S n c pc st str rows e =
    store (phase_after S c (stack_after S pc st e)) n c (stage_after S (stack_after S pc st e) e) (stack_after S pc st e) (bits_after pc str e) (rows ++ rows_after S pc e)

-- one answer
abbrev pub step_store : Settings → List Bool → Store → Answer → Store
step_store S Y (store AtOpening n c t st str rows) a =
    store AtPieces (the_size a) 0 (top_stage S (push (record { x = 0; p = the_size a; y = 0; q = length Y }) [])) (push (record { x = 0; p = the_size a; y = 0; q = length Y }) []) (blank (the_size a)) []
step_store S Y (store AtPieces n c t [] str rows) a = store AtPieces n c t [] str rows
step_store S Y (store AtPieces n c t (pc ∷ st) str rows) a =
    applied S n (c + size_of a) pc st str rows (effect S a pc.p (part Y pc.y pc.q) t)
step_store S Y (store AtWhole n c t st str rows) a = store AtPieces n (c + size_of a) Hashing [] (the_bits a) (row 0 n ByBits ∷ [])

abbrev pub ask_top : Settings → Stage → List Piece → Option Question
ask_top S t [] = none
ask_top S t (pc ∷ st) = some (asks S pc.x pc.p pc.q t)

abbrev pub ask_store : Settings → Store → Option Question
ask_store S (store AtOpening n c t st str rows) = some (AskOpen S.h S.key)
ask_store S (store AtPieces n c t st str rows) = ask_top S t st
ask_store S (store AtWhole n c t st str rows) = some (AskBits 0 n)

-- ---- the state that a run has
abbrev pub stack_of : ℕ → ℕ → List Segment → List Piece
stack_of x y [] = []
stack_of x y (dropped ys ∷ r) = stack_of x (y + length ys) r
stack_of x y (settled w ys b ∷ r) = stack_of (x + length b) (y + length ys) r
stack_of x y (waiting p ys t ∷ r) = record { x = x; p = p; y = y; q = length ys } ∷ stack_of (x + p) (y + length ys) r

abbrev pub stage_of_top : List Segment → Stage
stage_of_top [] = Hashing
stage_of_top (dropped ys ∷ r) = stage_of_top r
stage_of_top (settled w ys b ∷ r) = stage_of_top r
stage_of_top (waiting p ys t ∷ r) = t

abbrev pub store_of : Run → Store
store_of opening = store AtOpening 0 0 Hashing [] [] []
store_of (working n c segs rows) = store AtPieces n c (stage_of_top segs) (stack_of 0 0 segs) (string segs) rows
store_of (whole n c segs rows) = store AtWhole n c (stage_of_top segs) (stack_of 0 0 segs) (string segs) rows

-- ---- all but the leftmost waiting piece are at their first stage
abbrev pub Fresh : Settings → List Segment → Type 0
Fresh S [] = Unit {0}
Fresh S (dropped ys ∷ r) = Fresh S r
Fresh S (settled w ys b ∷ r) = Fresh S r
Fresh S (waiting p ys t ∷ r) = (t ≡ first_stage S p (length ys)) × Fresh S r

abbrev pub FreshTail : Settings → List Segment → Type 0
FreshTail S [] = Unit {0}
FreshTail S (dropped ys ∷ r) = FreshTail S r
FreshTail S (settled w ys b ∷ r) = FreshTail S r
FreshTail S (waiting p ys t ∷ r) = Fresh S r

fresh-tail : (S : Settings) (l : List Segment) → Fresh S l → FreshTail S l
fresh-tail S [] f = tt
fresh-tail S (dropped ys ∷ r) f = fresh-tail S r f
fresh-tail S (settled w ys b ∷ r) f = fresh-tail S r f
fresh-tail S (waiting p ys t ∷ r) f = f.1

fresh-stage : (S : Settings) (x y : ℕ) (l : List Segment) → Fresh S l → stage_of_top l ≡ top_stage S (stack_of x y l)
fresh-stage S x y [] f = refl
fresh-stage S x y (dropped ys ∷ r) f = fresh-stage S x (y + length ys) r f
fresh-stage S x y (settled w ys b ∷ r) f = fresh-stage S (x + length b) (y + length ys) r f
fresh-stage S x y (waiting p ys t ∷ r) f = f.0

pub stack-waits : (x y : ℕ) (l : List Segment) → any_piece (stack_of x y l) ≡ waits l
stack-waits x y [] = refl
stack-waits x y (dropped ys ∷ r) = stack-waits x (y + length ys) r
stack-waits x y (settled w ys b ∷ r) = stack-waits (x + length b) (y + length ys) r
stack-waits x y (waiting p ys t ∷ r) = refl

-- ---- the leftmost waiting piece
pub record FirstWaiting (segs : List Segment) : Type 0 where
  pub front : List Segment
  pub len : ℕ
  pub copy : List Bool
  pub stage : Stage
  pub rest : List Segment
  pub is : segs ≡ front ++ (waiting len copy stage ∷ rest)
  pub still : waits front ≡ false

pub first_waiting : (segs : List Segment) → waits segs ≡ true → FirstWaiting segs
first_waiting [] e = absurd (true-false (sym e))
first_waiting (dropped ys ∷ r) e = let c = first_waiting r e in
    record { front = dropped ys ∷ c.front; len = c.len; copy = c.copy; stage = c.stage; rest = c.rest; is = ap (λ (l : List Segment). dropped ys ∷ l) c.is; still = c.still }
first_waiting (settled w ys b ∷ r) e = let c = first_waiting r e in
    record { front = settled w ys b ∷ c.front; len = c.len; copy = c.copy; stage = c.stage; rest = c.rest; is = ap (λ (l : List Segment). settled w ys b ∷ l) c.is; still = c.still }
first_waiting (waiting p ys t ∷ r) e = record { front = []; len = p; copy = ys; stage = t; rest = r; is = refl; still = refl }

-- what the pieces before it do to the functions above
pub stack-front : (x y : ℕ) (f l : List Segment) → waits f ≡ false → stack_of x y (f ++ l) ≡ stack_of (x + total span f) (y + length (copies f)) l
stack-front x y [] l e = rw (add-zero) (ap (λ (n : ℕ). stack_of x n l) (omega arith))
stack-front x y (dropped ys ∷ f) l e =
    stack-front x (y + length ys) f l e ∙ ap₂ (λ (a b : ℕ). stack_of a b l) (omega arith) (let k = length-append ys (copies f) in omega arith)
stack-front x y (settled w ys b ∷ f) l e =
    stack-front (x + length b) (y + length ys) f l e ∙ ap₂ (λ (a b : ℕ). stack_of a b l) (omega arith) (let k = length-append ys (copies f) in omega arith)
stack-front x y (waiting p ys t ∷ f) l e = absurd (true-false e)

pub stage-front : (f l : List Segment) → waits f ≡ false → stage_of_top (f ++ l) ≡ stage_of_top l
stage-front [] l e = refl
stage-front (dropped ys ∷ f) l e = stage-front f l e
stage-front (settled w ys b ∷ f) l e = stage-front f l e
stage-front (waiting p ys t ∷ f) l e = absurd (true-false e)

step-front : (S : Settings) (a : Answer) (f l : List Segment) → waits f ≡ false → step S a (f ++ l) ≡ f ++ step S a l
step-front S a [] l e = refl
step-front S a (dropped ys ∷ f) l e = ap (λ (k : List Segment). dropped ys ∷ k) (step-front S a f l e)
step-front S a (settled w ys b ∷ f) l e = ap (λ (k : List Segment). settled w ys b ∷ k) (step-front S a f l e)
step-front S a (waiting p ys t ∷ f) l e = absurd (true-false e)

rows-front : (S : Settings) (a : Answer) (x : ℕ) (f l : List Segment) → waits f ≡ false → new_rows S a x (f ++ l) ≡ new_rows S a (x + total span f) l
rows-front S a x [] l e = rw (add-zero)
rows-front S a x (dropped ys ∷ f) l e = rows-front S a x f l e ∙ ap (λ (n : ℕ). new_rows S a n l) (omega arith)
rows-front S a x (settled w ys b ∷ f) l e = rows-front S a (x + length b) f l e ∙ ap (λ (n : ℕ). new_rows S a n l) (omega arith)
rows-front S a x (waiting p ys t ∷ f) l e = absurd (true-false e)

tail-front : (S : Settings) (f l : List Segment) → waits f ≡ false → FreshTail S l → FreshTail S (f ++ l)
tail-front S [] l e h = h
tail-front S (dropped ys ∷ f) l e h = tail-front S f l e h
tail-front S (settled w ys b ∷ f) l e h = tail-front S f l e h
tail-front S (waiting p ys t ∷ f) l e h = absurd (true-false e)

front-tail : (S : Settings) (f l : List Segment) → waits f ≡ false → FreshTail S (f ++ l) → FreshTail S l
front-tail S [] l e h = h
front-tail S (dropped ys ∷ f) l e h = front-tail S f l e h
front-tail S (settled w ys b ∷ f) l e h = front-tail S f l e h
front-tail S (waiting p ys t ∷ f) l e h = absurd (true-false e)

pub string-append : (f l : List Segment) → string (f ++ l) ≡ string f ++ string l
string-append [] l = refl
string-append (s ∷ f) l = ap (λ (k : List Bool). bits_of s ++ k) (string-append f l) ∙ sym (append_assoc (bits_of s) (string f) (string l))

-- the bits settled are as many as the pieces span
bits-span : (s : Segment) → length (bits_of s) ≡ span s
bits-span (dropped ys) = refl
bits-span (waiting p ys t) = blank-length p
bits-span (settled w ys b) = refl

string-span : (l : List Segment) → length (string l) ≡ total span l
string-span [] = refl
string-span (s ∷ l) = let a = length-append (bits_of s) (string l) in let b = bits-span s in let c = string-span l in omega arith

pub ask-front : (S : Settings) (x : ℕ) (f l : List Segment) → waits f ≡ false → ask S x (f ++ l) ≡ ask S (x + total span f) l
ask-front S x [] l e = rw (add-zero x) refl
ask-front S x (dropped ys ∷ f) l e = ask-front S x f l e ∙ ap (λ (n : ℕ). ask S n l) (omega arith)
ask-front S x (settled w ys b ∷ f) l e = ask-front S (x + length b) f l e ∙ ap (λ (n : ℕ). ask S n l) (omega arith)
ask-front S x (waiting p ys t ∷ f) l e = absurd (true-false e)

pub chain-front : (P : ℕ → Segment → Type 0) (x e : ℕ) (f l : List Segment) → Chain P x (f ++ l) e → Chain P (x + total span f) l e
chain-front P x e [] l h = rw (add-zero x) h
chain-front P x e (s ∷ f) l h = let a : x + span s + total span f ≡ x + (span s + total span f) = omega arith in rw a at (chain-front P (x + span s) e f l h.1)

-- the state asks what the run asks
ask-same : (S : Settings) (x y : ℕ) (l : List Segment) → ask_top S (stage_of_top l) (stack_of x y l) ≡ ask S x l
ask-same S x y [] = refl
ask-same S x y (dropped ys ∷ r) = ask-same S x (y + length ys) r
ask-same S x y (settled w ys b ∷ r) = ask-same S (x + length b) (y + length ys) r
ask-same S x y (waiting p ys t ∷ r) = refl

pub asks-same : (S : Settings) (s : Run) → ask_store S (store_of s) ≡ question S s
asks-same S opening = refl
asks-same S (working n c segs rows) = ask-same S 0 0 segs
asks-same S (whole n c segs rows) = refl

abbrev pub Tidy : Settings → Run → Type 0
Tidy S opening = Unit {0}
Tidy S (working n c segs rows) = FreshTail S segs
Tidy S (whole n c segs rows) = FreshTail S segs

-- ---- where an anchor is placed
abbrev Each : (ℕ → Type 0) → List ℕ → Type 0
Each P [] = Unit {0}
Each P (r ∷ l) = P r × Each P l

abbrev IfAny : (ℕ → Type 0) → Option ℕ → Type 0
IfAny P none = Unit {0}
IfAny P (some r) = P r

nearest-each : (P : ℕ → Type 0) (f : ℕ → Bool) (d : ℕ → ℕ) (l : List ℕ) → Each P l → IfAny P (nearest f d l)
nearest-each P f d [] h = tt
nearest-each P f d (r ∷ l) h =
    let ih = nearest-each P f d l h.1 in
    by-test (IfAny P) (f r) {a = some (nearer d r (nearest f d l))} (λ e. go (nearest f d l) ih) (λ e. ih)
  where
    go : (o : Option ℕ) → IfAny P o → P (nearer d r o)
    go none i = h.0
    go (some q) i = by-test P (leb (d r) (d q)) (λ e. h.0) (λ e. i)

up_to-each : (P : ℕ → Type 0) (i n e : ℕ) → i + n ≡ e → ((r : ℕ) → r < e → P r) → Each P (places i n)
up_to-each P i zero e q h = tt
up_to-each P i (suc n) e q h = (h i (omega arith), up_to-each P (suc i) n e (omega arith) h)

place-within : (S : Settings) (p s : ℕ) (ys b : List Bool) → IfAny (λ r. r + S.m ≤ length ys) (place S.m S.k p s ys b)
unfolding place
place-within S p s ys b =
    nearest-each (λ r. r + S.m ≤ length ys) (fits S.m S.k p s ys b) (place_distance p (length ys) s) (places 0 (length ys + 1 - S.m))
    (up_to-each (λ r. r + S.m ≤ length ys) 0 (length ys + 1 - S.m) (length ys + 1 - S.m) (omega arith) (λ r h. omega arith))

abbrev pub Landed : Settings → List Bool → Effect → Type 0
Landed S ys (settles w b) = Unit {0}
Landed S ys (stays t) = Unit {0}
Landed S ys (splits s r b) = r + S.m ≤ length ys

module _ (S : Settings) where
  trial-landed : (v p : ℕ) (w : How) (ys b : List Bool) → Landed S ys (trial S v w b (retry S p ys))
  trial-landed v p w ys b = by-test (Landed S ys) (eqb (hash_of S b) v) {a = settles w b} (λ e. tt) (λ e. tt)

  trial_of-landed : (v p : ℕ) (w : How) (ys : List Bool) (o : Option (List Bool)) → Landed S ys (trial_of S v w o (retry S p ys))
  trial_of-landed v p w ys none = tt
  trial_of-landed v p w ys (some b) = trial-landed v p w ys b

  pub landed : (a : Answer) (p : ℕ) (ys : List Bool) (t : Stage) → Landed S ys (effect S a p ys t)
  unfolding effect
  landed a p ys Hashing = trial-landed (the_hash a) p ByHash ys ys
  landed a p ys PuttingIn = trial_of-landed (the_hash a) p ByPutIn ys (put_in (the_syndrome a) ys)
  landed a p ys TakingOut = trial_of-landed (the_hash a) p ByTakeOut ys (take_out (the_syndrome a) ys)
  landed a p ys Columns = trial_of-landed (the_hash a) p ByBurst ys (repair_run (distance p (length ys)) p (the_syndromes a) ys)
  landed a p ys AllBits = tt
  landed a p ys (Anchor i) = go (place S.m S.k p (offset S.m p i) ys (the_bits a)) (place-within S p (offset S.m p i) ys (the_bits a))
    where
      go : (o : Option ℕ) → IfAny (λ r. r + S.m ≤ length ys) o → Landed S ys (placed (offset S.m p i) (the_bits a) (after_anchor i) o)
      go none h = tt
      go (some r) h = h

-- ---- pieces as they begin
module _ (S : Settings) where
  begin-stack : (x y p : ℕ) (ys : List Bool) (l : List Segment) → stack_of x y (begin S p ys ∷ l) ≡ push (record { x = x; p = p; y = y; q = length ys }) (stack_of (x + p) (y + length ys) l)
  unfolding begin
  begin-stack x y zero ys l = rw (add-zero x) refl
  begin-stack x y (suc p) ys l = rw (eqb-suc-zero p) refl

  begin-rows_of : (x p : ℕ) (ys : List Bool) (l : List Segment) → rows_of x (begin S p ys ∷ l) ≡ rows_of (x + p) l
  unfolding begin
  begin-rows_of x zero ys l = rw (add-zero x) refl
  begin-rows_of x (suc p) ys l = refl

  begin-bits : (p : ℕ) (ys : List Bool) → bits_of (begin S p ys) ≡ blank p
  unfolding begin
  begin-bits zero ys = refl
  begin-bits (suc p) ys = refl

  begin-fresh : (p : ℕ) (ys : List Bool) (l : List Segment) → Fresh S l → Fresh S (begin S p ys ∷ l)
  unfolding begin
  begin-fresh zero ys l h = h
  begin-fresh (suc p) ys l h = (refl, h)

blank-add : (a b : ℕ) → blank (a + b) ≡ blank a ++ blank b
blank-add zero b = rw (zero-add b) refl
blank-add (suc a) b = let e : suc a + b ≡ suc (a + b) = omega arith in rw e (ap (λ (l : List Bool). false ∷ l) (blank-add a b))

over-at : (F B R b : List Bool) (x : ℕ) → length F ≡ x → length b ≡ length B → over (F ++ (B ++ R)) x b ≡ F ++ (b ++ R)
over-at F B R b x e f =
    let d : drop (x + length b) (F ++ (B ++ R)) ≡ R =
    ap (λ (n : ℕ). drop n (F ++ (B ++ R))) (let g : x + length b ≡ length F + length B = omega arith in g) ∙ drop-append-add F (B ++ R) (length B) ∙ drop_at B R (length B) refl in
    ap₂ (λ (u v : List Bool). u ++ (b ++ v)) (take_at F (B ++ R) x e) d

-- ---- an effect on the pieces and on the state
module _ (S : Settings) (L : Limits S) (p : ℕ) (ys : List Bool) (rest : List Segment) (x y : ℕ) where
  abbrev top : Piece
  top = record { x = x; p = p; y = y; q = length ys }

  abbrev below : List Piece
  below = stack_of (x + p) (y + length ys) rest

  abbrev Cuts : Effect → Type 0
  Cuts (settles w b) = Unit {0}
  Cuts (stays t) = Unit {0}
  Cuts (splits s r b) = s + S.m ≤ p

  anchor-length : (s r : ℕ) (b : List Bool) → s + S.m ≤ p → total span (made S p ys (splits s r b)) ≡ p → length b ≡ S.m
  anchor-length s r b c e = let u = begin-span S L s (take r ys) in let v = begin-span S L (p - (s + S.m)) (drop (r + S.m) ys) in omega arith

  stack_is : (e : Effect) → total span (made S p ys e) ≡ p → Landed S ys e → Cuts e → stack_of x y (made S p ys e ++ rest) ≡ stack_after S top below e
  stack_is (settles w b) h l c = let e : length b ≡ p = omega arith in rw e refl
  stack_is (stays t) h l c = refl
  stack_is (splits s r b) h l c =
      let m = S.m in
      let a₁ : length (take r ys) ≡ r = length-take-le r ys (omega arith) in
      let a₂ : length (part ys r S.m) ≡ S.m = length-take-le S.m (drop r ys) (let e = length-drop r ys in omega arith) in
      let a₃ : length (drop (r + S.m) ys) ≡ length ys - (r + S.m) = length-drop (r + S.m) ys in
      let a₄ = anchor-length s r b c h in
      let z₁ : x + s + S.m + (p - (s + S.m)) ≡ x + p = omega arith in
      let z₂ : y + r + S.m + (length ys - (r + S.m)) ≡ y + length ys = omega arith in
      begin-stack S x y s (take r ys) (settled ByAnchor (part ys r m) b ∷ begin S (p - (s + m)) (drop (r + m) ys) ∷ rest)
      ∙ rw (begin-stack S (x + s + length b) (y + length (take r ys) + length (part ys r m)) (p - (s + m)) (drop (r + m) ys) rest, a₁, a₂, a₃, a₄, z₁, z₂) refl

  stage_is : (e : Effect) → Fresh S rest → total span (made S p ys e) ≡ p → Landed S ys e → Cuts e → stage_of_top (made S p ys e ++ rest) ≡ stage_after S (stack_after S top below e) e
  stage_is (settles w b) f h l c = fresh-stage S (x + p) (y + length ys) rest f
  stage_is (stays t) f h l c = refl
  stage_is (splits s r b) f h l c =
      fresh-stage S x y (made S p ys (splits s r b) ++ rest) (begin-fresh S s (take r ys) (settled ByAnchor (part ys r S.m) b ∷ begin S (p - (s + S.m)) (drop (r + S.m) ys) ∷ rest) (begin-fresh S (p - (s + S.m)) (drop (r + S.m) ys) rest f))
      ∙ ap (top_stage S) (stack_is (splits s r b) h l c)

  tail-is : (e : Effect) → Fresh S rest → FreshTail S (made S p ys e ++ rest)
  tail-is (settles w b) f = fresh-tail S rest f
  tail-is (stays t) f = f
  tail-is (splits s r b) f =
      fresh-tail S (made S p ys (splits s r b) ++ rest) (begin-fresh S s (take r ys) (settled ByAnchor (part ys r S.m) b ∷ begin S (p - (s + S.m)) (drop (r + S.m) ys) ∷ rest) (begin-fresh S (p - (s + S.m)) (drop (r + S.m) ys) rest f))

  rows_is : (e : Effect) → total span (made S p ys e) ≡ p → Cuts e → rows_of x (made S p ys e) ≡ rows_after S top e
  rows_is (settles w b) h c = let e : length b ≡ p = omega arith in rw e refl
  rows_is (stays t) h c = refl
  rows_is (splits s r b) h c =
      let a₄ = anchor-length s r b c h in
      begin-rows_of S x s (take r ys) (settled ByAnchor (part ys r S.m) b ∷ begin S (p - (s + S.m)) (drop (r + S.m) ys) ∷ [])
      ∙ rw (begin-norow S L (x + s + length b) (p - (s + S.m)) (drop (r + S.m) ys), a₄) refl

  bits_is : (F : List Bool) (e : Effect) → length F ≡ x → total span (made S p ys e) ≡ p → Cuts e → F ++ string (made S p ys e ++ rest) ≡ bits_after top (F ++ (blank p ++ string rest)) e
  bits_is F (settles w b) f h c = sym (over-at F (blank p) (string rest) b x f (let e = blank-length p in omega arith))
  bits_is F (stays t) f h c = refl
  bits_is F (splits s r b) f h c =
      let k = p - (s + S.m) in
      let R = string rest in
      let a₄ = anchor-length s r b c h in
      let bm = blank-length S.m in
      let bs = blank-length s in
      let la = length-append F (blank s) in
      let e : s + (S.m + (p - (s + S.m))) ≡ p = omega arith in
      let bp : blank p ≡ blank s ++ (blank S.m ++ blank (p - (s + S.m))) =
      ap blank (sym e) ∙ blank-add s (S.m + k) ∙ ap (λ (l : List Bool). blank s ++ l) (blank-add S.m k) in
      let same' : F ++ (blank p ++ R) ≡ (F ++ blank s) ++ (blank S.m ++ (blank k ++ R)) = rw bp (simp append_assoc) in
      rw (begin-bits S s (take r ys), begin-bits S (p - (s + S.m)) (drop (r + S.m) ys))
      (sym (ap (λ (l : List Bool). over l (x + s) b) same'
      ∙ over-at (F ++ blank s) (blank S.m) (blank k ++ R) b (x + s) (omega arith) (omega arith)
      ∙ append_assoc F (blank s) (b ++ (blank k ++ R))))

-- ---- one answer, on the run and on its state
module _ (S : Settings) (Y : List Bool) (L : Limits S) where
  sane-cuts : (p : ℕ) (ys : List Bool) (rest : List Segment) (x y : ℕ) (t : Stage) (e : Effect) → Sane S p t e → Cuts S L p ys rest x y e
  sane-cuts p ys rest x y t (settles w b) h = tt
  sane-cuts p ys rest x y t (stays u) h = tt
  sane-cuts p ys rest x y t (splits s r b) h = h.0.inside

  judge-is : (n c : ℕ) (segs : List Segment) (rows : List Row) → store_of (judge S n c segs rows) ≡ store (phase_after S c (stack_of 0 0 segs)) n c (stage_of_top segs) (stack_of 0 0 segs) (string segs) rows
  unfolding judge
  judge-is n c segs rows = rw (stack-waits 0 0 segs) (go (ltb S.ceiling c && waits segs))
    where
      go : (t : Bool) → store_of (cond t (whole n c segs rows) (working n c segs rows)) ≡ store (cond t AtWhole AtPieces) n c (stage_of_top segs) (stack_of 0 0 segs) (string segs) rows
      go true = refl
      go false = refl

  -- the step at the piece that waits, behind pieces that do not
  at_piece : (n c : ℕ) (front rest : List Segment) (p : ℕ) (ys : List Bool) (t : Stage) (rows : List Row) (a : Answer)
      → waits front ≡ false → Fresh S rest → Sane S p t (effect S a p ys t) → total span (work S a p ys t) ≡ p → copies (front ++ (waiting p ys t ∷ rest)) ≡ Y
      → let segs = front ++ (waiting p ys t ∷ rest) in
      store_of (judge S n (c + size_of a) (step S a segs) (rows ++ new_rows S a 0 segs)) ≡ step_store S Y (store_of (working n c segs rows)) a
  at_piece n c front rest p ys t rows a w f s z k =
      let segs = front ++ (waiting p ys t ∷ rest) in
      let e = effect S a p ys t in
      let x₀ = 0 + total span front in
      let y₀ = 0 + length (copies front) in
      let pc : Piece = top S L p ys rest x₀ y₀ in
      let st : List Piece = below S L p ys rest x₀ y₀ in
      let cu = sane-cuts p ys rest x₀ y₀ t (effect S a p ys t) s in
      let la = landed S a p ys t in
      let c' = c + size_of a in
      let str = string front ++ (blank p ++ string rest) in
      let sf : length (string front) ≡ 0 + total span front = let q = string-span front in omega arith in
      let step' : step S a segs ≡ front ++ (work S a p ys t ++ rest) = step-front S a front (waiting p ys t ∷ rest) w in
      let d₁ : stack_of 0 0 (step S a segs) ≡ stack_after S pc st e =
      ap (stack_of 0 0) step' ∙ stack-front 0 0 front (work S a p ys t ++ rest) w ∙ stack_is S L p ys rest x₀ y₀ (effect S a p ys t) z la cu in
      let d₂ : stage_of_top (step S a segs) ≡ stage_after S (stack_after S pc st e) e =
      ap stage_of_top step' ∙ stage-front front (work S a p ys t ++ rest) w ∙ stage_is S L p ys rest x₀ y₀ (effect S a p ys t) f z la cu in
      let d₃ : string (step S a segs) ≡ bits_after pc str e =
      ap string step' ∙ string-append front (work S a p ys t ++ rest) ∙ bits_is S L p ys rest x₀ y₀ (string front) (effect S a p ys t) sf z cu in
      let d₄ : new_rows S a 0 segs ≡ rows_after S pc e =
      rows-front S a 0 front (waiting p ys t ∷ rest) w ∙ rows_is S L p ys rest x₀ y₀ (effect S a p ys t) z cu in
      let e₁ : stack_of 0 0 segs ≡ pc ∷ st = stack-front 0 0 front (waiting p ys t ∷ rest) w in
      let e₂ : stage_of_top segs ≡ t = stage-front front (waiting p ys t ∷ rest) w in
      let e₃ : string segs ≡ str = string-append front (waiting p ys t ∷ rest) in
      let ca : copies front ++ (ys ++ copies rest) ≡ Y = sym (copies-append front (waiting p ys t ∷ rest)) ∙ k in
      let e₄ : part Y y₀ (length ys) ≡ ys =
      ap (λ (l : List Bool). part l y₀ (length ys)) (sym ca) ∙ ap (take (length ys)) (drop_at (copies front) (ys ++ copies rest) y₀ (omega arith)) ∙ take_at ys (copies rest) (length ys) refl in
      let left : store_of (judge S n c' (step S a segs) (rows ++ new_rows S a 0 segs)) ≡ applied S n c' pc st str rows e =
      judge-is n c' (step S a segs) (rows ++ new_rows S a 0 segs) ∙ (λ i. store (phase_after S c' (d₁ i)) n c' (d₂ i) (d₁ i) (d₃ i) (rows ++ d₄ i)) in
      let right : step_store S Y (store_of (working n c segs rows)) a ≡ applied S n c' pc st str rows e =
      (λ i. step_store S Y (store AtPieces n c (e₂ i) (e₁ i) (e₃ i) rows) a) ∙ ap (λ (l : List Bool). applied S n c' pc st str rows (effect S a p l t)) e₄ in
      left ∙ sym right

  judge-tidy : (n c : ℕ) (segs : List Segment) (rows : List Row) → FreshTail S segs → Tidy S (judge S n c segs rows)
  unfolding judge
  judge-tidy n c segs rows h = by-test (Tidy S) (ltb S.ceiling c && waits segs) {a = whole n c segs rows} {b = working n c segs rows} (λ e. h) (λ e. h)

  -- for pieces that are cut at the one that waits
  keeps-step : (n c : ℕ) (segs front rest : List Segment) (p : ℕ) (ys : List Bool) (t : Stage) (rows : List Row) (q : Question) (a : Answer) → ProperFor S q a
      → segs ≡ front ++ (waiting p ys t ∷ rest) → waits front ≡ false → FreshTail S segs → Chain (Shape S n) 0 segs n → copies segs ≡ Y → ask S 0 segs ≡ some q
      → (store_of (judge S n (c + size_of a) (step S a segs) (rows ++ new_rows S a 0 segs)) ≡ step_store S Y (store_of (working n c segs rows)) a)
      × FreshTail S (step S a segs)
  keeps-step n c segs front rest p ys t rows q a o is w ft ch cp k =
      let x₀ = 0 + total span front in
      let f : Fresh S rest = front-tail S front (waiting p ys t ∷ rest) w (rw is at ft) in
      let ch' : Chain (Shape S n) 0 (front ++ (waiting p ys t ∷ rest)) n = rw is at ch in
      let g = (chain-front (Shape S n) 0 n front (waiting p ys t ∷ rest) ch').0 in
      let k' : ask S 0 (front ++ (waiting p ys t ∷ rest)) ≡ some q = rw is at k in
      let k'' : some (asks S x₀ p (length ys) t) ≡ some q = sym (ask-front S 0 front (waiting p ys t ∷ rest) w) ∙ k' in
      let d : asks S x₀ p (length ys) t ≡ q = cc in
      let en = chain-end (Shape S n) x₀ (x₀ + p) (work S a p ys t) (work-chain S Y L n q a o x₀ p ys t g d) in
      let z : total span (work S a p ys t) ≡ p = omega arith in
      rw is (
        at_piece n c front rest p ys t rows a w f (sane S L a p ys t g.1) z (rw is at cp),
        rw (step-front S a front (waiting p ys t ∷ rest) w) (tail-front S front (work S a p ys t ++ rest) w (tail-is S L p ys rest 0 0 (effect S a p ys t) f)),
      )

  -- whatever proper answer is taken
  pub keeps-pace : (asked : ℕ) (s : Run) (q : Question) (a : Answer) → ProperFor S q a → Inv S Y asked s → Tidy S s → question S s ≡ some q
      → (store_of (advance S Y s a) ≡ step_store S Y (store_of s) a) × Tidy S (advance S Y s a)
  keeps-pace asked opening q a o i t k =
      let n = the_size a in
      let b₁ : stack_of 0 0 (begin S n Y ∷ []) ≡ push (record { x = 0; p = n; y = 0; q = length Y }) [] = begin-stack S 0 0 n Y [] in
      let fr : Fresh S (begin S n Y ∷ []) = begin-fresh S n Y [] tt in
      let b₂ : stage_of_top (begin S n Y ∷ []) ≡ top_stage S (push (record { x = 0; p = n; y = 0; q = length Y }) []) = fresh-stage S 0 0 (begin S n Y ∷ []) fr ∙ ap (top_stage S) b₁ in
      let b₃ : string (begin S n Y ∷ []) ≡ blank n = append-nil (bits_of (begin S n Y)) ∙ begin-bits S n Y in
      ((λ j. store AtPieces n 0 (b₂ j) (b₁ j) (b₃ j) []), fresh-tail S (begin S n Y ∷ []) fr)
  keeps-pace asked (working n c segs rows) q a o i t k =
      let h = i.0 in
      let u = first_waiting segs (ask-waits S q 0 segs k) in
      let r = keeps-step n c segs u.front u.rest u.len u.copy u.stage rows q a o u.is u.still t h.tiles h.copy k in
      (r.0, judge-tidy n (c + size_of a) (step S a segs) (rows ++ new_rows S a 0 segs) r.1)
  keeps-pace asked (whole n c segs rows) q a o i t k =
      ((λ j. store AtPieces n (c + size_of a) Hashing [] (append-nil (the_bits a) j) (row 0 n ByBits ∷ [])), tt)
