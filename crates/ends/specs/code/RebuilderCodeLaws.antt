-- Laws for the proofs of src/steps.rt and src/rebuilding.rt.
use Rattle.std.specs.Prelude.{◌≡◌, Option as CodeOption, Some, None, Result as CodeResult, Ok, Err, Bool, true, false, List, [], ◌∷◌, ℕ, ◌+◌, ◌-◌, ◌*◌, max, ◌≤◌, ◌<◌, length, take}
use Rattle.std.proofs.Math.Path.{refl, ap}
use Rattle.std.proofs.Common.{sym, ap₂, ◌∙◌, subst, inl, inr, lit≤}
use Rattle.std.proofs.Math.Option.{Option, none, some}
use native.Mathlib.Omega.{arith}
use borrow.Author.Tests.{eq-eqb, ne_eqb}
use Rattle.strings.specs.Results.{Result, value}
use Rattle.strings.specs.declared.Refusal.{Refusal}
use Rattle.codes.specs.laws.TrialLaws.{agreed-some, agreed-none, tried-settled, tried-left}
use Rattle.codes.specs.Trials.{agreeing, tried_at}
use Rattle.strings.specs.Bits.{range, write_bits, Part, at_front, max_bits}
use Rattle.strings.proofs.laws.RangeLaws.{range_length}
use Rattle.codes.specs.Hash.{hash}
use Rattle.codes.specs.Repair.{repair_to, OneApart}
use Rattle.codes.specs.laws.RepairLaws.{repair-put-in, repair-take-out}
use Rattle.messages.specs.declared.Question.{Question}
use Rattle.messages.specs.declared.Question.TheVariants.{AskBits}
use Rattle.messages.specs.Questions.{question_bytes}
use Rattle.messages.specs.laws.QuestionLaws.{InRange, question-size, question-some}
use Rattle.messages.specs.Answers.{Answer, hash_answer, syndrome_answer, bits_answer, burst_answer}
use Rattle.messages.specs.Writing.{put_front, said_write}
use Rattle.messages.specs.laws.WritingLaws.{wrote-is}
use Rattle.ends.specs.declared.How.{How}
use Rattle.ends.specs.declared.How.TheVariants.{ByHash, ByAnchor, ByBits, ByBurst}
use Rattle.ends.specs.declared.Piece.{Piece}
use Rattle.ends.specs.declared.Row.{Row}
use Rattle.ends.specs.declared.Rebuilder.{Rebuilder}
use Rattle.ends.specs.declared.SheetChange.{SheetChange}
use Rattle.ends.specs.declared.SheetChange.TheVariants.{NoRow, AddRow}
use Rattle.ends.specs.laws.Moves.{moved-effect}
use Rattle.ends.specs.Segments.{placed, later_stage, settles, stays, splits, effect, trial_of, retry, hash_of, row, how_number, after_anchor, asks, offset, Effect}
use Rattle.ends.specs.laws.Right.{Fit, Long, offset-fits, run-apart}
use Rattle.ends.specs.States.{top, popped, restaged, retried, split_at, planned}
use Rattle.ends.specs.Soundness.{sound, asks_before}
use Rattle.ends.specs.laws.SoundParts.{stage-long, Framed, sound-is, PiecesIs, pieces-is, phase-pieces, TopIs, top-is, ask-inside, PhaseOf, is_opening, is_pieces, is_whole, phase-of}
use Rattle.ends.specs.laws.SoundSteps.{tallied-sound, effect-tally}
use Rattle.ends.specs.laws.Delivery.{asks-not-open, inside-range}
use Rattle.ends.specs.Anchors.{place, Best, fits as anchor_fits, place_distance, distance}
use Rattle.ends.specs.laws.AnchorLaws.{place-best}
use Rattle.ends.specs.laws.Steps.{step-pieces}
use Rattle.ends.specs.RebuilderCall.{tallied, Step, effect_step, step_of, string_after, written_question}
use Rattle.ends.specs.AnchorSearch.{place_in}
use Rattle.ends.specs.code.Window.{SearchBounds, Searching}
use Rattle.ends.specs.declared.rebuilding.RebuilderOut.{RebuilderOut}
use Rattle.ends.specs.code.StateCode.{Usable, Holds, Stages, Retries, Splits, Counts, Offsets, plan_of}
use Rattle.ends.specs.code.SoundLaws.{sound-counts}
use Rattle.ends.specs.RebuilderOutcome.{call_said, next_size, RebuilderSaid, said_rebuilder, leaves_rebuilder}
use Rattle.ends.specs.code.RebuilderParts.{next_answer, OutIs, Acting, Splitting, step_taken, Retriable, RepairDue, puts_in, takes_out, repair_how, BurstDue, burst_of}
use Rattle.ends.specs.declared.Stage.TheVariants.{Hashing, PuttingIn, TakingOut, Anchor, AllBits, Columns}
use Rattle.ends.specs.declared.Attempt.{Attempt}
use Rattle.ends.specs.declared.Attempt.TheVariants.{First, Second, Third}
use Rattle.ends.specs.declared.Phase.TheVariants.{AtPieces}
use Rattle.ends.specs.declared.Stage.{Stage}
use Rattle.codes.specs.Columns.{RunApart, repair_run}

-- ---- the question that a sound state writes
pub question-range : (s : Rebuilder) (q : Question) → sound s ≡ true → planned s ≡ some q → InRange (max 1 s.n) q × (s.n ≤ max_bits)
question-range s q e k = let f = sound-is s e in go f.0 (phase-of s q f.1 k)
  where
    go : Framed s → PhaseOf s q → InRange (max 1 s.n) q × (s.n ≤ max_bits)
    go f (is_opening p i d) =
        let L = f.limits in
        (rw (← d) record { within = record { h-least = L.h-least; h-most = L.h-most; key-least = L.key-least }; key-most = L.key-most }, f.size)
    go f (is_pieces p i w d) =
        let t = top-is s i.stack w in
        let ins = ask-inside s f.limits t in
        let a = t.some in let b = t.in_x in
        let e : max 1 s.n ≡ s.n = omega arith in
        (rw (← d) (rw e (inside-range s.n (asks s.settings (top s).x (top s).p (top s).q s.stage) (asks-not-open s.settings (top s).x (top s).p (top s).q s.stage) ins)), f.size)
    go f (is_whole p i d) =
        let t = top-is s i.stack i.some in
        let a = t.some in let b = t.in_x in
        (rw (← d) (inside-range (max 1 s.n) (AskBits 0 s.n) tt (omega arith, omega arith)), f.size)

pub question-short : (s : Rebuilder) (q : Question) → sound s ≡ true → planned s ≡ some q → length (question_bytes q) ≤ 8
question-short s q e k = let r = question-range s q e k in let n = r.1 in question-size (max 1 s.n) q (omega arith) r.0

next-said : (m : List ℕ) → call_said (next_answer m) ≡ value (next_size m)
next-said [] = refl
next-said (b ∷ m) = refl

next-asks : (m : List ℕ) → 0 < length m → next_answer m ≡ Ok (Some (length m))
next-asks [] h = absurd (omega arith)
next-asks (b ∷ m) h = refl

abbrev pub given_back : (m : List ℕ) → Rebuilder → SheetChange → RebuilderOut
given_back m s k = record { answer = next_answer m; state = s; sheet = k; answered = s.answered; counted = s.counted }

pub none-planned : (o : Option Question) → plan_of o ≡ None → o ≡ none
none-planned none z = refl
none-planned (some q) z = let w : ◌≡◌ {A = ℕ} 0 1 = cc in absurd (omega arith)

pub some-planned : (o : Option Question) (q : Question) → plan_of o ≡ Some q → o ≡ some q
some-planned none q z = let w : ◌≡◌ {A = ℕ} 0 1 = cc in absurd (omega arith)
some-planned (some r) q z = let d : r ≡ q = cc in ap some d

module _ (s : Rebuilder) (k : SheetChange) (buf : List ℕ) (e : sound s ≡ true) (capacity : 8 ≤ length buf) {p : CodeOption Question} (pl : p ≡ plan_of (planned s)) where
  pub finished-out : p ≡ None → (r : RebuilderOut) → r ≡ given_back [] s k → OutIs r s k buf buf
  finished-out z r f =
      let n : planned s ≡ none = none-planned (planned s) (sym pl ∙ z) in
      record { out = f ∙ sym (ap (λ (o : Option Question). given_back (written_question o) s k) n); question = sym (ap (λ (o : Option Question). at_front (written_question o) buf) n) }

  module _ {q : Question} (z : p ≡ Some q) (w : CodeResult ℕ Refusal) (buf' : List ℕ) (wr : said_write w buf' ≡ put_front (question_bytes q) buf) where
    fits : (w ≡ Ok (length (question_bytes q))) × (buf' ≡ at_front (question_bytes q) buf)
    fits = let h = question-short s q e (some-planned (planned s) q (sym pl ∙ z)) in wrote-is w buf' (question_bytes q) buf wr (omega arith)

    pub short-out : {x : Refusal} → w ≡ Err x → ⊥
    short-out y = let f = fits.0 in let n : ◌≡◌ {A = ℕ} 0 1 = cc in omega arith

    pub asked-out : {size : ℕ} → w ≡ Ok size → (r : RebuilderOut) → r ≡ record { answer = Ok (Some size); state = s; sheet = k; answered = s.answered; counted = s.counted } → OutIs r s k buf buf'
    asked-out {size} y r g =
        let f = fits.0 in
        let n : planned s ≡ some q = some-planned (planned s) q (sym pl ∙ z) in
        let a : size ≡ length (question_bytes q) = cc in
        record {
          out = g ∙ ap (λ (i : ℕ). record { answer = Ok (Some i); state = s; sheet = k; answered = s.answered; counted = s.counted }) a
              ∙ ap (λ (x : CodeResult (CodeOption ℕ) Refusal). record { answer = x; state = s; sheet = k; answered = s.answered; counted = s.counted }) (sym (next-asks (question_bytes q) (question-some q)))
              ∙ sym (ap (λ (o : Option Question). given_back (written_question o) s k) n);
          question = fits.1 ∙ sym (ap (λ (o : Option Question). at_front (written_question o) buf) n);
        }

-- ---- stages before that of all bits
retriable-low : (t : Stage) → Retriable t → asks_before t < 4
retriable-low Hashing h = lit≤ tt
retriable-low PuttingIn h = lit≤ tt
retriable-low TakingOut h = lit≤ tt
retriable-low Columns h = lit≤ tt
retriable-low (Anchor First) h = lit≤ tt
retriable-low (Anchor Second) h = lit≤ tt
retriable-low (Anchor Third) h = lit≤ tt
retriable-low AllBits h = absurd h

before_last : (i : Attempt) → asks_before (Anchor i) < 4
before_last i = retriable-low (Anchor i) tt

pub early : {t : Stage} (u : Stage) → t ≡ u → Retriable u → Retriable t
early u e r = rw e r

pub repair-early : (st : Rebuilder) → RepairDue st → Retriable st.stage
repair-early st (puts_in e h) = early PuttingIn e tt
repair-early st (takes_out e h) = early TakingOut e tt

-- ---- what is known of a state that takes an answer for its leftmost piece
module _ (st : Rebuilder) (size capacity : ℕ) (k : Acting st size capacity) where
  pub framed : Framed st
  framed = (sound-is st k.sound-now).0

  pub pieces : PiecesIs st
  pieces = pieces-is st (sym (phase-pieces st k.phase) ∙ (sound-is st k.sound-now).1)

  pub topped : TopIs st
  topped = top-is st pieces.stack k.some

  pub holds : Holds st
  holds = record { some = k.some; few = framed.few }

  usable : Usable st.settings
  usable = let L = framed.limits in record { m-most = L.m-most; h-most = L.h-most }

  pub popped-stages : Stages (popped st)
  unfolding popped
  popped-stages = let f = framed.few in record { usable = usable; few = omega arith }

  pub retries : Retries st
  retries = record { usable = usable; some = k.some; few = framed.few }

  pub size-most : size ≤ 8194
  size-most = let s = k.short in let n = framed.size in omega arith

  counts : (rows : ℕ) → rows ≤ 1 → Counts st size rows
  counts rows h = let s = size-most in sound-counts st k.sound-now size rows (omega arith) h

  pub settled-counts : Counts (restaged (popped st)) size 1
  unfolding restaged popped
  settled-counts = let q = counts 1 (lit≤ tt) in record { answered = q.answered; counted = q.counted; used = q.used }

  -- neither settling nor splitting uses a row of itself
  pub settled-rows : (restaged (popped st)).rows ≡ st.rows
  unfolding restaged popped
  settled-rows = refl

  pub retried-counts : Counts (retried st) size 0
  unfolding retried
  retried-counts = let q = counts 0 (lit≤ tt) in record { answered = q.answered; counted = q.counted; used = q.used }

  few : st.waiting < 32
  few = topped.few

  -- a list as long as the leftmost piece's copy
  abbrev some-copy : List Bool
  some-copy = range [] 0 (top st).q

  pub settled-sound : sound (tallied (restaged (popped st)) size 1) ≡ true
  settled-sound =
      tallied-sound (restaged (popped st)) size 1
      (effect-tally st k.array framed pieces k.some few size k.short some-copy Hashing (settles ByHash []) (range_length [] 0 (top st).q) tt tt tt)

  pub retried-sound : Retriable st.stage → sound (tallied (retried st) size 0) ≡ true
  retried-sound h =
      tallied-sound (retried st) size 0
      (effect-tally st k.array framed pieces k.some few size k.short some-copy Hashing (stays AllBits) (range_length [] 0 (top st).q) (lit≤ tt) tt (retriable-low st.stage h))

  module _ (s r : ℕ) (g : Splitting st s r) where
    fit : Fit st.settings (top st).p s
    fit = rw g.at (offset-fits st.settings framed.limits (top st).p g.attempt (stage-long st.settings framed.limits (top st).p (top st).q st.stage topped.stage g.attempt g.stage))

    low : asks_before st.stage < 4
    low = rw g.stage (before_last g.attempt)

    pub split-sound : sound (tallied (split_at st s r) size 1) ≡ true
    split-sound =
        let q = range_length [] 0 (top st).q in
        let p = g.placed in
        tallied-sound (split_at st s r) size 1
        (effect-tally st k.array framed pieces k.some few size k.short some-copy Hashing (splits s r []) q (fit, lit≤ tt) (omega arith) low)

    pub split-counts : Counts (split_at st s r) size 1
    split-counts =
        let q = counts 1 (lit≤ tt) in
        let m = moved-effect st.settings st refl k.array k.some few (splits s r []) in
        record { answered = rw m.answered q.answered; counted = rw m.counted q.counted; used = rw m.rows q.used }

    pub split-rows : (split_at st s r).rows ≡ st.rows
    split-rows = (moved-effect st.settings st refl k.array k.some few (splits s r [])).rows

    pub split-start : (top st).x + s < 4294967296
    split-start = let f = fit in let fr = f.inside in let a = topped.in_x in let n = framed.size in omega arith

    pub splitting : Splits st s r
    splitting =
        let f = fit in let a = topped.in_x in let b = topped.in_y in let n = framed.size in let y = framed.copy in
        record { usable = usable; some = k.some; few = few; in-x = f.inside; in-y = g.placed; x-most = omega arith; y-most = omega arith }

-- ---- what the parts give
pub out-to : {r : RebuilderOut} {s s' : Rebuilder} {k k' : SheetChange} {q q' : List ℕ} → s ≡ s' → k ≡ k' → OutIs r s k q q' → OutIs r s' k' q q'
out-to {r} {s} {s'} {k} {k'} {q} {q'} e f o = subst (λ (z : Rebuilder). OutIs r z k' q q') e (subst (λ (z : SheetChange). OutIs r s z q q') f o)

pub settled-out : (st : Rebuilder) (size : ℕ) (how : How) {t : Piece} {one two s : Rebuilder} {number : ℕ} {r : RebuilderOut} {q q' : List ℕ}
    → t ≡ top st → one ≡ popped st → two ≡ restaged one → s ≡ tallied two size 1 → number ≡ how_number how
    → OutIs r s (AddRow st.rows (record { start = t.x; len = t.p; how = number })) q q'
    → OutIs r (tallied (restaged (popped st)) size 1) (AddRow st.rows (row (top st).x (top st).p how)) q q'
settled-out st size how a b c d n o =
    out-to (d ∙ ap (λ (z : Rebuilder). tallied z size 1) (c ∙ ap restaged b)) (ap₂ (λ (z : Piece) (i : ℕ). AddRow st.rows (record { start = z.x; len = z.p; how = i })) a n) o

pub retried-out : (st : Rebuilder) (size : ℕ) {one s : Rebuilder} {k : SheetChange} {r : RebuilderOut} {q q' : List ℕ}
    → one ≡ retried st → s ≡ tallied one size 0 → OutIs r s k q q' → OutIs r (tallied (retried st) size 0) k q q'
retried-out st size a b o = out-to (b ∙ ap (λ (z : Rebuilder). tallied z size 0) a) refl o

pub split-out : (st : Rebuilder) (size s r : ℕ) {t : Piece} {one next : Rebuilder} {number : ℕ} {o : RebuilderOut} {q q' : List ℕ}
    → t ≡ top st → one ≡ split_at st s r → next ≡ tallied one size 1 → number ≡ how_number ByAnchor
    → OutIs o next (AddRow st.rows (record { start = t.x + s; len = st.settings.m; how = number })) q q'
    → OutIs o (tallied (split_at st s r) size 1) (AddRow st.rows (row ((top st).x + s) st.settings.m ByAnchor)) q q'
split-out st size s r a b c n o =
    out-to (c ∙ ap (λ (z : Rebuilder). tallied z size 1) b) (ap₂ (λ (z : Piece) (i : ℕ). AddRow st.rows (record { start = z.x + s; len = st.settings.m; how = i })) a n) o

-- next uses as many rows as st
pub added-out : (st : Rebuilder) (size : ℕ) {next to : Rebuilder} {line l : Row} {r : RebuilderOut} {q q' : List ℕ}
    → next ≡ to → to.rows ≡ st.rows → line ≡ l → OutIs r (tallied next size 1) (AddRow next.rows line) q q' → OutIs r (tallied to size 1) (AddRow st.rows l) q q'
added-out st size e u f o = out-to (ap (λ (z : Rebuilder). tallied z size 1) e) (ap₂ (λ (i : ℕ) (z : Row). AddRow i z) (ap (λ (z : Rebuilder). z.rows) e ∙ u) f) o

-- ---- from the parts to the whole
pub out-said : (st : Rebuilder) (k : Step) (s : List ℕ) {r : RebuilderOut} {s' q q' : List ℕ} → OutIs r k.state k.sheet q q' → s' ≡ string_after s k.string → said_rebuilder r s' q' ≡ leaves_rebuilder st s q (step_taken k)
out-said st k s {r} {s'} {q} {q'} o e =
    (λ i. said_rebuilder (o.out i) (e i) (o.question i))
    ∙ ap (λ (a : Result (Option ℕ)). record { answer = a; state = k.state; sheet = k.sheet; answered = k.state.answered; counted = k.state.counted; string = string_after s k.string; question = at_front (written_question (planned k.state)) q }) (next-said (written_question (planned k.state)))

-- a step that is another's
pub step-said : (st : Rebuilder) {j k : Step} {x : RebuilderSaid} (s q : List ℕ) → j ≡ k → x ≡ leaves_rebuilder st s q (step_taken k) → x ≡ leaves_rebuilder st s q (step_taken j)
step-said st s q e f = f ∙ ap (λ (z : Step). leaves_rebuilder st s q (step_taken z)) (sym e)

pub waiting-said : (st : Rebuilder) (size : ℕ) (t : Stage) (s : List ℕ) {r : RebuilderOut} {q q' : List ℕ} → OutIs r (tallied (retried st) size 0) NoRow q q'
    → said_rebuilder r s q' ≡ leaves_rebuilder st s q (step_taken (effect_step st size (stays t)))
unfolding effect_step
waiting-said st size t s o = out-said st (effect_step st size (stays t)) s o refl

pub settled-said : (st : Rebuilder) (size : ℕ) (how : How) (b : List Bool) (s : List ℕ) {r : RebuilderOut} {s' q q' : List ℕ}
    → OutIs r (tallied (restaged (popped st)) size 1) (AddRow st.rows (row (top st).x (top st).p how)) q q' → s' ≡ write_bits s (top st).x b
    → said_rebuilder r s' q' ≡ leaves_rebuilder st s q (step_taken (effect_step st size (settles how b)))
unfolding effect_step
settled-said st size how b s o e = out-said st (effect_step st size (settles how b)) s o e

pub split-said : (st : Rebuilder) (size x p : ℕ) (b : List Bool) (s : List ℕ) {r : RebuilderOut} {s' q q' : List ℕ}
    → OutIs r (tallied (split_at st x p) size 1) (AddRow st.rows (row ((top st).x + x) st.settings.m ByAnchor)) q q' → s' ≡ write_bits s ((top st).x + x) b
    → said_rebuilder r s' q' ≡ leaves_rebuilder st s q (step_taken (effect_step st size (splits x p b)))
unfolding effect_step
split-said st size x p b s o e = out-said st (effect_step st size (splits x p b)) s o e

-- ---- a trial of the candidate o, which is written if its hash is v
module _ (st : Rebuilder) (y : List ℕ) (size v : ℕ) (how : How) (o : Option (List Bool)) (a : Answer)
    (is : step_of st y size a ≡ effect_step st size (trial_of st.settings v how o (retry st.settings (top st).p (range y (top st).y (top st).q))))
    (s s' : List ℕ) (settled : Bool) (tr : record { settled = settled; buffer = s' } ≡ tried_at s (top st).x (agreeing st.settings.h st.settings.key v o)) where
  abbrev other : Effect
  other = retry st.settings (top st).p (range y (top st).y (top st).q)

  kept-trial : (u : Option (List Bool)) (b : List Bool) → u ≡ some b → hash st.settings.h st.settings.key b ≡ v → trial_of st.settings v how u other ≡ settles how b
  unfolding hash_of
  kept-trial u b e h = rw (e, eq-eqb _ v h) refl

  lost-trial : (u : Option (List Bool)) → agreeing st.settings.h st.settings.key v u ≡ none → trial_of st.settings v how u other ≡ other
  unfolding hash_of
  lost-trial none e = refl
  lost-trial (some b) e = rw (ne_eqb _ v (agreed-none st.settings.h st.settings.key v b e)) refl

  pub try-no : settled ≡ false → {r : RebuilderOut} {q q' : List ℕ} → OutIs r (tallied (retried st) size 0) NoRow q q' → said_rebuilder r s' q' ≡ leaves_rebuilder st s q (step_taken (step_of st y size a))
  try-no f {r} {q} {q'} out =
      let l = tried-left s s' (top st).x (agreeing st.settings.h st.settings.key v o) settled tr f in
      step-said st s q (is ∙ ap (effect_step st size) (lost-trial o l.0))
      (ap (λ (z : List ℕ). said_rebuilder r z q') l.1 ∙ waiting-said st size (later_stage st.settings (top st).p (length (range y (top st).y (top st).q))) s out)

  pub try-yes : settled ≡ true → {r : RebuilderOut} {q q' : List ℕ} → OutIs r (tallied (restaged (popped st)) size 1) (AddRow st.rows (row (top st).x (top st).p how)) q q'
      → said_rebuilder r s' q' ≡ leaves_rebuilder st s q (step_taken (step_of st y size a))
  try-yes f {r} {q} {q'} out =
      let k = tried-settled s s' (top st).x (agreeing st.settings.h st.settings.key v o) settled tr f in
      let g = agreed-some st.settings.h st.settings.key v o k.0 k.1 in
      step-said st s q (is ∙ ap (effect_step st size) (kept-trial o k.0 g.0 g.1)) (settled-said st size how k.0 s out k.2)

-- ---- ranges of the leftmost piece
module _ (st : Rebuilder) (size capacity : ℕ) (k : Acting st size capacity) {t : Piece} (tp : t ≡ top st) where
  pub copy-part : (y : List ℕ) → st.ybits ≤ 8 * length y → Part y t.y t.q
  copy-part y h = let a = (topped st size capacity k).in_y in let b = (framed st size capacity k).copy in rw tp record { there = omega arith; few = omega arith }

  pub text-part : (s : List ℕ) → st.n ≤ 8 * length s → Part s t.x t.p
  text-part s h = let a = (topped st size capacity k).in_x in let b = (framed st size capacity k).size in rw tp record { there = omega arith; few = omega arith }

  -- a copy of the piece's own length
  pub same-part : (y : List ℕ) → (top st).q ≡ (top st).p → st.ybits ≤ 8 * length y → Part y t.y t.p
  same-part y e h = let a = (topped st size capacity k).in_y in let b = (framed st size capacity k).copy in rw tp record { there = omega arith; few = omega arith }

  -- a repair is to a length one apart
  pub apart : RepairDue st → OneApart t.q t.p
  apart (puts_in e h) = rw tp (inl h)
  apart (takes_out e h) = rw tp (inr h)

  -- a burst's is to a length that many bits apart
  pub burst-apart : (b : ℕ) → b ≡ distance t.p t.q → RunApart b t.q t.p
  burst-apart b e = subst (λ (n : ℕ). RunApart n t.q t.p) (sym e) (run-apart t.p t.q)

  pub burst-bounds : (b : ℕ) → b ≡ distance t.p t.q → BurstDue st → (2 ≤ b) × (b ≤ 32)
  burst-bounds b e due =
      let f : b ≡ burst_of st = e ∙ ap (λ (z : Piece). distance z.p z.q) tp in
      let least = due.least in
      let most = due.most in
      (omega arith, omega arith)

  pub narrow : st.settings.h ≤ 32
  narrow = (framed st size capacity k).limits.h-most

  pub copy-short : t.q ≤ max_bits
  copy-short = let a = (topped st size capacity k).in_y in let b = (framed st size capacity k).copy in rw tp (omega arith)

  pub piece-part : (bits : List ℕ) → (top st).p ≤ 8 * length bits → Part bits 0 t.p
  piece-part bits h = let a = (topped st size capacity k).in_x in let b = (framed st size capacity k).size in rw tp record { there = omega arith; few = omega arith }

  pub piece-text : (s bits : List ℕ) {s' : List ℕ} → s' ≡ write_bits s t.x (range bits 0 t.p) → s' ≡ write_bits s (top st).x (range bits 0 (top st).p)
  piece-text s bits e = e ∙ ap (λ (z : Piece). write_bits s z.x (range bits 0 z.p)) tp

  pub anchor-part : (bits : List ℕ) → st.settings.m ≤ 8 * length bits → Part bits 0 st.settings.m
  anchor-part bits h = let m = (framed st size capacity k).limits.m-most in record { there = omega arith; few = omega arith }

-- ---- which effect an answer has
module _ (st : Rebuilder) (y : List ℕ) (size : ℕ) (ph : st.phase ≡ AtPieces) where
  abbrev copy : List Bool
  copy = range y (top st).y (top st).q

  at_stage : (a : Answer) (t : Stage) → st.stage ≡ t → step_of st y size a ≡ effect_step st size (effect st.settings a (top st).p copy t)
  at_stage a t e = step-pieces st y size a ph ∙ ap (λ (u : Stage). effect_step st size (effect st.settings a (top st).p copy u)) e

  pub step-hash : (v : ℕ) → st.stage ≡ Hashing → step_of st y size (hash_answer v) ≡ effect_step st size (trial_of st.settings v ByHash (some copy) (retry st.settings (top st).p copy))
  unfolding effect
  step-hash v e = at_stage (hash_answer v) Hashing e

  len : length copy ≡ (top st).q
  len = range_length y (top st).y (top st).q

  -- a trial of the repair, if there is one
  pub step-syndrome : (a v : ℕ) → RepairDue st
      → step_of st y size (syndrome_answer a v) ≡ effect_step st size (trial_of st.settings v (repair_how (top st).p (top st).q) (repair_to (top st).p a copy) (retry st.settings (top st).p copy))
  unfolding effect repair_how
  step-syndrome a v (puts_in e h) =
      let l = len in
      at_stage (syndrome_answer a v) PuttingIn e ∙ rw (eq-eqb ((top st).q + 1) (top st).p h, repair-put-in (top st).p a copy (omega arith)) refl
  step-syndrome a v (takes_out e h) =
      let l = len in
      at_stage (syndrome_answer a v) TakingOut e ∙ rw (ne_eqb ((top st).q + 1) (top st).p (λ z. omega arith), repair-take-out (top st).p a copy (λ z. omega arith)) refl

  -- a trial of the columns' repair
  pub step-burst : (ss : List ℕ) (v : ℕ) → st.stage ≡ Columns
      → step_of st y size (burst_answer ss v) ≡ effect_step st size (trial_of st.settings v ByBurst (repair_run (burst_of st) (top st).p ss copy) (retry st.settings (top st).p copy))
  unfolding effect
  step-burst ss v e =
      at_stage (burst_answer ss v) Columns e
      ∙ ap (λ (n : ℕ). effect_step st size (trial_of st.settings v ByBurst (repair_run (distance (top st).p n) (top st).p ss copy) (retry st.settings (top st).p copy))) len

  pub step-bits : (l : List Bool) → st.stage ≡ AllBits → step_of st y size (bits_answer l) ≡ effect_step st size (settles ByBits l)
  unfolding effect
  step-bits l e = at_stage (bits_answer l) AllBits e

  -- an anchor's bits
  pub step-anchor : (l : List Bool) (i : Attempt) → st.stage ≡ Anchor i → let s = offset st.settings.m (top st).p i in
      step_of st y size (bits_answer l) ≡ effect_step st size (placed s l (after_anchor i) (place st.settings.m st.settings.k (top st).p s copy l))
  unfolding effect
  step-anchor l i e = at_stage (bits_answer l) (Anchor i) e

-- ---- the trials, for the piece t that is the leftmost
module _ (st : Rebuilder) (y : List ℕ) {t : Piece} (tp : t ≡ top st) (s s' : List ℕ) (settled : Bool) (h key v : ℕ) where
  pub copy-tried : (top st).q ≡ (top st).p → record { settled = settled; buffer = s' } ≡ tried_at s t.x (agreeing h key v (some (range y t.y t.p)))
      → record { settled = settled; buffer = s' } ≡ tried_at s (top st).x (agreeing h key v (some (range y (top st).y (top st).q)))
  copy-tried e f =
      f ∙ ap (λ (z : Piece). tried_at s z.x (agreeing h key v (some (range y z.y z.p)))) tp
      ∙ ap (λ (n : ℕ). tried_at s (top st).x (agreeing h key v (some (range y (top st).y n)))) (sym e)

  pub repair-tried : (a : ℕ) → record { settled = settled; buffer = s' } ≡ tried_at s t.x (agreeing h key v (repair_to t.p a (range y t.y t.q)))
      → record { settled = settled; buffer = s' } ≡ tried_at s (top st).x (agreeing h key v (repair_to (top st).p a (range y (top st).y (top st).q)))
  repair-tried a f = f ∙ ap (λ (z : Piece). tried_at s z.x (agreeing h key v (repair_to z.p a (range y z.y z.q)))) tp

  pub burst-tried : (b : ℕ) (a : List ℕ) → b ≡ distance t.p t.q → record { settled = settled; buffer = s' } ≡ tried_at s t.x (agreeing h key v (repair_run b t.p (take b a) (range y t.y t.q)))
      → record { settled = settled; buffer = s' } ≡ tried_at s (top st).x (agreeing h key v (repair_run (burst_of st) (top st).p (take (burst_of st) a) (range y (top st).y (top st).q)))
  burst-tried b a e f =
      f ∙ ap (λ (n : ℕ). tried_at s t.x (agreeing h key v (repair_run n t.p (take n a) (range y t.y t.q)))) e
      ∙ ap (λ (z : Piece). tried_at s z.x (agreeing h key v (repair_run (distance z.p z.q) z.p (take (distance z.p z.q) a) (range y z.y z.q)))) tp

-- the row's how is that of the repair
pub repaired-out : (st : Rebuilder) {t : Piece} (tp : t ≡ top st) {h : How} → h ≡ repair_how t.p t.q → {r : RebuilderOut} {s : Rebuilder} {q q' : List ℕ}
    → OutIs r s (AddRow st.rows (row (top st).x (top st).p h)) q q' → OutIs r s (AddRow st.rows (row (top st).x (top st).p (repair_how (top st).p (top st).q))) q q'
repaired-out st tp g {r} {s} {q} {q'} o = subst (λ (w : How). OutIs r s (AddRow st.rows (row (top st).x (top st).p w)) q q') (g ∙ ap (λ (z : Piece). repair_how z.p z.q) tp) o

-- ---- the anchor's place
pub place-some : {p : CodeOption ℕ} (o : Option ℕ) → p ≡ place_in o → {r : ℕ} → p ≡ Some r → o ≡ some r
place-some none e f = cc
place-some (some i) e f = cc

pub place_none : {p : CodeOption ℕ} (o : Option ℕ) → p ≡ place_in o → p ≡ None → o ≡ none
place_none none e f = refl
place_none (some i) e f = cc

pub place-within : (m k p s : ℕ) (ys b : List Bool) (r : ℕ) → place m k p s ys b ≡ some r → r + m ≤ length ys
place-within m k p s ys b r e =
    let h : Best (anchor_fits m k p s ys b) (place_distance p (length ys) s) 0 (length ys + 1 - m) (some r) = rw e at (place-best m k p s ys b) in
    let u = h.1 in omega arith

module _ {st : Rebuilder} {size capacity : ℕ} (k : Acting st size capacity) {i : Attempt} (anchoring : st.stage ≡ Anchor i) {t : Piece} (tp : t ≡ top st) where
  long : Long st.settings (top st).p
  long = stage-long st.settings (framed st size capacity k).limits (top st).p (top st).q st.stage (topped st size capacity k).stage i anchoring

  pub offsets : Offsets st.settings.m t.p
  offsets =
      let l = long in let a = (topped st size capacity k).in_x in let n = (framed st size capacity k).size in let m = (framed st size capacity k).limits.m-most in
      rw tp record { m-most = m; long = omega arith; p-most = omega arith }

  module _ {s : ℕ} (so : s ≡ offset st.settings.m t.p i) where
    pub offset-is : s ≡ offset st.settings.m (top st).p i
    offset-is = so ∙ ap (λ (z : Piece). offset st.settings.m z.p i) tp

    offset-within : s + st.settings.m ≤ (top st).p
    offset-within = let o = (offset-fits st.settings (framed st size capacity k).limits (top st).p i long).inside in let e = offset-is in omega arith

    pub search-ready : (y bits : List ℕ) → st.ybits ≤ 8 * length y → st.settings.m ≤ 8 * length bits → Searching y t.y t.q t.p s st.settings.m st.settings.k bits 0
    search-ready y bits h i =
        let a = (topped st size capacity k).in_x in let b = (topped st size capacity k).in_y in let n = (framed st size capacity k).size in let c = (framed st size capacity k).copy in
        let L = (framed st size capacity k).limits in let o = offset-within in let m = L.m-most in
        rw tp record { piece = omega arith; few = omega arith; length_most = omega arith; offset-most = omega arith; m-most = m; k-most = L.k-most; anchor = omega arith; anchor-few = omega arith }

    pub search-limits : SearchBounds t.p s st.settings.m st.settings.k
    search-limits =
        let a = (topped st size capacity k).in_x in let n = (framed st size capacity k).size in let L = (framed st size capacity k).limits in let o = offset-within in
        let m = L.m-most in
        rw tp record { length_most = omega arith; offset-most = omega arith; m-most = m; k-most = L.k-most }

    pub anchor-start : t.x + s < 4294967296
    anchor-start = let a = (topped st size capacity k).in_x in let n = (framed st size capacity k).size in let o = offset-within in rw tp (omega arith)

    pub anchor-written : (string : List ℕ) (b : List Bool) {z : List ℕ} → z ≡ write_bits string (t.x + s) b → z ≡ write_bits string ((top st).x + s) b
    anchor-written string b e = e ∙ ap (λ (z : Piece). write_bits string (z.x + s) b) tp

    pub anchor-text : (string : List ℕ) → st.n ≤ 8 * length string → Part string (t.x + s) st.settings.m
    anchor-text string h = let a = (topped st size capacity k).in_x in let n = (framed st size capacity k).size in let o = offset-within in rw tp record { there = omega arith; few = omega arith }

    module _ (y : List ℕ) (b : List Bool) {p : CodeOption ℕ} (pp : p ≡ place_in (place st.settings.m st.settings.k t.p s (range y t.y t.q) b)) where
      found-place : {r : ℕ} → p ≡ Some r → place st.settings.m st.settings.k (top st).p (offset st.settings.m (top st).p i) (range y (top st).y (top st).q) b ≡ some r
      found-place f =
          ap₂ (λ (z : Piece) (j : ℕ). place st.settings.m st.settings.k z.p j (range y z.y z.q) b) (sym tp) (sym offset-is)
          ∙ place-some (place st.settings.m st.settings.k t.p s (range y t.y t.q) b) pp f

      no_place : p ≡ None → place st.settings.m st.settings.k (top st).p (offset st.settings.m (top st).p i) (range y (top st).y (top st).q) b ≡ none
      no_place f =
          ap₂ (λ (z : Piece) (j : ℕ). place st.settings.m st.settings.k z.p j (range y z.y z.q) b) (sym tp) (sym offset-is)
          ∙ place_none (place st.settings.m st.settings.k t.p s (range y t.y t.q) b) pp f

      pub place-splits : {r : ℕ} → p ≡ Some r → Splitting st s r
      place-splits {r} f =
          let w = place-within st.settings.m st.settings.k (top st).p (offset st.settings.m (top st).p i) (range y (top st).y (top st).q) b r (found-place f) in
          let e = range_length y (top st).y (top st).q in
          record { attempt = i; stage = anchoring; at = offset-is; placed = omega arith }

      pub place-small : {r : ℕ} → p ≡ Some r → r < 4294967296
      place-small f = let g = place-splits f in let a = g.placed in let b = (topped st size capacity k).in_y in let c = (framed st size capacity k).copy in omega arith

      pub anchor-placed : {r : ℕ} → p ≡ Some r → step_of st y size (bits_answer b) ≡ effect_step st size (splits s r b)
      anchor-placed {r} f =
          step-anchor st y size k.phase b i anchoring
          ∙ ap (λ (o : Option ℕ). effect_step st size (placed (offset st.settings.m (top st).p i) b (after_anchor i) o)) (found-place f)
          ∙ ap (λ (j : ℕ). effect_step st size (splits j r b)) (sym offset-is)

      pub anchor-unplaced : p ≡ None → step_of st y size (bits_answer b) ≡ effect_step st size (stays (after_anchor i))
      anchor-unplaced f =
          step-anchor st y size k.phase b i anchoring
          ∙ ap (λ (o : Option ℕ). effect_step st size (placed (offset st.settings.m (top st).p i) b (after_anchor i) o)) (no_place f)
