-- Laws for the proofs of the rebuilder's call and start: which question waits, and what was read as its answer.
use Rattle.std.specs.Prelude.{◌≡◌, Result as CodeResult, Ok, Err, Bool, true, false, ◌&&◌, ◌⊎◌, ℕ, ◌+◌, ◌-◌, ◌*◌, ◌/◌, ◌≤◌, ◌<◌, take, drop, leb, eqb}
use Rattle.std.proofs.Math.Path.{refl, ap}
use Rattle.std.proofs.Common.{sym, ap₂, ◌∙◌, subst, inl, inr, arith, length-drop, take_all, eq-eqb, ne_eqb}
use mathlib.Core.List.{List, []}
use Rattle.std.proofs.Math.Option.{Option, some}
use Rattle.std.proofs.Math.ListN.{length}
use borrow.Author.Tests.{le-leb, lt-leb, leb-true, eqb-true}
use Rattle.strings.specs.Refusals.{refusal_number}
use Rattle.strings.specs.Results.{Result, refusal, value, and_then}
use Rattle.strings.specs.laws.Tests.{and_left, and_right}
use Rattle.strings.specs.Bits.{range, write_bits, cleared, bytes_for, Part, at_front}
use Rattle.strings.specs.StringRule.{string_rule}
use Rattle.strings.proofs.laws.RuleLaws.{rule-is}
use Rattle.strings.proofs.laws.RangeLaws.{range_length}
use Rattle.strings.specs.Bits.{Bytes}
use Rattle.strings.specs.declared.Refusal.{Refusal}
use Rattle.strings.specs.declared.Refusal.TheVariants.{BadSetting, BadString, OutOfTurn, BufferTooShort}
use Rattle.messages.specs.declared.Kind.{Kind}
use Rattle.messages.specs.declared.Kind.TheVariants.{Open, Hash, Syndrome, Bits, Burst}
use Rattle.messages.specs.Writing.{put_front, said_write}
use Rattle.messages.specs.laws.WritingLaws.{wrote-is}
use Rattle.messages.specs.declared.Question.{Question}
use Rattle.messages.specs.declared.Question.TheVariants.{AskOpen}
use Rattle.messages.specs.declared.Found.{Found}
use Rattle.messages.specs.declared.Found.TheVariants.{IsSize, IsHash, IsSyndrome, IsBits, IsBurst}
use Rattle.messages.specs.Questions.{question_kind, question_bytes, question_length, question_burst}
use Rattle.messages.specs.Answers.{Answer, size_answer, hash_answer, syndrome_answer, bits_answer, read_answer, said_answer, BitsThere, BitsAt, burst_answer, burst_syndromes, BurstAnswered}
use Rattle.messages.specs.laws.QuestionLaws.{burst-few}
use Rattle.messages.specs.laws.AnswerLaws.{answer_kind, answer-form, bits-read, range-rest}
use Rattle.strings.specs.declared.settings.Settings.{Settings}
use Rattle.ends.specs.declared.How.TheVariants.{ByBits}
use Rattle.ends.specs.declared.Rebuilder.{Rebuilder}
use Rattle.ends.specs.declared.SheetChange.TheVariants.{NoRow, OneRow}
use Rattle.strings.specs.SettingLimits.{within_limits}
use Rattle.ends.specs.Segments.{how_number, asks}
use Rattle.ends.specs.Runs.{size_of}
use Rattle.ends.specs.laws.Shape.{ProperFor, Inside, sizes, size-bits}
use Rattle.strings.specs.laws.SettingLaws.{limits-is}
use Rattle.strings.specs.SettingLimits.{Limits}
use Rattle.ends.specs.laws.Right.{StageOk}
use Rattle.ends.specs.laws.SoundLaws.{fits-stage}
use Rattle.ends.specs.States.{top, planned}
use Rattle.ends.specs.Soundness.{sound, opening_sound, phase_sound}
use Rattle.ends.specs.laws.SoundParts.{Framed, sound-is, phase-whole, OpeningIs, opening-is, WholeIs, whole_is, PiecesIs, top-is, ask-inside, PhaseOf, is_opening, is_pieces, is_whole, phase-of}
use Rattle.ends.specs.laws.SoundSteps.{fresh-sound, opening-sound, whole-sound}
use Rattle.ends.specs.laws.Steps.{step-opening, step-whole}
use Rattle.ends.specs.RebuilderCall.{bits_known, Taken, opening_step, whole_state, whole_step, step_of, Capacities, enough_for, awaits, rebuilder_call, starts, rebuilder_start, fresh_rebuilder, given, Started}
use Rattle.ends.specs.declared.rebuilding.RebuilderOut.{RebuilderOut}
use Rattle.ends.specs.declared.rebuilding.Started.{Started as CodeStarted}
use Rattle.ends.specs.code.StateCode.{Usable, Counts}
use Rattle.ends.specs.code.SoundLaws.{sound-counts}
use Rattle.ends.specs.RebuilderOutcome.{RebuilderSaid, said_rebuilder, leaves_rebuilder, no_rebuilder, said_start, leaves_start}
use Rattle.ends.specs.code.RebuilderParts.{OutIs, Acting, AsksBits, RepairDue, BurstDue, burst_of, puts_in, takes_out, bits_of_stage, step_taken, Opening, WholeDue, BitsDue, due_length, Due, enough_for_answer, heard_step, turned_down}
use Rattle.ends.specs.code.RebuilderCodeLaws.{out-to, out-said, step-said, size-most, question-range, question-short}
use Rattle.ends.specs.declared.Stage.{Stage}
use Rattle.ends.specs.declared.Stage.TheVariants.{Hashing, PuttingIn, TakingOut, Anchor, AllBits, Columns}
use Rattle.ends.specs.declared.Phase.{Phase}
use Rattle.ends.specs.declared.Phase.TheVariants.{AtOpening, AtPieces, AtWhole}

-- ---- the whole string
module _ (st : Rebuilder) (size capacity : ℕ) (k : WholeDue st size capacity) where
  whole-framed : Framed st
  whole-framed = (sound-is st k.sound-now).0

  whole-now : WholeIs st
  whole-now = whole_is st (sym (phase-whole st k.phase) ∙ (sound-is st k.sound-now).1)

  pub whole-counts : Counts st size 0
  whole-counts = let s = k.short in let n = whole-framed.size in sound-counts st k.sound-now size 0 (omega arith) (omega arith)

  pub whole-text : (s : List ℕ) → st.n ≤ 8 * length s → Part s 0 st.n
  whole-text s h = let n = whole-framed.size in record { there = omega arith; few = omega arith }

  pub whole-next : sound (whole_state st size) ≡ true
  unfolding whole_step
  whole-next = (whole-sound st size [] whole-framed whole-now k.short).0

  pub whole-said : {s : Rebuilder} → s ≡ whole_state st size → (y bits buf : List ℕ) {number : ℕ} {r : RebuilderOut} {buf' q q' : List ℕ}
      → buf' ≡ write_bits buf 0 (range bits 0 st.n) → number ≡ how_number ByBits
      → OutIs r s (OneRow st.rows (record { start = 0; len = st.n; how = number })) q q'
      → said_rebuilder r buf' q' ≡ leaves_rebuilder st buf q (step_taken (step_of st y size (bits_answer (range bits 0 st.n))))
  unfolding whole_step
  whole-said g y bits buf {r = r} {q = q} {q' = q'} w i o =
      let l = range bits 0 st.n in
      step-said st buf q (step-whole st y size (bits_answer l) k.phase)
      (out-said st (whole_step st size l) buf (out-to g (ap (λ (h : ℕ). OneRow st.rows (record { start = 0; len = st.n; how = h })) i) o) w)

-- ---- the opening's answer
module _ (st : Rebuilder) (n capacity : ℕ) (k : Opening st n capacity) where
  opening-framed : Framed st
  opening-framed = (sound-is st k.sound-now).0

  opening-now : OpeningIs st
  opening-now =
      let e : phase_sound st ≡ opening_sound st = rw k.phase refl in
      opening-is st (sym e ∙ (sound-is st k.sound-now).1)

  pub opening-ready : Usable st.settings × (st.answered < 4294967295)
  opening-ready = let L = opening-framed.limits in let a = opening-now.answered in (record { m-most = L.m-most; h-most = L.h-most }, omega arith)

  pub opening-next : sound (opening_step st n).state ≡ true
  opening-next = (opening-sound st n k.array opening-framed opening-now k.small).0

  pub opening-said : {s : Rebuilder} → s ≡ (opening_step st n).state → (y : List ℕ) (size : ℕ) (buf : List ℕ) {r : RebuilderOut} {buf' q q' : List ℕ}
      → buf' ≡ cleared buf 0 (bytes_for n) → OutIs r s NoRow q q'
      → said_rebuilder r buf' q' ≡ leaves_rebuilder st buf q (step_taken (step_of st y size (size_answer n)))
  unfolding opening_step
  opening-said g y size buf {r} {buf'} {q} {q'} w o =
      step-said st buf q (step-opening st y size (size_answer n) k.phase)
      (out-said st (opening_step st n) buf (subst (λ (z : Rebuilder). OutIs r z NoRow q q') g o) w)

-- ---- which phase it is
pub pieces-opening : {ph : Phase} → ph ≡ AtPieces → ph ≡ AtOpening → ⊥
pieces-opening e f = let z : ◌≡◌ {A = ℕ} 0 1 = cc in omega arith

pub whole-opening : {ph : Phase} → ph ≡ AtWhole → ph ≡ AtOpening → ⊥
whole-opening e f = let z : ◌≡◌ {A = ℕ} 0 1 = cc in omega arith

pub whole-pieces : {ph : Phase} → ph ≡ AtWhole → ph ≡ AtPieces → ⊥
whole-pieces e f = let z : ◌≡◌ {A = ℕ} 0 1 = cc in omega arith

-- ---- bits
module _ (st : Rebuilder) (size capacity : ℕ) (k : BitsDue st size capacity) where
  pub bits-whole : st.phase ≡ AtWhole → WholeDue st size capacity
  bits-whole e = go k.phases
    where
      go : (WholeDue st size capacity) ⊎ (Acting st size capacity × AsksBits st.stage) → WholeDue st size capacity
      go (inl w) = w
      go (inr a) = absurd (whole-pieces e a.0.phase)

  pub bits-acting : st.phase ≡ AtPieces → Acting st size capacity × AsksBits st.stage
  bits-acting e = go k.phases
    where
      go : (WholeDue st size capacity) ⊎ (Acting st size capacity × AsksBits st.stage) → Acting st size capacity × AsksBits st.stage
      go (inl w) = absurd (whole-pieces w.phase e)
      go (inr a) = a

  pub bits-opening : st.phase ≡ AtOpening → ⊥
  bits-opening e = go k.phases
    where
      go : (WholeDue st size capacity) ⊎ (Acting st size capacity × AsksBits st.stage) → ⊥
      go (inl w) = whole-opening w.phase e
      go (inr a) = pieces-opening a.0.phase e

-- with a question buffer of another length
pub acting-at : {st : Rebuilder} {size capacity : ℕ} → Acting st size capacity → (other : ℕ) → 8 ≤ other → Acting st size other
acting-at k other h = record { sound-now = k.sound-now; array = k.array; phase = k.phase; some = k.some; short = k.short; enough = h }

pub stage-asks : {t u : Stage} → t ≡ u → AsksBits t → AsksBits u
stage-asks e h = rw e at h

pub stage-bits : (st : Rebuilder) {t u : Stage} → t ≡ u → bits_of_stage st t ≡ bits_of_stage st u
stage-bits st e = ap (bits_of_stage st) e

module _ (st : Rebuilder) where
  pub due-whole : st.phase ≡ AtWhole → due_length st ≡ st.n
  due-whole e = rw e refl

  pub due-stage : st.phase ≡ AtPieces → due_length st ≡ bits_of_stage st st.stage
  due-stage e = rw e refl

  pub due-said : (y bits s q : List ℕ) (size : ℕ) {a b : ℕ} {x : RebuilderSaid} → b ≡ a
      → x ≡ leaves_rebuilder st s q (step_taken (step_of st y size (bits_answer (range bits 0 a))))
      → x ≡ leaves_rebuilder st s q (step_taken (step_of st y size (bits_answer (range bits 0 b))))
  due-said y bits s q size e f = f ∙ ap (λ (i : ℕ). leaves_rebuilder st s q (step_taken (step_of st y size (bits_answer (range bits 0 i))))) (sym e)

-- ---- which phase and stage ask for a kind
-- a question for the leftmost piece
record ForPiece (st : Rebuilder) (q : Question) : Type 0 where
  phase : st.phase ≡ AtPieces
  pieces : PiecesIs st
  some : 0 < st.waiting
  asked : asks st.settings (top st).x (top st).p (top st).q st.stage ≡ q

-- what holds of a state whose question q is of a kind and for len bits
abbrev KindDue : Rebuilder → Question → ℕ → Kind → Type 0
KindDue st q len Open = st.phase ≡ AtOpening
KindDue st q len Hash = ForPiece st q × (st.stage ≡ Hashing) × ((top st).q ≡ (top st).p)
KindDue st q len Syndrome = ForPiece st q × RepairDue st
KindDue st q len Burst = ForPiece st q × BurstDue st
KindDue st q len Bits = (due_length st ≡ len) × ((st.phase ≡ AtWhole) ⊎ (ForPiece st q × AsksBits st.stage))

abbrev AskDue : Rebuilder → (q x : Question) → Type 0
AskDue st q x = KindDue st q (question_length x) (question_kind x)

piece-due : (st : Rebuilder) (q : Question) → Limits st.settings → ForPiece st q → AskDue st q (asks st.settings (top st).x (top st).p (top st).q st.stage)
piece-due st q L k = go st.stage refl (fits-stage st.settings L (top st).p (top st).q st.stage (top-is st k.pieces.stack k.some).stage)
  where
    go : (t : Stage) → st.stage ≡ t → StageOk st.settings (top st).p (top st).q t → AskDue st q (asks st.settings (top st).x (top st).p (top st).q t)
    go Hashing e o = (k, e, o)
    go PuttingIn e o = (k, puts_in e o)
    go TakingOut e o = (k, takes_out e o)
    go Columns e o = (k, record { stage = e; least = o.0; most = o.1 })
    go (Anchor i) e o = (due-stage st k.phase ∙ rw e refl, inr (k, rw e tt))
    go AllBits e o = (due-stage st k.phase ∙ rw e refl, inr (k, rw e tt))

kind-due : (st : Rebuilder) (q : Question) → Limits st.settings → PhaseOf st q → AskDue st q q
kind-due st q L (is_opening p i e) = rw (← e) p
kind-due st q L (is_pieces p i w e) = subst (AskDue st q) e (piece-due st q L (record { phase = p; pieces = i; some = w; asked = e }))
kind-due st q L (is_whole p i e) = rw (← e) (due-whole st p, inl p)

-- ---- lengths of lent buffers
pub enough-bits : (n k : ℕ) → bytes_for n ≤ k → n ≤ 8 * k
enough-bits n k h = omega arith

pub enough-is : (st : Rebuilder) (n : ℕ) (r : Capacities) → enough_for st n r ≡ true → (bytes_for n ≤ r.string) × (8 ≤ r.question)
enough-is st n r e =
    let a = and_left (leb (bytes_for n) r.string) _ e in
    let b = and_right (leb (bytes_for n) r.string) _ e in
    (leb-true (bytes_for n) r.string a, leb-true 8 r.question (and_right (leb (2 * (n / st.settings.m) + 1) r.sheet) _ b))

-- ---- a question that waits has at most 32 columns
pub burst-most : (st : Rebuilder) (q : Question) → sound st ≡ true → planned st ≡ some q → question_burst q ≤ 32
burst-most st q s p = burst-few _ q (question-range st q s p).0.within

-- ---- what was read
module _ (st : Rebuilder) (msg : List ℕ) (len cols : ℕ) (found : Found) (d : Due st msg len cols found) where
  framed-now : Framed st
  framed-now = (sound-is st d.sound-now).0

  module _ (a : Answer) (v : said_answer msg len cols (Ok found) ≡ value a) where
    read-value : read_answer (question_kind d.question) (question_length d.question) (question_burst d.question) st.settings.h msg ≡ value a
    read-value = sym d.read_is ∙ v

    proper-now : ProperFor st.settings d.question a
    proper-now = (answer-form (question_kind d.question) (question_length d.question) (question_burst d.question) st.settings.h msg a read-value).proper

    kind-now : KindDue st d.question (question_length d.question) (answer_kind a)
    kind-now = rw proper-now.of-kind (kind-due st d.question framed-now.limits (phase-of st d.question (sound-is st d.sound-now).1 d.asked))

    size-now : length msg ≡ size_of a
    unfolding size_of
    size-now = ap length ((answer-form (question_kind d.question) (question_length d.question) (question_burst d.question) st.settings.h msg a read-value).bytes d.bytes)

    -- for the leftmost piece
    piece-acting : ForPiece st d.question → (capacity : ℕ) → 8 ≤ capacity → Acting st (length msg) capacity
    piece-acting k capacity h =
        let ti = top-is st k.pieces.stack k.some in
        let ins : Inside st.n d.question = rw k.asked at (ask-inside st framed-now.limits ti) in
        let sh = sizes st.settings st.n framed-now.size d.question a ins proper-now in
        let z = size-now in
        record { sound-now = d.sound-now; array = d.array; phase = k.phase; some = k.some; short = omega arith; enough = h }

  pub heard-size : (n : ℕ) → found ≡ IsSize n → (capacity : ℕ) → 8 ≤ capacity → Opening st n capacity
  heard-size n f capacity h =
      let v = ap (λ (z : Found). said_answer msg len cols (Ok z)) f in
      record { sound-now = d.sound-now; array = d.array; phase = kind-now (size_answer n) v; small = (proper-now (size_answer n) v).values; enough = h }

  pub heard-hash : (v : ℕ) → found ≡ IsHash v → (capacity : ℕ) → 8 ≤ capacity → Acting st (length msg) capacity × ((st.stage ≡ Hashing) × ((top st).q ≡ (top st).p))
  heard-hash v f capacity h =
      let w = ap (λ (z : Found). said_answer msg len cols (Ok z)) f in
      let k = kind-now (hash_answer v) w in
      (piece-acting (hash_answer v) w k.0 capacity h, (k.1, k.2))

  pub heard-syndrome : (a v : ℕ) → found ≡ IsSyndrome a v → (capacity : ℕ) → 8 ≤ capacity → Acting st (length msg) capacity × RepairDue st
  heard-syndrome a v f capacity h =
      let w = ap (λ (z : Found). said_answer msg len cols (Ok z)) f in
      let k = kind-now (syndrome_answer a v) w in
      (piece-acting (syndrome_answer a v) w k.0 capacity h, k.1)

  pub heard-burst : (v : ℕ) → found ≡ IsBurst v → (capacity : ℕ) → 8 ≤ capacity → Acting st (length msg) capacity × BurstDue st
  heard-burst v f capacity h =
      let w = ap (λ (z : Found). said_answer msg len cols (Ok z)) f in
      let k = kind-now (burst_answer (burst_syndromes cols msg) v) w in
      (piece-acting (burst_answer (burst_syndromes cols msg) v) w k.0 capacity h, k.1)

  -- as many columns as the lengths are bits apart
  pub burst-cols : (v : ℕ) → found ≡ IsBurst v → cols ≡ burst_of st
  burst-cols v f =
      let k = kind-now (burst_answer (burst_syndromes cols msg) v) (ap (λ (z : Found). said_answer msg len cols (Ok z)) f) in
      let e = k.0.asked in
      d.asked-burst ∙ ap question_burst (sym e) ∙ ap (λ (t : Stage). question_burst (asks st.settings (top st).x (top st).p (top st).q t)) k.1.stage

  pub cols-few : cols ≤ 32
  cols-few = let m = burst-most st d.question d.sound-now d.asked in let e = d.asked-burst in omega arith

  pub burst-answered : (v : ℕ) → found ≡ IsBurst v → BurstAnswered cols msg
  burst-answered v f = record {
    kind = question_kind d.question;
    len = question_length d.question;
    h = st.settings.h;
    syndromes = burst_syndromes cols msg;
    hash = v;
    read = ap (λ (c : ℕ). read_answer (question_kind d.question) (question_length d.question) c st.settings.h msg) d.asked-burst ∙ read-value (burst_answer (burst_syndromes cols msg) v) (ap (λ (z : Found). said_answer msg len cols (Ok z)) f);
  }

  -- the bits that were read
  module _ (at : ℕ) (f : found ≡ IsBits at) where
    abbrev bits_heard : Answer
    bits_heard = bits_answer (range msg (8 * at) len)

    bits-due : (due_length st ≡ len) × ((st.phase ≡ AtWhole) ⊎ (ForPiece st d.question × AsksBits st.stage))
    bits-due = rw d.asked-length (kind-now bits_heard (ap (λ (z : Found). said_answer msg len cols (Ok z)) f))

    pub heard-bits : (capacity : ℕ) → 8 ≤ capacity → BitsDue st (length msg) capacity × (due_length st ≡ len)
    heard-bits capacity h = (record { phases = go bits-due.1 }, bits-due.0)
      where
        go : (st.phase ≡ AtWhole) ⊎ (ForPiece st d.question × AsksBits st.stage) → (WholeDue st (length msg) capacity) ⊎ (Acting st (length msg) capacity × AsksBits st.stage)
        go (inl p) =
            let e : st.n ≡ len = sym (due-whole st p) ∙ bits-due.0 in
            let r = range_length msg (8 * at) len in
            let q = size-now bits_heard (ap (λ (z : Found). said_answer msg len cols (Ok z)) f) in
            let u = size-bits (range msg (8 * at) len) in
            inl record { sound-now = d.sound-now; phase = p; short = omega arith; enough = h }
        go (inr k) = inr (piece-acting bits_heard (ap (λ (z : Found). said_answer msg len cols (Ok z)) f) k.0 capacity h, k.1)

    bits-there : BitsAt len msg at
    bits-there = bits-read msg len at d.bits-there (ap Ok f)

  pub bits_inside : (at : ℕ) → found ≡ IsBits at → at ≤ length msg
  bits_inside at f = (bits-there at f).inside

  -- a slice from byte at on
  rest-whole : (at : ℕ) → take (length msg - at) (drop at msg) ≡ drop at msg
  rest-whole at = let n = length-drop at msg in take_all (length msg - at) (drop at msg) (omega arith)

  pub bits-long : (at : ℕ) → found ≡ IsBits at → due_length st ≤ 8 * length (take (length msg - at) (drop at msg))
  bits-long at f =
      let e = (heard-bits at f 8 (omega arith)).1 in
      let b = (bits-there at f).string.bytes in
      let r = rest-whole at in
      rw r (omega arith)

  -- ---- what a taken answer leaves
  pub read-said : {b : Found} → found ≡ b → (y s q : List ℕ) {x : RebuilderSaid} → x ≡ leaves_rebuilder st s q (heard_step st y msg len cols b) → x ≡ leaves_rebuilder st s q (heard_step st y msg len cols found)
  read-said e y s q f = f ∙ ap (λ (z : Found). leaves_rebuilder st s q (heard_step st y msg len cols z)) (sym e)

  pub bits-said : (at : ℕ) → found ≡ IsBits at → (y s q : List ℕ) {x : RebuilderSaid}
      → x ≡ leaves_rebuilder st s q (step_taken (step_of st y (length msg) (bits_answer (range (take (length msg - at) (drop at msg)) 0 (due_length st)))))
      → x ≡ leaves_rebuilder st s q (heard_step st y msg len cols found)
  bits-said at f y s q g =
      let e = (heard-bits at f 8 (omega arith)).1 in
      let r : range (take (length msg - at) (drop at msg)) 0 (due_length st) ≡ range msg (8 * at) len = ap₂ (λ (t : List ℕ) (i : ℕ). range t 0 i) (rest-whole at) e ∙ sym (range-rest msg at len (bits_inside at f)) in
      read-said f y s q (g ∙ ap (λ (l : List Bool). leaves_rebuilder st s q (step_taken (step_of st y (length msg) (bits_answer l)))) r)

  pub burst-said : (v : ℕ) → found ≡ IsBurst v → (a : List ℕ) → take cols a ≡ burst_syndromes cols msg → (y s q : List ℕ) {x : RebuilderSaid}
      → x ≡ leaves_rebuilder st s q (step_taken (step_of st y (length msg) (burst_answer (take (burst_of st) a) v)))
      → x ≡ leaves_rebuilder st s q (heard_step st y msg len cols found)
  burst-said v f a e y s q g =
      let r : take (burst_of st) a ≡ burst_syndromes cols msg = ap (λ (n : ℕ). take n a) (sym (burst-cols v f)) ∙ e in
      read-said f y s q (g ∙ ap (λ (l : List ℕ). leaves_rebuilder st s q (step_taken (step_of st y (length msg) (burst_answer l v)))) r)

  -- ---- in lent buffers
  -- the bits that the call counts its buffers by
  size-known : (n : ℕ) → found ≡ IsSize n → bits_known st (size_answer n) ≡ n
  size-known n f = rw (heard-size n f 8 (omega arith)).phase refl

  later-known : {size capacity : ℕ} (a : Answer) → Acting st size capacity → bits_known st a ≡ st.n
  later-known a k = rw k.phase refl

  hash-known : (v : ℕ) → found ≡ IsHash v → bits_known st (hash_answer v) ≡ st.n
  hash-known v f = later-known (hash_answer v) (heard-hash v f 8 (omega arith)).0

  syndrome-known : (a v : ℕ) → found ≡ IsSyndrome a v → bits_known st (syndrome_answer a v) ≡ st.n
  syndrome-known a v f = later-known (syndrome_answer a v) (heard-syndrome a v f 8 (omega arith)).0

  burst-known : (v : ℕ) → found ≡ IsBurst v → bits_known st (burst_answer (burst_syndromes cols msg) v) ≡ st.n
  burst-known v f = later-known (burst_answer (burst_syndromes cols msg) v) (heard-burst v f 8 (omega arith)).0

  bits-known : (at : ℕ) (l : List Bool) → found ≡ IsBits at → bits_known st (bits_answer l) ≡ st.n
  bits-known at l f = go (heard-bits at f 8 (omega arith)).0.phases
    where
      go : (WholeDue st (length msg) 8) ⊎ (Acting st (length msg) 8 × AsksBits st.stage) → bits_known st (bits_answer l) ≡ st.n
      go (inl w) = rw w.phase refl
      go (inr a) = later-known (bits_answer l) a.0

  pub hears-short : (y : List ℕ) (r : Capacities) → enough_for_answer st r found ≡ false → and_then (said_answer msg len cols (Ok found)) (given st y msg r) ≡ refusal (refusal_number BufferTooShort)
  hears-short y r e = go found refl e
    where
      go : (x : Found) → found ≡ x → enough_for_answer st r x ≡ false → and_then (said_answer msg len cols (Ok x)) (given st y msg r) ≡ refusal (refusal_number BufferTooShort)
      go (IsSize n) f e = rw (size-known n f, e) refl
      go (IsHash v) f e = rw (hash-known v f, e) refl
      go (IsSyndrome a v) f e = rw (syndrome-known a v f, e) refl
      go (IsBits at) f e = rw (bits-known at (range msg (8 * at) len) f, e) refl
      go (IsBurst v) f e = rw (burst-known v f, e) refl

  pub hears-long : (y : List ℕ) (r : Capacities) → enough_for_answer st r found ≡ true → and_then (said_answer msg len cols (Ok found)) (given st y msg r) ≡ heard_step st y msg len cols found
  hears-long y r e = go found refl e
    where
      go : (x : Found) → found ≡ x → enough_for_answer st r x ≡ true → and_then (said_answer msg len cols (Ok x)) (given st y msg r) ≡ heard_step st y msg len cols x
      go (IsSize n) f e = rw (size-known n f, e) refl
      go (IsHash v) f e = rw (hash-known v f, e) refl
      go (IsSyndrome a v) f e = rw (syndrome-known a v f, e) refl
      go (IsBits at) f e = rw (bits-known at (range msg (8 * at) len) f, e) refl
      go (IsBurst v) f e = rw (burst-known v f, e) refl

  pub enough-for : (r : Capacities) → enough_for_answer st r found ≡ true → {b : Found} → found ≡ b → enough_for_answer st r b ≡ true
  enough-for r e f = sym (ap (enough_for_answer st r) f) ∙ e

pub whole-small : (st : Rebuilder) (size capacity : ℕ) → BitsDue st size capacity → size < 4294967296
whole-small st size capacity k = go k.phases
  where
    go : (WholeDue st size capacity) ⊎ (Acting st size capacity × AsksBits st.stage) → size < 4294967296
    go (inl w) = let s = w.short in let n = (sound-is st w.sound-now).0.size in omega arith
    go (inr a) = let s = size-most st size capacity a.0 in omega arith

pub acting-small : (st : Rebuilder) (size capacity : ℕ) → Acting st size capacity → size < 4294967296
acting-small st size capacity k = let s = size-most st size capacity k in omega arith

-- ---- the message for the question that waits
module _ (st : Rebuilder) (msg : List ℕ) (q : Question) (len cols : ℕ) (kind : Kind) (read : CodeResult Found Refusal) (ln : len ≡ question_length q) (cn : cols ≡ question_burst q) (kn : kind ≡ question_kind q)
    (rd : said_answer msg len cols read ≡ read_answer kind len cols st.settings.h msg) where
  read-for : said_answer msg len cols read ≡ read_answer (question_kind q) (question_length q) (question_burst q) st.settings.h msg
  read-for = rd ∙ ap₂ (λ (k : Kind) (l : ℕ). read_answer k l cols st.settings.h msg) kn ln ∙ ap (λ (c : ℕ). read_answer (question_kind q) (question_length q) c st.settings.h msg) cn

  pub due : sound st ≡ true → planned st ≡ some q → length st.pieces ≡ 32 → Bytes msg → BitsThere msg len read → (found : Found) → read ≡ Ok found → Due st msg len cols found
  due s p a b t found e = record {
    sound-now = s;
    array = a;
    bytes = b;
    question = q;
    asked = p;
    asked-length = ln;
    asked-burst = cn;
    read_is = sym (ap (said_answer msg len cols) e) ∙ read-for;
    bits-there = subst (BitsThere msg len) e t;
  }

  pub awaits-hears : (y : List ℕ) (r : Capacities) (x : CodeResult Found Refusal) → read ≡ x → awaits st y msg r (some q) ≡ and_then (said_answer msg len cols x) (given st y msg r)
  awaits-hears y r x e = ap (λ (z : Result Answer). and_then z (given st y msg r)) (sym read-for ∙ ap (said_answer msg len cols) e)

  -- a message that is no answer is turned down for that, whatever was lent
  pub no-answer : (y : List ℕ) (r : Capacities) (e : Refusal) → read ≡ Err e → awaits st y msg r (some q) ≡ refusal (refusal_number e)
  no-answer y r e f = awaits-hears y r (Err e) f

pub taken-said : (st : Rebuilder) (s q : List ℕ) {a b : Result Taken} {x : RebuilderSaid} → a ≡ b → x ≡ leaves_rebuilder st s q b → x ≡ leaves_rebuilder st s q a
taken-said st s q e f = f ∙ ap (leaves_rebuilder st s q) (sym e)

pub refused-said : (st : Rebuilder) (e : Refusal) (s q : List ℕ) {r : RebuilderOut} {a : Result Taken} → r ≡ turned_down e st → a ≡ refusal (refusal_number e) → said_rebuilder r s q ≡ leaves_rebuilder st s q a
refused-said st e s q f g = ap (λ (z : RebuilderOut). said_rebuilder z s q) f ∙ ap (leaves_rebuilder st s q) (sym g)

-- whether the copy is the one that the state was made for, by what its two tests said
module _ (ybits : ℕ) (y : List ℕ) (bits : ℕ) {b : Bool} (rule : b ≡ string_rule y bits) where
  pub copy-kept : b ≡ true → ybits ≡ bits → (string_rule y bits && eqb ybits bits) ≡ true
  copy-kept e f = rw (sym rule ∙ e, eq-eqb ybits bits f) refl

  pub copy-lost : (b ≡ false) ⊎ ((b ≡ true) × (ybits ≡ bits → ⊥)) → (string_rule y bits && eqb ybits bits) ≡ false
  copy-lost (inl e) = rw (sym rule ∙ e) refl
  copy-lost (inr f) = rw (ne_eqb ybits bits f.1) (either (string_rule y bits))
    where
      either : (r : Bool) → (r && false) ≡ false
      either true = refl
      either false = refl

pub copy-there : (st : Rebuilder) (y : List ℕ) (bits : ℕ) → (string_rule y bits && eqb st.ybits bits) ≡ true → st.ybits ≤ 8 * length y
copy-there st y bits e =
    let s = (rule-is y bits (and_left (string_rule y bits) (eqb st.ybits bits) e)).bytes in
    let b = eqb-true st.ybits bits (and_right (string_rule y bits) (eqb st.ybits bits) e) in
    omega arith

-- ---- the tests of the call
module _ (st : Rebuilder) (y : List ℕ) (bits : ℕ) (msg : List ℕ) (r : Capacities) where
  pub call-bad-string : (string_rule y bits && eqb st.ybits bits) ≡ false → rebuilder_call st y bits msg r ≡ refusal (refusal_number BadString)
  unfolding rebuilder_call
  call-bad-string e = rw e refl

  module _ (e : (string_rule y bits && eqb st.ybits bits) ≡ true) where
    pub call-unsound : sound st ≡ false → rebuilder_call st y bits msg r ≡ refusal (refusal_number OutOfTurn)
    unfolding rebuilder_call
    call-unsound f = rw (e, f) refl

    pub call-awaits : sound st ≡ true → {o : Option Question} → planned st ≡ o → rebuilder_call st y bits msg r ≡ awaits st y msg r o
    unfolding rebuilder_call
    call-awaits f g = rw (e, f, g) refl

-- ---- the start
-- turned down: no state begins, which is said as the state of zeros
pub not-begun-out : (e : Refusal) (q : List ℕ) {o : CodeResult CodeStarted Refusal} → o ≡ Err e → said_start o q ≡ record { answer = refusal (refusal_number e); state = no_rebuilder; question = q }
not-begun-out e q f = ap (λ (z : CodeResult CodeStarted Refusal). said_start z q) f

module _ (S : Settings) (y : List ℕ) (bits : ℕ) (q : List ℕ) where
  abbrev started : Result Started
  started = rebuilder_start S y bits (length q)

  pub start-refused : (e : Refusal) {o : CodeResult CodeStarted Refusal} → o ≡ Err e → started ≡ refusal (refusal_number e) → said_start o q ≡ leaves_start q started
  start-refused e f g = not-begun-out e q f ∙ ap (leaves_start q) (sym g)

  pub start-bad-setting : within_limits S ≡ false → started ≡ refusal (refusal_number BadSetting)
  unfolding rebuilder_start
  start-bad-setting e = rw e refl

  module _ (a : within_limits S ≡ true) where
    pub start-bad-string : string_rule y bits ≡ false → started ≡ refusal (refusal_number BadString)
    unfolding rebuilder_start
    start-bad-string e = rw (a, e) refl

    module _ (b : string_rule y bits ≡ true) where
      pub start-too-short : length q < 8 → started ≡ refusal (refusal_number BufferTooShort)
      unfolding rebuilder_start
      start-too-short h = rw (a, b, lt-leb 8 (length q) h) refl

      pub start_small : bits < 4294967296
      start_small = let s = (rule-is y bits b).few in omega arith

      module _ (h : 8 ≤ length q) where
        begins : started ≡ starts (fresh_rebuilder S bits) (question_bytes (AskOpen S.h S.key))
        unfolding rebuilder_start
        begins = rw (a, b, le-leb 8 (length q) h) refl

        opening-short : length (question_bytes (AskOpen S.h S.key)) ≤ 8
        unfolding planned
        opening-short = question-short (fresh_rebuilder S bits) (AskOpen S.h S.key) (fresh-sound S bits (limits-is S a) (rule-is y bits b).few).0 refl

        module _ (w : CodeResult ℕ Refusal) (q' : List ℕ) (wr : said_write w q' ≡ put_front (question_bytes (AskOpen S.h S.key)) q) where
          opening-fits : (w ≡ Ok (length (question_bytes (AskOpen S.h S.key)))) × (q' ≡ at_front (question_bytes (AskOpen S.h S.key)) q)
          opening-fits = let o = opening-short in wrote-is w q' (question_bytes (AskOpen S.h S.key)) q wr (omega arith)

          pub start_fits : {x : Refusal} → w ≡ Err x → ⊥
          start_fits e = let f = opening-fits.0 in let n : ◌≡◌ {A = ℕ} 0 1 = cc in omega arith

          pub start-begun : {size : ℕ} → w ≡ Ok size → {st : Rebuilder} → st ≡ fresh_rebuilder S bits → said_start (Ok (record { size = size; state = st })) q' ≡ leaves_start q started
          start-begun {size} e {st} f =
              let g = opening-fits.0 in
              let n : size ≡ length (question_bytes (AskOpen S.h S.key)) = cc in
              (λ i. record { answer = value (n i); state = f i; question = opening-fits.1 i }) ∙ ap (leaves_start q) (sym begins)
