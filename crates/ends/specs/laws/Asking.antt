-- The question that a state asks, the answers that its call reads, and what a taken call shows.
use Rattle.std.specs.Prelude.{◌≡◌, cond, ◌&&◌, List, ℕ, zero, suc, ◌-◌, length, get_or}
use Rattle.std.proofs.Math.Path.{refl}
use Rattle.std.proofs.Common.{sym, ap, ◌∙◌, arith, ne_eqb}
use Rattle.std.proofs.Math.Bool.{true}
use Rattle.std.proofs.Math.Option.{Option, none, some}
use Rattle.std.proofs.Math.Dec.{eqb}
use Rattle.strings.specs.laws.ResultLaws.{no_value, unless-passed, then-passed, value-is}
use Rattle.strings.specs.Refusals.{refusal_number}
use Rattle.strings.specs.Results.{value}
use Rattle.messages.specs.laws.AnswerLaws.{answer-form}
use Rattle.messages.specs.Answers.{Answer, read_answer}
use Rattle.messages.specs.Questions.{question_kind, question_length, question_burst}
use Rattle.messages.specs.declared.Question.{Question}
use Rattle.ends.specs.RebuilderCall.{Capacities, Step, awaits, bits_known, given, rebuilder_call, enough_for, step_of, takes, written_question, Taken}
use Rattle.ends.specs.Runs.{size_of}
use Rattle.ends.specs.Segments.{asks, step}
use Rattle.ends.specs.laws.SoundSteps.{step-sound}
use Rattle.ends.specs.Soundness.{sound}
use Rattle.ends.specs.laws.Standing.{Stands}
use Rattle.ends.specs.States.{held, no_piece, planned, top, planned_at}
use Rattle.ends.specs.laws.Store.{Store, ask_store, ask_top, store}
use Rattle.ends.specs.declared.Piece.{Piece}
use Rattle.ends.specs.declared.Rebuilder.{Rebuilder}
use Rattle.ends.specs.declared.Row.{Row}
use Rattle.strings.specs.declared.settings.Settings.{Settings}
use Rattle.strings.specs.Bits.{Bytes}
use Rattle.strings.specs.StringRule.{string_rule}
use Rattle.strings.specs.declared.Refusal.TheVariants.{BadString, BufferTooShort, OutOfTurn}
use Rattle.ends.specs.declared.Stage.{Stage}
use Rattle.ends.specs.declared.Phase.{Phase}
use Rattle.ends.specs.declared.Phase.TheVariants.{AtOpening, AtPieces, AtWhole}

-- a state asks what the store that it stands for asks
pub asks-planned : {S : Settings} {yb : ℕ} {bs₀ : List ℕ} {sh₀ : List Row} {z : ℕ} {st : Rebuilder} {bs : List ℕ} {sh : List Row} {s : Store} → Stands S yb bs₀ sh₀ z st bs sh s → planned st ≡ ask_store S s
unfolding planned top
asks-planned {S} {st = st} {s = s} h = go st.phase ∙ sym (ap (ask_store S) h.is)
  where
    ask-top : (w : ℕ) (arr : List Piece) (t : Stage) → cond (eqb w 0) none (some (asks S (get_or arr (w - 1) no_piece).x (get_or arr (w - 1) no_piece).p (get_or arr (w - 1) no_piece).q t)) ≡ ask_top S t (held w arr)
    ask-top zero arr t = refl
    ask-top (suc w) arr t =
        let e : suc w - 1 ≡ w = omega arith in
        rw (e, ne_eqb (suc w) 0 (λ z. omega arith)) refl

    go : (ph : Phase) → planned_at ph st ≡ ask_store S (store ph st.n st.counted st.stage (held st.waiting st.pieces) h.str h.rows)
    go AtOpening = rw h.settings refl
    go AtPieces = rw h.settings (ask-top st.waiting st.pieces st.stage)
    go AtWhole = refl

-- ---- a call that was taken
pub record TakenCall (st : Rebuilder) (y : List ℕ) (msg : List ℕ) (capacities : Capacities) (step : Step) (next : List ℕ) : Type 0 where
  pub sound-before : sound st ≡ true
  pub q : Question
  pub asked : planned st ≡ some q
  pub a : Answer
  pub read : read_answer (question_kind q) (question_length q) (question_burst q) st.settings.h msg ≡ value a
  pub capacity : enough_for st (bits_known st a) capacities ≡ true
  pub steps : step ≡ step_of st y (length msg) a
  pub asks : next ≡ written_question (planned (step_of st y (length msg) a).state)

module _ (st : Rebuilder) (y : List ℕ) (bits : ℕ) (msg : List ℕ) (capacities : Capacities) (step : Step) (next : List ℕ) where
  given-taken : (a : Answer) → given st y msg capacities a ≡ takes step next
      → (enough_for st (bits_known st a) capacities ≡ true) × (step ≡ step_of st y (length msg) a) × (next ≡ written_question (planned (step_of st y (length msg) a).state))
  given-taken a e =
      let u = unless-passed (enough_for st (bits_known st a) capacities) BufferTooShort _ _ e in
      let f = value-is u.1 in
      (u.0, sym (ap (λ (z : Taken). z.step) f), sym (ap (λ (z : Taken). z.question) f))

  pub taken-call : rebuilder_call st y bits msg capacities ≡ takes step next → TakenCall st y msg capacities step next
  unfolding rebuilder_call
  taken-call e =
      let u = unless-passed (string_rule y bits && eqb st.ybits bits) BadString _ _ e in
      let v = unless-passed (sound st) OutOfTurn _ _ u.1 in
      go v.0 (planned st) refl v.1
    where
      go : sound st ≡ true → (o : Option Question) → planned st ≡ o → awaits st y msg capacities o ≡ takes step next → TakenCall st y msg capacities step next
      go s none k f = absurd (no_value (refusal_number OutOfTurn) _ f)
      go s (some q) k f =
          let h = then-passed (read_answer (question_kind q) (question_length q) (question_burst q) st.settings.h msg) (given st y msg capacities) _ f in
          let g = given-taken h.0 h.2 in
          record { sound-before = s; q = q; asked = k; a = h.0; read = h.1; capacity = g.0; steps = g.1; asks = g.2 }

-- every state from a call of the rebuilder is sound
pub call-sound : (st : Rebuilder) (y : List ℕ) (bits : ℕ) (msg : List ℕ) (capacities : Capacities) (step : Step) (next : List ℕ) → length st.pieces ≡ 32 → Bytes msg → rebuilder_call st y bits msg capacities ≡ takes step next
    → (sound step.state ≡ true) × (length step.state.pieces ≡ 32)
unfolding size_of
call-sound st y bits msg capacities step next arr by e =
    let t = taken-call st y bits msg capacities step next e in
    let f = answer-form (question_kind t.q) (question_length t.q) (question_burst t.q) st.settings.h msg t.a t.read in
    rw t.steps (step-sound st y t.q t.a (length msg) arr t.sound-before t.asked f.proper (ap length (f.bytes by)))
