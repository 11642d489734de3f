-- A state that passes the soundness test meets what the functions of src/state.rt require.
use Rattle.std.specs.Prelude.{◌≡◌, true, ℕ, ◌≤◌, ◌<◌, eqb}
use Rattle.std.proofs.Common.{div-le_self, arith}
use Rattle.std.proofs.Math.Nat.{max-le}
use Rattle.strings.specs.laws.Tests.{by-test}
use Rattle.messages.specs.Answers.{longest_numbers}
use Rattle.ends.specs.declared.Rebuilder.{Rebuilder}
use Rattle.ends.specs.Runs.{full, longest_answer}
use Rattle.ends.specs.States.{top}
use Rattle.ends.specs.Soundness.{phase_sound, most_counted, sound, sound_at}
use Rattle.ends.specs.laws.SoundParts.{Framed, sound-is, OpeningIs, opening-is, PiecesIs, pieces-is, phase-pieces, WholeIs, whole_is, top-is, stage-long}
use Rattle.ends.specs.laws.Counts.{before-most}
use Rattle.ends.specs.code.StateCode.{Counts, Asks, Plans}
use Rattle.ends.specs.declared.Phase.{Phase}
use Rattle.ends.specs.declared.Phase.TheVariants.{AtOpening, AtPieces, AtWhole}
use Rattle.strings.specs.Bits.{max_bits}

-- ---- the counts
record CountFacts (st : Rebuilder) : Type 0 where
  answered : st.answered ≤ 600000
  counted : st.counted ≤ 40000
  used : st.rows ≤ 200000

full-most : (n : ℕ) → n ≤ max_bits → longest_answer n ≤ 8193
full-most n h = max-le {a = longest_numbers} {b = full n} (omega arith) (omega arith)

module _ (st : Rebuilder) (f : Framed st) where
  most-counted : most_counted st ≤ 40000
  most-counted =
      let m = full-most st.n f.size in
      let c = f.limits.ceiling-most in
      let n = f.size in
      by-test (λ (v : ℕ). v ≤ 40000) (eqb st.waiting 0) (λ e. omega arith) (λ e. omega arith)

  opening-counts : OpeningIs st → CountFacts st
  opening-counts k = let a = k.answered in let b = k.counted in let c = k.rows in record { answered = omega arith; counted = omega arith; used = omega arith }

  pieces-counts : PiecesIs st → CountFacts st
  pieces-counts k =
      let r = k.stack.rows in
      let g = before-most st.stage in
      let d = div-le_self st.n st.settings.m in
      let n = f.size in
      let q = k.asks in
      let u = k.counted in
      let m = most-counted in
      record { answered = omega arith; counted = omega arith; used = omega arith }

  whole-counts : WholeIs st → CountFacts st
  whole-counts k =
      let r = k.stack.rows in
      let d = div-le_self st.n st.settings.m in
      let n = f.size in
      let q = k.asks in
      let u = k.counted in
      let c = f.limits.ceiling-most in
      let m = full-most st.n f.size in
      record { answered = omega arith; counted = omega arith; used = omega arith }

  -- whatever the phase
  phase-counts : phase_sound st ≡ true → CountFacts st
  phase-counts t = go st.phase t
    where
      go : (ph : Phase) → sound_at ph st ≡ true → CountFacts st
      go AtOpening e = opening-counts (opening-is st e)
      go AtPieces e = pieces-counts (pieces-is st e)
      go AtWhole e = whole-counts (whole_is st e)

-- ---- what src/state.rt requires
module _ (st : Rebuilder) (ok : sound st ≡ true) where
  -- an answer of any length that a message of it has
  pub sound-counts : (size rows : ℕ) → size ≤ 4000000000 → rows ≤ 1 → Counts st size rows
  sound-counts size rows h k =
      let f = sound-is st ok in
      let c = phase-counts st f.0 f.1 in
      let a = c.answered in let b = c.counted in let d = c.used in record { answered = omega arith; counted = omega arith; used = omega arith }

  sound-asks : st.phase ≡ AtPieces → 0 < st.waiting → Asks st.settings.m (top st) st.stage
  sound-asks e w =
      let f = sound-is st ok in
      let t = top-is st (pieces-is st (rw (phase-pieces st e) at f.1)).stack w in
      let n = f.0.size in
      let x = t.in_x in
      let L = f.0.limits in
      record { m-most = L.m-most; p-most = omega arith; x-most = omega arith; long = λ i b. let l = stage-long st.settings L (top st).p (top st).q st.stage t.stage i b in omega arith }

  pub sound-plans : Plans st
  sound-plans = record { few = (sound-is st ok).0.few; asks = λ e w. sound-asks e w }
