-- A taken call's change of the sheet lies in the lent sheet, so code that has the rebuilder's contract can do it; and its row is small.
use Rattle.std.specs.Prelude.{◌≡◌, refl, true, ◌&&◌, List, ℕ, zero, suc, ◌+◌, ◌*◌, ◌/◌, ◌≤◌, ◌<◌, length, leb}
use native.Mathlib.Omega.{arith}
use Rattle.std.proofs.Common.{leb-true}
use Rattle.strings.specs.Bits.{bytes_for, range, max_bits}
use Rattle.strings.specs.laws.Tests.{and_left, and_right}
use Rattle.ends.specs.laws.Asking.{TakenCall, taken-call}
use Rattle.ends.specs.RebuilderCall.{Capacities, Step, bits_known, change_row, effect_step, opening_step, rebuilder_call, enough_for, rows_needed, step_of, takes, whole_step}
use Rattle.ends.specs.Segments.{Effect, effect, how_number, settles, splits, stays}
use Rattle.messages.specs.Answers.{Answer}
use Rattle.ends.specs.laws.SoundParts.{Framed, PhaseOf, is_opening, is_pieces, is_whole, phase-of, sound-is, top-is}
use Rattle.strings.proofs.laws.RangeLaws.{range_length}
use Rattle.ends.specs.laws.Counts.{Sane, sane}
use Rattle.ends.specs.laws.Right.{StageOk}
use Rattle.ends.specs.laws.SoundLaws.{fits-stage}
use Rattle.ends.specs.Soundness.{rows_of_waiting}
use Rattle.ends.specs.States.{held, top}
use Rattle.ends.specs.laws.Steps.{step-opening, step-pieces, step-whole}
use Rattle.ends.specs.declared.How.{How}
use Rattle.ends.specs.declared.How.TheVariants.{ByHash, ByPutIn, ByTakeOut, ByAnchor, ByBits, ByBurst}
use Rattle.ends.specs.declared.Piece.{Piece}
use Rattle.ends.specs.declared.Row.{Row}
use Rattle.ends.specs.declared.Stage.{Stage}
use Rattle.ends.specs.declared.Rebuilder.{Rebuilder}
use Rattle.ends.specs.declared.Phase.TheVariants.{AtPieces, AtWhole}

-- while pieces wait one row more fits the sheet
rows-some : (m w : ℕ) (l : List Piece) → 0 < w → 1 ≤ rows_of_waiting m (held w l)
unfolding rows_of_waiting
rows-some m zero l h = absurd (omega arith)
rows-some m (suc w) l h = omega arith

effect-rows : (st : Rebuilder) (size : ℕ) (e : Effect) → rows_needed (effect_step st size e).sheet ≤ st.rows + 1
unfolding effect_step
effect-rows st size (settles w b) = omega arith
effect-rows st size (stays t) = omega arith
effect-rows st size (splits s r b) = omega arith

-- ---- the row that is stored
pub record SmallRow (r : Row) : Type 0 where
  pub start-most : r.start ≤ max_bits
  pub len-most : r.len ≤ max_bits
  pub how-most : r.how ≤ 6

how-small : (w : How) → how_number w ≤ 6
how-small ByHash = omega arith
how-small ByPutIn = omega arith
how-small ByTakeOut = omega arith
how-small ByAnchor = omega arith
how-small ByBits = omega arith
how-small ByBurst = omega arith

effect-row : (st : Rebuilder) (size : ℕ) (t : Stage) (e : Effect) → (top st).x + (top st).p ≤ max_bits → st.settings.m ≤ 64 → Sane st.settings (top st).p t e
    → SmallRow (change_row (effect_step st size e).sheet)
unfolding effect_step
effect-row st size t (settles w b) h m s = record { start-most = omega arith; len-most = omega arith; how-most = how-small w }
effect-row st size t (stays u) h m s = record { start-most = omega arith; len-most = omega arith; how-most = omega arith }
effect-row st size t (splits x r b) h m s = let i = s.0.inside in record { start-most = omega arith; len-most = omega arith; how-most = omega arith }

-- ---- taken calls
known-pieces : (st : Rebuilder) (a : Answer) → st.phase ≡ AtPieces → bits_known st a ≡ st.n
known-pieces st a e = rw e refl

known-whole : (st : Rebuilder) (a : Answer) → st.phase ≡ AtWhole → bits_known st a ≡ st.n
known-whole st a e = rw e refl

module _ (st : Rebuilder) (y : List ℕ) (bits : ℕ) (msg : List ℕ) (capacities : Capacities) (step : Step) (next : List ℕ) (e : rebuilder_call st y bits msg capacities ≡ takes step next) where
  sheet-length : (n : ℕ) → enough_for st n capacities ≡ true → 2 * (n / st.settings.m) + 1 ≤ capacities.sheet
  sheet-length n r =
      leb-true (2 * (n / st.settings.m) + 1) capacities.sheet
      (and_left (leb (2 * (n / st.settings.m) + 1) capacities.sheet) (leb 8 capacities.question)
      (and_right (leb (bytes_for n) capacities.string) (leb (2 * (n / st.settings.m) + 1) capacities.sheet && leb 8 capacities.question) r))

  pub taken-rows : rows_needed step.sheet ≤ capacities.sheet
  taken-rows = rw k.steps (go (phase-of st k.q (sound-is st k.sound-before).1 k.asked))
    where
      k : TakenCall st y msg capacities step next
      k = taken-call st y bits msg capacities step next e

      later : bits_known st k.a ≡ st.n → 2 * (st.n / st.settings.m) + 1 ≤ capacities.sheet
      later h = sheet-length st.n (rw h at k.capacity)

      go : PhaseOf st k.q → rows_needed (step_of st y (length msg) k.a).sheet ≤ capacities.sheet
      go (is_opening p i d) = rw (step-opening st y (length msg) k.a p) (unfold opening_step in omega arith)
      go (is_pieces p i w d) =
          let f : Effect = effect st.settings k.a (top st).p (range y (top st).y (top st).q) st.stage in
          let r = rows-some st.settings.m st.waiting st.pieces w in
          let t = i.stack.rows in
          let l = later (known-pieces st k.a p) in
          let g = effect-rows st (length msg) f in
          rw (step-pieces st y (length msg) k.a p) (omega arith)
      go (is_whole p i d) =
          let t = i.stack.rows in
          let l = later (known-whole st k.a p) in
          rw (step-whole st y (length msg) k.a p) (unfold whole_step in omega arith)

  pub taken-row : SmallRow (change_row step.sheet)
  taken-row = rw k.steps (go (sound-is st k.sound-before).0 (phase-of st k.q (sound-is st k.sound-before).1 k.asked))
    where
      k : TakenCall st y msg capacities step next
      k = taken-call st y bits msg capacities step next e

      go : Framed st → PhaseOf st k.q → SmallRow (change_row (step_of st y (length msg) k.a).sheet)
      go f (is_opening p i d) = rw (step-opening st y (length msg) k.a p) (unfold opening_step in record { start-most = omega arith; len-most = omega arith; how-most = omega arith })
      go f (is_pieces p i w d) =
          let ti = top-is st i.stack w in
          let x = ti.in_x in let n = f.size in let m = f.limits.m-most in
          let l = range_length y (top st).y (top st).q in
          let ok : StageOk st.settings (top st).p (length (range y (top st).y (top st).q)) st.stage = rw l (fits-stage st.settings f.limits (top st).p (top st).q st.stage ti.stage) in
          rw (step-pieces st y (length msg) k.a p)
          (effect-row st (length msg) st.stage (effect st.settings k.a (top st).p (range y (top st).y (top st).q) st.stage) (omega arith) (omega arith)
          (sane st.settings f.limits k.a (top st).p (range y (top st).y (top st).q) st.stage ok))
      go f (is_whole p i d) =
          let n = f.size in
          rw (step-whole st y (length msg) k.a p) (unfold whole_step in record { start-most = omega arith; len-most = omega arith; how-most = omega arith })
