-- Laws of the sheet of rows: that a call's change lies in it, what rows written one after the other make, and the call.
use Rattle.std.specs.Prelude.{◌≡◌, refl, List, [], ◌∷◌, ◌++◌, ℕ, suc, ◌+◌, ◌-◌, ◌≤◌, ◌<◌, length, replicate, take, drop}
use Rattle.std.proofs.Common.{ap, sym, ◌∙◌, add-one, arith, take_all}
use Rattle.std.proofs.lemmas.List.{length-replicate}
use Rattle.std.proofs.lemmas.List.Edits.{sets, sets-eq}
use Rattle.std.proofs.Math.Seq.{length-sets}
use Rattle.std.proofs.lemmas.Slice.{put_mid-paste}
use borrow.Rule.Slice.PartMut.{put_mid}
use Rattle.strings.specs.Results.{Result, refusal, value}
use Rattle.ends.specs.declared.Rebuilder.{Rebuilder}
use Rattle.ends.specs.declared.Row.{Row}
use Rattle.ends.specs.RebuilderCall.{Capacities, Step, Taken, no_row, rebuilder_call, sheet_after, takes, rows_needed}
use Rattle.ends.specs.laws.SheetLength.{taken-rows}
use Rattle.ends.specs.declared.rebuilding.RebuilderOut.{RebuilderOut}
use Rattle.ends.specs.RebuilderOutcome.{RebuilderSaid, said_rebuilder, leaves_rebuilder}
use Rattle.ends.specs.SheetCall.{said_on_sheet, sheet_left, leaves_on_sheet}

-- ---- the call
module _ (st : Rebuilder) (string question string' question' : List ℕ) (out : RebuilderOut) where
  said-rows : (t : Result Taken) (n : ℕ) → said_rebuilder out string' question' ≡ leaves_rebuilder st string question t
      → ((j : Step) (m : List ℕ) → t ≡ takes j m → rows_needed j.sheet ≤ n) → rows_needed out.sheet ≤ n
  said-rows (refusal d) n k h = let c = ap (λ (w : RebuilderSaid). rows_needed w.sheet) k in omega arith
  said-rows (value v) n k h = let c = ap (λ (w : RebuilderSaid). rows_needed w.sheet) k in let i = h v.step v.question refl in omega arith

  said-left : (t : Result Taken) (sh : List Row) → said_rebuilder out string' question' ≡ leaves_rebuilder st string question t → sheet_after sh out.sheet ≡ sheet_left sh t
  said-left (refusal d) sh k = ap (λ (w : RebuilderSaid). sheet_after sh w.sheet) k
  said-left (value v) sh k = ap (λ (w : RebuilderSaid). sheet_after sh w.sheet) k

module _ (st : Rebuilder) (y : List ℕ) (bits : ℕ) (msg : List ℕ) (capacities : Capacities) (string question string' question' : List ℕ) (out : RebuilderOut)
    (said : said_rebuilder out string' question' ≡ leaves_rebuilder st string question (rebuilder_call st y bits msg capacities)) where
  -- what the call says of the sheet lies in the sheet
  pub change-fits : rows_needed out.sheet ≤ capacities.sheet
  change-fits = said-rows st string question string' question' out (rebuilder_call st y bits msg capacities) capacities.sheet said (λ j m t. taken-rows st y bits msg capacities j m t)

  -- and done to the sheet, it leaves what the definition says
  pub left-on-sheet : (sh sh' : List Row) → sh' ≡ sheet_after sh out.sheet → said_on_sheet out sh' string' question' ≡ leaves_on_sheet st sh string question (rebuilder_call st y bits msg capacities)
  left-on-sheet sh sh' e = rw (said, e, said-left st string question string' question' out (rebuilder_call st y bits msg capacities) sh said) refl

-- ---- rows cleared
pub rows-cleared : (s t : List Row) (from to : ℕ) → from < to → to ≤ length s → t ≡ replicate (to - from) no_row
    → put_mid from (to - from) s t ≡ sets s from (replicate (to - from) no_row)
rows-cleared s t from to h k e =
    let n = ap length e ∙ length-replicate (to - from) no_row in
    put_mid-paste from (to - from) s t t (length t) refl n refl
    ∙ ap (λ (l : List Row). take from s ++ l ++ drop (from + length t) s) (take_all (length t) t (omega arith))
    ∙ sym (sets-eq t s from (omega arith)) ∙ ap (sets s from) e

-- ---- rows cleared one after the other
-- the rows s, of which those below i are cleared, come from s₀
abbrev pub ClearedTo : (from to : ℕ) (s₀ s : List Row) (i : ℕ) → Type 0
ClearedTo from to s₀ s i = (length s ≡ length s₀) × (sets s i (replicate (to - i) no_row) ≡ sets s₀ from (replicate (to - from) no_row))

pub clear-turn : (from to : ℕ) (s₀ s t : List Row) (i : ℕ) (r : Row) → i < to → r ≡ no_row → t ≡ sets s i (r ∷ []) → ClearedTo from to s₀ s i → ClearedTo from to s₀ t (i + 1)
clear-turn from to s₀ s t i r h z e k = (ap length e ∙ length-sets s i (r ∷ []) ∙ k.0, step ∙ k.1)
  where
    step : sets t (i + 1) (replicate (to - (i + 1)) no_row) ≡ sets s i (replicate (to - i) no_row)
    step = let n : to - i ≡ suc (to - (i + 1)) = omega arith in rw (n, e, z, add-one i) refl

pub clear-end : (from to : ℕ) (s₀ s : List Row) (i : ℕ) → to ≤ i → ClearedTo from to s₀ s i → s ≡ sets s₀ from (replicate (to - from) no_row)
clear-end from to s₀ s i h k =
    let n : 0 ≡ to - i = omega arith in
    ap (λ (m : ℕ). sets s i (replicate m no_row)) n ∙ k.1
