-- Laws of stages, and of the array of waiting pieces.
use Rattle.std.specs.Prelude.{◌≡◌, Bool, cond, List, ◌∷◌, ℕ, zero, suc, ◌-◌, ◌≤◌, ◌<◌, set, length, get_or, ltb, eqb}
use Rattle.std.proofs.Math.Path.{refl}
use Rattle.std.proofs.Common.{ap, ap₂, arith, get_or-set_same, get_or-set_other, lt-ltb, ne_eqb}
use Rattle.std.proofs.Math.Option.{Option, none, some}
use Rattle.codes.specs.Repair.{put_in, take_out}
use Rattle.messages.specs.Answers.{Answer}
use Rattle.ends.specs.Anchors.{place, distance}
use Rattle.ends.specs.Segments.{Effect, effect, first_stage, hash_of, later_stage, placed, retry, settles, splits, stays, the_bits, the_hash, the_syndrome, trial, trial_of, offset, after_anchor, next_stage, the_syndromes}
use Rattle.ends.specs.States.{held, no_piece}
use Rattle.ends.specs.laws.Store.{any_piece, top_stage}
use Rattle.ends.specs.declared.How.{How}
use Rattle.ends.specs.declared.How.TheVariants.{ByHash, ByPutIn, ByTakeOut, ByBurst}
use Rattle.ends.specs.declared.Piece.{Piece}
use Rattle.strings.specs.declared.settings.Settings.{Settings}
use Rattle.strings.specs.laws.Tests.{by-test}
use Rattle.ends.specs.declared.Stage.TheVariants.{Hashing, PuttingIn, TakingOut, Anchor, AllBits, Columns}
use Rattle.ends.specs.declared.Attempt.{Attempt}
use Rattle.ends.specs.declared.Stage.{Stage}
use Rattle.codes.specs.Columns.{repair_run}

-- ---- stages
-- a piece that stays is at the next stage
abbrev pub IsNext : Settings → (p q : ℕ) → Stage → Effect → Type 0
IsNext S p q t (settles w b) = Unit {0}
IsNext S p q t (stays u) = u ≡ next_stage S p q t
IsNext S p q t (splits s r b) = Unit {0}

module _ (S : Settings) (a : Answer) (p : ℕ) (ys : List Bool) where
  trial-next : (t : Stage) → later_stage S p (length ys) ≡ next_stage S p (length ys) t → (w : How) (b : List Bool) → IsNext S p (length ys) t (trial S (the_hash a) w b (retry S p ys))
  trial-next t e w b = by-test (IsNext S p (length ys) t) (eqb (hash_of S b) (the_hash a)) {a = settles w b} (λ h. tt) (λ h. e)

  trial_of-next : (t : Stage) → later_stage S p (length ys) ≡ next_stage S p (length ys) t → (w : How) (o : Option (List Bool)) → IsNext S p (length ys) t (trial_of S (the_hash a) w o (retry S p ys))
  trial_of-next t e w none = e
  trial_of-next t e w (some b) = trial-next t e w b

  placed-next : (s : ℕ) (i : Attempt) (o : Option ℕ) → IsNext S p (length ys) (Anchor i) (placed s (the_bits a) (after_anchor i) o)
  placed-next s i none = refl
  placed-next s i (some r) = tt

  pub is-next : (t : Stage) → IsNext S p (length ys) t (effect S a p ys t)
  unfolding effect
  is-next Hashing = trial-next Hashing refl ByHash ys
  is-next PuttingIn = trial_of-next PuttingIn refl ByPutIn (put_in (the_syndrome a) ys)
  is-next TakingOut = trial_of-next TakingOut refl ByTakeOut (take_out (the_syndrome a) ys)
  is-next Columns = trial_of-next Columns refl ByBurst (repair_run (distance p (length ys)) p (the_syndromes a) ys)
  is-next (Anchor i) = placed-next (offset S.m p i) i (place S.m S.k p (offset S.m p i) ys (the_bits a))
  is-next AllBits = tt

-- ---- the array
pub held-set : (w i : ℕ) (arr : List Piece) (pc : Piece) → w ≤ i → held w (set arr i pc) ≡ held w arr
held-set zero i arr pc h = refl
held-set (suc w) i arr pc h =
    ap₂ (λ (a : Piece) (l : List Piece). a ∷ l) (get_or-set_other arr i w pc no_piece (λ e. omega arith)) (held-set w i arr pc (omega arith))

pub held-push : (w : ℕ) (arr : List Piece) (pc : Piece) → w < length arr → held (suc w) (set arr w pc) ≡ pc ∷ held w arr
held-push w arr pc h = ap₂ (λ (a : Piece) (l : List Piece). a ∷ l) (get_or-set_same arr w pc no_piece h) (held-set w w arr pc (omega arith))

pub held-length : (w : ℕ) (arr : List Piece) → length (held w arr) ≡ w
held-length zero arr = refl
held-length (suc w) arr = ap suc (held-length w arr)

pub held_any : (w : ℕ) (arr : List Piece) → ltb 0 w ≡ any_piece (held w arr)
held_any zero arr = refl
held_any (suc w) arr = lt-ltb 0 (suc w) (omega arith)

-- a piece that comes to the left is at its first stage
pub restage-held : (S : Settings) (w : ℕ) (arr : List Piece) → cond (eqb w 0) Hashing (first_stage S (get_or arr (w - 1) no_piece).p (get_or arr (w - 1) no_piece).q) ≡ top_stage S (held w arr)
restage-held S zero arr = refl
restage-held S (suc w) arr =
    let e : suc w - 1 ≡ w = omega arith in
    rw (e, ne_eqb (suc w) 0 (λ z. omega arith)) refl
