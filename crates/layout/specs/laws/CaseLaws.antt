-- Laws of the cases' numbers: each is small and is read as its case.
use Rattle.std.specs.Prelude.{◌≡◌, refl, Bool, true, false, ◌≤◌, ℕ}
use Rattle.std.specs.Int.{from_bool}
use Rattle.std.proofs.Common.{arith, sym, ne_eqb}
use Rattle.ends.specs.declared.Attempt.TheVariants.{First, Second, Third}
use Rattle.ends.specs.declared.Phase.{Phase}
use Rattle.ends.specs.declared.Phase.TheVariants.{AtOpening, AtPieces, AtWhole}
use Rattle.ends.specs.declared.Stage.{Stage}
use Rattle.ends.specs.declared.Stage.TheVariants.{Hashing, PuttingIn, TakingOut, Anchor, AllBits, Columns}
use Rattle.layout.specs.Layout.{opened_number, opened_of, phase_number, phase_of, stage_number, stage_of}

pub opened-most : (b : Bool) → opened_number b ≤ 1
opened-most false = omega arith
opened-most true = omega arith

pub opened-back : (b : Bool) → opened_of (opened_number b) ≡ b
opened-back false = refl
opened-back true = refl

pub phase-most : (p : Phase) → phase_number p ≤ 2
phase-most AtOpening = omega arith
phase-most AtPieces = omega arith
phase-most AtWhole = omega arith

pub phase-back : (p : Phase) → phase_of (phase_number p) ≡ p
unfolding phase_of
phase-back AtOpening = refl
phase-back AtPieces = refl
phase-back AtWhole = refl

pub stage-most : (t : Stage) → stage_number t ≤ 7
stage-most Hashing = omega arith
stage-most PuttingIn = omega arith
stage-most TakingOut = omega arith
stage-most (Anchor First) = omega arith
stage-most (Anchor Second) = omega arith
stage-most (Anchor Third) = omega arith
stage-most AllBits = omega arith
stage-most Columns = omega arith

pub stage-back : (t : Stage) → stage_of (stage_number t) ≡ t
unfolding stage_of
stage-back Hashing = refl
stage-back PuttingIn = refl
stage-back TakingOut = refl
stage-back (Anchor First) = refl
stage-back (Anchor Second) = refl
stage-back (Anchor Third) = refl
stage-back AllBits = refl
stage-back Columns = refl

-- ---- for the code
pub phase-known : (v : ℕ) (p : Phase) → v ≡ phase_number p → p ≡ phase_of v
phase-known v p e = rw e (sym (phase-back p))

pub opened-converted : (b : Bool) → from_bool b ≡ opened_number b
opened-converted false = refl
opened-converted true = refl

pub phase-last : (v : ℕ) → (v ≡ 0 → ⊥) → (v ≡ 1 → ⊥) → AtWhole ≡ phase_of v
unfolding phase_of
phase-last v a b = rw (ne_eqb v 0 a, ne_eqb v 1 b) refl

pub stage-known : (v : ℕ) (t : Stage) → v ≡ stage_number t → t ≡ stage_of v
stage-known v t e = rw e (sym (stage-back t))

pub stage-last : (v : ℕ) → (v ≡ 0 → ⊥) → (v ≡ 1 → ⊥) → (v ≡ 2 → ⊥) → (v ≡ 3 → ⊥) → (v ≡ 4 → ⊥) → (v ≡ 5 → ⊥) → (v ≡ 6 → ⊥) → Columns ≡ stage_of v
unfolding stage_of
stage-last v a b c d e f g = rw (ne_eqb v 0 a, ne_eqb v 1 b, ne_eqb v 2 c, ne_eqb v 3 d, ne_eqb v 4 e, ne_eqb v 5 f, ne_eqb v 6 g) refl
