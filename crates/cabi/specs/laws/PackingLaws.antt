-- What a host does with a packed result, and that results fit in 64 bits.
use Rattle.std.specs.Prelude.{Option as Found, Some, None, Result as CodeResult, Ok, Err, Bool, ⊤, ◌≡◌, refl, List, ℕ, ◌/◌, ◌%◌, ◌≤◌, ◌<◌}
use Rattle.std.proofs.Math.Option.{Option, none, some}
use Rattle.std.proofs.Common.{arith, ap, ◌∙◌}
use Rattle.strings.specs.Bits.{max_bits}
use Rattle.strings.specs.Results.{Result, refusal, value, mapped, said}
use Rattle.codes.specs.Entries.{said_repair}
use Rattle.codes.specs.Markers.{said_build}
use Rattle.strings.specs.declared.Refusal.{Refusal}
use Rattle.ends.specs.AnchorSearch.{anchor_search, said_anchor}
use Rattle.ends.specs.code.AnchorSearchLaws.{AnswerMost, search-most}
use Rattle.cabi.specs.Packing.{packed, done_number, place_number, place_value, place_fits, value_unit}

-- ---- the host's side: the low eight bits are the refusal, the rest is the value
pub refusal-read : (e : ℕ) → e < value_unit → packed (refusal e) % value_unit ≡ e
unfolding packed
refusal-read e h = omega arith

pub value-refusal : (v : ℕ) → packed (value v) % value_unit ≡ 0
unfolding packed
value-refusal v = omega arith

pub value_read : (v : ℕ) → packed (value v) / value_unit ≡ v
unfolding packed
value_read v = omega arith

-- ---- a place is at most 65,536, so that it fits
answer-fits : (x : Result (Option ℕ)) → AnswerMost x → packed (mapped place_number x) ≤ 16777472
unfolding packed
answer-fits (refusal e) h = omega arith
answer-fits (value none) h = omega arith
answer-fits (value (some r)) h = omega arith

pub place-fits : (y : List ℕ) (bits start q p s m k : ℕ) (a : List ℕ) → packed (mapped place_number (anchor_search y bits start q p s m k a)) ≤ 16777472
place-fits y bits start q p s m k a = answer-fits (anchor_search y bits start q p s m k a) (search-most y bits start q p s m k a)

-- ---- for the code
pub place-in-fits : (a : CodeResult (Found ℕ) Refusal) → packed (mapped place_number (said_anchor a)) ≤ 16777472 → (place : Found ℕ) → a ≡ Ok place → place_fits place
unfolding packed
place-in-fits a h None e = tt
place-in-fits a h (Some r) e = let g = rw e at h in omega arith

pub place-small : (a : CodeResult (Found ℕ) Refusal) (r : ℕ) → packed (mapped place_number (said_anchor a)) ≤ 16777472 → a ≡ Ok (Some r) → r ≤ max_bits
place-small a r h e = place-in-fits a h (Some r) e

-- what each kind of value counts
pub number-packed : (a : CodeResult ℕ Refusal) {x : Result ℕ} → said a ≡ x → packed (mapped (λ v. v) (said a)) ≡ packed x
number-packed a e = ap packed (same (said a) ∙ e)
  where
    same : (x : Result ℕ) → mapped (λ v. v) x ≡ x
    same (refusal n) = refl
    same (value v) = refl

pub build-packed : (a : CodeResult ⊤ Refusal) (out : List ℕ) → packed (mapped (λ done. 1) (said a)) ≡ packed (mapped done_number (said_build a out).answer)
build-packed (Ok done) out = refl
build-packed (Err e) out = refl

pub place-packed : (a : CodeResult (Found ℕ) Refusal) → packed (mapped place_value (said a)) ≡ packed (mapped place_number (said_anchor a))
place-packed (Ok (Some r)) = refl
place-packed (Ok None) = refl
place-packed (Err e) = refl

-- the buffer that a repair's answer goes with
pub said-buffer : (a : CodeResult Bool Refusal) (out : List ℕ) → (said_repair a out).buffer ≡ out
said-buffer a out = refl

-- the buffer that a builder's answer goes with
pub built-buffer : (a : CodeResult ⊤ Refusal) (out : List ℕ) → (said_build a out).buffer ≡ out
built-buffer a out = refl
