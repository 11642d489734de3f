-- Laws of kinds: each has its number, and the kind of a message is read from its first byte.
use Rattle.std.specs.Prelude.{◌≡◌, refl, List, ◌++◌, ℕ, zero, suc, ◌+◌, ◌≤◌, length, drop}
use Rattle.std.proofs.Common.{ap, ap₂, ◌∙◌, arith}
use Rattle.strings.specs.laws.ResultLaws.{value-is, no_value, then-passed}
use Rattle.strings.specs.Refusals.{refusal_number}
use Rattle.strings.specs.Results.{Result, refusal, value, mapped}
use Rattle.strings.specs.Bits.{Bytes}
use Rattle.strings.specs.declared.Refusal.TheVariants.{BadKind}
use Rattle.messages.specs.declared.Kind.{Kind}
use Rattle.messages.specs.declared.Kind.TheVariants.{Open, Hash, Syndrome, Bits, Burst}
use Rattle.messages.specs.Numbers.{number, number_at}
use Rattle.messages.specs.laws.NumberLaws.{number-reads, number-form, size-last}
use Rattle.messages.specs.Kinds.{kind_number, kind_of, kind_at}

pub kind-most : (k : Kind) → kind_number k ≤ 4
kind-most Open = omega arith
kind-most Hash = omega arith
kind-most Syndrome = omega arith
kind-most Bits = omega arith
kind-most Burst = omega arith

pub kind-size : (k : Kind) → length (number (kind_number k)) ≡ 1
kind-size k = let h = kind-most k in size-last (kind_number k) (omega arith)

pub kind-of : (k : Kind) → kind_of (kind_number k) ≡ value k
kind-of Open = refl
kind-of Hash = refl
kind-of Syndrome = refl
kind-of Bits = refl
kind-of Burst = refl

pub kind-unknown : (v : ℕ) → 5 ≤ v → kind_of v ≡ refusal (refusal_number BadKind)
kind-unknown zero h = absurd (omega arith)
kind-unknown (suc zero) h = absurd (omega arith)
kind-unknown (suc (suc zero)) h = absurd (omega arith)
kind-unknown (suc (suc (suc zero))) h = absurd (omega arith)
kind-unknown (suc (suc (suc (suc zero)))) h = absurd (omega arith)
kind-unknown (suc (suc (suc (suc (suc v))))) h = refl

-- a known kind's number is the one that was read
kind-is : {j k : Kind} {a b : ℕ} → ◌≡◌ {A = Result (Kind × ℕ)} (value (j, a)) (value (k, b)) → (kind_number j ≡ kind_number k) × (a ≡ b)
kind-is e = let f = value-is e in (ap (λ (p : Kind × ℕ). kind_number p.0) f, ap (λ (p : Kind × ℕ). p.1) f)

known-number : (v at : ℕ) (k : Kind) (b : ℕ) → mapped {B = Kind × ℕ} (λ j. (j, at)) (kind_of v) ≡ value (k, b) → (v ≡ kind_number k) × (at ≡ b)
known-number zero at k b e = kind-is e
known-number (suc zero) at k b e = kind-is e
known-number (suc (suc zero)) at k b e = kind-is e
known-number (suc (suc (suc zero))) at k b e = kind-is e
known-number (suc (suc (suc (suc zero)))) at k b e = kind-is e
known-number (suc (suc (suc (suc (suc v))))) at k b e = absurd (no_value (refusal_number BadKind) (k, b) e)

-- ---- v is a kind's number, or no kind's
pub kind-known : {v i at : ℕ} (k : Kind) → v ≡ i → i ≡ kind_number k → value (k, at) ≡ mapped {B = Kind × ℕ} (λ j. (j, at)) (kind_of v)
kind-known k e f = rw (e, f, kind-of k) refl

pub kind-bad : (v at : ℕ) {i j k l m : ℕ} → i ≡ kind_number Open → j ≡ kind_number Hash → k ≡ kind_number Syndrome → l ≡ kind_number Bits → m ≡ kind_number Burst
    → (v ≡ i → ⊥) → (v ≡ j → ⊥) → (v ≡ k → ⊥) → (v ≡ l → ⊥) → (v ≡ m → ⊥) → refusal (refusal_number BadKind) ≡ mapped {B = Kind × ℕ} (λ n. (n, at)) (kind_of v)
kind-bad v at ei ej ek el em i j k l m = rw (kind-unknown v (omega arith)) refl

-- ---- the kind at the front of a message is read
pub kind-reads : (k : Kind) (rest : List ℕ) → kind_at (number (kind_number k) ++ rest) ≡ value (k, 1)
unfolding kind_at
kind-reads k rest =
    let s = number (kind_number k) ++ rest in
    let h = kind-most k in
    let e = kind-size k in
    let f : 0 + length (number (kind_number k)) ≡ 1 = omega arith in
    rw (number-reads s rest 0 (kind_number k) (omega arith) refl, kind-of k, f) refl

-- what reading a known kind says of the message
pub kind-number : (s : List ℕ) (k : Kind) (at : ℕ) → kind_at s ≡ value (k, at) → number_at s 0 ≡ value (kind_number k, at)
unfolding kind_at
kind-number s k at is =
    let (p, e, q) = then-passed (number_at s 0) _ (k, at) is in
    let h = known-number p.0 p.1 k at q in
    e ∙ ap₂ (λ (v b : ℕ). value (v, b)) h.0 h.1

-- the message begins with the kind's number, and the fields with the byte behind it
pub record HasKind (s : List ℕ) (k : Kind) (at : ℕ) : Type 0 where
  pub one : at ≡ 1
  pub begins : s ≡ number (kind_number k) ++ drop 1 s

pub kind-form : (s : List ℕ) (k : Kind) (at : ℕ) → Bytes s → kind_at s ≡ value (k, at) → HasKind s k at
kind-form s k at bytes e =
    let f = number-form s 0 (kind_number k) at bytes (kind-number s k at e) in
    let z = kind-size k in
    let o : at ≡ 1 = (let x = f.ends in omega arith) in
    record { one = o; begins = rw o at f.stands }
