-- Laws of results.
use Rattle.std.specs.Prelude.{◌≡◌, refl, Bool, true, false, ℕ, ◌≤◌}
use Rattle.std.proofs.Common.{sym, subst, ◌∙◌, arith}
use Rattle.strings.specs.Refusals.{refusal_number}
use Rattle.strings.specs.declared.Refusal.{Refusal}
use Rattle.strings.specs.declared.Refusal.TheVariants.{BadSetting, BadString, OutOfTurn, Truncated, BadNumber, BadKind, TrailingBytes, OutOfRange, BufferTooShort, BadBurst, ListTooShort, MessageLength}
use Rattle.strings.specs.Results.{Result, refusal, value, unless, and_then, mapped}

-- a value is no refusal
abbrev is_value : {A : Type 0} → Result A → Type 0
is_value (refusal number) = ⊥
is_value (value a) = Unit {0}

pub no_value : {A : Type 0} (k : ℕ) (a : A) → refusal k ≡ value a → ⊥
no_value k a e = subst (λ r. is_value r) (sym e) tt

pub value-is : {A : Type 0} {a b : A} → value a ≡ value b → a ≡ b
value-is {A} {a} {b} e = cc

-- what holds of a refusal and of what follows a passed test holds of both
pub by-unless : {A : Type 0} (P : Result A → Type 0) (t : Bool) (e : Refusal) {go : Result A} → P (refusal (refusal_number e)) → (t ≡ true → P go) → P (unless t e go)
by-unless P true e f g = g refl
by-unless P false e f g = f

-- a call that gives a value has passed the test
pub unless-passed : {A : Type 0} (b : Bool) (e : Refusal) (go : Result A) (a : A) → unless b e go ≡ value a → (b ≡ true) × (go ≡ value a)
unless-passed true e go a is = (refl, is)
unless-passed false e go a is = absurd (no_value (refusal_number e) a is)

-- and has read what stands first
pub then-passed : {A B : Type 0} (r : Result A) (rest : A → Result B) (b : B) → and_then r rest ≡ value b → (a : A) × (r ≡ value a) × (rest a ≡ value b)
then-passed (refusal k) rest b is = absurd (no_value k b is)
then-passed (value a) rest b is = (a, refl, is)

-- ---- a refusal's number is one of 01's
pub record Numbered {A : Type 0} (r : Result A) : Type 0 where
  pub one : (number : ℕ) → r ≡ refusal number → (e : Refusal) × (number ≡ refusal_number e)

refusal_is : {A : Type 0} {j k : ℕ} → ◌≡◌ {A = Result A} (refusal j) (refusal k) → j ≡ k
refusal_is {A} {j} {k} e = cc

pub numbered-refusal : {A : Type 0} (e : Refusal) → Numbered {A = A} (refusal (refusal_number e))
numbered-refusal e = record { one = λ k i. (e, sym (refusal_is i)) }

pub numbered-value : {A : Type 0} (a : A) → Numbered (value a)
numbered-value a = record { one = λ k i. absurd (no_value k a (sym i)) }

pub numbered-unless : {A : Type 0} (t : Bool) (e : Refusal) (go : Result A) → Numbered go → Numbered (unless t e go)
numbered-unless true e go n = n
numbered-unless false e go n = numbered-refusal e

pub numbered-then : {A B : Type 0} (r : Result A) (rest : A → Result B) → Numbered r → ((a : A) → Numbered (rest a)) → Numbered (and_then r rest)
numbered-then (refusal k) rest n f = let i = n.one k refl in record { one = λ j h. (i.0, sym (refusal_is h) ∙ i.1) }
numbered-then (value a) rest n f = f a

pub numbered-mapped : {A B : Type 0} (g : A → B) (r : Result A) → Numbered r → Numbered (mapped g r)
numbered-mapped g (refusal k) n = let i = n.one k refl in record { one = λ j h. (i.0, sym (refusal_is h) ∙ i.1) }
numbered-mapped g (value a) n = numbered-value (g a)

pub refusal-small : (e : Refusal) → (1 ≤ refusal_number e) × (refusal_number e ≤ 15)
refusal-small BadSetting = (omega arith, omega arith)
refusal-small BadString = (omega arith, omega arith)
refusal-small OutOfTurn = (omega arith, omega arith)
refusal-small Truncated = (omega arith, omega arith)
refusal-small BadNumber = (omega arith, omega arith)
refusal-small BadKind = (omega arith, omega arith)
refusal-small TrailingBytes = (omega arith, omega arith)
refusal-small OutOfRange = (omega arith, omega arith)
refusal-small BufferTooShort = (omega arith, omega arith)
refusal-small BadBurst = (omega arith, omega arith)
refusal-small ListTooShort = (omega arith, omega arith)
refusal-small MessageLength = (omega arith, omega arith)
