-- What a call comes to (01, "Why a call is turned down"): turned down with its number alone, or a value. The definitions of every layer use this type.
use Rattle.std.specs.Prelude.{Bool, true, false, ℕ, Result as CodeResult, Ok, Err}
use Rattle.strings.specs.Refusals.{refusal_number}
use Rattle.strings.specs.declared.Refusal.{Refusal}

pub data Result (A : Type 0) : Type 0 where
  refusal : ℕ → Result A
  value : A → Result A

-- the tests of a call come in 01's order: the first that fails gives its number
abbrev pub unless : {A : Type 0} → Bool → Refusal → Result A → Result A
unless true e go = go
unless false e go = refusal (refusal_number e)

-- what is read first, and then the rest; a refusal ends it
abbrev pub and_then : {A B : Type 0} → Result A → (A → Result B) → Result B
and_then (refusal number) rest = refusal number
and_then (value a) rest = rest a

-- the value in another form
abbrev pub mapped : {A B : Type 0} → (A → B) → Result A → Result B
mapped f (refusal number) = refusal number
mapped f (value a) = value (f a)

-- what the code's answer says: its value, or the number of its refusal
abbrev pub said : {A : Type 0} → CodeResult A Refusal → Result A
said (Ok v) = value v
said (Err e) = refusal (refusal_number e)
