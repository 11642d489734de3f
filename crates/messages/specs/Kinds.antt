-- 01, "Messages", and 02, CR 1: the five kinds, their numbers, and the kind at the front of a message.
use Rattle.std.specs.Prelude.{List, ℕ, zero, suc}
use Rattle.strings.specs.Refusals.{refusal_number}
use Rattle.strings.specs.Results.{Result, refusal, value, and_then, mapped}
use Rattle.strings.specs.declared.Refusal.TheVariants.{BadKind}
use Rattle.messages.specs.declared.Kind.{Kind}
use Rattle.messages.specs.declared.Kind.TheVariants.{Open, Hash, Syndrome, Bits, Burst}
use Rattle.messages.specs.Numbers.{number_at}

abbrev pub kind_number : Kind → ℕ
kind_number Open = 0
kind_number Hash = 1
kind_number Syndrome = 2
kind_number Bits = 3
kind_number Burst = 4

-- the kind of a number: 6 for an unknown one
abbrev pub kind_of : ℕ → Result Kind
kind_of zero = value Open
kind_of (suc zero) = value Hash
kind_of (suc (suc zero)) = value Syndrome
kind_of (suc (suc (suc zero))) = value Bits
kind_of (suc (suc (suc (suc zero)))) = value Burst
kind_of (suc (suc (suc (suc (suc v))))) = refusal (refusal_number BadKind)

-- the kind of the message s and the position behind it: 4 or 5 as its number is read, then 6
unfoldable pub kind_at : List ℕ → Result (Kind × ℕ)
kind_at s = and_then (number_at s 0) (λ (v, at). mapped (λ k. (k, at)) (kind_of v))
