-- A call's result as one number: value * 256 + refusal, so that a host tells an answer (refusal 0) from a refusal by the low eight bits.
use Rattle.std.specs.Prelude.{Option as Found, Some, None, Bool, true, false, ℕ, ◌+◌, ◌*◌, ◌≤◌}
use Rattle.std.proofs.Math.Option.{Option, none, some}
use Rattle.strings.specs.Results.{Result, refusal, value}

abbrev pub value_unit : ℕ
value_unit = 256

unfoldable pub packed : Result ℕ → ℕ
packed (refusal number) = number
packed (value v) = v * value_unit

-- a repair that is done, a marker that is built or read, is 1, none is 0
abbrev pub done_number : Bool → ℕ
done_number true = 1
done_number false = 0

-- a place r is r + 1, no place is 0
abbrev pub place_number : Option ℕ → ℕ
place_number none = 0
place_number (some r) = r + 1

-- the same of the code's place, and the places that fit
abbrev pub place_value : Found ℕ → ℕ
place_value None = 0
place_value (Some r) = r + 1

abbrev pub place_fits : Found ℕ → Type 0
place_fits None = Unit {0}
place_fits (Some r) = r ≤ 65536
