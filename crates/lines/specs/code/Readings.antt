-- What the answers of the internal readers say.
use Rattle.std.proofs.Math.Option.{Option, none, some}
use Rattle.std.specs.Prelude.{ℕ, List, Option as CodeOption, Some, None}
use Rattle.std.specs.Borrow.{Bor}

-- the bytes of a field that was found
abbrev pub said_bytes : CodeOption (Bor (List ℕ)) → Option (List ℕ)
said_bytes (Some bytes) = some bytes.now
said_bytes None = none

-- the place of a field that was found: its first index and the index behind its last
abbrev pub said_field : CodeOption (ℕ × ℕ) → Option (ℕ × ℕ)
said_field (Some (a, b)) = some (a, b)
said_field None = none

abbrev pub said_decimal : CodeOption ℕ → Option ℕ
said_decimal (Some v) = some v
said_decimal None = none
