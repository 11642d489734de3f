-- 01, "The rebuilder", steps 2 and 3: a candidate for a piece counts only if it has the piece's hash.
use Rattle.std.specs.Prelude.{Bool, true, false, cond, List, ℕ, eqb}
use Rattle.std.proofs.Math.Option.{Option, none, some}
use Rattle.strings.specs.Bits.{write_bits}
use Rattle.codes.specs.Hash.{hash}

-- a trial: the candidate, if there is one and it has the hash v
unfoldable pub agreeing : (h key v : ℕ) → Option (List Bool) → Option (List Bool)
agreeing h key v none = none
agreeing h key v (some x) = cond (eqb (hash h key x) v) (some x) none

-- what a trial answers, and what the buffer holds after it
pub record Tried : Type 0 where
  pub settled : Bool
  pub buffer : List ℕ

-- settled: the bits are written from a place on; else the buffer is as it was
abbrev pub tried_at : List ℕ → ℕ → Option (List Bool) → Tried
tried_at to at none = record { settled = false; buffer = to }
tried_at to at (some x) = record { settled = true; buffer = write_bits to at x }
