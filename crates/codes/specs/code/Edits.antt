-- A repair as an edit of a range: what the code's enums say.
use Rattle.std.specs.Prelude.{Bool, List, ℕ, ◌≤◌, ◌<◌, Option as Found, Some, None}
use Rattle.std.proofs.Math.Option.{Option, none, some}
use Rattle.codes.specs.Repair.{without, insert_at}
use Rattle.codes.specs.declared.edits.Edit.{Edit}
use Rattle.codes.specs.declared.edits.Edit.TheVariants.{Put, Take}

-- the bits with the edit made
abbrev pub edited : Edit → List Bool → List Bool
edited (Put i b) l = insert_at i b l
edited (Take i) l = without i l

-- the edit can be made to len bits
abbrev pub Fits : Edit → ℕ → Type 0
Fits (Put i b) len = i ≤ len
Fits (Take i) len = i < len

-- the string that a repair gives, if any
abbrev pub repaired : Found Edit → List Bool → Option (List Bool)
repaired (Some e) l = some (edited e l)
repaired None l = none

-- the edit that was found, if any, can be made to len bits
abbrev pub RepairFits : Found Edit → ℕ → Type 0
RepairFits (Some e) len = Fits e len
RepairFits None len = Unit {0}
