-- What the rebuilder's call over a lent sheet of rows gives and leaves.
use Rattle.std.specs.Prelude.{List, ℕ, length}
use Rattle.ends.specs.declared.Rebuilder.{Rebuilder}
use Rattle.ends.specs.declared.Row.{Row}
use Rattle.ends.specs.RebuilderCall.{Taken, sheet_after, rebuilder_call}
use Rattle.strings.specs.Results.{Result, refusal, value}
use Rattle.ends.specs.declared.rebuilding.RebuilderOut.{RebuilderOut}
use Rattle.ends.specs.RebuilderOutcome.{RebuilderSaid, said_rebuilder, leaves_rebuilder, capacities}

-- what the call gives and leaves in string and question buffer, and the rows of the sheet
pub record SheetSaid : Type 0 where
  pub said : RebuilderSaid
  pub rows : List Row

abbrev pub said_on_sheet : RebuilderOut → List Row → (string question : List ℕ) → SheetSaid
said_on_sheet r sh s q = record { said = said_rebuilder r s q; rows = sh }

-- turned down: every row is as it was; taken: the step's change is done to them
abbrev pub sheet_left : List Row → Result Taken → List Row
sheet_left sh (refusal number) = sh
sheet_left sh (value t) = sheet_after sh t.step.sheet

abbrev pub leaves_on_sheet : Rebuilder → List Row → (string question : List ℕ) → Result Taken → SheetSaid
leaves_on_sheet st sh s q t = record { said = leaves_rebuilder st s q t; rows = sheet_left sh t }

-- the call with the bytes y of Y, their bit count, a message, the rows of the sheet, and the bytes of string and question buffer
abbrev pub sheet_outcome : Rebuilder → (y : List ℕ) (bits : ℕ) (msg : List ℕ) (sheet : List Row) (string question : List ℕ) → SheetSaid
sheet_outcome st y bits msg sheet string question =
    leaves_on_sheet st sheet string question (rebuilder_call st y bits msg (capacities (length string) (length sheet) (length question)))
