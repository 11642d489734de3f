-- `codes::EditedCandidate::copy` meets its contract: by how much an edit changes the length. Assumes nothing.
use native.Mathlib.Omega.{arith}
use Rattle.strings.specs.Ranges.{bits}
use Rattle.strings.proofs.laws.RangeLaws.{range_length}
use Rattle.codes.specs.laws.EditLaws.{as-put, as-take}
use Rattle.codes.proofs.edits.EditedCandidate.copy.Goals as goal

pub copy_put-requires-clause-part : goal.copy_put-requires-clause-part
copy_put-requires-clause-part c =
    let m = as-put c.args.self.now.edit (bits c.args.self.now.piece) c.args.self.now.piece.len (range_length _ _ _) c.args.self.now.fits c.in-Put.i c.in-Put.b c.in-Put.is in
    let capacity = c.requires in record { there = omega arith; few = omega arith }

pub copy_take-requires-clause-part : goal.copy_take-requires-clause-part
copy_take-requires-clause-part c =
    let m = as-take c.args.self.now.edit (bits c.args.self.now.piece) c.args.self.now.piece.len (range_length _ _ _) c.args.self.now.fits c.in-Take.i c.in-Take.is in
    let capacity = c.requires in record { there = omega arith; few = omega arith }
