-- `codes::find_put` meets its contract. Assumes nothing.
use Rattle.strings.specs.Ranges.{bits}
use Rattle.strings.proofs.laws.RangeLaws.{range_length}
use Rattle.codes.specs.laws.EditLaws.{put-none}
use Rattle.codes.proofs.places.find_put.Goals as goal

pub returns-then-s-a-clause-len_value : goal.returns-then-s-a-clause-len_value
returns-then-s-a-clause-len_value c = put-none c.args.a (bits c.args.s) c.args.s.len (range_length _ _ _) c.if-s-a.true
