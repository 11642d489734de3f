-- `codes::put_edit` meets its contract. Assumes nothing.
use mathlib.Core.Bool.{true, false}
use Rattle.strings.specs.Ranges.{bits}
use Rattle.strings.proofs.laws.RangeLaws.{range_length}
use Rattle.codes.specs.laws.PlaceLaws.{lack-residue, put-zero, put_one, zero-after, one-after}
use Rattle.codes.specs.laws.EditLaws.{put-repair}
use Rattle.codes.proofs.places.put_edit.Goals as goal

pub returns-then-d-w : goal.returns-then-d-w
returns-then-d-w c = let s = c.args.s in
    let d = lack-residue c.args.a (bits s) s.len _ _ _ (range_length _ _ _) c.new-m.ensures c.sum_modulo-sum.ensures c.subtract-d.ensures in
    let q = put-zero c.args.a (bits s) _ _ c.place_after.result c.ones_of-w.ensures d c.if-d-w.true (zero-after (bits s) _ _ _ c.ones_of-w.ensures c.place_after.ensures) in
    let r = put-repair c.args.a (bits s) s.len (range_length _ _ _) c.place_after.result false c.requires q.0 q.1 in
    record { len_value = r.0; fits = r.1 }

pub returns : goal.returns
returns c = let s = c.args.s in
    let d = lack-residue c.args.a (bits s) s.len _ _ _ (range_length _ _ _) c.new-m.ensures c.sum_modulo-sum.ensures c.subtract-d.ensures in
    let q = put_one c.args.a (bits s) _ _ c.place_after-2.result c.ones_of-w.ensures d c.if-d-w.false (one-after (bits s) _ _ c.place_after-2.ensures) in
    let r = put-repair c.args.a (bits s) s.len (range_length _ _ _) c.place_after-2.result true c.requires q.0 q.1 in
    record { len_value = r.0; fits = r.1 }
