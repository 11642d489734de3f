-- `anchors::place_anchor` meets its contract. Outer invariant: what was found among the places below `next`, and that `end` bounds the places that are nearer;
-- inner: the first j bits of the anchor stand at r. Assumes nothing.
use Rattle.std.proofs.Common.{◌≡◌, ◌+◌, ◌-◌, ◌*◌, ◌≤◌, ◌<◌}
use Rattle.strings.specs.Ranges.{bits}
use Rattle.ends.specs.code.Window.{window_end}
use Rattle.ends.specs.code.AnchorSearchLaws.{Alike, ChosenBelow}
use Rattle.ends.proofs.anchors.place_anchor.Given as goal

abbrev pub invariant-places : goal.invariant-places
invariant-places l = record {
  few : l.next ≤ l.copy.len + 1 - l.anchor.len;
  end_is : l.end ≡ window_end l.copy.len l.anchor.len l.p (2 * l.s + l.copy.len) l.least;
  in_reach : l.next < l.end → 2 * l.s + l.copy.len < 2 * l.next + l.p + l.least;
  seen : ChosenBelow (bits l.copy) (bits l.anchor) l.copy.len l.anchor.len l.k l.p l.s l.next l.least l.best;
}

abbrev pub decreases-places : goal.decreases-places
decreases-places l = l.end - l.next

abbrev pub invariant-loop-j : goal.invariant-loop-j
invariant-loop-j l = Alike l.copy.bytes.now l.copy.start l.anchor.bytes.now l.anchor.start l.r l.j
