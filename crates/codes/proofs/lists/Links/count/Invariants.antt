-- `Links::count` meets its contract: what is counted and the blocks from h on are the list. Assumes nothing.
use mathlib.Core.Path.{◌≡◌}
use Prim.Native.Nat.{◌+◌}
use lib.ListN.{length}
use Rattle.codes.specs.Listing.{listing}
use Rattle.codes.specs.code.Linking.{blocks}
use Rattle.codes.proofs.lists.Links.count.Given as goal

abbrev pub invariant-loop-h : goal.invariant-loop-h
invariant-loop-h l = l.total + length (blocks l.self.list.n l.self.list.a l.h) ≡ length (listing l.self.list.n l.self.list.a)
