-- `Links::write` meets its contract: what is stored and the blocks from h on are the list. Assumes nothing.
use mathlib.Core.Path.{◌≡◌}
use Prim.Native.Nat.{◌+◌}
use lib.ListN.{length}
use lib.Seq.{sets}
use Rattle.codes.specs.Listing.{listing}
use Rattle.codes.specs.code.Linking.{blocks}
use Rattle.codes.proofs.lists.Links.write.Given as goal

abbrev pub invariant-loop-h : goal.invariant-loop-h
invariant-loop-h l = (length l.out ≡ length l.initial.out) × (l.k + length (blocks l.self.list.n l.self.list.a l.h) ≡ length (listing l.self.list.n l.self.list.a)) × (sets l.out l.k (blocks l.self.list.n l.self.list.a l.h) ≡ sets l.initial.out 0 (listing l.self.list.n l.self.list.a))
