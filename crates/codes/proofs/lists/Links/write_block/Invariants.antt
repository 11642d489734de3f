-- `Links::write_block` meets its contract: what is stored and the linked numbers from j on are the block. Assumes nothing.
use mathlib.Core.Path.{◌≡◌}
use Prim.Native.Nat.{◌+◌, ◌-◌, ◌^◌, ◌≤◌, ◌<◌}
use lib.ListN.{length}
use lib.Seq.{sets}
use Rattle.codes.specs.code.Linking.{low_digits, low_residue, lows, behind}
use Rattle.codes.proofs.lists.Links.write_block.Given as goal

abbrev pub invariant-loop-j : goal.invariant-loop-j
invariant-loop-j l = (l.j ≤ 2 ^ low_digits l.fn.self.list.n) × (l.j < 2 ^ low_digits l.fn.self.list.n → low_residue l.fn.self.list.n l.j ≡ l.r) × (length l.out ≡ length l.initial.out) × (l.at + length (lows l.fn.self.list.n l.r l.j) ≡ l.k + length (lows l.fn.self.list.n l.r 0))
    × (sets l.out l.at (behind l.fn.self.list.n l.h (lows l.fn.self.list.n l.r l.j)) ≡ sets l.initial.out l.k (behind l.fn.self.list.n l.h (lows l.fn.self.list.n l.r 0)))

abbrev pub decreases-loop-j : goal.decreases-loop-j
decreases-loop-j l = 2 ^ low_digits l.fn.self.list.n - l.j
