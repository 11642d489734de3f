-- `link_lows` meets its contract: the numbers from j on are linked and counted. Assumes nothing.
use Prim.Native.Nat.{◌^◌, ◌≤◌}
use Rattle.codes.specs.code.Linking.{low_digits, Linked, Counted}
use Rattle.codes.proofs.lists.link_lows.Given as goal

abbrev pub invariant-loop-j : goal.invariant-loop-j
invariant-loop-j l = (l.j ≤ 2 ^ low_digits l.list.n) × Linked l.list.n l.j l.first l.next × Counted l.list.n l.j l.counts
