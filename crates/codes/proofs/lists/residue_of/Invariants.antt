-- `codes::residue_of` meets its contract: what is summed and the sum of the digits that are left are the residue. Assumes nothing.
use mathlib.Core.Path.{◌≡◌}
use Prim.Native.Nat.{◌+◌, ◌%◌, ◌≤◌, ◌<◌}
use Rattle.codes.specs.Syndrome.{weighted_sum}
use Rattle.codes.specs.Listing.{bits_of}
use Rattle.codes.specs.code.Linking.{residue}
use Rattle.codes.proofs.lists.residue_of.Given as goal

abbrev pub invariant-loop-i : goal.invariant-loop-i
invariant-loop-i l = (l.i ≤ l.count) × (l.sum < l.m.m) × ((l.sum + weighted_sum l.k (bits_of l.i l.left)) % l.m.m ≡ residue l.k l.count l.m.m l.v)
