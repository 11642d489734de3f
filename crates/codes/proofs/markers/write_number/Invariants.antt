-- `codes::write_number` meets its contract. Assumes nothing.
use mathlib.Core.Path.{◌≡◌}
use Prim.Native.Nat.{◌-◌}
use lib.ListN.{length}
use Rattle.strings.specs.Bits.{range, write_bits}
use Rattle.codes.specs.Markers.{merged, message}
use Rattle.codes.specs.code.MarkerBlocks.{merged_from, message_from}
use Rattle.codes.proofs.markers.write_number.Given as goal

-- the word from the next power on is written with the message that stands there
abbrev pub invariant-loop-p : goal.invariant-loop-p
invariant-loop-p l = let p = l.p-iterator.p in
    (l.p-iterator.n ≡ l.fn.w.n) × (length l.out ≡ length l.initial.out)
    × (write_bits l.out (p - 1) (merged_from l.fn.w.n p l.left (message_from l.out l.fn.w.n p)) ≡ write_bits l.initial.out 0 (merged l.fn.w.n 1 l.fn.v (message 1 (range l.initial.out 0 l.fn.w.n))))
