-- `codes::spread_message` meets its contract. Assumes nothing.
use mathlib.Core.Path.{◌≡◌}
use Prim.Native.Nat.{◌+◌, ◌-◌}
use lib.ListN.{length}
use Rattle.strings.specs.Bits.{range, write_bits, pack}
use Rattle.strings.specs.Ranges.{bits}
use Rattle.codes.specs.Markers.{message_bits, merged}
use Rattle.codes.specs.code.MarkerBlocks.{others_from, merged_from}
use Rattle.codes.proofs.markers.spread_message.Given as goal

-- the word from the next power on is written with the message from bit `at` on
abbrev pub invariant-loop-p : goal.invariant-loop-p
invariant-loop-p l = let p = l.p-iterator.p in
    (l.p-iterator.n ≡ l.w.n) × (l.at + others_from l.w.n p ≡ message_bits l.w.n) × (length l.out ≡ length l.initial.out)
    × (write_bits l.out (p - 1) (merged_from l.w.n p 0 (range (pack (bits l.m)) l.at (others_from l.w.n p))) ≡ write_bits l.initial.out 0 (merged l.w.n 1 0 (bits l.m)))
