-- `codes::gather_message` meets its contract. Assumes nothing.
use mathlib.Core.Path.{◌≡◌}
use Prim.Native.Nat.{◌+◌}
use lib.ListN.{length}
use Rattle.strings.specs.Bits.{write_bits, pack}
use Rattle.strings.specs.Ranges.{bits}
use Rattle.codes.specs.Markers.{message_bits, message}
use Rattle.codes.specs.code.MarkerBlocks.{others_from, message_from}
use Rattle.codes.proofs.markers.gather_message.Given as goal

-- the message from the next power on is written from bit `at` on
abbrev pub invariant-loop-p : goal.invariant-loop-p
invariant-loop-p l = (l.p-iterator.n ≡ l.s.len) × (l.at + others_from l.s.len l.p-iterator.p ≡ message_bits l.s.len) × (length l.out ≡ length l.initial.out)
    × (write_bits l.out l.at (message_from (pack (bits l.s)) l.s.len l.p-iterator.p) ≡ write_bits l.initial.out 0 (message 1 (bits l.s)))
