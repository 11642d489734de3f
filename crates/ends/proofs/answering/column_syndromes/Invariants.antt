use Rattle.std.specs.Prelude.{◌≡◌, length, take}
use Rattle.strings.specs.Bits.{range}
use Rattle.codes.specs.Columns.{syndromes}
use Rattle.ends.proofs.answering.column_syndromes.Given as goal

abbrev pub invariant-loop-j : goal.invariant-loop-j
invariant-loop-j l =
    (length l.v-items ≡ l.b) × (take l.j l.v-items ≡ take l.j (syndromes l.b (range l.piece.bytes.now l.piece.start l.piece.len)))
