use native.Mathlib.Omega.{arith}
use Rattle.strings.specs.Bits.{range, pack}
use Rattle.strings.proofs.laws.RangeLaws.{range_length}
use Rattle.strings.proofs.laws.PackLaws.{length-pack}
use Rattle.messages.specs.laws.WritingLaws.{part-sets}
use Rattle.messages.proofs.writing.put_bits.Goals as goal

pub returns : goal.returns
returns c = let a = c.args in
    let put-bits-first = c.put_bits_first in
    let l = range_length a.piece.bytes.now a.piece.start a.piece.len in
    let n = length-pack (range a.piece.bytes.now a.piece.start a.piece.len) in
    part-sets a.buf.now _ (pack (range a.piece.bytes.now a.piece.start a.piece.len)) a.at (omega arith) put-bits-first.ensures
