use Rattle.std.proofs.Common.{rules, ap, ◌∙◌}
use Rattle.strings.specs.Bits.{cleared}
use Rattle.messages.specs.laws.WritingLaws.{bits-first}
use Rattle.messages.proofs.writing.put_bits_first.Goals as goal

pub returns : goal.returns
returns c = let a = c.args in
    let is-cleared = c.clear_bytes.ensures ∙ ap (cleared a.buf.now 0) c.bytes_for.ensures in
    bits-first a.piece.bytes.now a.buf.now _ _ a.piece.start a.piece.len (search rules) is-cleared c.copy_bits.ensures
