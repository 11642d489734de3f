-- `codes::copy_put` meets its contract. Assumes nothing.
use mathlib.Core.Path.{ap, ◌∙◌}
use Prim.Native.Nat.{◌+◌}
use Rattle.strings.specs.Bits.{write_bits}
use Rattle.codes.specs.laws.EditLaws.{put-copied}
use Rattle.codes.proofs.edits.copy_put.Goals as goal

pub returns : goal.returns
returns c = let s = c.args.s in
    let front = c.copy_bits.ensures ∙ ap (write_bits c.args.to.now c.args.at) c.first.ensures.taken in
    let behind = c.copy_bits-2.ensures ∙ ap (write_bits _ (c.args.at + c.args.i + 1)) c.skip.ensures.left in
    put-copied s.bytes.now s.start s.len c.args.i c.args.to.now _ _ _ c.args.at c.args.b c.requires.i_le_len front c.set_bit.ensures behind
