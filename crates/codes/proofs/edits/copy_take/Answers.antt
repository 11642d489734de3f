-- `codes::copy_take` meets its contract. Assumes nothing.
use mathlib.Core.Path.{ap, ◌∙◌}
use Prim.Native.Nat.{◌+◌}
use Rattle.strings.specs.Bits.{write_bits}
use Rattle.codes.specs.laws.EditLaws.{skip-copied}
use Rattle.codes.proofs.edits.copy_take.Goals as goal

pub returns : goal.returns
returns c = let s = c.args.s in
    let front = c.copy_bits.ensures ∙ ap (write_bits c.args.to.now c.args.at) c.first.ensures.taken in
    let behind = c.copy_bits-2.ensures ∙ ap (write_bits _ (c.args.at + c.args.i)) c.skip.ensures.left in
    skip-copied s.bytes.now s.start s.len c.args.i c.args.to.now _ _ c.args.at c.requires.i_lt_len front behind
