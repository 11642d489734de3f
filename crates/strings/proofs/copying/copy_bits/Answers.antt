use Rattle.std.proofs.Common.{ap, ◌∙◌, ◌-◌, ◌/◌, ◌%◌, arith}
use Rattle.strings.specs.Bits.{write_bits}
use Rattle.strings.proofs.laws.ByteLaws.{copy-three}
use Rattle.strings.proofs.copying.copy_bits.Goals as goal

pub returns : goal.returns
returns c = let args = c.args in
    let h = (8 - args.at % 8) % 8 in
    let head = c.copy_singly-2.ensures ∙ ap (write_bits args.to.now args.at) c.first.ensures.taken in
    let tail = c.copy_singly-3.ensures ∙ ap (write_bits c.copy_bytes.new.to _) c.skip.ensures.left in
    let middle = rw (c.skip-rest.ensures.bytes, c.skip-rest.ensures.start, c.skip-rest.ensures.len) at c.copy_bytes.ensures in
    copy-three args.from.bytes.now args.to.now _ _ _ args.from.start args.at args.from.len h ((args.from.len - h) / 8) (omega arith) (omega arith)
    head middle (rw c.skip-rest.ensures.len at tail)
