-- `codes::pack_message` meets its contract. Assumes nothing.
use mathlib.Core.Path.{ap, ◌∙◌}
use mathlib.Core.List.{List}
use Prim.Native.Nat.{ℕ}
use Rattle.strings.specs.Bits.{write_bits}
use Rattle.strings.specs.Ranges.{bits}
use Rattle.strings.proofs.laws.RangeLaws.{range_length}
use Rattle.strings.proofs.laws.PackLaws.{packed-into}
use Rattle.codes.specs.Markers.{message_bits, message}
use Rattle.codes.specs.laws.MarkerLaws.{word-message}
use Rattle.codes.specs.laws.MarkerEntryLaws.{message-bits-most}
use borrow.Author.Rules.{rules}
use Rattle.codes.proofs.markers.pack_message.Goals as goal

pub gather_message-requires : goal.gather_message-requires
gather_message-requires c = let e = c.message_bits.ensures in
    let m = message-bits-most c.args.s.len in
    search rules

pub returns : goal.returns
returns c = let zeros = rw (c.bytes_for.ensures, c.message_bits.ensures) at c.clear_bytes.ensures in
    let s = c.args.s in
    let l = message 1 (bits s) in
    c.gather_message.ensures ∙ ap (λ (x : List ℕ). write_bits x 0 l) zeros ∙ packed-into c.args.out.now l (message_bits s.len) (word-message s.len _ (range_length _ _ _)) c.requires
