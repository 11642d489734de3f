use mathlib.Core.Path.{ap, ◌∙◌}
use mathlib.Core.List.{◌++◌}
use Prim.Native.Nat.{ℕ}
use native.Mathlib.Omega.{arith}
use Rattle.strings.specs.Bits.{range, pack}
use Rattle.strings.proofs.laws.RangeLaws.{range_length}
use Rattle.strings.proofs.laws.PackLaws.{length-pack}
use Rattle.messages.specs.Numbers.{number}
use Rattle.messages.specs.laws.NumberLaws.{size-last}
use Rattle.messages.specs.Answers.{answer_bytes}
use Rattle.messages.specs.Writing.{put_front}
use Rattle.messages.specs.laws.WritingLaws.{two-short, two-whole}
use Rattle.messages.proofs.answers.write_bits.Goals as goal

pub returns-then-buf-size : goal.returns-then-buf-size
unfolding answer_bytes
returns-then-buf-size c = let a = c.args in
    let l = range_length a.piece.bytes.now a.piece.start a.piece.len in
    let n = length-pack (range a.piece.bytes.now a.piece.start a.piece.len) in
    two-short a.buf.now (number 3) (pack (range a.piece.bytes.now a.piece.start a.piece.len)) (omega (arith, size-last 3 (omega arith)))

pub put_number-at-requires : goal.put_number-at-requires
put_number-at-requires c = let k = c.from-k in omega (arith, size-last k.result (omega (arith, k.ensures)))

pub put_bits-requires : goal.put_bits-requires
put_bits-requires c = let k = c.from-k in omega (arith, size-last k.result (omega (arith, k.ensures)))

pub returns : goal.returns
unfolding answer_bytes
returns c = let a = c.args in
    let k = c.from-k in
    let one = size-last k.result (omega (arith, k.ensures)) in
    let put-number = c.put_number-at in
    let put-bits = c.put_bits in
    let l = range_length a.piece.bytes.now a.piece.start a.piece.len in
    let n = length-pack (range a.piece.bytes.now a.piece.start a.piece.len) in
    two-whole a.buf.now (number k.result) (pack (range a.piece.bytes.now a.piece.start a.piece.len)) _ _ _ _ put-number.ensures.1 put-number.ensures.0 put-bits.ensures (omega arith) (omega arith)
    ∙ ap (λ (i : ℕ). put_front (number i ++ pack (range a.piece.bytes.now a.piece.start a.piece.len)) a.buf.now) k.ensures
