use borrow.Author.Rules.{rules}
use mathlib.Core.Path.{◌∙◌}
use Prim.Native.Nat.{◌+◌, ◌%◌}
use native.Mathlib.Omega.{arith}
use lib.ListN.{length-set}
use Rattle.messages.specs.laws.NumberLaws.{size-last, size-next, size-some, write-turn, write-last}
use Rattle.messages.proofs.numbers.put_number.Goals as goal

pub bounds-buf-i : goal.bounds-buf-i
bounds-buf-i c = omega (arith, size-some c.loop-w.w)

pub loop-w-preserved : goal.loop-w-preserved
loop-w-preserved c = let loop = c.loop-w in
    let l = loop in
    let n = size-next l.w (search rules) (search rules) in
    (length-set l.buf l.i (l.w % 128 + 128) ∙ l.invariant.0, omega arith, omega arith, write-turn l.buf _ l.i l.w (search rules) (search rules) l.invariant.3)

pub bounds-buf-i-2 : goal.bounds-buf-i-2
bounds-buf-i-2 c = omega (arith, size-some c.loop-w.w)

pub returns : goal.returns
returns c = let l = c.loop-w in
    let n = size-last l.w (search rules) in
    (omega arith, write-last l.buf _ l.i l.w (search rules) l.invariant.3)
