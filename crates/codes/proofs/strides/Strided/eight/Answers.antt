use mathlib.Core.Path.{◌≡◌, ap, ◌∙◌}
use Prim.Native.Nat.{ℕ}
use native.Mathlib.Omega.{arith}
use Rattle.codes.specs.Listing.{number_of}
use Rattle.codes.specs.code.Strides.{strided}
use Rattle.codes.specs.laws.SyndromeLaws.{bit-most}
use Rattle.codes.specs.laws.ColumnByteLaws.{gathered_none, gathered_next, gathered_most, gathered_byte}
use Rattle.codes.proofs.strides.Strided.eight.Goals as goal

pub loop-i-init : goal.loop-i-init
loop-i-init c = let s = c.args.self in gathered_none s.bytes.now s.start s.step

pub overflow_mul-v : goal.overflow_mul-v
overflow_mul-v c = let s = c.args.self in
    let m = gathered_most s.bytes.now s.start s.step c.loop-i.i c.loop-i.v c.loop-i-test.true c.loop-i.invariant in
    omega arith

pub overflow_add-v : goal.overflow_add-v
overflow_add-v c = let s = c.args.self in
    let m = gathered_most s.bytes.now s.start s.step c.loop-i.i c.loop-i.v c.loop-i-test.true c.loop-i.invariant in
    let b = bit-most c.get.result in
    omega arith

pub loop-i-preserved : goal.loop-i-preserved
loop-i-preserved c = let s = c.args.self in
    gathered_next s.bytes.now s.start s.step c.loop-i.i c.loop-i.v c.get.result c.loop-i.invariant c.get.ensures

pub returns : goal.returns
returns c = let s = c.args.self in
    let e : c.loop-i.i ≡ 8 = omega arith in
    gathered_byte s.bytes.now s.start s.step c.loop-i.v (c.loop-i.invariant ∙ ap (λ (n : ℕ). number_of (strided s.bytes.now s.start s.step n)) e)
