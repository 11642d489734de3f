use mathlib.Core.Path.{◌≡◌, refl, sym, ap, ap₂, ◌∙◌}
use Prim.Native.Nat.{◌+◌}
use native.Mathlib.Omega.{arith}
use lib.ListN.{length}
use Rattle.strings.specs.Bits.{write_bits}
use Rattle.strings.proofs.laws.BitLaws.{length-set_bit}
use Rattle.strings.proofs.laws.RangeLaws.{rest-first, rest-last}
use Rattle.strings.proofs.laws.WriteLaws.{copy-next, write-none}
use Rattle.strings.proofs.copying.copy_singly.Goals as goal

pub loop-i-init : goal.loop-i-init
loop-i-init c = let a = c.args in (omega arith, refl, ap₂ (write_bits a.to.now) (let e : a.at + 0 ≡ a.at = omega arith in e) (rest-first a.from.bytes.now a.from.start a.from.len))

pub loop-i-preserved : goal.loop-i-preserved
loop-i-preserved c = let a = c.args in let l = c.loop-i in (
  omega arith,
  ap length c.set_bit.ensures ∙ length-set_bit l.to (a.at + l.i) c.get.result ∙ l.invariant.1,
  copy-next a.from.bytes.now l.to _ _ a.from.start a.from.len a.at l.i c.get.result c.loop-i-test.true c.get.ensures c.set_bit.ensures l.invariant.2,
)

pub returns : goal.returns
returns c = let a = c.args in let l = c.loop-i in
    sym (write-none l.to (a.at + l.i)) ∙ ap (write_bits l.to (a.at + l.i)) (sym (rest-last a.from.bytes.now a.from.start a.from.len l.i c.loop-i-test.false)) ∙ l.invariant.2
