use mathlib.Core.Path.{ap, ap₂, ◌∙◌}
use Prim.Native.Nat.{ℕ, ◌+◌, ◌*◌, ◌/◌}
use native.Mathlib.Omega.{arith}
use lib.ListN.{length-set}
use Rattle.strings.proofs.laws.PackLaws.{set-bytes}
use Rattle.codes.specs.code.Strides.{strided}
use Rattle.codes.specs.laws.ColumnByteLaws.{groups-last}
use Rattle.codes.specs.laws.StrideLaws.{strides_next}
use Rattle.codes.proofs.strides.Strided.copy_bytes.Goals as goal

pub loop-i-preserved : goal.loop-i-preserved
loop-i-preserved c = let loop = c.loop-i in
    let s = c.args.self in
    let v = c.eight.result in
    let inv = loop.invariant in
    let left = c.skip.ensures in
    let eight = c.eight.ensures ∙ ap₂ (λ bytes start. strided bytes.now start c.skip.result.step 8) left.bytes left.start
    ∙ ap (λ (b : ℕ). strided s.bytes.now (s.start + 8 * loop.i * s.step) b 8) left.step in (
      length-set loop.to loop.i v ∙ inv.0,
      set-bytes loop.to loop.i v inv.1 c.eight.type_inv,
      strides_next s.bytes.now loop.to _ s.start s.step (s.len / 8) loop.i v (omega arith) (omega arith) inv.1 c.eight.type_inv eight inv.2,
    )

pub returns : goal.returns
returns c = let loop = c.loop-i in
    let s = c.args.self in
    groups-last s.bytes.now loop.to _ (s.start + 8 * loop.i * s.step) s.step (s.len / 8) loop.i (omega arith) loop.invariant.2
