use mathlib.Core.Path.{refl, sym, ap, ◌∙◌}
use Prim.Native.Nat.{◌^◌, ◌<◌}
use native.Mathlib.Omega.{arith}
use lib.ListN.{length}
use lib.Seq.{sets, length-sets}
use Rattle.codes.specs.code.Linking.{high_digits, lows, behind}
use Rattle.codes.specs.laws.LinkingLaws.{listing-blocks, blocks_last, count_turn, list-turn}
use Rattle.codes.proofs.lists.Links.write.Goals as goal

pub loop-h-init : goal.loop-h-init
loop-h-init c = let args = c.args in let b = listing-blocks args.self.now.list.n args.self.now.list.a c.args.self.now.list.a_le_n in let e = ap length b in
    (refl, omega arith, ap (sets args.out.now 0) (sym b))

pub loop-h-preserved : goal.loop-h-preserved
loop-h-preserved c = let args = c.args in let loop = c.loop-h in let p = c.power-end.ensures in let t = c.loop-h-test.true in
    let l : loop.h < 2 ^ high_digits args.self.now.list.n = omega arith in
    let w = c.wanted_residue in
    let b = c.write_block-k.ensures in
    let e = count_turn args.self.now.list.n args.self.now.list.a loop.h w.result w.ensures.0 l in
    let k = loop.invariant.1 in
    let f = b.value in
    (ap length b.out_after ∙ length-sets loop.out loop.k (behind args.self.now.list.n loop.h (lows args.self.now.list.n w.result 0)) ∙ loop.invariant.0, omega arith, list-turn args.self.now.list.n args.self.now.list.a loop.h w.result w.ensures.0 l loop.out _ _ loop.k _ b.out_after b.value loop.invariant.2)

pub write_block-k-requires-clause-r_in_bounds : goal.write_block-k-requires-clause-r_in_bounds
write_block-k-requires-clause-r_in_bounds c = let args = c.args in let loop = c.loop-h in let p = c.power-end.ensures in let t = c.loop-h-test.true in
    let e = count_turn args.self.now.list.n args.self.now.list.a loop.h c.wanted_residue.result c.wanted_residue.ensures.0 (omega arith) in
    let i = loop.invariant.0 in let k = loop.invariant.1 in let q = c.requires in
    omega arith

pub returns : goal.returns
returns c = let loop = c.loop-h in let p = c.power-end.ensures in let t = c.loop-h-test.false in
    sym (ap (sets loop.out loop.k) (blocks_last c.args.self.now.list.n c.args.self.now.list.a loop.h (omega arith))) ∙ loop.invariant.2
