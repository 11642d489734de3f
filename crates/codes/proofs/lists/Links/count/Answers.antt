use mathlib.Core.Path.{◌≡◌, ap}
use Prim.Native.Nat.{◌+◌, ◌^◌, ◌<◌}
use native.Mathlib.Omega.{arith}
use lib.ListN.{length, get_or}
use Rattle.codes.specs.code.Linking.{high_digits, blocks}
use Rattle.codes.specs.laws.LinkingLaws.{listing-blocks, blocks_last, count_most, count_turn}
use Rattle.codes.proofs.lists.Links.count.Goals as goal

-- in a turn: the count that is added is that of the block
turn : (c : goal.After-total-1) → length (blocks c.args.self.now.list.n c.args.self.now.list.a c.loop-h.h)
    ≡ get_or c.args.self.now.counts.now c.wanted_residue.result 0
    + length (blocks c.args.self.now.list.n c.args.self.now.list.a (c.loop-h.h + 1))
turn c =
    let start = c.before.before.before.before.before.before in
    let loop = c.loop-h in
    let w = c.wanted_residue in
    let p = c.power-end.ensures in
    let l : loop.h < 2 ^ high_digits start.args.self.now.list.n = (let t = c.loop-h-test.true in omega arith) in
    let e = start.args.self.now.counted.totals w.result w.ensures.1 in
    let t = count_turn start.args.self.now.list.n start.args.self.now.list.a loop.h w.result w.ensures.0 l in
    omega arith

pub loop-h-init : goal.loop-h-init
loop-h-init c = let args = c.args in let e = ap length (listing-blocks args.self.now.list.n args.self.now.list.a c.args.self.now.list.a_le_n) in omega arith

pub overflow_add-total : goal.overflow_add-total
overflow_add-total c = let t = turn c in let m = count_most c.args.self.now.list.n c.args.self.now.list.a c.args.self.now.list.few in let i = c.loop-h.invariant in record { fits = omega arith }

pub loop-h-preserved : goal.loop-h-preserved
loop-h-preserved c = let t = turn c in let i = c.loop-h.invariant in omega arith

pub returns : goal.returns
returns c = let e = ap length (blocks_last c.args.self.now.list.n c.args.self.now.list.a c.loop-h.h (let p = c.power-end.ensures in let l = c.loop-h-test.false in omega arith)) in let i = c.loop-h.invariant in omega arith
