use mathlib.Core.Path.{refl, sym, ap, ◌∙◌}
use mathlib.Core.List.{List}
use Prim.Native.Nat.{ℕ, ◌+◌, ◌*◌, ◌^◌, ◌≤◌, ◌<◌}
use native.Mathlib.Omega.{arith}
use lib.ListN.{length, get_or, length-set}
use lib.Seq.{sets}
use Rattle.codes.specs.code.Linking.{low_digits, behind}
use Rattle.codes.specs.laws.LinkingLaws.{low-power-most, lows-last, link-first, Next, link-next, block-turn, block_last}
use borrow.Author.Rules.{rules}
use Rattle.codes.proofs.lists.Links.write_block.Goals as goal

-- in a turn: there is room for one entry more, j is a low number, and what stands behind it
turn : (c : goal.In-loop-j) → (c.loop-j.at < length c.loop-j.out) × (c.loop-j.j < 1024)
    × Next c.args.self.now.list.n c.args.self.now.first.now
    c.args.self.now.next.now c.args.self.now.linked
    c.args.r c.loop-j.j
    (get_or c.args.self.now.next.now c.loop-j.j 0)
turn c =
    let args = c.args in
    let loop = c.loop-j in
    let p = c.power-size.ensures in
    let l : loop.j < 2 ^ low_digits args.self.now.list.n = (let t = c.loop-j-test.true in omega arith) in
    let t = link-next args.self.now.list.n args.self.now.first.now args.self.now.next.now c.args.self.now.linked args.r loop.j l (loop.invariant.1 l) in
    let e = ap length t.more in
    let q = c.requires.r_in_bounds in
    let m = low-power-most args.self.now.list.n c.args.self.now.list.few in
    let i = loop.invariant.2 in
    let k = loop.invariant.3 in
    (omega arith, omega arith, t)

pub loop-j-init : goal.loop-j-init
loop-j-init c = let args = c.args in
    let f = link-first args.self.now.list.n args.self.now.first.now args.self.now.next.now c.args.self.now.linked args.r c.requires.r_le_n in
    let e = ap length f.same in
    (f.most, f.hit, refl, omega arith, ap (λ (x : List ℕ). sets args.out.now args.k (behind args.self.now.list.n args.h x)) (sym f.same))

pub bounds-out-at : goal.bounds-out-at
bounds-out-at c = let h = (turn c).0 in search rules

pub bounds-self-j : goal.bounds-self-j
bounds-self-j c =
    let l : c.loop-j.j < 2 ^ low_digits c.args.self.now.list.n = (let p = c.power-size.ensures in let t = c.loop-j-test.true in omega arith) in
    let m = low-power-most c.args.self.now.list.n c.args.self.now.list.few in
    let h : c.loop-j.j < 1024 = omega arith in
    search rules

pub loop-j-smaller : goal.loop-j-smaller
loop-j-smaller c =
    let l : c.loop-j.j < 2 ^ low_digits c.args.self.now.list.n = (let p = c.power-size.ensures in let t = c.loop-j-test.true in omega arith) in
    let t = link-next c.args.self.now.list.n c.args.self.now.first.now c.args.self.now.next.now c.args.self.now.linked c.args.r c.loop-j.j l (c.loop-j.invariant.1 l) in
    let h = t.later in let p = c.power-size.ensures in omega arith

pub loop-j-preserved : goal.loop-j-preserved
loop-j-preserved c =
    let l : c.loop-j.j < 2 ^ low_digits c.args.self.now.list.n = (let p = c.power-size.ensures in let t = c.loop-j-test.true in omega arith) in
    let t = link-next c.args.self.now.list.n c.args.self.now.first.now c.args.self.now.next.now c.args.self.now.linked c.args.r c.loop-j.j l (c.loop-j.invariant.1 l) in
    let args = c.args in let loop = c.loop-j in let p = c.power-size.ensures in let e = ap length t.more in
    (t.most, t.hit, length-set loop.out loop.at _ ∙ loop.invariant.2, omega arith, block-turn args.self.now.list.n args.r args.h loop.at loop.j _ _ loop.out _ t.more (ap (λ (x : ℕ). args.h * x + loop.j) p) loop.invariant.4)

pub returns : goal.returns
returns c = let loop = c.loop-j in let p = c.power-size.ensures in let l : 2 ^ low_digits c.args.self.now.list.n ≤ loop.j = omega arith in let e = ap length (lows-last c.args.self.now.list.n c.args.r loop.j l) in record { out_after = block_last c.args.self.now.list.n c.args.r c.args.h loop.at loop.j loop.out _ l loop.invariant.4; value = omega arith }
