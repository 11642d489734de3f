use mathlib.Core.Path.{◌≡◌}
use Prim.Native.Nat.{suc, ◌-◌, ◌^◌, ◌<◌}
use native.Mathlib.Omega.{arith}
use Rattle.codes.specs.code.Linking.{low_digits}
use Rattle.codes.specs.laws.LinkingLaws.{low-power-most, lows-most, linked-next, counted_next}
use borrow.Author.Rules.{rules}
use Rattle.codes.proofs.lists.link_lows.Goals as goal

pub loop-j-init : goal.loop-j-init
loop-j-init c = let e = c.power-size.ensures in (omega arith, rw e c.requires.linked, rw e c.requires.counted)

pub bounds-next-j : goal.bounds-next-j
bounds-next-j c = let q = c.loop-j.invariant.1.numbers in let m = low-power-most c.args.list.n c.args.list.few in let i = c.loop-j.invariant.0 in search rules

pub overflow_add-counts : goal.overflow_add-counts
overflow_add-counts c = let e = c.loop-j.invariant.2.totals c.low_residue-r.result c.low_residue-r.ensures.1 in let l = lows-most c.args.list.n c.low_residue-r.result c.loop-j.j in
    let m = low-power-most c.args.list.n c.args.list.few in record { fits = omega arith }

pub loop-j-preserved : goal.loop-j-preserved
loop-j-preserved c = let loop = c.loop-j in let args = c.args in let h = c.loop-j-test.true in let i = loop.invariant.0 in
    let l : loop.j - 1 < 2 ^ low_digits args.list.n = omega arith in
    let s : loop.j ≡ suc (loop.j - 1) = omega arith in
    let b = c.args.list.few in (
      omega arith,
      linked-next args.list.n (loop.j - 1) loop.first loop.next loop.counts l b c.low_residue-r.result c.low_residue-r.ensures.0 loop.j s loop.invariant.1,
      counted_next args.list.n (loop.j - 1) loop.first loop.next loop.counts l b c.low_residue-r.result c.low_residue-r.ensures.0 loop.j s loop.invariant.2,
    )
