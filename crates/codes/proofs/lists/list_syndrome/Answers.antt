-- `codes::list_syndrome` meets its contract. Assumes nothing.
use mathlib.Core.Path.{subst}
use Prim.Native.Nat.{ℕ}
use native.Mathlib.Omega.{arith}
use lib.ListN.{replicate}
use Rattle.codes.specs.code.Linking.{Linked, Counted}
use Rattle.codes.specs.laws.ListingLaws.{list-range-out, list-range-in, list-out-of-range, list-too-short, list-stored}
use Rattle.codes.specs.laws.LinkingLaws.{linked-none, counted_none, count_most}
use Rattle.codes.proofs.lists.list_syndrome.Goals as goal

pub returns-then-n-gt-MAX_LIST_BITS : goal.returns-then-n-gt-MAX_LIST_BITS
returns-then-n-gt-MAX_LIST_BITS c = let args = c.args in list-out-of-range args.n args.a args.out.now (list-range-out args.n args.a c.then-n-gt-MAX_LIST_BITS.either)

pub link_lows-requires-clause-linked : goal.link_lows-requires-clause-linked
link_lows-requires-clause-linked c = let e = c.power-first.ensures in
    subst (λ (k : ℕ). Linked c.args.n k (replicate 21 c.power-first.result) (replicate 1024 0)) e (linked-none c.args.n _ e c.if-n-gt-MAX_LIST_BITS.false)

pub link_lows-requires-clause-counted : goal.link_lows-requires-clause-counted
link_lows-requires-clause-counted c = let e = c.power-first.ensures in
    subst (λ (k : ℕ). Counted c.args.n k (replicate 21 0)) e (counted_none c.args.n _ e c.if-n-gt-MAX_LIST_BITS.false)

pub returns-then-out-count : goal.returns-then-out-count
returns-then-out-count c = let args = c.args in let e = c.count-count.ensures in let l = c.if-out-count.true in list-too-short args.n args.a args.out.now (list-range-in args.n args.a c.if-n-gt-MAX_LIST_BITS.false c.if-n-a.false) (omega arith)

pub overflow_cast-result : goal.overflow_cast-result
overflow_cast-result c = let e = c.count-count.ensures in let m = count_most c.args.n c.args.a c.if-n-gt-MAX_LIST_BITS.false in record { fits = omega arith }

pub returns : goal.returns
returns c = let args = c.args in list-stored args.n args.a args.out.now c.count-count.result _ (list-range-in args.n args.a c.if-n-gt-MAX_LIST_BITS.false c.if-n-a.false) c.count-count.ensures c.if-out-count.false c.write.ensures
