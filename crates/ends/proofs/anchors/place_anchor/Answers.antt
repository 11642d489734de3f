use Rattle.std.proofs.Common.{arith, ◌+◌}
use Rattle.strings.specs.Ranges.{bits}
use Rattle.strings.proofs.laws.RangeLaws.{range_length}
use Rattle.ends.specs.code.AnchorSearchLaws.{end-most, end-near, end-less, start-most, start-near, alike_same, unlike-bits, choice-start, choice-differs, choice-agrees, choice-end}
use Rattle.ends.proofs.anchors.place_anchor.Goals as goal

pub places-init : goal.places-init
places-init c = let q = c.args.copy.len in
    let m = c.args.anchor.len in
    let p = c.args.p in
    let s = c.args.s in
    let end = c.window_end-end.result in
    let e = c.window_end-end.ensures in
    let first = c.window_start-next.ensures in
    let most = end-most q m p s (c.reach-reach.result + 1) in
    let start = start-most q p s c.reach-reach.result end in
    let near = start-near q p s c.reach-reach.result end in
    record {
      few = omega arith;
      end_is = e;
      in_reach = λ h. let n = near (rw first at h) in omega arith;
      seen = rw (first, c.reach-reach.ensures.value) (choice-start (bits c.args.copy) (bits c.args.anchor) q m c.args.k p s (range_length _ _ _) end);
    }

pub get-requires : goal.get-requires
get-requires c =
    let e = c.places.invariant.end_is in
    let most = end-most c.args.copy.len c.args.anchor.len c.args.p c.args.s c.places.least in
    omega arith

pub places-preserved-then-get-wanted : goal.places-preserved-then-get-wanted
places-preserved-then-get-wanted c = let a = c.args.copy in
    let b = c.args.anchor in
    let i = c.places.invariant in
    let e = i.end_is in
    let r = c.places.next in
    let least = c.places.least in
    let most = end-most a.len b.len c.args.p c.args.s least in
    let near = i.in_reach c.places-test.true in
    let unlike = unlike-bits a.bytes.now a.start b.bytes.now b.start r a.len b.len (omega arith) c.loop-j.j _ _ c.loop-j-test.true c.get.ensures (c.bits_of-wanted.ensures c.loop-j.j c.loop-j-test.true) c.if-get-wanted.true in
    record {
      few = omega arith;
      end_is = e;
      in_reach = λ h. omega arith;
      seen = choice-differs (bits a) (bits b) a.len b.len c.args.k c.args.p c.args.s (range_length _ _ _) r least c.places.best i.seen unlike;
    }

pub places-smaller : goal.places-smaller
places-smaller c =
    let i = c.places.invariant in
    let e = i.end_is in
    let near = end-near c.args.copy.len c.args.anchor.len c.args.p c.args.s c.places.least c.places.next c.abs_diff-least.result (rw e at c.places-test.true) (i.in_reach c.places-test.true) c.abs_diff-least.ensures in
    let less = end-less c.args.copy.len c.args.anchor.len c.args.p c.args.s c.places.least c.abs_diff-least.result near in
    omega arith

pub places-preserved : goal.places-preserved
places-preserved c = let a = c.args.copy in
    let b = c.args.anchor in
    let i = c.places.invariant in
    let e = i.end_is in
    let r = c.places.next in
    let least = c.places.least in
    let d = c.abs_diff-least.result in
    let most = end-most a.len b.len c.args.p c.args.s least in
    let near = end-near a.len b.len c.args.p c.args.s least r d (rw e at c.places-test.true) (i.in_reach c.places-test.true) c.abs_diff-least.ensures in
    let alike = alike_same a.bytes.now a.start b.bytes.now b.start r a.len b.len (omega arith) (λ j h. c.loop-j.invariant j (omega arith)) in
    record {
      few = omega arith;
      end_is = c.window_end-end-in-places.ensures;
      in_reach = λ h. omega arith;
      seen = choice-agrees (bits a) (bits b) a.len b.len c.args.k c.args.p c.args.s (range_length _ _ _) r least c.places.best i.seen d c.abs_diff-least.ensures near alike;
    }

pub returns : goal.returns
returns c =
    let i = c.places.invariant in
    let e = i.end_is in
    choice-end (bits c.args.copy) (bits c.args.anchor) c.args.copy.len c.args.anchor.len c.args.k c.args.p c.args.s (range_length _ _ _) c.places.next c.places.least c.places.best i.seen i.few (omega arith)
