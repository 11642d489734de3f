use mathlib.Core.Path.{ap}
use native.Mathlib.Omega.{arith}
use Rattle.ends.specs.code.StateCode.{after-pop, after_push, stages-after, split-is}
use Rattle.ends.proofs.state.split_at.Goals as goal

pub overflow_add-right : goal.overflow_add-right
overflow_add-right c = let e = ap (λ t. t.x) c.top-t.ensures in omega arith

pub overflow_add-right-2 : goal.overflow_add-right-2
overflow_add-right-2 c = let e = ap (λ t. t.x) c.top-t.ensures in omega arith

pub overflow_sub-right : goal.overflow_sub-right
overflow_sub-right c = let e = ap (λ t. t.p) c.top-t.ensures in omega arith

pub overflow_add-right-4 : goal.overflow_add-right-4
overflow_add-right-4 c = let e = ap (λ t. t.y) c.top-t.ensures in omega arith

pub overflow_add-right-5 : goal.overflow_add-right-5
overflow_add-right-5 c = let e = ap (λ t. t.y) c.top-t.ensures in omega arith

pub overflow_sub-right-2 : goal.overflow_sub-right-2
overflow_sub-right-2 c = let e = ap (λ t. t.q) c.top-t.ensures in omega arith

pub push-requires : goal.push-requires
push-requires c = let k = (after-pop c.args.st c.pop-rest.result c.pop-rest.ensures).waiting in omega arith

pub push-requires-2 : goal.push-requires-2
push-requires-2 c = let at-pop = c.before.before.before.before.before in
    let s = at-pop.before.before in
    let a = after_push s.args.st at-pop.pop-rest.result c.push.result _ _ (after-pop s.args.st at-pop.pop-rest.result at-pop.pop-rest.ensures) c.push.ensures in
    let k = a.waiting in
    omega arith

pub restage-requires : goal.restage-requires
restage-requires c = let at-pop = c.before.before.before.before.before.before in
    let s = at-pop.before.before in
    let one = after-pop s.args.st at-pop.pop-rest.result at-pop.pop-rest.ensures in
    let two = after_push s.args.st at-pop.pop-rest.result c.push.result _ _ one c.push.ensures in
    stages-after _ _ _ s.requires.usable (omega arith) (after_push s.args.st c.push.result c.push-2.result _ _ two c.push-2.ensures)

pub returns : goal.returns
returns c = let at-pop = c.before.before.before.before.before.before.before in
    let at_top = at-pop.before in
    let s = at_top.before in
    split-is s.args.st at-pop.pop-rest.result c.push.result c.push-2.result c.restage.result at_top.top-t.result s.args.s s.args.r at_top.top-t.ensures at-pop.pop-rest.ensures c.push.ensures c.push-2.ensures c.restage.ensures
