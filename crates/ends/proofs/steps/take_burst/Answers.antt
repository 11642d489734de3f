use lib.ListN.{take}
use native.Mathlib.Omega.{arith}
use Rattle.messages.specs.Answers.{burst_answer}
use Rattle.ends.specs.code.RebuilderParts.{burst_of}
use Rattle.ends.specs.code.RebuilderCodeLaws.{text-part, burst-apart, burst-bounds, step-burst, try-yes, try-no}
use Rattle.ends.proofs.steps.take_burst.Goals as goal

pub invariant_of-run : goal.invariant_of-run
invariant_of-run c =
    let bounds = burst-bounds c.args.turn.st _ _ c.args.turn.acting c.args.turn.leftmost _ c.length_distance-b.ensures c.requires.burst_due in
    let text = text-part c.args.turn.st _ _ c.args.turn.acting c.args.turn.leftmost _ c.requires.string_room in
    record { least = bounds.0; most = bounds.1; apart = (let x = burst-apart c.args.turn.st _ _ c.args.turn.acting c.args.turn.leftmost _ c.length_distance-b.ensures in rw (c.copy.ensures.len, ← c.args.turn.leftmost) x); few = omega (arith, text.few) }

pub try_run-requires : goal.try_run-requires
try_run-requires c = record { enough = rw (c.length_distance-b.ensures, c.args.turn.leftmost) c.requires.enough; part = text-part c.args.turn.st _ _ c.args.turn.acting c.args.turn.leftmost _ c.requires.string_room }

pub returns-then-try_run : goal.returns-then-try_run
returns-then-try_run c = try-yes c.args.turn.st _ _ c.args.v _ _ (burst_answer (take (burst_of c.args.turn.st) c.args.a.now) c.args.v) (step-burst c.args.turn.st _ _ c.args.turn.acting.phase (take (burst_of c.args.turn.st) c.args.a.now) c.args.v c.requires.burst_due.stage) _ _ _ (let x = c.try_run.ensures in rw (c.length_distance-b.ensures, c.args.turn.leftmost, c.copy.ensures.bits, c.hash_key-k.ensures.0, c.hash_key-k.ensures.1) at x) c.if-try_run.true c.settle.ensures

pub returns : goal.returns
returns c = try-no c.args.turn.st _ _ c.args.v _ _ (burst_answer (take (burst_of c.args.turn.st) c.args.a.now) c.args.v) (step-burst c.args.turn.st _ _ c.args.turn.acting.phase (take (burst_of c.args.turn.st) c.args.a.now) c.args.v c.requires.burst_due.stage) _ _ _ (let x = c.try_run.ensures in rw (c.length_distance-b.ensures, c.args.turn.leftmost, c.copy.ensures.bits, c.hash_key-k.ensures.0, c.hash_key-k.ensures.1) at x) c.if-try_run.false c.leave_waiting.ensures
