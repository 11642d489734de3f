use Rattle.std.proofs.Common.{arith}
use Rattle.messages.specs.code.Reading.{from-size, from-put}
use Rattle.messages.proofs.writing.put_numbers.Goals as goal

pub loop-v-preserved : goal.loop-v-preserved
loop-v-preserved c =
    let l = c.loop-v in
    let e = c.put_number-end.ensures in
    let t = from-size c.args.numbers.now l.v-index (omega arith) in
    record { sums = omega arith; is = from-put c.args.numbers.now l.v-index (omega arith) l.buf _ _ l.end _ l.invariant.is e.1 e.0 }
