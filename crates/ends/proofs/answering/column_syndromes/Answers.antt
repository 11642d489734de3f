use Rattle.std.proofs.Common.{refl, ◌∙◌, arith, length-set, length-take-le}
use Rattle.strings.specs.Bits.{range}
use Rattle.ends.proofs.code.HolderCodeLaws.{column-few, syndromes-next, syndromes-filled}
use Rattle.ends.proofs.answering.column_syndromes.Goals as goal

pub loop-j-init : goal.loop-j-init
loop-j-init c = (length-take-le c.args.b _ c.requires.1, refl)

pub overflow_cast-v : goal.overflow_cast-v
overflow_cast-v c = let s = c.args.piece in
    omega (arith, column-few s.bytes.now s.start s.len c.args.b c.loop-j.j, c.syndrome_of_column.ensures, s.part.few)

pub loop-j-preserved : goal.loop-j-preserved
loop-j-preserved c =
    let s = c.args.piece in
    let l = c.loop-j in
    let long = l.invariant.0 in
    let all = l.auto.v-items in
    let h = c.loop-j-test.true in
    let next = syndromes-next c.args.b l.j (range s.bytes.now s.start s.len) l.v-items l.invariant.1 in
    (length-set l.v-items l.j _ ∙ long, next _ (omega arith) (omega arith) c.syndrome_of_column.ensures)

pub returns : goal.returns
returns c =
    let s = c.args.piece in
    let l = c.loop-j in
    let long = l.invariant.0 in
    let all = l.auto.v-items in
    let h = c.loop-j-test.false in
    syndromes-filled c.args.b l.j (range s.bytes.now s.start s.len) l.v-items l.invariant.1 _ long (omega arith)
