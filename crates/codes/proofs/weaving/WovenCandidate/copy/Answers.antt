-- `codes::WovenCandidate::copy` meets its contract: the bits before the middle, the middle, the bits behind it. Assumes nothing.
use mathlib.Core.Path.{refl, ap, subst, ◌∙◌}
use mathlib.Core.List.{List}
use Prim.Native.Nat.{ℕ, ◌≤◌, ◌+◌}
use native.Mathlib.Omega.{arith}
use lib.ListN.{length}
use Rattle.strings.specs.Bits.{write_bits, Part}
use Rattle.strings.proofs.laws.WriteLaws.{length-write_bits}
use Rattle.strings.specs.Ranges.{bits}
use Rattle.codes.specs.code.Runs.{places, put_bits}
use Rattle.codes.specs.code.Weaving.{woven}
use Rattle.codes.specs.declared.weaving.Woven.{Woven}
use Rattle.codes.specs.laws.WeavingLaws.{woven-length, parts-written}
use Rattle.codes.proofs.weaving.WovenCandidate.copy.Goals as goal

-- the buffer has room for the repaired range, which has n bits
room : (w : Woven) (to : List ℕ) (at : ℕ) → Part to at (length (woven (bits w.run.piece) w.run.n w.run.b (places w.repairs) (put_bits w.repairs))) → Part to at w.run.n
room w to at p = subst (Part to at) (woven-length (bits w.run.piece) w.run.n w.run.b (places w.repairs) (put_bits w.repairs) 0 w.run.n) p

pub copy_bits-requires : goal.copy_bits-requires
copy_bits-requires c = let capacity = room c.args.self.now c.args.to.now c.args.at c.requires in record { there = omega arith; few = omega arith }

pub copy_middle-requires-clause-part : goal.copy_middle-requires-clause-part
copy_middle-requires-clause-part c =
    let capacity = room c.args.self.now c.args.to.now c.args.at c.requires in
    let m = c.middle-m.ensures in
    let n = ap length c.copy_bits.ensures ∙ length-write_bits c.args.to.now c.args.at _ in
    record { there = omega arith; few = omega arith }

pub copy_bits-requires-2 : goal.copy_bits-requires-2
copy_bits-requires-2 c =
    let e = c.behind.ensures.len in
    let capacity = room c.args.self.now c.args.to.now c.args.at c.requires in
    let m = c.middle-m.ensures in
    let n = ap length c.copy_bits.ensures ∙ length-write_bits c.args.to.now c.args.at _ in
    let n_2 = ap length c.copy_middle.ensures ∙ length-write_bits c.copy_bits.new.to (c.args.at + c.middle-m.result.from) _ in
    record { there = omega arith; few = omega arith }

pub returns : goal.returns
returns c = let woven = c.args.self.now in
    let run = woven.run in
    let s = run.piece in
    let m = c.middle-m in
    let pos : 1 ≤ run.b = (let h = run.least in omega arith) in
    parts-written s.bytes.now s.start s.len run.n run.b (places woven.repairs) (put_bits woven.repairs) m.result.from m.result.behind pos run.apart woven.placed m.ensures _ refl c.args.to.now _ _ _ c.args.at
    (c.copy_bits.ensures ∙ ap (write_bits c.args.to.now c.args.at) c.first.ensures.taken) c.copy_middle.ensures
    (c.copy_bits-2.ensures ∙ ap (write_bits _ (c.args.at + m.result.behind)) c.behind.ensures.taken)
