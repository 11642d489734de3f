-- `codes::WovenCandidate::hash` meets its contract: the bits before the middle, the middle, the bits behind it. Assumes nothing.
use mathlib.Core.Path.{refl, subst, subst₂, ◌∙◌}
use Prim.Native.Nat.{◌≤◌}
use native.Mathlib.Omega.{arith}
use Rattle.codes.specs.declared.rows.Hashing.{Hashing}
use Rattle.codes.specs.code.HashForms.{Went}
use Rattle.codes.specs.code.Runs.{places, put_bits}
use Rattle.codes.specs.laws.WeavingLaws.{parts-hashed}
use Rattle.codes.proofs.weaving.WovenCandidate.hash.Goals as goal

pub returns : goal.returns
returns c = let woven = c.args.self.now in
    let run = woven.run in
    let s = run.piece in
    let m = c.middle-m in
    let pos : 1 ≤ run.b = (let h = run.least in omega arith) in
    let before = subst₂ (λ (from : Hashing) l. Went from.sum from.row l c.over-before.result.sum c.over-before.result.row) c.start.ensures c.first.ensures.taken c.over-before.ensures in
    let behind = subst (λ l. Went c.hash_middle-here.result.sum c.hash_middle-here.result.row l c.over-all.result.sum c.over-all.result.row)
    c.behind.ensures.taken c.over-all.ensures in
    c.cut.ensures ∙ parts-hashed s.bytes.now s.start s.len run.n run.b (places woven.repairs) (put_bits woven.repairs) m.result.from m.result.behind pos run.apart woven.placed m.ensures _ refl c.args.k.h c.args.k.key _ _ _ _ _ _
    before c.hash_middle-here.ensures behind
