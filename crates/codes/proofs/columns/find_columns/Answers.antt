use mathlib.Core.Path.{refl, sym, ap, subst, subst₂, ◌∙◌}
use mathlib.Core.List.{List}
use mathlib.Core.Bool.{Bool, true}
use Prim.Native.Nat.{ℕ, ◌+◌, ◌<◌}
use Rattle.std.specs.Prelude.{◌≡◌, get_or, length, take}
use Rattle.std.proofs.Math.Option.{none}
use Rattle.std.proofs.Common.{get_or-take, length-take, length-take-le}
use Rattle.std.proofs.lemmas.List.{map-set, length-map}
use native.Mathlib.Omega.{arith}
use lib.ListN.{length-set, replicate}
use Rattle.strings.proofs.laws.RangeLaws.{range_length}
use Rattle.strings.specs.Ranges.{bits}
use Rattle.codes.specs.code.Runs.{run_repaired, places, put_bits}
use Rattle.codes.specs.Repair.{repair_to}
use Rattle.codes.specs.Columns.{column, column_length}
use Rattle.codes.specs.code.Weaving.{ColumnFound, Placed}
use Rattle.codes.specs.declared.weaving.ColumnRepair.{ColumnRepair}
use Rattle.codes.specs.laws.ColumnEditLaws.{placed_first, placed-next, EditsBefore, edits-next, run-nothing, run-found, apart-range}
use Rattle.codes.proofs.columns.find_columns.Goals as goal

-- entry j of the first b is entry j of all
of_first : (b : ℕ) (a : List ℕ) (j : ℕ) → j < length (take b a) → get_or (take b a) j 0 ≡ get_or a j 0
of_first b a j h = let l = length-take b a in get_or-take b a j 0 (omega arith)

pub loop-j-init : goal.loop-j-init
loop-j-init c = (refl, subst (λ (p : ℕ). Placed c.args.run.b c.args.run.piece.len (replicate 32 p)) (sym c.default-repairs.ensures.0) (placed_first c.args.run.b c.args.run.piece.len 32 (let h = c.args.run.least in omega arith)), λ i h. absurd (omega arith))

pub returns-in_err-repairs-clause-bits_value : goal.returns-in_err-repairs-clause-bits_value
returns-in_err-repairs-clause-bits_value c = let run = c.args.run in
    let few = length-take-le run.b c.args.a.now c.requires in
    let e = of_first run.b c.args.a.now c.loop-j.j c.loop-j-test.true in
    ap (run_repaired (bits run.piece) run.n run.b) c.from_residual.ensures
    ∙ run-nothing run.b run.n (bits run.piece) c.args.a.now c.requires c.loop-j.j (omega arith)
    (subst (λ (v : ℕ). repair_to (column_length run.b c.loop-j.j run.n) v (column run.b c.loop-j.j (bits run.piece)) ≡ none) e (c.in_err-repairs.ensures.nothing refl))

pub loop-j-preserved : goal.loop-j-preserved
loop-j-preserved c = let run = c.args.run in
    let s = run.piece in
    let loop = c.loop-j in
    let rs = loop.repairs in
    let one = c.in_ok-repairs.field-0 in
    let few = length-take-le run.b c.args.a.now c.requires in
    let e = of_first run.b c.args.a.now loop.j c.loop-j-test.true in
    let found = subst (λ (v : ℕ). ColumnFound run.b run.n v (bits s) loop.j true one.place one.bit) e c.in_ok-repairs.ensures in
    let most = run.most in
    let n = loop.invariant.0 in
    let p = length-map rs (λ (r : ColumnRepair). r.place) in
    let q = length-map rs (λ (r : ColumnRepair). r.bit) in
    let ps = map-set (λ (r : ColumnRepair). r.place) rs loop.j one in
    let xs = map-set (λ (r : ColumnRepair). r.bit) rs loop.j one in (
      length-set rs loop.j _ ∙ n,
      subst (Placed run.b s.len) (sym ps) (placed-next run.b s.len (places rs) loop.j one.place (omega arith) loop.invariant.1 (let w = found.near in let e = range_length s.bytes.now s.start s.len in omega arith)),
      subst₂ (λ (x : List ℕ) (y : List Bool). EditsBefore run.b run.n (bits s) c.args.a.now x y (loop.j + 1)) (sym ps) (sym xs)
          (edits-next run.b run.n (bits s) c.args.a.now (places rs) (put_bits rs) loop.j one.place one.bit (omega arith) (omega arith) loop.invariant.2 (found.edit refl)),
    )

pub returns-clause-bits_value : goal.returns-clause-bits_value
returns-clause-bits_value c = let run = c.args.run in
    let few = length-take-le run.b c.args.a.now c.requires in
    let s = run.piece in
    run-found run.b run.n (bits s) c.args.a.now c.requires (places c.loop-j.repairs) (put_bits c.loop-j.repairs) (let h = run.least in omega arith) (apart-range s.bytes.now s.start s.len run.n run.b run.apart)
    (λ i h. c.loop-j.invariant.2 i (omega arith))
