use native.Mathlib.Nat.{div-le_self}
use native.Mathlib.Omega.{arith}
use Rattle.ends.specs.code.SoundCode.{rows_left}
use Rattle.ends.proofs.sound.rows_fit.Goals as goal

pub overflow_mul-result : goal.overflow_mul-result
overflow_mul-result c = let d = div-le_self c.wide-n.result c.wide-m.result in omega arith

pub overflow_add-result-2 : goal.overflow_add-result-2
overflow_add-result-2 c = let d = div-le_self c.wide-n.result c.wide-m.result in omega arith

pub returns : goal.returns
returns c = simp (c.wide-n.ensures.0, c.wide-m.ensures.0, c.wide-used.ensures.0, c.work_left-left.ensures.is, rows_left)
