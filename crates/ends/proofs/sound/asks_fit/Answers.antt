use native.Mathlib.Omega.{arith}
use native.Mathlib.Nat.{div-le_self}
use Rattle.ends.specs.code.SoundCode.{asks-left}
use Rattle.ends.proofs.sound.asks_fit.Goals as goal

pub overflow_mul-result : goal.overflow_mul-result
overflow_mul-result c = let d = div-le_self c.wide-n.result c.wide-m.result in omega arith

pub overflow_add-result-2 : goal.overflow_add-result-2
overflow_add-result-2 c = let d = div-le_self c.wide-n.result c.wide-m.result in omega arith

pub overflow_add-result-3 : goal.overflow_add-result-3
overflow_add-result-3 c = let d = div-le_self c.wide-n.result c.wide-m.result in omega arith

pub returns : goal.returns
returns c = simp (c.wide-n.ensures.0, c.wide-m.ensures.0, c.wide-answered.ensures.0, c.asks_before.ensures, c.wide-before.ensures.0, c.work_left-left.ensures.is, asks-left)
