use Rattle.std.specs.Prelude.{◌≡◌, ◌*◌, ◌≤◌}
use Rattle.ends.specs.States.{held}
use Rattle.ends.specs.code.SoundCode.{work_left}
use Rattle.ends.proofs.sound.work_left.Given as goal

abbrev pub invariant-loop-pc : goal.invariant-loop-pc
invariant-loop-pc l = record {
  is : l.sum ≡ work_left l.a l.b l.fn.st.settings.m (held l.pc-index l.fn.st.pieces);
  small : l.sum ≤ l.pc-index * 68719476736;
}
