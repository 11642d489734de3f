use Rattle.std.specs.Prelude.{◌≡◌, ◌&&◌, ◌-◌, ◌+◌}
use Rattle.ends.specs.Soundness.{blank_from}
use Rattle.ends.proofs.sound.blank_behind.Given as goal

abbrev pub invariant-loop-pc : goal.invariant-loop-pc
invariant-loop-pc l =
    l.blank && blank_from l.fn.st.pieces (32 - (l.fn.st.waiting + l.pc-index)) (l.fn.st.waiting + l.pc-index)
    ≡ blank_from l.fn.st.pieces (32 - l.fn.st.waiting) l.fn.st.waiting
