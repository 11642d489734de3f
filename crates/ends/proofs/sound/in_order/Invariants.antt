use Rattle.std.proofs.Common.{◌≡◌, reverse}
use Rattle.ends.specs.States.{held}
use Rattle.ends.specs.Soundness.{in_order}
use Rattle.ends.proofs.sound.in_order.Given as goal

abbrev pub invariant-loop-i : goal.invariant-loop-i
invariant-loop-i l = record {
  count : l.i-iterator.iter.count ≡ 0;
  rest : in_order l.n l.e l.x l.y (reverse l.i-iterator.iter.iter.rest.now)
      ≡ in_order l.fn.st.n l.fn.st.ybits 0 0 (held l.fn.st.waiting l.fn.st.pieces);
}
