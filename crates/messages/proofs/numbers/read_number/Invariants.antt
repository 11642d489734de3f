use Rattle.std.proofs.Common.{◌≡◌, ◌+◌, ◌-◌, ◌<◌}
use Rattle.messages.specs.Numbers.{next_byte, number_at}
use Rattle.messages.specs.laws.NumberLaws.{weight}
use Rattle.messages.proofs.numbers.read_number.Given as goal

-- at + 4 - i more bytes may be read from index i on, the fifth among them
abbrev pub invariant-loop-i : goal.invariant-loop-i
invariant-loop-i l = record {
  weight : l.w ≡ weight (l.at + 4 - l.i);
  small : l.v < l.w;
  rest : next_byte (l.at + 4 - l.i) l.s l.i l.w l.v ≡ number_at l.s l.at;
}
