use Rattle.std.proofs.Common.{◌≡◌, ◌+◌, length}
use Rattle.std.proofs.lemmas.List.Edits.{sets}
use Rattle.messages.specs.Numbers.{all_numbers}
use Rattle.messages.specs.code.Reading.{bytes_from}
use Rattle.messages.proofs.writing.put_numbers.Given as goal

-- the numbers from v-index on are still to be written
abbrev pub invariant-loop-v : goal.invariant-loop-v
invariant-loop-v l = record {
  sums : l.end + length (bytes_from l.numbers l.v-index) ≡ l.at + length (all_numbers l.numbers);
  is : sets l.buf l.end (bytes_from l.numbers l.v-index) ≡ sets l.initial.buf l.at (all_numbers l.numbers);
}
