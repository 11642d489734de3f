use Rattle.std.proofs.Common.{◌≡◌, ◌-◌, length, take}
use Rattle.messages.specs.Numbers.{numbers_at}
use Rattle.messages.specs.code.Reading.{behind_numbers}
use Rattle.messages.proofs.reading.Reader.fill.Given as goal

-- the numbers from v-index on are still to be read
abbrev pub invariant-loop-v : goal.invariant-loop-v
invariant-loop-v l = record {
  same : l.self.src ≡ l.initial.self.src;
  read : behind_numbers (take l.v-index l.list) (numbers_at (length l.initial.list - l.v-index) l.initial.self.src.now l.self.at)
      ≡ numbers_at (length l.initial.list) l.initial.self.src.now l.initial.self.at;
}
