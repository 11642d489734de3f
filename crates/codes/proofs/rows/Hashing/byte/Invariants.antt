-- `codes::Hashing::byte` meets its contract: the first k bits have been gone over. Assumes nothing.
use Rattle.std.specs.Prelude.{take}
use Rattle.strings.specs.Bits.{byte_bits}
use Rattle.codes.specs.code.HashForms.{Went}
use Rattle.codes.proofs.rows.Hashing.byte.Given as goal

abbrev pub invariant-loop-k : goal.invariant-loop-k
invariant-loop-k l = Went l.fn.self.sum l.fn.self.row (take l.k (byte_bits l.v)) l.all.sum l.all.row
