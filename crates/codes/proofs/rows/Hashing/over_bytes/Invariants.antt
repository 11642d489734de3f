-- `codes::Hashing::over_bytes` meets its contract: from the hash under way, the bits left lead to where all the bits lead. Assumes nothing.
use Prim.Native.Nat.{◌+◌, ◌-◌, ◌*◌, ◌/◌}
use lib.ListN.{length}
use lib.Bits.{bit_xor}
use Rattle.strings.specs.Bits.{range}
use Rattle.codes.specs.Hash.{hash_row}
use Rattle.codes.specs.code.HashForms.{whole_hash, Went}
use Rattle.codes.proofs.rows.Hashing.over_bytes.Given as goal

abbrev pub invariant-loop-i : goal.invariant-loop-i
invariant-loop-i l = Went l.all.sum l.all.row (range l.s.bytes.now (l.s.start + 8 * l.i) (8 * (l.s.len / 8 - l.i))) (bit_xor l.fn.self.sum (whole_hash l.fn.self.row (range l.s.bytes.now l.s.start (8 * (l.s.len / 8))))) (hash_row l.fn.self.row (length (range l.s.bytes.now l.s.start (8 * (l.s.len / 8)))))
