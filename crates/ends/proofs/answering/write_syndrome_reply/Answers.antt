use Rattle.std.proofs.Common.{arith}
use Rattle.ends.proofs.code.HolderCodeLaws.{syndrome-few}
use Rattle.ends.proofs.answering.write_syndrome_reply.Goals as goal

pub overflow_cast-a : goal.overflow_cast-a
overflow_cast-a c = let s = c.args.piece in omega (arith, syndrome-few s.bytes.now s.start s.len, c.syndrome_of-a.ensures, s.part.few)
