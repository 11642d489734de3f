use Rattle.std.proofs.Common.{sym, ◌^◌, pow_mono, arith}
use borrow.Author.Tests.{lt-ltb}
use Rattle.messages.proofs.answers.is_hash.Goals as goal

pub returns-then-h-ge32 : goal.returns-then-h-ge32
returns-then-h-ge32 c = let m = pow_mono {i = 32} {j = c.args.h} c.if-h-ge32.true in sym (lt-ltb c.args.v (2 ^ c.args.h) (omega arith))
