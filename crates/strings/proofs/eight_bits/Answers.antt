use Rattle.strings.proofs.laws.ByteLaws.{eight-whole, eight-joined}
use Rattle.strings.proofs.eight_bits.Goals as goal

pub returns-then-k-eq0 : goal.returns-then-k-eq0
returns-then-k-eq0 c = eight-whole c.args.s.now c.args.p (λ i. (c.shared_slice_known-1.given i).fits) c.if-k-eq0.true

pub returns : goal.returns
returns c = eight-joined c.args.s.now c.args.p (λ i. (c.shared_slice_known-3-1.given i).fits)
