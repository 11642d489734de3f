-- `codes::Woven::span` meets its contract: the places so far lie from low to high. Assumes nothing.
use Prim.Native.Nat.{◌+◌, ◌<◌}
use Rattle.codes.specs.code.Runs.{places}
use Rattle.codes.specs.code.Weaving.{Spans}
use Rattle.codes.proofs.weaving.Woven.span.Given as goal

abbrev pub invariant-loop-one : goal.invariant-loop-one
invariant-loop-one l = (l.high < l.self.run.piece.len + l.self.run.b) × Spans (l.one-index + 1) l.low l.high (places l.self.repairs)
