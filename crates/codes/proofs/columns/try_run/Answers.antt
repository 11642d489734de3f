-- `codes::try_run` meets its contract. Assumes nothing.
use mathlib.Core.Path.{refl, sym, ap, ◌∙◌}
use mathlib.Core.Bool.{Bool}
use mathlib.Core.List.{List}
use mathlib.Core.Option.{Option}
use Rattle.strings.specs.Ranges.{bits}
use Rattle.codes.specs.Trials.{agreeing, tried_at}
use Rattle.codes.specs.code.Runs.{places, put_bits}
use Rattle.codes.specs.laws.TrialLaws.{agreeing-none}
use Rattle.codes.specs.laws.WeavingLaws.{woven-length}
use Rattle.codes.proofs.columns.try_run.Goals as goal

pub returns-in_default : goal.returns-in_default
returns-in_default c = rw (sym c.in_default.ensures.bits_value, agreeing-none c.args.k.h c.args.k.key c.args.v) refl

pub try_candidate-requires : goal.try_candidate-requires
try_candidate-requires c = let run = c.args.run in
    let repairs = c.in-Some.repairs in
    rw (woven-length (bits run.piece) run.n run.b (places repairs) (put_bits repairs) 0 run.n) c.requires.part

pub returns : goal.returns
returns c = let args = c.args in
    c.try_candidate.ensures
    ∙ ap (λ (o : Option (List Bool)). tried_at args.to.now args.at (agreeing args.k.h args.k.key args.v o)) c.in-Some.ensures.bits_value
