-- What the check tries by itself at the returns of `lo_rebuilder_call`.
use Rattle.cabi.specs.laws.RebuilderBytesLaws.{call-no-state}

pub ruleset call_refusals = (call-no-state)
