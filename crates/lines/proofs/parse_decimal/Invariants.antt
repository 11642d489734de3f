use Rattle.std.proofs.Common.{◌≡◌, ◌<◌, drop}
use Rattle.lines.specs.SettingsLine.{decimal_of}
use Rattle.lines.specs.laws.SettingsLaws.{decimal_rest}
use Rattle.lines.proofs.parse_decimal.Given as goal

abbrev pub invariant-loop-x : goal.invariant-loop-x
invariant-loop-x l = (l.v < 4294967296) × (decimal_rest l.v (drop l.x-index l.s) ≡ decimal_of l.s)
