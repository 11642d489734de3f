use Rattle.std.proofs.Common.{◌∙◌}
use Rattle.lines.specs.laws.SettingsLaws.{group-absent, group-text}
use Rattle.lines.proofs.read_group.Goals as goal

pub returns-in_err-find_field : goal.returns-in_err-find_field
returns-in_err-find_field c = rw c.from_residual.ensures (group-absent c.args.line.now c.args.index c.in_err-find_field.ensures)

pub returns : goal.returns
returns c = c.parse_decimal.ensures ∙ group-text c.args.line.now c.args.index _ c.in_ok-find_field.ensures
