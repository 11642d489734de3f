use Rattle.std.proofs.Common.{rules, sym, ◌∙◌}
use borrow.Author.Tests.{leb-true}
use Rattle.strings.specs.laws.SettingLaws.{limits-is}
use Rattle.ends.proofs.sound.rebuilder_is_sound.Goals.{then-is_limited, else-is_limited, then-st-le-MOST_BITS-2, else-st-le-MOST_BITS-2}
use Rattle.ends.proofs.sound.rebuilder_is_sound.Goals as goal

pub phase_is_sound-requires : goal.phase_is_sound-requires
phase_is_sound-requires c = elim c.if-is_limited.branch [
  | then-is_limited w ↦ elim c.if-st-le-MOST_BITS-2.branch [
    | then-st-le-MOST_BITS-2 v ↦
        let u = v.if-st-le-MOST_BITS-2.true in
        let f = leb-true _ _ (sym v.is_limited-is ∙ w.if-is_limited.true) in
        record { limits = limits-is _ (sym c.is_within_limits.ensures ∙ u.0); n-most = u.2; few = f }
    | else-st-le-MOST_BITS-2 v ↦ search rules
  ]
  | else-is_limited w ↦ search rules
]
