use Rattle.ends.specs.Soundness.{stage_fits}
use Rattle.ends.proofs.sound.stage_fits.Goals as goal

pub returns-in-Hashing : goal.returns-in-Hashing
unfolding stage_fits
returns-in-Hashing c = simp (c.in-Hashing.is, c.wide-b.ensures.0, c.wide-a.ensures.0)

pub returns-in-PuttingIn : goal.returns-in-PuttingIn
unfolding stage_fits
returns-in-PuttingIn c = simp (c.in-PuttingIn.is, c.wide-b.ensures.0, c.wide-a.ensures.0)

pub returns-in-TakingOut : goal.returns-in-TakingOut
unfolding stage_fits
returns-in-TakingOut c = simp (c.in-TakingOut.is, c.wide-b.ensures.0, c.wide-a.ensures.0)

pub returns-in-Anchor : goal.returns-in-Anchor
unfolding stage_fits
returns-in-Anchor c = simp (c.in-Anchor.is, c.too_small.ensures)

pub returns-in-AllBits : goal.returns-in-AllBits
unfolding stage_fits
returns-in-AllBits c = simp c.in-AllBits.is

pub returns-in-Columns : goal.returns-in-Columns
unfolding stage_fits
returns-in-Columns c = rw c.in-Columns.is c.is_burst.ensures
