-- What an overlap is.
use Rattle.plan.proofs.Overlapping.{overlaps}
use Rattle.plan.proofs.overlaps_told.Goals as goal

pub returns : goal.returns
returns c = record { overlaps = overlaps }
