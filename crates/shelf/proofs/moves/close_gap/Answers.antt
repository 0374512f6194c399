use Rattle.std.proofs.Common.{◌∙◌}
use Rattle.shelf.proofs.Gaps.{closed}
use Rattle.shelf.proofs.moves.close_gap.Goals as goal

pub returns : goal.returns
returns g c = c.copy_within.ensures.after ∙ closed c.args.records.now c.args.len c.args.at c.requires.inside
