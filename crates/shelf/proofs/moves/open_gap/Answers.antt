use Rattle.std.proofs.Common.{ap, set, ◌∙◌}
use Rattle.shelf.proofs.Gaps.{opened}
use Rattle.shelf.proofs.moves.open_gap.Goals as goal

pub returns : goal.returns
returns g c =
    ap (λ z. set z c.args.at c.args.item) c.copy_within.ensures.after ∙ opened c.args.records.now c.args.len c.args.at c.args.item c.requires.inside c.requires.room
