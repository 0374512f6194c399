-- The side that was asked changes, and the other stays.
use Rattle.std.proofs.Common.{ap, ◌∙◌}
use Rattle.ladder.specs.Standing.{side_room}
use Rattle.ladder.specs.Counts.{counts_fit}
use Rattle.ladder.proofs.calls.LadderBoard.add.Goals as goal

pub invariant_of-self : goal.invariant_of-self
invariant_of-self c =
    let l = c.args.self.now in
    record { counts = ap (λ m. counts_fit m (side_room l.sells)) c.add.ensures.most ∙ l.counts }

pub invariant_of-self-in-Sell : goal.invariant_of-self-in-Sell
invariant_of-self-in-Sell c =
    let l = c.args.self.now in
    record { counts = ap (counts_fit (side_room l.buys)) c.add-in-Sell.ensures.most ∙ l.counts }
