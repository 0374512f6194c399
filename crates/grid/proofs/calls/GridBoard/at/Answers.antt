-- No rank has the price, or its cell tells the level.
use Rattle.std.proofs.Common.{ap, sym, ◌∙◌, arith}
use Rattle.grid.specs.Ranks.{seen}
use Rattle.grid.proofs.Answered.{grid_off, grid_spot, at_off, at_spot}
use Rattle.grid.proofs.calls.GridBoard.at.Goals as goal

pub returns-in_err-rank : goal.returns-in_err-rank
returns-in_err-rank c = record { answer = c.from_residual.ensures ∙ sym (at_off (grid_off c.args.side c.args.self.now c.args.price c.in_err-rank.ensures)) }

pub returns : goal.returns
returns c =
    let o = grid_spot c.args.side c.args.self.now c.args.price c.in_ok-rank.rank (omega arith) c.in_ok-rank.ensures in
    record { answer = c.level.ensures ∙ (ap (seen c.args.price) c.get.ensures ∙ sym (at_spot o)) }
