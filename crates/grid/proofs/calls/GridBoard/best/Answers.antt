-- The best level is the best from rank 0 on.
use Rattle.std.proofs.Common.{◌∙◌}
use Rattle.grid.proofs.Answered.{grid_best}
use Rattle.grid.proofs.calls.GridBoard.best.Goals as goal

pub returns : goal.returns
returns c = record { answer = c.best_from.ensures ∙ grid_best c.args.side c.args.self.now }
