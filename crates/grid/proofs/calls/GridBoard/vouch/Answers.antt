-- What holds of every board holds of the grid.
use Rattle.grid.proofs.Soundness.{grid_sound}
use Rattle.grid.proofs.calls.GridBoard.vouch.Goals as goal

pub returns : goal.returns
returns c = grid_sound c.args.self.now
