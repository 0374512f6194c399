-- From the best level on, all levels are left.
use Rattle.std.proofs.Common.{ap, ◌∙◌}
use Rattle.board.specs.Book.{levels_of}
use Rattle.board.specs.Standing.{from_level}
use Rattle.board.proofs.Ordered.{from_best}
use Rattle.board.proofs.standing.Levels.of.Goals as goal

pub returns : goal.returns
returns g c =
    let s = c.args.side in
    let ls = levels_of (g.B.Board.book c.args.board.now) s in
    record { made = ap (λ z. from_level s z ls) c.best-first.ensures.answer ∙ from_best s ls (c.vouch.ensures.sorted s) }
