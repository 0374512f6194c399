-- The levels that are left are the first of them, and those from the next one on.
use Rattle.std.proofs.Common.{rules, ◌∷◌, sym, ap, ◌∙◌}
use Rattle.board.specs.Book.{levels_of}
use Rattle.board.specs.Standing.{from_level}
use Rattle.board.proofs.Ordered.{from_next}
use Rattle.board.proofs.standing.LevelsIterator.next.Goals as goal

pub returns-clause-steps : goal.returns-clause-steps
returns-clause-steps g c =
    let l = c.args.self.now in
    let ls = levels_of (g.B.Board.book l.board.now) l.side in
    let level = c.in_ok-level.level in
    ap (λ z. from_level l.side z ls) c.in_ok-level.was
    ∙ ap (λ z. level ∷ z) (sym (ap (λ z. from_level l.side z ls) c.next-self.ensures.answer ∙ from_next l.side level.price ls (c.vouch.ensures.sorted l.side)))

pub returns-clause-goes : goal.returns-clause-goes
returns-clause-goes g c =
    let steps = returns-clause-steps g c in
    search rules
