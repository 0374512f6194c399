-- The next level is the best from the first rank that is worse than the price, and there is none where no rank is.
use Rattle.std.proofs.Common.{◌≡◌, ◌≤◌, ℕ, drop, sym, ap, ◌∙◌, arith}
use Rattle.board.specs.Book.{first}
use Rattle.grid.specs.Ranks.{levels, ranks_to}
use Rattle.grid.specs.Holding.{cells_of}
use Rattle.grid.proofs.Answered.{grid_next, next_past}
use Rattle.grid.proofs.calls.GridBoard.next.Goals as goal

pub returns-in_err-from : goal.returns-in_err-from
returns-in_err-from c =
    let t = c.try_from.ensures in
    let v = c.ok.ensures.value in
    let e = c.ranks_to.ensures in
    let past : 256 ≤ ranks_to c.args.side c.args.self.now.start c.args.price = grind arith in
    record { answer = c.from_residual.ensures ∙ sym (next_past c.args.side c.args.self.now c.args.price past) }

pub returns : goal.returns
returns c =
    let g = c.args.self.now in
    let s = c.args.side in
    let t = c.try_from.ensures in
    let v = c.ok.ensures.value in
    let e = c.ranks_to.ensures in
    let o : c.in_ok-from.from ≡ ranks_to s g.start c.args.price = grind arith in
    record { answer = c.best_from.ensures ∙ (ap (λ (k : ℕ). first (levels s g.start k (drop k (cells_of s g)))) o ∙ sym (grid_next s g c.args.price)) }
