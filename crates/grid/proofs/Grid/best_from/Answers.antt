-- The first rank with a level has the best one.
use Rattle.std.proofs.Common.{◌≡◌, None, Some, drop}
use Rattle.grid.specs.Ranks.{first_of}
use Rattle.grid.specs.Holding.{cells_of}
use Rattle.grid.proofs.Answered.{first_is, first-none}
use Rattle.grid.proofs.Grid.best_from.Goals as goal

pub returns-in_err-rank : goal.returns-in_err-rank
returns-in_err-rank c =
    let g = c.args.self.now in
    let s = c.args.side in
    let e : first_of c.args.from (drop c.args.from (cells_of s g)) ≡ None = cc (c.in_err-rank.was) in
    let n = first-none s g.start c.args.from (cells_of s g) e in
    cc

pub returns : goal.returns
returns c =
    let g = c.args.self.now in
    let s = c.args.side in
    let e : first_of c.args.from (drop c.args.from (cells_of s g)) ≡ Some c.in_ok-rank.rank = cc (c.in_ok-rank.was) in
    let f = first_is s g.start c.args.from c.in_ok-rank.rank (cells_of s g) e in
    cc
