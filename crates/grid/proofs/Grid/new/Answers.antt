-- Both sides are empty.
use Rattle.std.proofs.Common.{◌+◌, List, ap, ◌∙◌, ap₂}
use Rattle.entry.specs.declared.Side.TheVariants.{Buy, Sell}
use Rattle.board.specs.declared.levels.Level.{Level}
use Rattle.board.specs.Book.{Book}
use Rattle.grid.specs.Ranks.{levels}
use Rattle.grid.proofs.Answered.{none-stand}
use Rattle.grid.proofs.Grid.new.Goals as goal

pub returns : goal.returns
returns c =
    let n = c.args.start in
    let F : List Level → List Level → Book = λ x y. record { low = n; high = n + 255; room = 256; buys = x; sells = y } in
    record { answer = ap₂ F (ap (levels Buy n 0) c.new.ensures ∙ none-stand Buy n 0 256) (ap (levels Sell n 0) c.new-2.ensures ∙ none-stand Sell n 0 256) }
