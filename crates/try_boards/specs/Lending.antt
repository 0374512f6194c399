-- What a lender reads in the first record after one buy at 7 since 3.
use Rattle.std.specs.Prelude.{ℕ, cond, Some, None, Option}
use Rattle.board.specs.declared.levels.Level.{Level}
use Rattle.board.specs.Levels.{new_level}
use Rattle.ladder.specs.Counts.{counts_fit}

-- the level of that buy, where the numbers of records pass the first test
abbrev pub lent_level : ℕ → ℕ → Option Level
lent_level buys sells = cond (counts_fit buys sells) (Some (new_level 7 3)) None
