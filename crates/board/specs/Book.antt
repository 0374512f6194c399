-- What a board holds, and what it tells.
use Rattle.std.specs.Prelude.{ℕ, Bool, true, false, cond, ◌&&◌, List, [], ◌∷◌, Some, None, Option, ◌==◌}
use Rattle.entry.specs.declared.Side.{Side}
use Rattle.entry.specs.declared.Side.TheVariants.{Buy, Sell}
pub use Rattle.entry.specs.Sides.{better}
use Rattle.board.specs.declared.levels.Level.{Level}

-- the lowest and the highest price, the greatest number of levels a side, and the levels of each side, best first
pub record Book : Type 0 where
  pub low : ℕ
  pub high : ℕ
  pub room : ℕ
  pub buys : List Level
  pub sells : List Level

-- a board on which nothing stands
abbrev pub empty_book : ℕ → ℕ → ℕ → Book
empty_book low high room = record { low = low; high = high; room = room; buys = []; sells = [] }

abbrev pub levels_of : Book → Side → List Level
levels_of b Buy = b.buys
levels_of b Sell = b.sells

-- the board with other levels on a side
abbrev pub with_levels : Book → Side → List Level → Book
with_levels b Buy ls = record { low = b.low; high = b.high; room = b.room; buys = ls; sells = b.sells }
with_levels b Sell ls = record { low = b.low; high = b.high; room = b.room; buys = b.buys; sells = ls }

abbrev pub first : List Level → Option Level
first [] = None
first (x ∷ xs) = Some x

abbrev pub best_of : Book → Side → Option Level
best_of b s = first (levels_of b s)

-- the level at price p
abbrev pub level_at : ℕ → List Level → Option Level
level_at p [] = None
level_at p (x ∷ xs) = cond (x.price == p) (Some x) (level_at p xs)

-- the first level that is worse than price p
abbrev pub next_after : Side → ℕ → List Level → Option Level
next_after s p [] = None
next_after s p (x ∷ xs) = cond (better s p x.price) (Some x) (next_after s p xs)

abbrev pub none : List Level → Bool
none [] = true
none (x ∷ xs) = false

abbrev pub is_empty : Book → Bool
is_empty b = none b.buys && none b.sells
