-- What holds of every board.
use Rattle.std.specs.Prelude.{◌≡◌, ℕ, ◌+◌, ◌≤◌, true, List, [], ◌∷◌, length}
use Rattle.entry.specs.declared.Side.{Side}
use Rattle.board.specs.declared.levels.Level.{Level}
use Rattle.board.specs.Levels.{most_orders}
use Rattle.board.specs.Book.{Book, levels_of, better}

-- every level is worse than price p
abbrev pub Behind : Side → ℕ → List Level → Type 0
Behind s p [] = Unit {0}
Behind s p (x ∷ xs) = (better s p x.price ≡ true) × Behind s p xs

-- best first, and so with different prices
abbrev pub Sorted : Side → List Level → Type 0
Sorted s [] = Unit {0}
Sorted s (x ∷ xs) = Behind s x.price xs × Sorted s xs

-- a price of the range, and 1 to 65,535 orders
pub record Proper (low high : ℕ) (x : Level) : Type 0 where
  pub above : low ≤ x.price
  pub below : x.price ≤ high
  pub some : 1 ≤ x.orders
  pub fits : x.orders ≤ most_orders

abbrev pub AllProper : ℕ → ℕ → List Level → Type 0
AllProper low high [] = Unit {0}
AllProper low high (x ∷ xs) = Proper low high x × AllProper low high xs

pub record Sound (b : Book) : Type 0 where
  -- the range lies within 1 to 1,000,000,000 and has at least 256 prices
  pub lowest : 1 ≤ b.low
  pub wide : b.low + 255 ≤ b.high
  pub highest : b.high ≤ 1000000000
  -- at least 16 levels a side may stand, and no more stand than may
  pub roomy : 16 ≤ b.room
  pub within : (s : Side) → length (levels_of b s) ≤ b.room
  pub sorted : (s : Side) → Sorted s (levels_of b s)
  pub proper : (s : Side) → AllProper b.low b.high (levels_of b s)
