-- The levels that records hold, and those that may stand on a ladder.
use Rattle.std.specs.Prelude.{ℕ, Bool, true, ◌&&◌, List, [], ◌∷◌, map, nat_le}
use Rattle.board.specs.declared.levels.Level.{Level}
use Rattle.board.specs.Levels.{most_orders}
use Rattle.ladder.specs.declared.records.SideLevel.{SideLevel}

abbrev pub price_in : {sell : ℕ} → SideLevel sell → ℕ
price_in r = r.0.price

abbrev pub level_of : {sell : ℕ} → SideLevel sell → Level
level_of r = r.0

abbrev pub levels_in : {sell : ℕ} → List (SideLevel sell) → List Level
levels_in rs = map level_of rs

-- the lowest and the highest price of a ladder
abbrev pub lowest : ℕ
lowest = 1

abbrev pub highest : ℕ
highest = 1000000000

-- whether each level has a price of the ladder and 1 to 65,535 orders
abbrev pub proper : Level → Bool
proper x = nat_le lowest x.price && (nat_le x.price highest && (nat_le 1 x.orders && nat_le x.orders most_orders))

abbrev pub all_proper : List Level → Bool
all_proper [] = true
all_proper (x ∷ xs) = proper x && all_proper xs
