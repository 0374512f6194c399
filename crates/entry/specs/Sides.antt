-- The sides, and a value for each of them.
use Rattle.std.specs.Prelude.{ℕ, Bool, nat_lt}
use Rattle.entry.specs.declared.Side.{Side}
use Rattle.entry.specs.declared.Side.TheVariants.{Buy, Sell}
use Rattle.entry.specs.declared.sides.Sides.{Sides}

abbrev pub other_side : Side → Side
other_side Buy = Sell
other_side Sell = Buy

-- a price is better than another: higher for a buy, lower for a sell
abbrev pub better : Side → ℕ → ℕ → Bool
better Buy p q = nat_lt q p
better Sell p q = nat_lt p q

-- the value of a side
abbrev pub of_side : {T : Type 0} → Sides T → Side → T
of_side both Buy = both.buy
of_side both Sell = both.sell

-- the values with another one for a side
abbrev pub with_side : {T : Type 0} → Sides T → Side → T → Sides T
with_side both Buy x = record { buy = x; sell = both.sell }
with_side both Sell x = record { buy = both.buy; sell = x }
