-- One level: how it begins, and what an order more or less makes of it.
use Rattle.std.specs.Prelude.{ℕ, ◌+◌, ◌-◌, Bool, cond, Some, None, Ok, Err, Option, Result, nat_le}
use Rattle.board.specs.declared.levels.Level.{Level}
use Rattle.board.specs.declared.faults.BoardFault.{BoardFault}
use Rattle.board.specs.declared.faults.BoardFault.TheVariants.{LevelFull}

-- the greatest number of orders of a level
abbrev pub most_orders : ℕ
most_orders = 65535

-- a new level has one order, and stands since the time of that order
abbrev pub new_level : ℕ → ℕ → Level
new_level p time = record { price = p; orders = 1; since = time }

-- an order that joins or leaves does not change since when the level stands
abbrev pub joined : Level → Level
joined x = record { price = x.price; orders = x.orders + 1; since = x.since }

abbrev pub left : Level → Level
left x = record { price = x.price; orders = x.orders - 1; since = x.since }

-- whether no further order may join, and whether the next order that leaves is the last
abbrev pub full : Level → Bool
full x = nat_le most_orders x.orders

abbrev pub single : Level → Bool
single x = nat_le x.orders 1

abbrev pub more_answer : Level → Result Level BoardFault
more_answer x = cond (full x) (Err LevelFull) (Ok (joined x))

abbrev pub less_answer : Level → Option Level
less_answer x = cond (single x) None (Some (left x))
