-- The side that records of a kind belong to.
use Rattle.std.specs.Prelude.{Bool, true, false}
use Rattle.entry.specs.declared.Side.{Side}
use Rattle.entry.specs.declared.Side.TheVariants.{Buy, Sell}

abbrev pub side_of : Bool → Side
side_of false = Buy
side_of true = Sell
