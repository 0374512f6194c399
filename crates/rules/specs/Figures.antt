-- The figures that a day holds for each side and for each direction.
use Rattle.std.specs.Prelude.{ℕ, Bool, Option}
use Rattle.entry.specs.declared.sides.Sides.{Sides}
use Rattle.rules.specs.declared.figures.Directions.{Directions}
use Rattle.rules.specs.declared.figures.Forerunner.{Forerunner}

abbrev pub Forerunners : Type 0
Forerunners = Sides (Option Forerunner)

abbrev pub Marks : Type 0
Marks = Directions Bool

abbrev pub DaysLeft : Type 0
DaysLeft = Directions ℕ
