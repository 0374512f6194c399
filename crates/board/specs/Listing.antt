-- The first levels of a side written over the front of a list.
use Rattle.std.specs.Prelude.{ℕ, List, ◌++◌, take, drop}
use Rattle.board.specs.declared.levels.Level.{Level}

abbrev pub listed : ℕ → List Level → List Level → List Level
listed n levels before = take n levels ++ drop n before
