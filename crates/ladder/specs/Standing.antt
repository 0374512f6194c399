-- What one side of a ladder holds.
use Rattle.std.specs.Prelude.{ℕ, List, length}
use Rattle.shelf.specs.Standing.{live, held}
use Rattle.shelf.specs.declared.Record.{Ghosts}
use Rattle.board.specs.declared.levels.Level.{Level}
use Rattle.ladder.specs.Records.{levels_in}
use Rattle.ladder.specs.declared.records.SideLevel.{SideLevel}
use Rattle.ladder.specs.declared.records.LevelRecord as holds
use Rattle.ladder.specs.declared.one_side.OneSide.{OneSide}

-- its levels, best first
abbrev pub side_levels : {sell : ℕ} {level : holds.Ghosts (SideLevel sell)} {order : Ghosts (SideLevel sell) ℕ} → OneSide (SideLevel sell) level order → List Level
side_levels o = levels_in (live o.shelf)

-- the greatest number of levels: as many as it was handed records
abbrev pub side_room : {sell : ℕ} {level : holds.Ghosts (SideLevel sell)} {order : Ghosts (SideLevel sell) ℕ} → OneSide (SideLevel sell) level order → ℕ
side_room o = length (held o.shelf)
