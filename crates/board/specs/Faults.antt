-- Each fault of a board: the refusal that it is, and its number.
use Rattle.std.specs.Prelude.{ℕ}
use Rattle.entry.specs.declared.refusals.Refusal.{Refusal}
use Rattle.entry.specs.declared.refusals.Refusal.TheVariants as why
use Rattle.board.specs.declared.faults.BoardFault.{BoardFault}
use Rattle.board.specs.declared.faults.BoardFault.TheVariants.{LevelFull, NoPlace, NothingThere}

abbrev pub refusal_of : BoardFault → Refusal
refusal_of LevelFull = why.LevelFull
refusal_of NoPlace = why.NoPlace
refusal_of NothingThere = why.NothingThere

abbrev pub number_of : BoardFault → ℕ
number_of LevelFull = 7
number_of NoPlace = 8
number_of NothingThere = 9
