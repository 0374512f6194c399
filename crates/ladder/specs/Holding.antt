-- What a ladder holds, and the loans that it stands on.
use Rattle.std.specs.Prelude.{ℕ, List, [], ◌∷◌}
use Rattle.board.specs.Book.{Book}
use Rattle.ladder.specs.Records.{lowest, highest}
use Rattle.ladder.specs.Standing.{side_levels, side_room}
use Rattle.ladder.specs.declared.Ladder.{Ladder}

abbrev pub ladder_book : Ladder → Book
ladder_book l = record { low = lowest; high = highest; room = side_room l.buys; buys = side_levels l.buys; sells = side_levels l.sells }

abbrev pub ladder_loans : Ladder → List ℕ
ladder_loans l = l.buys.shelf.records.ghost_name ∷ l.sells.shelf.records.ghost_name ∷ []
