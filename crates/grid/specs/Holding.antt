-- What a grid holds, and the cells of its sides.
use Rattle.std.specs.Prelude.{List}
use Rattle.entry.specs.declared.Side.{Side}
use Rattle.entry.specs.Sides.{of_side}
use Rattle.board.specs.Book.{Book}
use Rattle.grid.specs.declared.cells.Cell.{Cell}
use Rattle.grid.specs.declared.Grid.{Grid}
use Rattle.grid.specs.Ranks.{book_over}

abbrev pub grid_book : Grid → Book
grid_book g = book_over g.start g.sides.buy.cells g.sides.sell.cells

abbrev pub cells_of : Side → Grid → List Cell
cells_of s g = (of_side g.sides s).cells
