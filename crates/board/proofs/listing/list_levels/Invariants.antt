-- So far the first levels are written, and the next one is at hand.
use Rattle.std.proofs.Common.{◌≡◌, ◌≤◌, length}
use Rattle.std.specs.List.{slice_get}
use Rattle.board.specs.Book.{levels_of}
use Rattle.board.specs.Listing.{listed}
use Rattle.board.proofs.listing.list_levels.Given as goal

abbrev pub invariant-loop-i : goal.invariant-loop-i
invariant-loop-i g l =
    (l.i ≤ length (levels_of (g.B.Board.book l.board) l.side)) × (l.level ≡ slice_get (levels_of (g.B.Board.book l.board) l.side) l.i) × (l.out ≡ listed l.i (levels_of (g.B.Board.book l.board) l.side) l.initial.out)
