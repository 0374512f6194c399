-- What a command makes of a board.
use Rattle.board.specs.Book.{Book}
use Rattle.board.specs.Calls.{add_after, take_after}
use Rattle.script.specs.declared.command.BoardCommand.{BoardCommand}
use Rattle.script.specs.declared.command.BoardCommand.TheVariants as c

-- only an order more or less changes a board
abbrev pub board_after : Book → BoardCommand → Book
board_after b (c.Add s p t) = add_after b s p t
board_after b (c.Take s p) = take_after b s p
board_after b (c.Levels s) = b
