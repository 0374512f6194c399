-- How each command is spelt, and what is printed of it.
use Rattle.std.specs.Prelude.{List, [], ◌∷◌, Some, None, codes, Option}
use Rattle.entry.specs.declared.Entry.{Entry}
pub use Rattle.entry.specs.Windows.{bounding_text}
use Rattle.script.specs.declared.command.LimitKind.{LimitKind}
use Rattle.script.specs.declared.command.LimitKind.TheVariants.{Static, Dynamic}
use Rattle.script.specs.declared.command.PlanCommand.{PlanCommand}
use Rattle.script.specs.declared.command.PlanCommand.TheVariants as plan
use Rattle.script.specs.declared.command.BoardShape.{BoardShape}
use Rattle.script.specs.declared.command.BoardShape.TheVariants as shape
use Rattle.script.specs.declared.command.BoardCommand.{BoardCommand}
use Rattle.script.specs.declared.command.BoardCommand.TheVariants as board
use Rattle.script.specs.declared.command.DayCommand.{DayCommand}
use Rattle.script.specs.declared.command.DayCommand.TheVariants as day
use Rattle.script.specs.declared.command.Command.{Command}
use Rattle.script.specs.declared.command.Command.TheVariants as asks
use Rattle.script.specs.Spelling.{Bytes, Part, name, figure, code, side_text, params_parts, entry_parts}
use Rattle.script.specs.Print.{spaced}

abbrev pub limit_text : LimitKind → Bytes
limit_text Static = codes "static"
limit_text Dynamic = codes "dynamic"

abbrev pub plan_parts : PlanCommand → List Part
plan_parts (plan.Fixed days group) = name (codes "plan") ∷ name (codes "fixed") ∷ figure days ∷ figure group ∷ []
plan_parts plan.Announced = name (codes "plan") ∷ name (codes "announced") ∷ []
plan_parts (plan.Window w) =
    name (codes "window") ∷ figure w.start ∷ figure w.end ∷ code w.session ∷ name (bounding_text w.bounding) ∷ figure w.k ∷ []
plan_parts (plan.Session time) = name (codes "session") ∷ figure time ∷ []

abbrev pub shape_parts : BoardShape → List Part
shape_parts (shape.Ladder count) = name (codes "board") ∷ name (codes "ladder") ∷ figure count ∷ []
shape_parts (shape.Grid start) = name (codes "board") ∷ name (codes "grid") ∷ figure start ∷ []

abbrev pub board_parts : BoardCommand → List Part
board_parts (board.Add side price time) = name (codes "add") ∷ name (side_text side) ∷ figure price ∷ figure time ∷ []
board_parts (board.Take side price) = name (codes "take") ∷ name (side_text side) ∷ figure price ∷ []
board_parts (board.Levels side) = name (codes "levels") ∷ name (side_text side) ∷ []

abbrev pub day_parts : DayCommand → List Part
day_parts day.Listed = name (codes "listed") ∷ []
day_parts (day.Open time params) = name (codes "open") ∷ figure time ∷ params_parts params
day_parts (day.Limits which time) = name (codes "limits") ∷ name (limit_text which) ∷ figure time ∷ []
day_parts (day.Feed file) = name (codes "feed") ∷ name file.now ∷ []
day_parts day.Close = name (codes "close") ∷ []

abbrev pub command_parts : Command → List Part
command_parts (asks.Entry entry) = entry_parts entry
command_parts (asks.Plan command) = plan_parts command
command_parts (asks.NewBoard asked) = shape_parts asked
command_parts (asks.Board command) = board_parts command
command_parts (asks.Day command) = day_parts command

abbrev pub plan_text : PlanCommand → Bytes
plan_text command = spaced (plan_parts command)

abbrev pub shape_text : BoardShape → Bytes
shape_text asked = spaced (shape_parts asked)

abbrev pub board_text : BoardCommand → Bytes
board_text command = spaced (board_parts command)

abbrev pub day_text : DayCommand → Bytes
day_text command = spaced (day_parts command)

abbrev pub command_text : Command → Bytes
command_text command = spaced (command_parts command)

-- the entry that a command is, if it is one
abbrev pub entry_in : Command → Option Entry
entry_in (asks.Entry entry) = Some entry
entry_in (asks.Plan command) = None
entry_in (asks.NewBoard asked) = None
entry_in (asks.Board command) = None
entry_in (asks.Day command) = None
