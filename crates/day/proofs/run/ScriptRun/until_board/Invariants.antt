-- Each turn takes a line, and the closure can be called again.
use Rattle.std.proofs.Common.{◌≤◌, length}
use Rattle.script_words.specs.Lines.{to_come}
use Rattle.day.proofs.run.ScriptRun.until_board.Given as goal

abbrev pub invariant-loop-on_board : goal.invariant-loop-on_board
invariant-loop-on_board g l = goal.F-IsAlwaysCallable g l.on_board × (length (to_come l.self.lines) ≤ length (to_come l.initial.self.lines))

abbrev pub decreases-loop-on_board : goal.decreases-loop-on_board
decreases-loop-on_board g l = length (to_come l.self.lines)
