-- Each turn takes a line.
use Rattle.std.proofs.Common.{◌≤◌, length}
use Rattle.script_words.specs.Lines.{to_come}
use Rattle.day.proofs.run.ScriptRun.command.Given as goal

abbrev pub invariant-loop-line : goal.invariant-loop-line
invariant-loop-line l = length (to_come l.self.lines) ≤ length (to_come l.initial.self.lines)

abbrev pub decreases-loop-line : goal.decreases-loop-line
decreases-loop-line l = length (to_come l.self.lines)
