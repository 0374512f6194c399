-- Each board but the last takes a line.
use Rattle.std.proofs.Common.{◌+◌, cond, length, is_some}
use Rattle.script_words.specs.Lines.{to_come}
use Rattle.day.proofs.run.ScriptRun.run.Given as goal

abbrev pub decreases-loop-next : goal.decreases-loop-next
decreases-loop-next l = cond (is_some l.next) (length (to_come l.self.lines) + 1) 0
