-- The feed holds the records of the lines so far.
use Rattle.std.proofs.Common.{vec_items}
use Rattle.script_words.specs.Lines.{lines_of, to_come}
use Rattle.commands.proofs.Sofar.{Sofar}
use Rattle.commands.proofs.encoding.encode_script.Given as goal

abbrev pub invariant-loop-index : goal.invariant-loop-index
invariant-loop-index l =
    (goal.iterator-loop-index).can_next l.index-iterator ×
    (goal.iterator-loop-index).is_finite l.index-iterator ×
    Sofar (lines_of l.script) (to_come l.index-iterator.iter) (vec_items l.feed) l.records l.index-iterator.count
