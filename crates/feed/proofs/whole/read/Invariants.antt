-- What was read so far goes before what is still to be read.
use Rattle.std.proofs.Common.{◌≡◌, ◌-◌, List, ◌++◌, length, vec_items, Option}
use Rattle.entry.specs.declared.Entry.{Entry}
use Rattle.entry.specs.declared.refusals.Refusal.{Refusal}
use Rattle.layout.specs.Laws.{Gives}
use Rattle.feed.proofs.whole.read.Given as goal

abbrev pub invariant-loop-entry : goal.invariant-loop-entry
invariant-loop-entry l =
    (l.reader.feed.now ≡ l.feed)
    × ((es : List Entry) (end : Option Refusal) → Gives l.feed l.reader.at l.reader.seen es end → Gives l.feed 0 0 (vec_items l.entries ++ es) end)

abbrev pub decreases-loop-entry : goal.decreases-loop-entry
decreases-loop-entry l = length l.feed - l.reader.at
