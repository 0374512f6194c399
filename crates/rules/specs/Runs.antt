-- What a list of entries, and a list of calls, is answered and leaves.
use Rattle.std.specs.Prelude.{ℕ, cond, List, [], ◌∷◌, ◌++◌, length, drop, Ok, Err, nat_le}
use Rattle.entry.specs.declared.Entry.{Entry}
use Rattle.entry.specs.declared.refusals.Refusal.TheVariants as why
use Rattle.plan.specs.declared.slots.Window.{Window}
use Rattle.rules.specs.declared.figures.TrailLine.{TrailLine}
use Rattle.rules.specs.Checks.{State, Answer, number_of, must, answer}
use Rattle.rules.specs.Effects.{after}

-- the trail line of an answer: the quotation after an accepted entry, 0 in a refused line
abbrev pub line_of : Answer → ℕ → TrailLine
line_of (Ok v) q = record { answer = 0; quotation = q }
line_of (Err e) q = record { answer = number_of (Err e); quotation = 0 }

-- the trail lines of a list of entries, and the day and the board at its end
abbrev pub lines : List Window → State → List Entry → List TrailLine
lines hours w [] = []
lines hours w (e ∷ es) = line_of (answer hours w e) (after hours w e).day.quotation ∷ lines hours (after hours w e) es

abbrev pub final : List Window → State → List Entry → State
final hours w [] = w
final hours w (e ∷ es) = final hours (after hours w e) es

-- a run is refused where the trail, of so many lines, is shorter than the list
abbrev pub run_answer : List Entry → ℕ → Answer
run_answer es room = must (nat_le (length es) room) why.TrailShort

-- the entries that a run applies: all of them, or none where it is refused
abbrev pub applied : List Entry → ℕ → List Entry
applied es room = cond (nat_le (length es) room) es []

-- the trail after a run: its lines, and past them what was there
abbrev pub trail_after : List Window → State → List Entry → List TrailLine → List TrailLine
trail_after hours w es trail =
    lines hours w (applied es (length trail)) ++ drop (length (applied es (length trail))) trail

-- a call: an entry by the call of its own kind, or a run of some entries with so many trail lines
pub data Call : Type 0 where
  enter : Entry → Call
  run : List Entry → ℕ → Call

-- the entries of a call
abbrev pub entries_of : Call → List Entry
entries_of (enter e) = e ∷ []
entries_of (run es room) = applied es room

-- the entries of a list of calls, in order
abbrev pub all_entries : List Call → List Entry
all_entries [] = []
all_entries (c ∷ cs) = entries_of c ++ all_entries cs

-- the day and the board after a list of calls, each made on what the one before left
abbrev pub after_calls : List Window → State → List Call → State
after_calls hours w [] = w
after_calls hours w (c ∷ cs) = after_calls hours (final hours w (entries_of c)) cs
