-- What the contracts of a day's calls cite beside the rules.
use Rattle.std.specs.Prelude.{◌≡◌, ℕ, List, Ok, Err, Result}
use Rattle.entry.specs.declared.Entry.{Entry}
use Rattle.entry.specs.declared.Entry.TheVariants.{Trade}
use Rattle.entry.specs.declared.Params.{Params}
use Rattle.entry.specs.declared.refusals.Refusal.{Refusal}
use Rattle.entry.specs.Refusals.{number}
use Rattle.board.specs.Book.{Book}
use Rattle.board.specs.Calls.{on_ok}
use Rattle.plan.specs.declared.slots.Window.{Window}
use Rattle.rules.specs.declared.figures.OpenFigures.{OpenFigures}
use Rattle.rules.specs.Checks.{State, Answer, both, checked}
use Rattle.rules.specs.Effects.{moved}
use Rattle.rules.specs.Promise.{OpenTable, NoLevel}
use Rattle.rules.specs.Calls.{Starts}
use Rattle.engine.specs.declared.OpenDay.{OpenDay}
use Rattle.engine.specs.declared.ClosedDay.{ClosedDay}

-- an open day and the board that it is traded on
abbrev pub state_of : OpenDay → Book → State
state_of d b = both d.figures b

-- what an open is answered: the open day, or the same closed day with the refusal
abbrev pub opened_by : Answer → ClosedDay → OpenFigures → Result OpenDay (ClosedDay × Refusal)
opened_by (Ok v) c f = Ok (record { figures = f })
opened_by (Err e) c f = Err (c, e)

-- accepted or refused, whatever is told beside
abbrev pub answer_of : {X : Type 0} → Result X Refusal → Answer
answer_of (Ok x) = Ok tt
answer_of (Err e) = Err e

-- the day and the board after an entry in range
abbrev pub after_checked : List Window → State → Entry → State
after_checked hours w e = on_ok (checked hours w e) (moved hours w e) w

-- a trade of some quantity, which is judged by its range alone
abbrev pub trade_of : ℕ → ℕ → ℕ → Entry
trade_of t m p = Trade t m p 1

-- what open promises: its answer is the table's; an accepted open starts a day for which the promise holds, and a refused one
-- hands back the same closed day
abbrev pub open_number : Result OpenDay (ClosedDay × Refusal) → ℕ
open_number (Ok d) = 0
open_number (Err e) = number e.1

abbrev pub Opened : Book → ClosedDay → ℕ → Params → Result OpenDay (ClosedDay × Refusal) → Type 0
Opened b c t p (Ok d) = Starts b c.figures t p d.figures
Opened b c t p (Err e) = e.0 ≡ c

pub record OpenTold (b : Book) (c : ClosedDay) (t : ℕ) (p : Params) (r : Result OpenDay (ClosedDay × Refusal)) : Type 0 where
  pub table : OpenTable (NoLevel b) t p (open_number r)
  pub opened : Opened b c t p r
