-- What the calls of an open day promise: each answer, what is left after it, and what both are by the history.
use Rattle.std.specs.Prelude.{◌≡◌, ℕ, ◌<◌, ◌≤◌, List, length, take, drop, Ok, Err, Result}
use Rattle.entry.specs.declared.Params.{Params}
use Rattle.entry.specs.declared.Entry.{Entry}
use Rattle.entry.specs.declared.refusals.Refusal.{Refusal}
use Rattle.entry.specs.Refusals.{number}
use Rattle.board.specs.Book.{Book}
use Rattle.plan.specs.declared.slots.Window.{Window}
use Rattle.rules.specs.declared.figures.OpenFigures.{OpenFigures}
use Rattle.rules.specs.declared.figures.ClosedFigures.{ClosedFigures}
use Rattle.rules.specs.declared.figures.TrailLine.{TrailLine}
use Rattle.rules.specs.Checks.{State, Answer, both, number_of, answer}
use Rattle.rules.specs.Effects.{after}
use Rattle.rules.specs.Runs.{Call, final, run_answer, applied, trail_after}
use Rattle.rules.specs.History.{Opening, OnTime, Check, Accepted}
use Rattle.rules.specs.Promise.{Agrees, Kept, KeptAll, Begins, Closes, StaticPair, DynamicPair, Promise, opening_of, start}

-- the entry e, by the call of its kind, on the day and the board w: the answer r, and w' after it
pub record Entered (hours : List Window) (w : State) (e : Entry) (r : Answer) (w' : State) : Type 0 where
  pub answered : r ≡ answer hours w e
  pub left : w' ≡ after hours w e
  -- a refusal changes nothing
  pub refused : 0 < number_of r → w' ≡ w
  -- whatever opening and history led to w, the answer is the table's, and w' is what the history and this entry say
  pub promise : Kept hours w e r w'

-- a run of entries: the answer r, the day and the board w' and the trail after it
pub record Ran (hours : List Window) (w : State) (es : List Entry) (trail : List TrailLine) (r : Answer) (w' : State) (trail' : List TrailLine) : Type 0 where
  pub answered : r ≡ run_answer es (length trail)
  pub left : w' ≡ final hours w (applied es (length trail))
  pub written : trail' ≡ trail_after hours w es trail
  -- 10 exactly if the trail is shorter than the list, and then nothing changes
  pub table : Check (length es ≤ length trail) 10 Accepted (number_of r)
  pub refused : 0 < number_of r → (w' ≡ w) × (trail' ≡ trail)
  -- else each entry has its line, by the history, and the lines past the list are kept
  pub promise : number_of r ≡ 0 → KeptAll hours w es (take (length es) trail') w'
  pub past : number_of r ≡ 0 → drop (length es) trail' ≡ drop (length es) trail

-- the limits at a time: refused with 2 exactly if the time is, else the pair that the history gives
abbrev pub Limited : Opening → List Entry → ℕ → (ℕ × ℕ → Type 0) → Result (ℕ × ℕ) Refusal → Type 0
Limited o h t Pair (Ok pair) = OnTime o h t × Pair pair
Limited o h t Pair (Err e) = (OnTime o h t → ⊥) × (number e ≡ 2)

abbrev pub StaticTold : OpenFigures → ℕ → Result (ℕ × ℕ) Refusal → Type 0
StaticTold d t r = (o : Opening) (h : List Entry) (b : Book) → Agrees o h (both d b) → Limited o h t (StaticPair o h) r

abbrev pub DynamicTold : List Window → State → ℕ → Result (ℕ × ℕ) Refusal → Type 0
DynamicTold hours w t r = (o : Opening) (h : List Entry) → o.hours ≡ hours → Agrees o h w → Limited o h t (DynamicPair o h t) r

-- whatever opening and history led to the day, it closes as they say
abbrev pub ClosedAs : OpenFigures → ClosedFigures → Type 0
ClosedAs d c = (o : Opening) (h : List Entry) (b : Book) → Agrees o h (both d b) → Closes o h c

-- an accepted open, on the board b: the day d is the one of the promise, with no entry yet, and the promise holds from it over
-- every plan, for every list of calls
pub record Starts (b : Book) (c : ClosedFigures) (t : ℕ) (p : Params) (d : OpenFigures) : Type 0 where
  pub begins : Begins b c t p d
  pub begun : (hours : List Window) → both d b ≡ start (opening_of hours b c t p)
  pub promise : (hours : List Window) (calls : List Call) → Promise (opening_of hours b c t p) calls
