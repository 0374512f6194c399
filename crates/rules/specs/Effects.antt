-- What an accepted entry makes of each figure of the day and of the board.
use Rattle.std.specs.Prelude.{ℕ, ◌-◌, ◌*◌, cond, ◌&&◌, ◌||◌, List, Some, None, Option, ◌==◌, nat_lt}
use Rattle.entry.specs.declared.Side.{Side}
use Rattle.entry.specs.declared.Params.{Params}
use Rattle.entry.specs.Sides.{with_side}
use Rattle.entry.specs.declared.Entry.{Entry}
use Rattle.entry.specs.declared.Entry.TheVariants.{Clock, Post, Leave, Trade, Parameters, Reference, Ruling}
use Rattle.board.specs.declared.levels.Level.{Level}
use Rattle.board.specs.Book.{Book, best_of}
use Rattle.board.specs.Calls.{on_ok, add_after, take_after}
use Rattle.plan.specs.declared.slots.Session.{Session}
use Rattle.plan.specs.declared.slots.Session.TheVariants.{Morning, Main, Evening, Weekend}
use Rattle.plan.specs.declared.slots.Slot.{Slot}
use Rattle.plan.specs.declared.slots.Slot.TheVariants.{NoSession, Free, Bounded}
use Rattle.plan.specs.declared.slots.Window.{Window}
use Rattle.plan.specs.Sessions.{session_of}
use Rattle.plan.specs.Hours.{slot_at}
use Rattle.rules.specs.declared.figures.OpenFigures.{OpenFigures}
use Rattle.rules.specs.declared.figures.References.{References}
use Rattle.rules.specs.declared.figures.Forerunner.{Forerunner}
use Rattle.rules.specs.Figures.{Forerunners, Marks}
use Rattle.rules.specs.Readings.{lp_of, quotation_at}
use Rattle.rules.specs.Checks.{State, answer}

abbrev pub time_of : Entry → ℕ
time_of (Clock t) = t
time_of (Post t s m p) = t
time_of (Leave t s p) = t
time_of (Trade t m p n) = t
time_of (Parameters t p) = t
time_of (Reference t s p) = t
time_of (Ruling t p) = t

-- a main trade and a ruling set the quotation; any other entry moves it to the ripe level, if there is one
abbrev pub quotation_after : State → Entry → ℕ
quotation_after w (Clock t) = quotation_at w.day w.book t
quotation_after w (Post t s m p) = quotation_at w.day w.book t
quotation_after w (Leave t s p) = quotation_at w.day w.book t
quotation_after w (Trade t m p n) = cond (m == 0) p (quotation_at w.day w.book t)
quotation_after w (Parameters t p) = quotation_at w.day w.book t
quotation_after w (Reference t s p) = quotation_at w.day w.book t
quotation_after w (Ruling t p) = p

abbrev pub params_after : Params → Entry → Params
params_after old (Clock t) = old
params_after old (Post t s m p) = old
params_after old (Leave t s p) = old
params_after old (Trade t m p n) = old
params_after old (Parameters t p) = p
params_after old (Reference t s p) = old
params_after old (Ruling t p) = old

-- a reference entered for a session
abbrev pub with_reference : References → Session → ℕ → References
with_reference r Morning p = record { morning = Some p; main = r.main; evening = r.evening; weekend = r.weekend }
with_reference r Main p = record { morning = r.morning; main = Some p; evening = r.evening; weekend = r.weekend }
with_reference r Evening p = record { morning = r.morning; main = r.main; evening = Some p; weekend = r.weekend }
with_reference r Weekend p = record { morning = r.morning; main = r.main; evening = r.evening; weekend = Some p }

-- the same where a session was found for the code, and the references as they were where there is none
abbrev pub entered : References → Option Session → ℕ → References
entered r None p = r
entered r (Some s) p = with_reference r s p

abbrev pub references_after : References → Entry → References
references_after r (Clock t) = r
references_after r (Post t s m p) = r
references_after r (Leave t s p) = r
references_after r (Trade t m p n) = r
references_after r (Parameters t p) = r
references_after r (Reference t s p) = entered r (session_of s) p
references_after r (Ruling t p) = r

-- a trade in a bounded window of the main session marks the day where it is more than 18% off LP
abbrev pub marked : Marks → ℕ → ℕ → Marks
marked m lp p = record { upward = m.upward || nat_lt (118 * lp) (100 * p); downward = m.downward || nat_lt (100 * p) (82 * lp) }

abbrev pub marked_in : OpenFigures → ℕ → Slot → Marks
marked_in d p NoSession = d.marks
marked_in d p (Free s) = d.marks
marked_in d p (Bounded Morning k) = d.marks
marked_in d p (Bounded Main k) = marked d.marks (lp_of d Main) p
marked_in d p (Bounded Evening k) = d.marks
marked_in d p (Bounded Weekend k) = d.marks

abbrev pub marks_after : List Window → OpenFigures → Entry → Marks
marks_after hours d (Clock t) = d.marks
marks_after hours d (Post t s m p) = d.marks
marks_after hours d (Leave t s p) = d.marks
marks_after hours d (Trade t m p n) = cond (m == 0) (marked_in d p (slot_at hours t)) d.marks
marks_after hours d (Parameters t p) = d.marks
marks_after hours d (Reference t s p) = d.marks
marks_after hours d (Ruling t p) = d.marks

abbrev pub with_forerunner : Forerunners → Side → Forerunner → Forerunners
with_forerunner f s x = with_side f s (Some x)

-- the forerunners after an order leaves, given its side's best level: the best level's last order makes it the forerunner
abbrev pub ended : Forerunners → Side → ℕ → ℕ → Option Level → Forerunners
ended f s p t None = f
ended f s p t (Some x) =
    cond (x.price == p && x.orders == 1) (with_forerunner f s (record { price = p; since = x.since; life = t - x.since })) f

abbrev pub forerunners_after : State → Entry → Forerunners
forerunners_after w (Clock t) = w.day.forerunners
forerunners_after w (Post t s m p) = w.day.forerunners
forerunners_after w (Leave t s p) = ended w.day.forerunners s p t (best_of w.book s)
forerunners_after w (Trade t m p n) = w.day.forerunners
forerunners_after w (Parameters t p) = w.day.forerunners
forerunners_after w (Reference t s p) = w.day.forerunners
forerunners_after w (Ruling t p) = w.day.forerunners

-- posts of main trading and leaves alone change the board
abbrev pub book_after : Book → Entry → Book
book_after b (Clock t) = b
book_after b (Post t s m p) = cond (m == 0) (add_after b s p t) b
book_after b (Leave t s p) = take_after b s p
book_after b (Trade t m p n) = b
book_after b (Parameters t p) = b
book_after b (Reference t s p) = b
book_after b (Ruling t p) = b

-- the figures of a day with another time and quotation
abbrev pub figures_at : OpenFigures → ℕ → ℕ → OpenFigures
figures_at d t q = record {
  time = t;
  quotation = q;
  params = d.params;
  references = d.references;
  marks = d.marks;
  days = d.days;
  forerunners = d.forerunners;
}

-- the day and the board after an accepted entry
abbrev pub moved : List Window → State → Entry → State
moved hours w e = record {
  day = record {
    time = time_of e;
    quotation = quotation_after w e;
    params = params_after w.day.params e;
    references = references_after w.day.references e;
    marks = marks_after hours w.day e;
    days = w.day.days;
    forerunners = forerunners_after w e;
  };
  book = book_after w.book e;
}

-- the day and the board after any entry: a refusal changes nothing
abbrev pub after : List Window → State → Entry → State
after hours w e = on_ok (answer hours w e) (moved hours w e) w
