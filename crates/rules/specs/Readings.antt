-- What is read off the figures of a day and a board: LP, the ripe level, the quotation that limits use, the limits.
use Rattle.std.specs.Prelude.{ℕ, ◌-◌, Bool, cond, ◌&&◌, Some, None, Option, nat_le, nat_lt}
use Rattle.entry.specs.declared.Side.{Side}
use Rattle.entry.specs.declared.Side.TheVariants.{Buy, Sell}
use Rattle.entry.specs.Sides.{better, of_side}
use Rattle.board.specs.declared.levels.Level.{Level}
use Rattle.board.specs.Book.{Book, best_of}
use Rattle.plan.specs.declared.slots.Session.{Session}
use Rattle.plan.specs.declared.slots.Session.TheVariants.{Morning, Main, Evening, Weekend}
use Rattle.plan.specs.declared.slots.Slot.{Slot}
use Rattle.plan.specs.declared.slots.Slot.TheVariants.{NoSession, Free, Bounded}
use Rattle.plan.specs.Sessions.{code_of}
use Rattle.limits.specs.declared.BoundedWindow.{BoundedWindow}
use Rattle.limits.specs.Rounded.{static_limits, dynamic_limits}
use Rattle.rules.specs.declared.figures.OpenFigures.{OpenFigures}
use Rattle.rules.specs.declared.figures.References.{References}
use Rattle.rules.specs.declared.figures.Forerunner.{Forerunner}
use Rattle.rules.specs.Figures.{Forerunners}

-- for how long a level must have stood to be ripe, where it has no credit
abbrev pub full_time : ℕ
full_time = 5000

abbrev pub or_else : Option ℕ → ℕ → ℕ
or_else (Some x) y = x
or_else None y = y

abbrev pub reference_of : References → Session → Option ℕ
reference_of r Morning = r.morning
reference_of r Main = r.main
reference_of r Evening = r.evening
reference_of r Weekend = r.weekend

-- LP of a session: its latest reference, else SP
abbrev pub lp_of : OpenFigures → Session → ℕ
lp_of d s = or_else (reference_of d.references s) d.params.sp

abbrev pub forerunner_of : Forerunners → Side → Option Forerunner
forerunner_of f s = of_side f s

-- what a level is credited for its side's forerunner
abbrev pub credit_of : Side → Level → Option Forerunner → ℕ
credit_of s x None = 0
credit_of s x (Some f) = cond (better s f.price x.price && (nat_lt f.since x.since && nat_lt f.life full_time)) f.life 0

-- whether a side's best level betters the quotation and is old enough
abbrev pub is_ripe : OpenFigures → Side → ℕ → Level → Bool
is_ripe d s t x =
    better s x.price d.quotation && nat_le (full_time - credit_of s x (forerunner_of d.forerunners s)) (t - x.since)

-- the price of a side's ripe level, given its best level
abbrev pub ripe_of : OpenFigures → Side → ℕ → Option Level → Option ℕ
ripe_of d s t None = None
ripe_of d s t (Some x) = cond (is_ripe d s t x) (Some x.price) None

-- the ripe level's price at a time, else the day's quotation
abbrev pub quotation_at : OpenFigures → Book → ℕ → ℕ
quotation_at d b t = or_else (ripe_of d Buy t (best_of b Buy)) (or_else (ripe_of d Sell t (best_of b Sell)) d.quotation)

-- the bounded window that the limits read, in a bounded session
abbrev pub window_of : OpenFigures → Slot → Option BoundedWindow
window_of d NoSession = None
window_of d (Free s) = None
window_of d (Bounded s k) =
    Some (record { session = code_of s; k = k; lp = lp_of d s; up = d.days.upward; down = d.days.downward })

abbrev pub static_of : OpenFigures → ℕ × ℕ
static_of d = static_limits d.params

abbrev pub dynamic_of : OpenFigures → ℕ → Slot → ℕ × ℕ
dynamic_of d q slot = dynamic_limits d.params q (window_of d slot)
