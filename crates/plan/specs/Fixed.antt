-- The hours of the fixed plan: one table, and the windows that a trading day has by it.
use Rattle.std.specs.Prelude.{ℕ, zero, suc, ◌+◌, ◌-◌, ◌*◌, Bool, true, false, cond, not, ◌&&◌, List, [], ◌∷◌, Some, None, Ok, Err, Option, Result, ◌==◌, nat_le, nat_lt, ok_or}
use Rattle.std.specs.List.{find}
use Rattle.entry.specs.declared.refusals.Refusal.{Refusal}
use Rattle.entry.specs.declared.refusals.Refusal.TheVariants.{OutOfRange}
use Rattle.plan.specs.declared.slots.Session.{Session}
use Rattle.plan.specs.declared.slots.Session.TheVariants.{Morning, Main, Evening, Weekend}
use Rattle.plan.specs.declared.slots.Slot.{Slot}
use Rattle.plan.specs.declared.slots.Slot.TheVariants.{NoSession, Free, Bounded}
use Rattle.plan.specs.declared.slots.Window.{Window}
use Rattle.plan.specs.declared.fixed.Group.{Group}
use Rattle.plan.specs.declared.fixed.Group.TheVariants.{Quoted, Unquoted}
use Rattle.plan.specs.declared.fixed.Row.{Row}
use Rattle.plan.specs.declared.fixed.FixedPlan.{FixedPlan}

-- a time of the clock in milliseconds
abbrev pub clock : ℕ → ℕ → ℕ
clock hours minutes = (hours * 60 + minutes) * 60000

-- the length of a calendar day
abbrev pub day : ℕ
day = clock 24 0

-- K for quoted and for unquoted securities, none where the session is free
abbrev pub row : Bool → ℕ → ℕ → Session → Option ℕ → Option ℕ → Row
row last start end session quoted unquoted =
    record { last = last; start = start; end = end; session = session; quoted = quoted; unquoted = unquoted }

abbrev pub table : List Row
table =
    row false (clock 10 0) (clock 23 50) Weekend (Some 30) (Some 30)
    ∷ row true (clock 7 0) (clock 10 0) Morning (Some 100) (Some 100)
    ∷ row true (clock 10 0) (clock 19 0) Main None (Some 220)
    ∷ row true (clock 19 0) (clock 23 50) Evening (Some 100) (Some 100)
    ∷ []

-- whether a row is one of the last calendar day, or of an earlier one
abbrev pub of_day : Bool → Row → Bool
of_day last r = cond r.last last (not last)

abbrev pub slot_of : Session → Option ℕ → Slot
slot_of session None = Free session
slot_of session (Some k) = Bounded session k

-- a row's K for a group
abbrev pub k_of : Group → Row → Option ℕ
k_of Quoted r = r.quoted
k_of Unquoted r = r.unquoted

abbrev pub row_slot : Group → Row → Slot
row_slot group r = slot_of r.session (k_of group r)

-- the window of a row on calendar day d, counted from 0
abbrev pub window_on : ℕ → Group → Row → Window
window_on d group r = record { start = d * day + r.start; end = d * day + r.end; slot = row_slot group r }

-- the windows of calendar day d, before those of the days after it
abbrev pub on_day : Bool → ℕ → Group → List Row → List Window → List Window
on_day last d group [] later = later
on_day last d group (r ∷ rs) later =
    cond (of_day last r) (window_on d group r ∷ on_day last d group rs later) (on_day last d group rs later)

-- the windows from calendar day d on, with so many days before the last
abbrev pub from_day : ℕ → ℕ → Group → List Window
from_day d zero group = on_day true d group table []
from_day d (suc n) group = on_day false d group table (from_day (suc d) n group)

abbrev pub fixed_hours : FixedPlan → List Window
fixed_hours p = from_day 0 p.earlier p.group

-- the row that holds at a time of a calendar day, and the slot there
abbrev pub row_holds : Bool → ℕ → Row → Bool
row_holds last t r = of_day last r && (nat_le r.start t && nat_lt t r.end)

abbrev pub slot_there : Group → Option Row → Slot
slot_there group None = NoSession
slot_there group (Some r) = row_slot group r

abbrev pub rows_at : Bool → ℕ → Group → List Row → Slot
rows_at last t group rs = slot_there group (find (row_holds last t) rs)

-- the group with a code: 0 for quoted securities, 1 for unquoted ones
abbrev pub group_from : ℕ → Option Group
group_from n = cond (n == 0) (Some Quoted) (cond (n == 1) (Some Unquoted) None)

abbrev pub group_answer : ℕ → Result Group Refusal
group_answer n = ok_or (group_from n) OutOfRange

-- a trading day has 1 to 10 calendar days
abbrev pub plan_for : ℕ → Option Group → Result FixedPlan Refusal
plan_for days None = Err OutOfRange
plan_for days (Some group) =
    cond (nat_le 1 days && nat_le days 10) (Ok (record { earlier = days - 1; group = group })) (Err OutOfRange)

-- the plan of so many calendar days for the group with a code
abbrev pub fixed_answer : ℕ → ℕ → Result FixedPlan Refusal
fixed_answer days group = plan_for days (group_from group)
