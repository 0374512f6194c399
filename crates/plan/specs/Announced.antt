-- What an announced plan holds, and what it answers to a window.
use Rattle.std.specs.Prelude.{ℕ, cond, ◌&&◌, List, length, Some, None, Ok, Err, Option, Result, nat_le, nat_lt}
use Rattle.entry.specs.declared.refusals.Refusal.{Refusal}
use Rattle.entry.specs.declared.refusals.Refusal.TheVariants.{OutOfRange, WindowOverlaps, TooManyWindows}
use Rattle.entry.specs.declared.windows.Announcement.{Announcement}
use Rattle.entry.specs.declared.windows.Bounding.{Bounding}
use Rattle.entry.specs.declared.windows.Bounding.TheVariants.{Free, Bounded}
use Rattle.shelf.specs.Standing.{live, held}
use Rattle.shelf.specs.Order.{placed}
use Rattle.shelf.specs.Calls.{on_ok}
use Rattle.plan.specs.declared.slots.Session.{Session}
use Rattle.plan.specs.declared.slots.Slot.{Slot}
use Rattle.plan.specs.declared.slots.Slot.TheVariants as is
use Rattle.plan.specs.declared.slots.Window.{Window}
use Rattle.plan.specs.declared.announced.AnnouncedPlan.{AnnouncedPlan}
use Rattle.plan.specs.Sessions.{session_of}
use Rattle.plan.specs.Windows.{most_windows, latest_end, greatest_k, start_of, earlier, overlaps_any}

-- the windows of the plan, in the order of their starts
abbrev pub announced_hours : AnnouncedPlan → List Window
announced_hours p = live p.shelf

-- every record handed over
abbrev pub announced_records : AnnouncedPlan → List Window
announced_records p = held p.shelf

abbrev pub slot_by : Bounding → Session → ℕ → Slot
slot_by Free session k = is.Free session
slot_by Bounded session k = is.Bounded session k

-- the window that is asked for, in its session, where the figures are in range
abbrev pub window_in : Announcement → Option Session → Result Window Refusal
window_in a None = Err OutOfRange
window_in a (Some session) =
    cond (nat_le a.k greatest_k && (nat_lt a.start a.end && nat_le a.end latest_end)) (Ok (record { start = a.start; end = a.end; slot = slot_by a.bounding session a.k })) (Err OutOfRange)

-- the window that is asked for, where the session's code and the other figures are in range
abbrev pub window_of : Announcement → Result Window Refusal
window_of a = window_in a (session_of a.session)

-- what is answered to a window in range, and the windows after it
abbrev pub add_answer : Window → List Window → Result (Unit {0}) Refusal
add_answer w ws =
    cond (overlaps_any w ws) (Err WindowOverlaps) (cond (nat_lt (length ws) most_windows) (Ok tt) (Err TooManyWindows))

abbrev pub add_after : Window → List Window → List Window
add_after w ws = on_ok (add_answer w ws) (placed start_of earlier w ws) ws

-- what is answered to any window, and the windows after it: a refusal changes nothing
abbrev pub window_answer : Result Window Refusal → List Window → Result (Unit {0}) Refusal
window_answer (Err refusal) ws = Err refusal
window_answer (Ok w) ws = add_answer w ws

abbrev pub window_after : Result Window Refusal → List Window → List Window
window_after (Err refusal) ws = ws
window_after (Ok w) ws = add_after w ws
