-- What an entry is answered: the checks that its kind and mode meet, in their order.
use Rattle.std.specs.Prelude.{ℕ, Bool, true, false, cond, not, ◌&&◌, ◌||◌, List, Some, None, Ok, Err, Option, Result, ◌==◌, nat_le}
use Rattle.entry.specs.declared.Side.{Side}
use Rattle.entry.specs.declared.Side.TheVariants.{Buy, Sell}
use Rattle.entry.specs.declared.Params.{Params}
use Rattle.entry.specs.declared.Entry.{Entry}
use Rattle.entry.specs.declared.Entry.TheVariants.{Clock, Post, Leave, Trade, Parameters, Reference, Ruling}
use Rattle.entry.specs.declared.refusals.Refusal.{Refusal}
use Rattle.entry.specs.declared.refusals.Refusal.TheVariants as why
use Rattle.entry.specs.Refusals.{number}
pub use Rattle.entry.specs.Sides.{other_side}
use Rattle.board.specs.declared.levels.Level.{Level}
use Rattle.board.specs.declared.faults.BoardFault.{BoardFault}
pub use Rattle.board.specs.Faults.{refusal_of}
use Rattle.board.specs.Book.{Book, best_of}
use Rattle.board.specs.Calls.{add_answer, take_answer}
use Rattle.plan.specs.declared.slots.Slot.{Slot}
use Rattle.plan.specs.declared.slots.Slot.TheVariants.{NoSession, Free, Bounded}
use Rattle.plan.specs.declared.slots.Window.{Window}
use Rattle.plan.specs.Hours.{slot_at}
use Rattle.rules.specs.declared.figures.OpenFigures.{OpenFigures}
use Rattle.rules.specs.Readings.{quotation_at, static_of, dynamic_of}

-- an open day and the board that it is traded on
pub record State : Type 0 where
  pub day : OpenFigures
  pub book : Book

abbrev pub both : OpenFigures → Book → State
both d b = record { day = d; book = b }

-- accepted, or refused with a cause
abbrev pub Answer : Type 0
Answer = Result (Unit {0}) Refusal

-- the answer as a number: 0, or the refusal's
abbrev pub number_of : Answer → ℕ
number_of (Ok v) = 0
number_of (Err e) = number e

abbrev pub must : Bool → Refusal → Answer
must true e = Ok tt
must false e = Err e

-- the next check, where the first is passed
abbrev pub and_then : Answer → Answer → Answer
and_then (Ok v) next = next
and_then (Err e) next = Err e

-- the latest time, and the greatest price and quantity
abbrev pub last_time : ℕ
last_time = 863999999

abbrev pub greatest_price : ℕ
greatest_price = 1000000000

abbrev pub greatest_quantity : ℕ
greatest_quantity = 16777215

abbrev pub is_price : ℕ → Bool
is_price p = nat_le 1 p && nat_le p greatest_price

abbrev pub is_quantity : ℕ → Bool
is_quantity n = nat_le 1 n && nat_le n greatest_quantity

abbrev pub are_params : Params → Bool
are_params p = is_price p.sp && (nat_le p.l greatest_price && (nat_le p.ur greatest_price && nat_le p.lr p.ur))

-- whether every code and figure of an entry, its time apart, is in its range
abbrev pub is_in_range : Entry → Bool
is_in_range (Clock t) = true
is_in_range (Post t s m p) = (m == 0 || m == 2) && is_price p
is_in_range (Leave t s p) = is_price p
is_in_range (Trade t m p n) = nat_le m 2 && (is_price p && is_quantity n)
is_in_range (Parameters t p) = are_params p
is_in_range (Reference t s p) = (nat_le 1 s && nat_le s 4) && is_price p
is_in_range (Ruling t p) = is_price p

-- the checks, one by one
abbrev pub on_time : OpenFigures → ℕ → Answer
on_time d t = must (nat_le d.time t && nat_le t last_time) why.BadTime

abbrev pub is_session : Slot → Bool
is_session NoSession = false
is_session (Free s) = true
is_session (Bounded s k) = true

abbrev pub in_session : Slot → Answer
in_session slot = must (is_session slot) why.NoSession

abbrev pub within : ℕ → ℕ × ℕ → Bool
within p lim = nat_le lim.0 p && nat_le p lim.1

abbrev pub in_static : OpenFigures → ℕ → Answer
in_static d p = must (within p (static_of d)) why.OutsideStatic

abbrev pub in_dynamic : OpenFigures → ℕ → ℕ → Slot → Answer
in_dynamic d p q slot = must (within p (dynamic_of d q slot)) why.OutsideDynamic

-- a buy must not exceed the upper limit, and a sell must not go below the lower one
abbrev pub side_within : Side → ℕ → ℕ × ℕ → Bool
side_within Buy p lim = nat_le p lim.1
side_within Sell p lim = nat_le lim.0 p

abbrev pub in_side : OpenFigures → Side → ℕ → ℕ → Slot → Answer
in_side d s p q slot = must (side_within s p (dynamic_of d q slot)) why.OutsideDynamic

-- whether an order meets the best level of the other side
abbrev pub meets : Side → ℕ → Option Level → Bool
meets s p None = false
meets Buy p (Some x) = nat_le x.price p
meets Sell p (Some x) = nat_le p x.price

abbrev pub apart : Book → Side → ℕ → Answer
apart b s p = must (not (meets s p (best_of b (other_side s)))) why.Crosses

-- what a board answers, with its fault as the day's refusal
abbrev pub by_board : Result (Unit {0}) BoardFault → Answer
by_board (Ok v) = Ok v
by_board (Err f) = Err (refusal_of f)

-- the checks of orders and trades in every mode: time, session, static limits
abbrev pub listed : List Window → OpenFigures → ℕ → ℕ → Answer
listed hours d t p = and_then (on_time d t) (and_then (in_session (slot_at hours t)) (in_static d p))

-- the further checks of an order in main trading
abbrev pub main_order : List Window → State → ℕ → Side → ℕ → Answer
main_order hours w t s p =
    and_then (in_side w.day s p (quotation_at w.day w.book t) (slot_at hours t)) (and_then (apart w.book s p) (by_board (add_answer w.book s p)))

-- what is answered to an entry in range
abbrev pub checked : List Window → State → Entry → Answer
checked hours w (Clock t) = on_time w.day t
checked hours w (Post t s m p) = and_then (listed hours w.day t p) (cond (m == 0) (main_order hours w t s p) (Ok tt))
checked hours w (Leave t s p) = and_then (on_time w.day t) (by_board (take_answer w.book s p))
checked hours w (Trade t m p n) =
    and_then (listed hours w.day t p) (cond (m == 2) (Ok tt) (in_dynamic w.day p (quotation_at w.day w.book t) (slot_at hours t)))
checked hours w (Parameters t p) = on_time w.day t
checked hours w (Reference t s p) = on_time w.day t
checked hours w (Ruling t p) = on_time w.day t

-- what is answered to any entry
abbrev pub answer : List Window → State → Entry → Answer
answer hours w e = and_then (must (is_in_range e) why.OutOfRange) (checked hours w e)

-- the limits at a time: the time's check, then the pair
abbrev pub priced : Answer → ℕ × ℕ → Result (ℕ × ℕ) Refusal
priced (Ok v) pair = Ok pair
priced (Err e) pair = Err e

abbrev pub static_answer : OpenFigures → ℕ → Result (ℕ × ℕ) Refusal
static_answer d t = priced (on_time d t) (static_of d)

abbrev pub dynamic_answer : List Window → State → ℕ → Result (ℕ × ℕ) Refusal
dynamic_answer hours w t =
    priced (on_time w.day t) (dynamic_of w.day (quotation_at w.day w.book t) (slot_at hours t))
