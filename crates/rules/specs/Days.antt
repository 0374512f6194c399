-- Opening and closing a day.
use Rattle.std.specs.Prelude.{ℕ, ◌-◌, Bool, true, false, Some, None, nat_le}
use Rattle.entry.specs.declared.Params.{Params}
use Rattle.entry.specs.declared.refusals.Refusal.TheVariants as why
use Rattle.board.specs.Book.{Book, is_empty}
use Rattle.rules.specs.declared.figures.OpenFigures.{OpenFigures}
use Rattle.rules.specs.declared.figures.ClosedFigures.{ClosedFigures}
use Rattle.rules.specs.Readings.{or_else}
use Rattle.rules.specs.Checks.{Answer, must, and_then, are_params, last_time}

-- a newly listed security: no quotation, no tightened days
abbrev pub newly_listed : ClosedFigures
newly_listed = record { quotation = None; days = record { upward = 0; downward = 0 } }

-- parameters in range, a time that is not too late, and a board on which nothing stands
abbrev pub open_answer : Book → ℕ → Params → Answer
open_answer b t p =
    and_then (must (are_params p) why.OutOfRange) (and_then (must (nat_le t last_time) why.BadTime) (must (is_empty b) why.BoardNotEmpty))

-- the day as it is opened
abbrev pub opened : ClosedFigures → ℕ → Params → OpenFigures
opened c t p = record {
  time = t;
  quotation = or_else c.quotation p.sp;
  params = p;
  references = record { morning = None; main = None; evening = None; weekend = None };
  marks = record { upward = false; downward = false };
  days = c.days;
  forerunners = record { buy = None; sell = None };
}

-- the days left after a close: 2 where the day is marked, else one less
abbrev pub days_after : Bool → ℕ → ℕ
days_after true n = 2
days_after false n = n - 1

abbrev pub closed : OpenFigures → ClosedFigures
closed d = record {
  quotation = Some d.quotation;
  days = record {
    upward = days_after d.marks.upward d.days.upward;
    downward = days_after d.marks.downward d.days.downward;
  };
}
