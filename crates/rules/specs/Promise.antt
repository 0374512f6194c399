-- The promise: that every day and board is, after every list of entries, what its history says.
use Rattle.std.specs.Prelude.{◌≡◌, ℕ, ◌-◌, ◌<◌, ◌≤◌, Bool, true, false, cond, ◌⊎◌, List, [], ◌∷◌, Some, None, Decides, ◌==◌}
use Rattle.entry.specs.declared.Side.{Side}
use Rattle.entry.specs.declared.Side.TheVariants.{Buy, Sell}
use Rattle.entry.specs.declared.Params.{Params}
use Rattle.entry.specs.declared.Entry.{Entry}
use Rattle.board.specs.Book.{Book, empty_book, levels_of, level_at}
use Rattle.board.specs.Sound.{Sorted}
use Rattle.plan.specs.declared.slots.Session.TheVariants.{Morning, Main, Evening, Weekend}
use Rattle.plan.specs.declared.slots.Window.{Window}
use Rattle.plan.specs.Hours.{slot_at}
use Rattle.limits.specs.Exact.{Least, Greatest, FromStaticLower, ToStaticUpper, FromDynamicLower, ToDynamicUpper}
use Rattle.rules.specs.declared.figures.OpenFigures.{OpenFigures}
use Rattle.rules.specs.declared.figures.ClosedFigures.{ClosedFigures}
use Rattle.rules.specs.declared.figures.References.{References}
use Rattle.rules.specs.declared.figures.TrailLine.{TrailLine}
use Rattle.rules.specs.Checks.{State, Answer, both, number_of}
use Rattle.rules.specs.Runs.{Call, lines, final, all_entries, after_calls}
use Rattle.rules.specs.Days.{opened}
use Rattle.rules.specs.History.{Opening, at, posts, leaves, level, Uncrossed, Forerun, Quoted, QuotedAt, latest, params, reference, Marked, above, below, bounds, Within, AreParams, Check, Accepted, Table}

-- the times never fall, and none is below the opening's
abbrev pub Timely : Opening → List Entry → Type 0
Timely o [] = Unit {0}
Timely o (e ∷ h) = (latest o h ≤ at e) × Timely o h

-- each accepted order and trade lay within every limit set for its kind, mode and side, at its own time, after the entries before it
abbrev pub AllWithin : Opening → List Entry → Type 0
AllWithin o [] = Unit {0}
AllWithin o (e ∷ h) = Within o h e × AllWithin o h

abbrev pub references : List Entry → References
references h = record { morning = reference h Morning; main = reference h Main; evening = reference h Evening; weekend = reference h Weekend }

-- every figure of the day and of the board is what the history h of a day opened by o says
pub record Agrees (o : Opening) (h : List Entry) (w : State) : Type 0 where
  -- the board is the one that the day was opened on
  pub low : w.book.low ≡ o.low
  pub high : w.book.high ≡ o.high
  pub room : w.book.room ≡ o.room
  -- each side and price holds the posts minus the leaves, with the time since when it stands, best first
  pub levels : (s : Side) (x : ℕ) → level_at x (levels_of w.book s) ≡ level h s x
  pub enough : (s : Side) (x : ℕ) → leaves h s x ≤ posts h s x
  pub sorted : (s : Side) → Sorted s (levels_of w.book s)
  pub uncrossed : Uncrossed h
  -- the day's figures
  pub time : w.day.time ≡ latest o h
  pub timely : Timely o h
  pub quotation : Quoted o h w.day.quotation
  pub no_other : (q : ℕ) → Quoted o h q → q ≡ w.day.quotation
  pub params_are : w.day.params ≡ params o h
  pub params_sound : AreParams (params o h)
  pub references_are : w.day.references ≡ references h
  pub upward : Decides w.day.marks.upward (Marked above o h)
  pub downward : Decides w.day.marks.downward (Marked below o h)
  pub days : w.day.days ≡ o.before.days
  pub buy_forerunner : Forerun h Buy w.day.forerunners.buy
  pub sell_forerunner : Forerun h Sell w.day.forerunners.sell
  -- no limit was ever passed
  pub within : AllWithin o h

-- the entry e, sent after h to the day and board w, is answered with n and leaves w'
pub record Told (o : Opening) (h : List Entry) (e : Entry) (n : ℕ) (w w' : State) : Type 0 where
  pub table : Table o h e n
  -- no other answer fits the table
  pub no_other : (k : ℕ) → Table o h e k → k ≡ n
  pub accepted : n ≡ 0 → Within o h e × Agrees o (e ∷ h) w'
  pub refused : 0 < n → w' ≡ w

-- whatever opening and history led to the day and the board w: what an entry is answered, and where it leads
abbrev pub Kept : List Window → State → Entry → Answer → State → Type 0
Kept hours w e r w' = (o : Opening) (h : List Entry) → o.hours ≡ hours → Agrees o h w → Told o h e (number_of r) w w'

-- the lines answer the entries, one for one, after the accepted entries h: by the table, with the quotation after an accepted entry
abbrev pub Answered : Opening → List Entry → List Entry → List TrailLine → Type 0
Answered o h [] [] = Unit {0}
Answered o h [] (l ∷ ls) = ⊥
Answered o h (e ∷ es) [] = ⊥
Answered o h (e ∷ es) (l ∷ ls) =
    Table o h e l.answer
    × (((l.answer ≡ 0) × Quoted o (e ∷ h) l.quotation × Answered o (e ∷ h) es ls)
    ⊎ ((0 < l.answer) × (l.quotation ≡ 0) × Answered o h es ls))

-- the accepted entries, newest first, after those of h
abbrev pub joined : ℕ → Entry → List Entry → List Entry
joined n e h = cond (n == 0) (e ∷ h) h

abbrev pub accepted : List Entry → List Entry → List TrailLine → List Entry
accepted h [] ls = h
accepted h (e ∷ es) [] = h
accepted h (e ∷ es) (l ∷ ls) = accepted (joined l.answer e h) es ls

-- the same of a whole list of entries with its trail lines
abbrev pub KeptAll : List Window → State → List Entry → List TrailLine → State → Type 0
KeptAll hours w es ls w' =
    (o : Opening) (h : List Entry) → o.hours ≡ hours → Agrees o h w → Answered o h es ls × Agrees o (accepted h es ls) w'

-- the items that a mask keeps; past its end all are kept
abbrev pub struck : {A : Type 0} → List Bool → List A → List A
struck [] xs = xs
struck (k ∷ ks) [] = []
struck (true ∷ ks) (x ∷ xs) = x ∷ struck ks xs
struck (false ∷ ks) (x ∷ xs) = struck ks xs

-- the mask strikes refused entries only
abbrev pub OnlyRefused : List Bool → List TrailLine → Type 0
OnlyRefused [] ls = Unit {0}
OnlyRefused (k ∷ ks) [] = Unit {0}
OnlyRefused (true ∷ ks) (l ∷ ls) = OnlyRefused ks ls
OnlyRefused (false ∷ ks) (l ∷ ls) = (0 < l.answer) × OnlyRefused ks ls

-- ── opening, closing, limits ──

-- n is what open answers on a board that is empty or not
abbrev pub OpenTable : Type 0 → ℕ → Params → ℕ → Type 0
OpenTable Empty t p = Check (AreParams p) 1 (Check (t < 864000000) 2 (Check Empty 11 Accepted))

-- no level stands on the board
abbrev pub NoLevel : Book → Type 0
NoLevel b = (s : Side) (x : ℕ) → level_at x (levels_of b s) ≡ None

-- an opening with a plan's windows on a board
abbrev pub opening_of : List Window → Book → ClosedFigures → ℕ → Params → Opening
opening_of hours b c t p = record { hours = hours; low = b.low; high = b.high; room = b.room; before = c; time = t; params = p }

-- an opened day has the history with no entry, whatever the plan
abbrev pub Begins : Book → ClosedFigures → ℕ → Params → OpenFigures → Type 0
Begins b c t p d = (hours : List Window) → Agrees (opening_of hours b c t p) [] (both d b)

-- c is the closed day after h: its quotation, and 2 days left in a direction that was marked, else one less than before
pub record Closes (o : Opening) (h : List Entry) (c : ClosedFigures) : Type 0 where
  pub quoted : (q : ℕ) × Quoted o h q × (c.quotation ≡ Some q)
  pub marked_up : Marked above o h → c.days.upward ≡ 2
  pub unmarked_up : (Marked above o h → ⊥) → c.days.upward ≡ o.before.days.upward - 1
  pub marked_down : Marked below o h → c.days.downward ≡ 2
  pub unmarked_down : (Marked below o h → ⊥) → c.days.downward ≡ o.before.days.downward - 1

-- the static limits after h: the least and the greatest price within them
abbrev pub StaticPair : Opening → List Entry → ℕ × ℕ → Type 0
StaticPair o h pair = Least (FromStaticLower (params o h)) pair.0 × Greatest (ToStaticUpper (params o h)) pair.1

-- the dynamic limits at t after h
abbrev pub DynamicPair : Opening → List Entry → ℕ → ℕ × ℕ → Type 0
DynamicPair o h t pair =
    (q : ℕ) × QuotedAt o h t q
    × Least (FromDynamicLower (params o h) q (bounds o h (slot_at o.hours t))) pair.0
    × Greatest (ToDynamicUpper (params o h) q (bounds o h (slot_at o.hours t))) pair.1

-- ── the whole ──

-- an opening that is not refused
abbrev pub Opens : Opening → Type 0
Opens o = AreParams o.params × (o.time < 864000000)

-- the day as it is opened, on an empty board
abbrev pub start : Opening → State
start o = both (opened o.before o.time o.params) (empty_book o.low o.high o.room)

-- what holds after every list of calls, from every opening that is not refused, over every plan and every board: so it holds
-- after each call of the list too
pub record Promise (o : Opening) (cs : List Call) : Type 0 where
  -- each entry is answered as the table says, after the accepted entries before it, and the line has the quotation on its ground
  pub answered : Answered o [] (all_entries cs) (lines o.hours (start o) (all_entries cs))
  -- one answer only fits the table, after any history that a day and a board have
  pub one_answer : (h : List Entry) (e : Entry) (m n : ℕ) → Table o h e m → Table o h e n → m ≡ n
  -- every figure of the day and of the board is what the accepted entries say, and no limit was passed
  pub agrees : Agrees o (accepted [] (all_entries cs) (lines o.hours (start o) (all_entries cs))) (after_calls o.hours (start o) cs)
  -- with any refused entries struck out, the others are answered alike, and the day and the board end alike
  pub struck_lines :
      (ks : List Bool) → OnlyRefused ks (lines o.hours (start o) (all_entries cs))
      → lines o.hours (start o) (struck ks (all_entries cs)) ≡ struck ks (lines o.hours (start o) (all_entries cs))
  pub struck_end :
      (ks : List Bool) → OnlyRefused ks (lines o.hours (start o) (all_entries cs))
      → final o.hours (start o) (struck ks (all_entries cs)) ≡ after_calls o.hours (start o) cs

abbrev pub Promised : Type 0
Promised = (o : Opening) (cs : List Call) → Opens o → Promise o cs
