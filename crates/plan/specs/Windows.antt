-- Announced windows in the order of their starts: the last one by a time, and overlaps.
use Rattle.std.specs.Prelude.{ℕ, Bool, false, cond, ◌&&◌, ◌||◌, List, [], ◌∷◌, Some, None, Option, nat_le, nat_lt}
use Rattle.plan.specs.declared.slots.Window.{Window}

-- the most windows of an announced plan, the latest end of one, and the greatest K
abbrev pub most_windows : ℕ
most_windows = 32

abbrev pub latest_end : ℕ
latest_end = 864000000

abbrev pub greatest_k : ℕ
greatest_k = 1000

-- the key of a window, and the order of keys
abbrev pub start_of : Window → ℕ
start_of w = w.start

abbrev pub earlier : ℕ → ℕ → Bool
earlier a b = nat_lt a b

-- the last of the windows, in order, that starts at or before a time, and otherwise the one before them
abbrev pub last_from : Option Window → ℕ → List Window → Option Window
last_from prior t [] = prior
last_from prior t (w ∷ ws) = cond (nat_le w.start t) (last_from (Some w) t ws) prior

abbrev pub last_by : ℕ → List Window → Option Window
last_by t ws = last_from None t ws

-- whether some time lies in both windows
abbrev pub overlap : Window → Window → Bool
overlap a b = nat_lt a.start b.end && nat_lt b.start a.end

abbrev pub overlaps_any : Window → List Window → Bool
overlaps_any w [] = false
overlaps_any w (x ∷ xs) = overlap w x || overlaps_any w xs
