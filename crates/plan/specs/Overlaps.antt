-- What an overlap is: a time that lies in two windows.
use Rattle.std.specs.Prelude.{◌≡◌, ℕ, ◌<◌, true, ◌⊎◌, List, [], ◌∷◌, Decides}
use Rattle.plan.specs.declared.slots.Window.{Window}
use Rattle.plan.specs.Hours.{contains, in_order}
use Rattle.plan.specs.Windows.{overlaps_any}

-- some time lies in both windows
abbrev pub Common : Window → Window → Type 0
Common a b = (t : ℕ) × (contains a t ≡ true) × (contains b t ≡ true)

-- some time lies in the window and in one of the list
abbrev pub CommonAny : Window → List Window → Type 0
CommonAny a [] = ⊥
CommonAny a (b ∷ bs) = Common a b ⊎ CommonAny a bs

-- a window that starts before its end overlaps one of a plan's exactly if some time lies in both
abbrev pub Overlaps : Type 0
Overlaps = (a : Window) (ws : List Window) (from : ℕ) → a.start < a.end → in_order from ws ≡ true → Decides (overlaps_any a ws) (CommonAny a ws)
