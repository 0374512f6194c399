-- Windows of time, and the slot that they give to each time.
use Rattle.std.specs.Prelude.{◌≡◌, ℕ, Bool, true, false, cond, ◌&&◌, List, [], ◌∷◌, Some, nat_le, nat_lt}
use Rattle.std.specs.List.{slice_get}
use Rattle.plan.specs.declared.slots.Slot.{Slot}
use Rattle.plan.specs.declared.slots.Slot.TheVariants.{NoSession}
use Rattle.plan.specs.declared.slots.Window.{Window}

-- whether a window contains a time
abbrev pub contains : Window → ℕ → Bool
contains w t = nat_le w.start t && nat_lt t w.end

-- the slot of the window that contains the time
abbrev pub slot_at : List Window → ℕ → Slot
slot_at [] t = NoSession
slot_at (w ∷ ws) t = cond (contains w t) w.slot (slot_at ws t)

-- each window starts at or after the time given or the end of the window before it, and ends after its start
abbrev pub in_order : ℕ → List Window → Bool
in_order from [] = true
in_order from (w ∷ ws) = nat_le from w.start && (nat_lt w.start w.end && in_order w.end ws)

-- any window that contains a time gives the slot there, and where none does there is no session
pub record Told (ws : List Window) : Type 0 where
  pub there : (t i : ℕ) (w : Window) → slice_get ws i ≡ Some w → contains w t ≡ true → slot_at ws t ≡ w.slot
  pub nowhere : (t : ℕ) → ((i : ℕ) (w : Window) → slice_get ws i ≡ Some w → contains w t ≡ false) → slot_at ws t ≡ NoSession
