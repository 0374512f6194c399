-- The worked examples of the limits.
use Rattle.std.specs.Prelude.{◌≡◌, ℕ, Some, None, Option}
use Rattle.entry.specs.declared.Params.{Params}
use Rattle.limits.specs.declared.BoundedWindow.{BoundedWindow}
use Rattle.limits.specs.Rounded.{static_limits, dynamic_limits}

-- SP and L, where UR and LR are of no matter
abbrev pub swinging : ℕ → ℕ → Params
swinging sp l = record { sp = sp; l = l; ur = 0; lr = 0 }

-- SP, UR and LR, where L is of no matter
abbrev pub risking : ℕ → ℕ → ℕ → Params
risking sp ur lr = record { sp = sp; l = 0; ur = ur; lr = lr }

-- a bounded window of a session, with K and LP, and the days left upward and downward
abbrev pub bounded : ℕ → ℕ → ℕ → ℕ → ℕ → Option BoundedWindow
bounded session k lp up down = Some (record { session = session; k = k; lp = lp; up = up; down = down })

pub record Worked : Type 0 where
  pub fifth : static_limits (swinging 1000 100) ≡ (200, 5000)
  pub rounded : static_limits (swinging 1003 10) ≡ (201, 5015)
  pub cut : static_limits (swinging 1000 2500) ≡ (0, 6000)
  pub free : dynamic_limits (risking 1000 1300 700) 1000 None ≡ (940, 1060)
  pub inward : dynamic_limits (risking 101 200 0) 100 None ≡ (85, 115)
  pub held : dynamic_limits (risking 1000 1300 700) 1070 (bounded 1 100 1000 0 0) ≡ (1010, 1100)
  pub crossed : dynamic_limits (risking 1000 1300 700) 1200 (bounded 1 100 1000 0 0) ≡ (1140, 1100)
  pub upward : dynamic_limits (risking 1000 1300 700) 1080 (bounded 2 220 1000 2 0) ≡ (1020, 1100)
  pub downward : dynamic_limits (risking 1000 1300 700) 920 (bounded 2 220 1000 0 1) ≡ (900, 980)
  pub evening : dynamic_limits (risking 1000 1300 700) 1200 (bounded 3 220 1000 2 2) ≡ (1140, 1220)
