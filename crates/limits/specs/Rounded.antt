-- The limits as pairs, lower and upper, rounded inward. A subtraction stops at 0.
use Rattle.std.specs.Prelude.{ℕ, ◌+◌, ◌-◌, ◌*◌, ◌/◌, min, max, cond, ◌&&◌, Some, None, Option, ◌==◌, nat_lt}
use Rattle.entry.specs.declared.Params.{Params}
use Rattle.limits.specs.declared.BoundedWindow.{BoundedWindow}

abbrev pub static_limits : Params → ℕ × ℕ
static_limits p = (min (p.sp - 2 * p.l) ((p.sp + 4) / 5), max (p.sp + 2 * p.l) (5 * p.sp))

-- the radius, rounded down
abbrev pub radius : Params → ℕ
radius p = min (15 * p.sp) (10 * (p.ur - p.lr)) / 100

-- the K for a bound in whose direction so many days are left
abbrev pub tightened : ℕ → ℕ → ℕ → ℕ
tightened session left k = cond (session == 2 && nat_lt 0 left) (min k 100) k

-- so many thousandths of a price, rounded down
abbrev pub thousandths : ℕ → ℕ → ℕ
thousandths k price = k * price / 1000

abbrev pub bounds_of : BoundedWindow → ℕ × ℕ
bounds_of w =
    (w.lp - thousandths (tightened w.session w.down w.k) w.lp, w.lp + thousandths (tightened w.session w.up w.k) w.lp)

abbrev pub dynamic_limits : Params → ℕ → Option BoundedWindow → ℕ × ℕ
dynamic_limits p q None = (q - radius p, q + radius p)
dynamic_limits p q (Some w) = (max (q - radius p) (bounds_of w).0, min (q + radius p) (bounds_of w).1)
