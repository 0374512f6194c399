-- The limits with no rounding: what it means that a price lies within each of them.
use Rattle.std.specs.Prelude.{◌≡◌, ℕ, ◌+◌, ◌*◌, ◌<◌, ◌≤◌, ◌⊎◌, Some, None, Option}
use Rattle.entry.specs.declared.Params.{Params}
use Rattle.limits.specs.declared.BoundedWindow.{BoundedWindow}

-- n is the least whole number that lies within, and every number from n up does
pub record Least (Within : ℕ → Type 0) (n : ℕ) : Type 0 where
  pub least : (x : ℕ) → Within x → n ≤ x
  pub within : (x : ℕ) → n ≤ x → Within x

-- n is the greatest whole number that lies within, and every number up to n does
pub record Greatest (Within : ℕ → Type 0) (n : ℕ) : Type 0 where
  pub greatest : (x : ℕ) → Within x → x ≤ n
  pub within : (x : ℕ) → x ≤ n → Within x

-- not below SP - 2L, or not below SP / 5
abbrev pub FromStaticLower : Params → ℕ → Type 0
FromStaticLower p x = (p.sp ≤ x + 2 * p.l) ⊎ (p.sp ≤ 5 * x)

-- not above SP + 2L, or not above 5 SP
abbrev pub ToStaticUpper : Params → ℕ → Type 0
ToStaticUpper p x = (x ≤ p.sp + 2 * p.l) ⊎ (x ≤ 5 * p.sp)

-- not below Q - 0.15 SP, and not below Q - 0.1 (UR - LR)
abbrev pub FromRadius : Params → ℕ → ℕ → Type 0
FromRadius p q x = (100 * q ≤ 100 * x + 15 * p.sp) × (10 * q + p.lr ≤ 10 * x + p.ur)

-- not above Q + 0.15 SP, and not above Q + 0.1 (UR - LR)
abbrev pub ToRadius : Params → ℕ → ℕ → Type 0
ToRadius p q x = (100 * x ≤ 100 * q + 15 * p.sp) × (10 * x + p.lr ≤ 10 * q + p.ur)

-- not below LP less K thousandths of it, and in the main session with downward days left not below LP less a tenth of it
abbrev pub FromBound : BoundedWindow → ℕ → Type 0
FromBound w x =
    (1000 * w.lp ≤ 1000 * x + w.k * w.lp) × (w.session ≡ 2 → 0 < w.down → 10 * w.lp ≤ 10 * x + w.lp)

-- not above LP and K thousandths of it, and in the main session with upward days left not above LP and a tenth of it
abbrev pub ToBound : BoundedWindow → ℕ → Type 0
ToBound w x = (1000 * x ≤ (1000 + w.k) * w.lp) × (w.session ≡ 2 → 0 < w.up → 10 * x ≤ 11 * w.lp)

-- no bounds in a free window, and where there is no session
abbrev pub FromDynamicLower : Params → ℕ → Option BoundedWindow → ℕ → Type 0
FromDynamicLower p q None x = FromRadius p q x
FromDynamicLower p q (Some w) x = FromRadius p q x × FromBound w x

abbrev pub ToDynamicUpper : Params → ℕ → Option BoundedWindow → ℕ → Type 0
ToDynamicUpper p q None x = ToRadius p q x
ToDynamicUpper p q (Some w) x = ToRadius p q x × ToBound w x
