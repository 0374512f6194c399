-- The dynamic limits, rounded, are those of the exact rule.
use Rattle.std.proofs.Common.{◌≡◌, ℕ, ◌*◌, ◌<◌, ◌≤◌, ◌⊎◌, Some, None, Option, ap, inl, inr, mul-le-mul_right, add-mul, arith}
use Rattle.std.proofs.lemmas.Bool.Decides.{nat_tests}
use Rattle.entry.specs.declared.Params.{Params}
use Rattle.limits.specs.declared.BoundedWindow.{BoundedWindow}
use Rattle.limits.specs.Rounded.{tightened, bounds_of, dynamic_limits}
use Rattle.limits.specs.Exact.{Least, Greatest, FromBound, ToBound, FromDynamicLower, ToDynamicUpper}

-- the tightened K is K, or 100 where days are left in the main session, whichever is smaller
tightened_is : (session left k : ℕ) →
    (tightened session left k ≤ k)
    × (session ≡ 2 → 0 < left → tightened session left k ≤ 100)
    × ((tightened session left k ≡ k) ⊎ ((tightened session left k ≡ 100) × (session ≡ 2) × (0 < left)))
tightened_is session left k = grind (arith, nat_tests)

-- the same of its product with a price
product : (session left k lp : ℕ) →
    (tightened session left k * lp ≤ k * lp)
    × (session ≡ 2 → 0 < left → tightened session left k * lp ≤ 100 * lp)
    × ((tightened session left k * lp ≡ k * lp) ⊎ ((tightened session left k * lp ≡ 100 * lp) × (session ≡ 2) × (0 < left)))
product session left k lp =
    let is = tightened_is session left k in (
      mul-le-mul_right lp is.0,
      (λ s l. mul-le-mul_right lp (is.1 s l)),
      elim is.2 [ inl e ↦ inl (ap (λ n. n * lp) e) | inr e ↦ inr (ap (λ n. n * lp) e.0, e.1, e.2) ],
    )

pub lower_bound : (w : BoundedWindow) → Least (FromBound w) (bounds_of w).0
lower_bound w =
    let is = product w.session w.down w.k w.lp in
    record {
      least = λ x h. elim is.2 [ inl e ↦ omega (arith, h.0) | inr e ↦ omega (arith, h.1 e.1 e.2) ];
      within = λ x h. (omega (arith, is.0), λ s l. omega (arith, is.1 s l));
    }

pub upper_bound : (w : BoundedWindow) → Greatest (ToBound w) (bounds_of w).1
upper_bound w =
    let is = product w.session w.up w.k w.lp in
    let sum = add-mul 1000 w.k w.lp in
    record {
      greatest = λ x h. elim is.2 [ inl e ↦ omega (arith, h.0) | inr e ↦ omega (arith, h.1 e.1 e.2) ];
      within = λ x h. (omega (arith, is.0), λ s l. omega (arith, is.1 s l));
    }

-- the limits are the exact rule's
pub lower_exact : (p : Params) (q : ℕ) (bounded : Option BoundedWindow) (n : ℕ) → n ≡ (dynamic_limits p q bounded).0 → p.lr ≤ p.ur →
    Least (FromDynamicLower p q bounded) n
lower_exact p q None n e h = record { least = λ x w. omega arith; within = λ x w. (omega arith, omega arith) }
lower_exact p q (Some b) n e h =
    let bound = lower_bound b in
    record {
      least = λ x w. omega (arith, bound.least x w.1);
      within = λ x w. ((omega arith, omega arith), bound.within x (omega arith));
    }

pub upper_exact : (p : Params) (q : ℕ) (bounded : Option BoundedWindow) (n : ℕ) → n ≡ (dynamic_limits p q bounded).1 → p.lr ≤ p.ur →
    Greatest (ToDynamicUpper p q bounded) n
upper_exact p q None n e h = record { greatest = λ x w. omega arith; within = λ x w. (omega arith, omega arith) }
upper_exact p q (Some b) n e h =
    let bound = upper_bound b in
    record {
      greatest = λ x w. omega (arith, bound.greatest x w.1);
      within = λ x w. ((omega arith, omega arith), bound.within x (omega arith));
    }
