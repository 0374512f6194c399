-- The history alone: since when a level stands, and that best, forerunner and required time are one.
use Rattle.std.proofs.Common.{◌≡◌, ℕ, suc, ◌+◌, ◌-◌, ◌<◌, ◌≤◌, true, false, List, [], ◌∷◌, Some, None, Option, sym, ap, ◌∙◌, inl, inr, arith}
use Rattle.std.proofs.lemmas.Bool.Decides.{nat_tests}
use Rattle.std.proofs.lemmas.Bool.{cases_lt}
use Rattle.entry.specs.declared.Side.{Side}
use Rattle.entry.specs.declared.Entry.{Entry}
use Rattle.rules.specs.declared.figures.Forerunner.{Forerunner}
use Rattle.rules.specs.History.{Opening, at, posted, left, posts, leaves, standing, stands_since, Best, gone, Forerun, Requires, Unbroken, latest}
use Rattle.rules.specs.Promise.{Timely}
use Rattle.rules.proofs.Sides.{better_or}

-- an entry leaves a standing level's time alone
since_kept : (e : Entry) (h : List Entry) (s : Side) (x : ℕ) → 0 < standing h s x → stands_since (e ∷ h) s x ≡ stands_since h s x
since_kept e h s x n = grind (arith, nat_tests)

-- an entry after which an order stands where none stood is its post
since_new : (e : Entry) (h : List Entry) (s : Side) (x : ℕ) → standing h s x ≡ 0 → 0 < standing (e ∷ h) s x → stands_since (e ∷ h) s x ≡ at e
since_new e h s x z n = grind (arith, nat_tests)

-- no level stands since later than the day's time
since-latest : (o : Opening) (h : List Entry) (s : Side) (x : ℕ) → Timely o h → 0 < standing h s x → stands_since h s x ≤ latest o h
since-latest o [] s x k n = omega arith
since-latest o (e ∷ h) s x k n =
    let ih = since-latest o h s x k.1 in
    elim (cases_lt 0 (standing h s x)) [
      | inl m ↦ omega (arith, ih m, since_kept e h s x m, k.0)
      | inr z ↦ omega (arith, since_new e h s x (omega arith) n)
    ]

-- an order stands unbroken for w up to t exactly if one stands, since w before t or longer
pub unbroken_aged : (o : Opening) (h : List Entry) (s : Side) (x w t : ℕ) → Timely o h → Unbroken h s x w t → (0 < standing h s x) × (stands_since h s x + w ≤ t)
unbroken_aged o [] s x w t k u = absurd u
unbroken_aged o (e ∷ h) s x w t k u =
    let ih = unbroken_aged o h s x w t k.1 in (
      u.0,
      elim u.1 [
        | inl le ↦ omega (arith, since-latest o (e ∷ h) s x k u.0)
        | inr b ↦ omega (arith, (ih b).1, since_kept e h s x (ih b).0)
      ],
    )

pub aged_unbroken : (h : List Entry) (s : Side) (x w t : ℕ) → 0 < standing h s x → stands_since h s x + w ≤ t → Unbroken h s x w t
aged_unbroken [] s x w t n a = absurd (omega arith)
aged_unbroken (e ∷ h) s x w t n a =
    let ih = aged_unbroken h s x w t in (
      n,
      elim (cases_lt 0 (standing h s x)) [
        | inl m ↦ inr (ih m (omega (arith, since_kept e h s x m)))
        | inr z ↦ inl (omega (arith, since_new e h s x (omega arith) n))
      ],
    )

-- a side has one best level
pub one-best : (h : List Entry) (s : Side) (x y : ℕ) → Best h s x → Best h s y → x ≡ y
one-best h s x y p q =
    elim (better_or s x y) [
      | inl e ↦ e
      | inr o ↦ elim o [ inl b ↦ absurd (q.1 x p.0 b) | inr b ↦ absurd (p.1 y q.0 b) ]
    ]

-- a side has one forerunner, or none
pub one-forerunner : (h : List Entry) (s : Side) (f g : Option Forerunner) → Forerun h s f → Forerun h s g → f ≡ g
one-forerunner [] s f g p q = p ∙ sym q
one-forerunner (e ∷ h) s f g (inl p) (inl q) =
    let i = one-best h s p.0 q.0 p.1.2 q.1.2 in
    p.2 ∙ (ap (λ (x : ℕ). Some (gone h s x (at e))) i ∙ sym q.2)
one-forerunner (e ∷ h) s f g (inl p) (inr q) = absurd (q.0 p.0 p.1)
one-forerunner (e ∷ h) s f g (inr p) (inl q) = absurd (p.0 q.0 q.1)
one-forerunner (e ∷ h) s f g (inr p) (inr q) = one-forerunner h s f g p.1 q.1

-- a level has one required time
pub one-required : (s : Side) (f : Option Forerunner) (x u w z : ℕ) → Requires s f x u w → Requires s f x u z → w ≡ z
one-required s None x u w z p q = p ∙ sym q
one-required s (Some f) x u w z (inl p) (inl q) = omega (arith, p.1, q.1)
one-required s (Some f) x u w z (inl p) (inr q) = absurd (q.0 p.0)
one-required s (Some f) x u w z (inr p) (inl q) = absurd (p.0 q.0)
one-required s (Some f) x u w z (inr p) (inr q) = p.1 ∙ sym q.1

-- what an entry makes of the orders that stand: one more where it posts, one less where it leaves
pub standing-posted : (e : Entry) (h : List Entry) (s : Side) (x : ℕ) → posted e s x ≡ true → left e s x ≡ false → leaves h s x ≤ posts h s x → standing (e ∷ h) s x ≡ suc (standing h s x)
standing-posted e h s x p l n = grind (arith, nat_tests)

pub standing-left : (e : Entry) (h : List Entry) (s : Side) (x : ℕ) → posted e s x ≡ false → left e s x ≡ true → standing (e ∷ h) s x ≡ standing h s x - 1
standing-left e h s x p l = grind (arith, nat_tests)

pub standing_kept : (e : Entry) (h : List Entry) (s : Side) (x : ℕ) → posted e s x ≡ false → left e s x ≡ false → standing (e ∷ h) s x ≡ standing h s x
standing_kept e h s x p l = grind (arith, nat_tests)
