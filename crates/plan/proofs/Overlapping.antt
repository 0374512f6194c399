-- Two windows overlap exactly if some time lies in both: the later of their starts does.
use Rattle.std.proofs.Common.{◌≡◌, ℕ, ◌<◌, ◌≤◌, max, true, [], ◌∷◌, Decides, arith}
use Rattle.std.proofs.lemmas.Bool.Decides.{Decides-or, nat_tests}
use Rattle.std.proofs.lemmas.Bool.{false≢true}
use Rattle.plan.specs.declared.slots.Window.{Window}
use Rattle.plan.specs.Hours.{contains}
use Rattle.plan.specs.Windows.{overlap}
use Rattle.plan.specs.Overlaps.{Common, Overlaps}
use Rattle.plan.proofs.Order.{order_parts, inside}

holds : (w : Window) (t : ℕ) → w.start ≤ t → t < w.end → contains w t ≡ true
holds w t p q = grind (arith, nat_tests)

crossed : (a b : Window) → a.start < b.end → b.start < a.end → overlap a b ≡ true
crossed a b p q = grind (arith, nat_tests)

one : (a b : Window) → a.start < a.end → b.start < b.end → Decides (overlap a b) (Common a b)
one a b p q = (
  (λ e. (max a.start b.start, grind (arith, nat_tests), grind (arith, nat_tests))),
  λ c.
      let x = inside a c.0 c.1 in
      let y = inside b c.0 c.2 in
      grind (arith, nat_tests),
)

pub overlaps : Overlaps
overlaps a [] from p o = ((λ e. absurd (false≢true e)), λ c. absurd c)
overlaps a (b ∷ bs) from p o =
    let k = order_parts from b bs o in
    Decides-or _ _ (one a b p k.1) (overlaps a bs b.end p k.2)
