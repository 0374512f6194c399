-- The order of prices on a side.
use Rattle.std.proofs.Common.{◌≡◌, ℕ, true, false, ◌⊎◌, Decides, refl, inl, inr, arith}
use Rattle.std.proofs.lemmas.Bool.Decides.{Decides-ltb}
use Rattle.std.proofs.lemmas.Bool.{cases_order}
use Rattle.entry.specs.declared.Side.{Side}
use Rattle.entry.specs.declared.Side.TheVariants.{Buy, Sell}
use Rattle.board.specs.Book.{better}
use Rattle.entry.specs.Sides.{other_side}
use Rattle.rules.specs.History.{same, Better}

pub better_is : (s : Side) (x y : ℕ) → Decides (better s x y) (Better s x y)
better_is Buy x y = Decides-ltb y x
better_is Sell x y = Decides-ltb x y

pub better_trans : (s : Side) (x y z : ℕ) → Better s x y → Better s y z → Better s x z
better_trans Buy x y z p q = omega arith
better_trans Sell x y z p q = omega arith

pub better_not_self : (s : Side) (x : ℕ) → Better s x x → ⊥
better_not_self Buy x p = omega arith
better_not_self Sell x p = omega arith

pub better_differs : (s : Side) (x y : ℕ) → Better s x y → x ≡ y → ⊥
better_differs Buy x y p e = omega arith
better_differs Sell x y p e = omega arith

-- of two prices one is better, unless they are equal
pub better_or : (s : Side) (x y : ℕ) → (x ≡ y) ⊎ (Better s x y ⊎ Better s y x)
better_or Buy x y = elim (cases_order x y) [ inl e ↦ inl e | inr o ↦ elim o [ inl l ↦ inr (inr l) | inr g ↦ inr (inl g) ] ]
better_or Sell x y = cases_order x y

-- two sides are the same, or the one is the other's other
pub side_or : (s s' : Side) → ((s ≡ s') × (same s s' ≡ true)) ⊎ ((s' ≡ other_side s) × (same s s' ≡ false))
side_or Buy Buy = inl (refl, refl)
side_or Buy Sell = inr (refl, refl)
side_or Sell Buy = inr (refl, refl)
side_or Sell Sell = inl (refl, refl)

pub same_self : (s : Side) → same s s ≡ true
same_self Buy = refl
same_self Sell = refl

pub same-other : (s : Side) → same s (other_side s) ≡ false
same-other Buy = refl
same-other Sell = refl
