-- The order of the prices of a side, best first, is a total order.
use Rattle.std.proofs.Common.{◌≡◌, ℕ, true, false, arith}
use Rattle.std.proofs.lemmas.Bool.Decides.{nat_tests}
use Rattle.entry.specs.declared.Side.{Side}
use Rattle.entry.specs.declared.Side.TheVariants.{Buy, Sell}
use Rattle.entry.specs.Sides.{better}

pub better_irreflexive : (s : Side) (p : ℕ) → better s p p ≡ false
better_irreflexive Buy p = grind (arith, nat_tests)
better_irreflexive Sell p = grind (arith, nat_tests)

pub better_transitive : (s : Side) (p q r : ℕ) → better s p q ≡ true → better s q r ≡ true → better s p r ≡ true
better_transitive Buy p q r a b = grind (arith, nat_tests)
better_transitive Sell p q r a b = grind (arith, nat_tests)

pub better_total : (s : Side) (p q : ℕ) → better s p q ≡ false → better s q p ≡ false → p ≡ q
better_total Buy p q a b = grind (arith, nat_tests)
better_total Sell p q a b = grind (arith, nat_tests)
