-- No cell holds a level, and no bit is set.
use Rattle.std.proofs.Common.{◌≡◌, ℕ, ◌∷◌, [], replicate, refl, sym, ap₂, subst}
use Rattle.grid.specs.declared.cells.Cell.{Cell}
use Rattle.grid.specs.Ranks.{no_order, Limited, Marks}
use Rattle.grid.proofs.Words.{marks_none}
use Rattle.grid.proofs.Soundness.{limited_none}
use Rattle.grid.proofs.side_cells.SideCells.new.Goals as goal

pub invariant_of-result : goal.invariant_of-result
invariant_of-result c =
    let F : ℕ → ℕ → Cell = λ n t. record { orders = n; since = t } in
    let e : no_order ≡ c.default.result = sym (ap₂ F c.default.ensures.0 c.default.ensures.1) in
    record { size = refl; words = refl; limited = subst (λ (x : Cell). Limited (replicate 256 x)) e (limited_none 256); marked = subst (λ (x : Cell). Marks (0 ∷ 0 ∷ 0 ∷ 0 ∷ []) (replicate 256 x)) e marks_none }
