-- A list of so many items, with what a function makes of each.
use Rattle.std.proofs.Common.{◌≡◌, ℕ, List, [], ◌∷◌, map, length, get_or, sym, ap, ◌∙◌, arith}
use Rattle.commands.specs.declared.request.Request.TheVariants.{Unknown}
use Rattle.commands.specs.Requests.{Asks}

module _ {X Y : Type 0} (f : X → Y) where
  pub one_of : (xs : List X) {x : X} {p : Y} → length xs ≡ 1 → x ≡ get_or xs 0 x → f x ≡ p → map f xs ≡ p ∷ []
  one_of [] n e h = absurd (omega arith)
  one_of (a ∷ []) n e h = ap (λ y. y ∷ []) (ap f (sym e) ∙ h)
  one_of (a ∷ b ∷ xs) n e h = absurd (omega arith)

  pub two_of : (xs : List X) {x y : X} {p q : Y} → length xs ≡ 2 → x ≡ get_or xs 0 x → y ≡ get_or xs 1 y → f x ≡ p → f y ≡ q → map f xs ≡ p ∷ q ∷ []
  two_of [] n e d h k = absurd (omega arith)
  two_of (a ∷ xs) {p = p} n e d h k = ap (λ z. z ∷ map f xs) (ap f (sym e) ∙ h) ∙ ap {B = List Y} (λ (l : List Y). p ∷ l) (one_of xs (omega arith) d k)

  pub three_of : (xs : List X) {x y z : X} {p q r : Y} → length xs ≡ 3 → x ≡ get_or xs 0 x → y ≡ get_or xs 1 y → z ≡ get_or xs 2 z → f x ≡ p → f y ≡ q → f z ≡ r → map f xs ≡ p ∷ q ∷ r ∷ []
  three_of [] n e d b h k l = absurd (omega arith)
  three_of (a ∷ xs) {p = p} n e d b h k l = ap (λ w. w ∷ map f xs) (ap f (sym e) ∙ h) ∙ ap {B = List Y} (λ (ys : List Y). p ∷ ys) (two_of xs (omega arith) d b k l)

-- no command has another number of words
pub unknown_by_number : (words : List (List ℕ)) → (length words ≡ 1 → ⊥) → (length words ≡ 2 → ⊥) → (length words ≡ 3 → ⊥) → Asks words Unknown
unknown_by_number words one two three = (λ e. one (ap length e), λ script e. two (ap length e), λ feed e. two (ap length e), λ script feed e. three (ap length e))
