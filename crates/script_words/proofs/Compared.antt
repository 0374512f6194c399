-- What a comparison of words says.
use Rattle.std.proofs.Common.{◌≡◌, Bool, true, false, cond, Some, None, ap, ◌∙◌}
use Rattle.std.proofs.lemmas.Bool.{both_ways, false_from_ne_true}
use Rattle.std.proofs.lemmas.Slice.Eq.{bytes_eq-Decides}
use Rattle.std.specs.Str.{bytes_eq}
use Rattle.script.specs.Spelling.{Bytes}
use Rattle.script_words.specs.Reading.{choice}

-- what a test that failed decides does not hold
pub fails : {P : Type 0} (b : Bool) → b ≡ false → (P → b ≡ true) → P → ⊥
fails b e h p = both_ways b e (h p)

pub same : {v w : Bytes} → v ≡ w → bytes_eq v w ≡ true
same {v} {w} e = (bytes_eq-Decides v w).1 e

pub differs : {v w : Bytes} → (v ≡ w → ⊥) → bytes_eq v w ≡ false
differs {v} {w} h = false_from_ne_true _ (λ e. h ((bytes_eq-Decides v w).0 e))

module _ {X : Type 0} (this : Bytes) (x : X) (that : Bytes) (y : X) (w : Bytes) where
  pub is_this : w ≡ this → choice this x that y w ≡ Some x
  is_this e = ap (λ b. cond b (Some x) (cond (bytes_eq w that) (Some y) None)) (same e)

  not-this : (w ≡ this → ⊥) → choice this x that y w ≡ cond (bytes_eq w that) (Some y) None
  not-this h = ap (λ b. cond b (Some x) (cond (bytes_eq w that) (Some y) None)) (differs h)

  pub is_that : (w ≡ this → ⊥) → w ≡ that → choice this x that y w ≡ Some y
  is_that h e = not-this h ∙ ap (λ b. cond b (Some y) None) (same e)

  pub is_neither : (w ≡ this → ⊥) → (w ≡ that → ⊥) → choice this x that y w ≡ None
  is_neither h k = not-this h ∙ ap (λ b. cond b (Some y) None) (differs k)
