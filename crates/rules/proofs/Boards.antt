-- What an order more or less leaves at each price, and that it keeps the levels in order.
use Rattle.std.proofs.Common.{◌≡◌, ℕ, true, false, eqb, List, [], ◌∷◌, Some, None, Option, sym, refl, ap, ◌∙◌, inl, inr, arith}
use Rattle.std.proofs.lemmas.Bool.Decides.{nat_tests}
use Rattle.std.proofs.lemmas.Bool.{eqb-true, eqb-false, eq-eqb, ne_eqb, cond_both, cond-true, cond-false, cases_Bool, both_ways}
use Rattle.entry.specs.declared.Side.{Side}
use Rattle.entry.specs.declared.Side.TheVariants.{Buy, Sell}
use Rattle.board.specs.declared.levels.Level.{Level}
use Rattle.board.specs.Levels.{new_level, joined, left, single, less_answer}
use Rattle.board.specs.Book.{Book, better, level_at, levels_of, with_levels}
use Rattle.board.specs.Calls.{added, taken}
use Rattle.board.specs.Sound.{Behind, Sorted}
use Rattle.entry.specs.Sides.{other_side}
use Rattle.rules.proofs.Sides.{better_is, better_trans, better_differs, better_or}

-- a level with one order more, or a new one; a level with one order less, if any is left
abbrev pub grown : Option Level → ℕ → ℕ → Level
grown None p t = new_level p t
grown (Some x) p t = joined x

abbrev pub fewer : Option Level → Option Level
fewer None = None
fewer (Some x) = less_answer x

apart : (s : Side) (p q : ℕ) → better s p q ≡ true → eqb q p ≡ false
apart s p q b = ne_eqb q p (λ e. better_differs s p q ((better_is s p q).0 b) (sym e))

-- nothing stands at a price that all levels are behind
pub behind_none : (s : Side) (p : ℕ) (ls : List Level) → Behind s p ls → level_at p ls ≡ None
behind_none s p [] b = refl
behind_none s p (x ∷ ls) b = cond-false _ _ _ (apart s p x.price b.0) ∙ behind_none s p ls b.1

pub behind_past : (s : Side) (p q : ℕ) (ls : List Level) → better s p q ≡ true → Behind s q ls → Behind s p ls
behind_past s p q [] b k = tt
behind_past s p q (x ∷ ls) b k =
    ((better_is s p x.price).1 (better_trans s p q x.price ((better_is s p q).0 b) ((better_is s q x.price).0 k.0)), behind_past s p q ls b k.1)

-- nothing stands at a price better than the first level's
pub none_before : (s : Side) (p : ℕ) (x : Level) (ls : List Level) → Sorted s (x ∷ ls) → better s p x.price ≡ true → level_at p (x ∷ ls) ≡ None
none_before s p x ls k b = behind_none s p (x ∷ ls) (b, behind_past s p x.price ls b k.0)

flip : (s : Side) (p q : ℕ) → eqb q p ≡ false → better s p q ≡ false → better s q p ≡ true
flip s p q e b =
    elim (better_or s p q) [
      | inl i ↦ absurd (eqb-false q p e (sym i))
      | inr o ↦ elim o [
        | inl l ↦ absurd (both_ways _ b ((better_is s p q).1 l))
        | inr g ↦ (better_is s q p).1 g
      ]
    ]

pub at-added-same : (s : Side) (p t : ℕ) (ls : List Level) → Sorted s ls → level_at p (added s p t ls) ≡ Some (grown (level_at p ls) p t)
at-added-same s p t [] k = cond-true _ _ _ (eq-eqb p p refl)
at-added-same s p t (x ∷ ls) k =
    let ih = at-added-same s p t ls k.1 in
    elim (cases_Bool (eqb x.price p)) [
      | inl e ↦ rw (e, e)
      | inr e ↦ elim (cases_Bool (better s p x.price)) [
        | inl b ↦
            let z = behind_none s p ls (behind_past s p x.price ls b k.0) in
            let i = eq-eqb p p refl in
            rw (e, b, i, z)
        | inr b ↦ rw (e, b, e) ih
      ]
    ]

pub at-added-other : (s : Side) (p t y : ℕ) (ls : List Level) → (p ≡ y → ⊥) → level_at y (added s p t ls) ≡ level_at y ls
at-added-other s p t y [] n = cond-false _ _ _ (ne_eqb p y n)
at-added-other s p t y (x ∷ ls) n =
    let ih = at-added-other s p t y ls n in
    let e = ne_eqb p y n in
    grind (arith, nat_tests)

pub at-taken-same : (s : Side) (p : ℕ) (ls : List Level) → Sorted s ls → level_at p (taken p ls) ≡ fewer (level_at p ls)
at-taken-same s p [] k = refl
at-taken-same s p (x ∷ ls) k =
    let ih = at-taken-same s p ls k.1 in
    let z = behind_none s x.price ls k.0 in
    elim (cases_Bool (eqb x.price p)) [
      | inl e ↦
          let y : level_at p ls ≡ None = ap (λ q. level_at q ls) (sym (eqb-true _ _ e)) ∙ z in
          rw e (cond_both (single x) ls (left x ∷ ls) (λ l. level_at p l ≡ less_answer x) (λ i. rw i y) (λ i. rw (i, e)))
      | inr e ↦ rw (e, e) ih
    ]

pub at-taken-other : (p y : ℕ) (ls : List Level) → (p ≡ y → ⊥) → level_at y (taken p ls) ≡ level_at y ls
at-taken-other p y [] n = refl
at-taken-other p y (x ∷ ls) n =
    let ih = at-taken-other p y ls n in
    let e = ne_eqb p y n in
    grind (arith, nat_tests)

-- the levels stay in order
behind_added : (s : Side) (q p t : ℕ) (ls : List Level) → better s q p ≡ true → Behind s q ls → Behind s q (added s p t ls)
behind_added s q p t [] b k = (b, tt)
behind_added s q p t (x ∷ ls) b k =
    let ih = behind_added s q p t ls b k.1 in
    cond_both (eqb x.price p) _ _ (Behind s q) (λ _. (k.0, k.1))
    (λ _. cond_both (better s p x.price) _ _ (Behind s q) (λ _. (b, k)) (λ _. (k.0, ih)))

pub sorted-added : (s : Side) (p t : ℕ) (ls : List Level) → Sorted s ls → Sorted s (added s p t ls)
sorted-added s p t [] k = (tt, tt)
sorted-added s p t (x ∷ ls) k =
    let ih = sorted-added s p t ls k.1 in
    cond_both (eqb x.price p) _ _ (Sorted s) (λ _. (k.0, k.1))
    (λ e. cond_both (better s p x.price) _ _ (Sorted s)
    (λ b. ((b, behind_past s p x.price ls b k.0), k))
    (λ b. (behind_added s x.price p t ls (flip s p x.price e b) k.0, ih)))

behind_taken : (s : Side) (q p : ℕ) (ls : List Level) → Behind s q ls → Behind s q (taken p ls)
behind_taken s q p [] k = tt
behind_taken s q p (x ∷ ls) k =
    let ih = behind_taken s q p ls k.1 in
    cond_both (eqb x.price p) _ _ (Behind s q)
    (λ _. cond_both (single x) _ _ (Behind s q) (λ _. k.1) (λ _. (k.0, k.1))) (λ _. (k.0, ih))

pub sorted-taken : (s : Side) (p : ℕ) (ls : List Level) → Sorted s ls → Sorted s (taken p ls)
sorted-taken s p [] k = tt
sorted-taken s p (x ∷ ls) k =
    let ih = sorted-taken s p ls k.1 in
    cond_both (eqb x.price p) _ _ (Sorted s)
    (λ _. cond_both (single x) _ _ (Sorted s) (λ _. k.1) (λ _. (k.0, k.1)))
    (λ _. (behind_taken s x.price p ls k.0, ih))

-- what holds of a side's new levels, and of the other side's old ones, holds of both sides
pub on_sides : (b : Book) (s : Side) (ls : List Level) (P : Side → List Level → Type 0) → P s ls → P (other_side s) (levels_of b (other_side s)) → (r : Side) → P r (levels_of (with_levels b s ls) r)
on_sides b Buy ls P p q Buy = p
on_sides b Buy ls P p q Sell = q
on_sides b Sell ls P p q Buy = q
on_sides b Sell ls P p q Sell = p
