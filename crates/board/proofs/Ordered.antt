-- The levels of a side in order: the next level is the one at the next place.
use Rattle.std.proofs.Common.{◌≡◌, ℕ, zero, suc, ◌<◌, ◌≤◌, true, false, List, [], ◌∷◌, length, set, Some, None, sym, refl, ap, ◌∙◌, inl, inr, arith}
use Rattle.std.proofs.lemmas.Bool.{ltb-true, le-ltb, cases_Bool}
use Rattle.std.proofs.lemmas.Bool.Decides.{nat_tests}
use Rattle.std.specs.List.{slice_get}
use Rattle.entry.specs.declared.Side.{Side}
use Rattle.entry.specs.declared.Side.TheVariants.{Buy, Sell}
use Rattle.board.specs.declared.levels.Level.{Level}
use Rattle.board.specs.Book.{better, first, next_after}
use Rattle.board.specs.Sound.{Behind, Sorted}
use Rattle.board.specs.Listing.{listed}
use Rattle.board.specs.Standing.{worse, from_level}

-- of two prices at most one is better
pub better_once : (s : Side) (p q : ℕ) → better s p q ≡ true → better s q p ≡ false
better_once Buy p q e = le-ltb p q (let h = ltb-true q p e in omega arith)
better_once Sell p q e = le-ltb q p (let h = ltb-true p q e in omega arith)

pub better_self : (s : Side) (p : ℕ) → better s p p ≡ false
better_self Buy p = le-ltb p p (omega arith)
better_self Sell p = le-ltb p p (omega arith)

next_behind : (s : Side) (p : ℕ) (ls : List Level) → Behind s p ls → next_after s p ls ≡ slice_get ls 0
next_behind s p [] b = refl
next_behind s p (x ∷ ls) b = let h = b.0 in grind (arith, nat_tests)

behind_nth : (s : Side) (p : ℕ) (ls : List Level) (i : ℕ) (x : Level) → Behind s p ls → Some x ≡ slice_get ls i → better s p x.price ≡ true
behind_nth s p [] i x b e = absurd (let z : ◌≡◌ {A = ℕ} 0 1 = cc in omega arith)
behind_nth s p (y ∷ ls) zero x b e = let o : y ≡ x = cc in ap (λ z. better s p z.price) (sym o) ∙ b.0
behind_nth s p (y ∷ ls) (suc i) x b e = behind_nth s p ls i x b.1 e

-- the next level after the level at a place stands at the next place
pub next_nth : (s : Side) (ls : List Level) (i : ℕ) (x : Level) → Sorted s ls → Some x ≡ slice_get ls i → next_after s x.price ls ≡ slice_get ls (suc i)
next_nth s [] i x o e = absurd (let z : ◌≡◌ {A = ℕ} 0 1 = cc in omega arith)
next_nth s (y ∷ ls) zero x o e =
    let h : y ≡ x = cc in
    let n : next_after s y.price ls ≡ slice_get ls 0 = next_behind s y.price ls o.0 in
    let b = better_self s y.price in
    ap (λ z. next_after s z.price (y ∷ ls)) (sym h) ∙ grind (arith, nat_tests)
next_nth s (y ∷ ls) (suc i) x o e =
    let ih = next_nth s ls i x o.1 e in
    let b = better_once s y.price x.price (behind_nth s y.price ls i x o.0 e) in
    grind (arith, nat_tests)

-- a place has a level exactly if it is below the number of levels
pub nth_inside : (ls : List Level) (i : ℕ) (x : Level) → Some x ≡ slice_get ls i → i < length ls
nth_inside [] i x e = absurd (let z : ◌≡◌ {A = ℕ} 0 1 = cc in omega arith)
nth_inside (y ∷ ls) zero x e = omega arith
nth_inside (y ∷ ls) (suc i) x e = let ih = nth_inside ls i x e in omega arith

pub nth_outside : (ls : List Level) (i : ℕ) → None ≡ slice_get ls i → length ls ≤ i
nth_outside [] i e = omega arith
nth_outside (y ∷ ls) zero e = absurd (let z : ◌≡◌ {A = ℕ} 0 1 = cc in omega arith)
nth_outside (y ∷ ls) (suc i) e = let ih = nth_outside ls i e in omega arith

-- one level more is written out
pub listed_more : (ls before : List Level) (i : ℕ) (x : Level) → Some x ≡ slice_get ls i → i < length before → set (listed i ls before) i x ≡ listed (suc i) ls before
listed_more [] before i x e h = absurd (let z : ◌≡◌ {A = ℕ} 0 1 = cc in omega arith)
listed_more (y ∷ ls) [] i x e h = absurd (omega arith)
listed_more (y ∷ ls) (o ∷ os) zero x e h = let q : x ≡ y = cc in ap (λ z. z ∷ os) q
listed_more (y ∷ ls) (o ∷ os) (suc i) x e h = ap (λ z. y ∷ z) (listed_more ls os i x e (omega arith))

-- ── the levels that are left ──

worse_behind : (s : Side) (p : ℕ) (ls : List Level) → Behind s p ls → worse s p ls ≡ ls
worse_behind s p [] b = refl
worse_behind s p (x ∷ ls) b = let h = b.0 in grind (arith, nat_tests)

-- from the best level on, all levels are left
pub from_best : (s : Side) (ls : List Level) → Sorted s ls → from_level s (first ls) ls ≡ ls
from_best s [] o = refl
from_best s (x ∷ ls) o =
    let b = better_self s x.price in
    let w = worse_behind s x.price ls o.0 in
    grind (arith, nat_tests)

worse_behind_it : (s : Side) (q p : ℕ) (ls : List Level) (y : Level) (ys : List Level) → Behind s q ls → worse s p ls ≡ y ∷ ys → better s q y.price ≡ true
worse_behind_it s q p [] y ys b e = absurd (let z : ◌≡◌ {A = ℕ} 0 1 = cc in omega arith)
worse_behind_it s q p (x ∷ ls) y ys b e =
    let h = b.0 in
    let ih = worse_behind_it s q p ls y ys b.1 in
    grind (arith, nat_tests)

-- past a level that is worse than a price come the levels that are worse than it
worse_on : (s : Side) (p : ℕ) (ls : List Level) (y : Level) (ys : List Level) → Sorted s ls → worse s p ls ≡ y ∷ ys → worse s y.price ls ≡ ys
worse_on s p [] y ys o e = absurd (let z : ◌≡◌ {A = ℕ} 0 1 = cc in omega arith)
worse_on s p (x ∷ ls) y ys o e = elim (cases_Bool (better s p x.price)) [
  | inl t ↦
      let same : x ≡ y = grind (arith, nat_tests) in
      let rest : ls ≡ ys = grind (arith, nat_tests) in
      let b = better_self s x.price in
      let w = worse_behind s x.price ls o.0 in
      ap (λ z. worse s z.price (x ∷ ls)) (sym same) ∙ (grind (arith, nat_tests))
  | inr f ↦
      let e' : worse s p ls ≡ y ∷ ys = grind (arith, nat_tests) in
      let ih = worse_on s p ls y ys o.1 e' in
      let b = better_once s x.price y.price (worse_behind_it s x.price p ls y ys o.0 e') in
      grind (arith, nat_tests)
]

next_worse : (s : Side) (p : ℕ) (ls : List Level) → next_after s p ls ≡ first (worse s p ls)
next_worse s p [] = refl
next_worse s p (x ∷ ls) =
    let ih = next_worse s p ls in
    let t = cases_Bool (better s p x.price) in
    grind (arith, nat_tests)

-- the next level is the first of those that are left
pub from_next : (s : Side) (p : ℕ) (ls : List Level) → Sorted s ls → from_level s (next_after s p ls) ls ≡ worse s p ls
from_next s p ls o =
    let P : List Level → Type 0 = λ ws. worse s p ls ≡ ws → from_level s (first ws) ls ≡ ws in
    ap (λ z. from_level s z ls) (next_worse s p ls)
    ∙ elim (worse s p ls) as P [ [] ↦ λ e. refl | y ∷ ys ↦ λ e. ap (λ z. y ∷ z) (worse_on s p ls y ys o e) ] refl
