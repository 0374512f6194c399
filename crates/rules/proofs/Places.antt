-- How many levels stand on a side, by the history, and what a board answers to an order more.
use Rattle.std.proofs.Common.{◌≡◌, ℕ, suc, ◌<◌, ◌≤◌, Bool, true, false, cond, eqb, ltb, List, [], ◌∷◌, length, Some, None, Decides, Option, sym, refl, ap, ◌∙◌, subst, inl, inr, arith}
use Rattle.std.proofs.lemmas.Bool.Decides.{Decides-and, Decides-ltb, not_from_Decides}
use Rattle.std.proofs.lemmas.Bool.{cases_Bool, cond-true, cond-false, eq-eqb, eqb-true, eqb-false, leb-true, leb-false}
use Rattle.entry.specs.declared.Side.{Side}
use Rattle.entry.specs.declared.Entry.{Entry}
use Rattle.board.specs.declared.levels.Level.{Level}
use Rattle.board.specs.Levels.{full}
use Rattle.board.specs.Book.{Book, level_at, levels_of}
use Rattle.board.specs.Calls.{has_place, join_answer, leave_answer}
use Rattle.board.specs.Sound.{Behind, Sorted}
use Rattle.rules.specs.Checks.{number_of, by_board}
use Rattle.rules.specs.History.{Opening, Better, standing, stands_since, level, Among, AllWorse, BestFirst, Prices, HasPlace, Check, passes, fails, Accepted}
use Rattle.rules.proofs.Sides.{better_is, better_trans, better_differs}
use Rattle.rules.proofs.Tested.{decides_leb}
use Rattle.rules.proofs.Bests.{Shows, shown-some, shown-none}

abbrev prices : List Level → List ℕ
prices [] = []
prices (l ∷ ls) = l.price ∷ prices ls

prices_length : (ls : List Level) → length (prices ls) ≡ length ls
prices_length [] = refl
prices_length (l ∷ ls) = ap suc (prices_length ls)

prices_worse : (s : Side) (p : ℕ) (ls : List Level) → Behind s p ls → AllWorse s p (prices ls)
prices_worse s p [] b = tt
prices_worse s p (l ∷ ls) b = ((better_is s p l.price).0 b.0, prices_worse s p ls b.1)

prices_order : (s : Side) (ls : List Level) → Sorted s ls → BestFirst s (prices ls)
prices_order s [] k = tt
prices_order s (l ∷ ls) k = (prices_worse s l.price ls k.0, prices_order s ls k.1)

-- a price among those of the levels has a level, and a price that has a level is among them
among_held : (x : ℕ) (ls : List Level) → Among x (prices ls) → None ≡ level_at x ls → ⊥
among_held x [] a e = a
among_held x (l ∷ ls) a e =
    elim (cases_Bool (eqb l.price x)) [
      | inl i ↦ let z : ◌≡◌ {A = ℕ} 0 1 = (let j = subst (λ (b : Bool). None ≡ cond b (Some l) (level_at x ls)) i e in cc) in omega arith
      | inr i ↦
          let j = subst (λ (b : Bool). None ≡ cond b (Some l) (level_at x ls)) i e in
          let ih = among_held x ls in
          elim a [ inl k ↦ eqb-false l.price x i (sym k) | inr k ↦ ih k j ]
    ]

held_among : (x : ℕ) (ls : List Level) → (None ≡ level_at x ls → ⊥) → Among x (prices ls)
held_among x [] n = absurd (n refl)
held_among x (l ∷ ls) n =
    let ih = held_among x ls in
    elim (cases_Bool (eqb l.price x)) [
      | inl i ↦ inl (sym (eqb-true l.price x i))
      | inr i ↦ inr (ih (λ j. n (sym (cond-false _ _ _ i ∙ sym j))))
    ]

prices-shown : (h : List Entry) (s : Side) (ls : List Level) → Shows h s ls → Prices h s (prices ls)
prices-shown h s ls w = record {
  ordered = prices_order s ls w.sorted;
  stand = λ x a. positive x (λ z. among_held x ls a (none-at x z));
  all = λ x n. held_among x ls (λ e. let z = shown-none (standing h s x) x (stands_since h s x) (e ∙ w.levels x) in omega arith);
}
  where
    positive : (x : ℕ) → (standing h s x ≡ 0 → ⊥) → 0 < standing h s x
    positive x n = omega arith

    none-at : (x : ℕ) → standing h s x ≡ 0 → None ≡ level_at x ls
    none-at x z = sym (w.levels x ∙ cond-true _ _ _ (eq-eqb _ _ z))

worse_than : (s : Side) (p x : ℕ) (ps : List ℕ) → AllWorse s p ps → Among x ps → Better s p x
worse_than s p x [] w a = absurd a
worse_than s p x (y ∷ ps) w (inl i) = subst (λ (z : ℕ). Better s p z) (sym i) w.0
worse_than s p x (y ∷ ps) w (inr a) = worse_than s p x ps w.1 a

-- two lists of the same prices, best first, are equally long
as_long : (s : Side) (ps qs : List ℕ) → BestFirst s ps → BestFirst s qs → ((x : ℕ) → Among x ps → Among x qs) → ((x : ℕ) → Among x qs → Among x ps) → length ps ≡ length qs
as_long s [] [] k m f g = refl
as_long s [] (q ∷ qs) k m f g = absurd (g q (inl refl))
as_long s (p ∷ ps) [] k m f g = absurd (f p (inl refl))
as_long s (p ∷ ps) (q ∷ qs) k m f g =
    ap suc (as_long s ps qs k.1 m.1
    (λ x a. rest p q x ps qs alike k.0 a (f x (inr a)))
    (λ x a. rest q p x qs ps (sym alike) m.0 a (g x (inr a))))
  where
    leading : Among p (q ∷ qs) → Among q (p ∷ ps) → p ≡ q
    leading (inl i) b = i
    leading (inr a) (inl i) = sym i
    leading (inr a) (inr b) = absurd (better_differs s p p (better_trans s p q p (worse_than s p q ps k.0 b) (worse_than s q p qs m.0 a)) refl)

    alike : p ≡ q
    alike = leading (f p (inl refl)) (g q (inl refl))

    rest : (p q x : ℕ) (ps qs : List ℕ) → p ≡ q → AllWorse s p ps → Among x ps → Among x (q ∷ qs) → Among x qs
    rest p q x ps qs i w a (inl j) = absurd (better_differs s p x (worse_than s p x ps w a) (i ∙ sym j))
    rest p q x ps qs i w a (inr b) = b

-- a side has fewer levels than n exactly if the history says so
pub fewer_is : (h : List Entry) (s : Side) (ls : List Level) (n : ℕ) → Shows h s ls → Decides (ltb (length ls) n) ((ps : List ℕ) × Prices h s ps × (length ps < n))
fewer_is h s ls n w =
    let m = prices-shown h s ls w in
    let d = Decides-ltb (length ls) n in (
      (λ e. (prices ls, m, omega (arith, prices_length ls, d.0 e))),
      λ c.
          let e = as_long s c.0 (prices ls) c.1.ordered m.ordered (λ x a. m.all x (c.1.stand x a)) (λ x a. c.1.all x (m.stand x a)) in
          d.1 (omega (arith, e, prices_length ls, c.2)),
    )

-- the range of the board and its free places
abbrev Placed : Opening → List Entry → Side → ℕ → Type 0
Placed o h s x = (o.low ≤ x) × (x ≤ o.high) × ((ps : List ℕ) × Prices h s ps × (length ps < o.room))

place_is : (o : Opening) (h : List Entry) (s : Side) (x : ℕ) (b : Book) → b.low ≡ o.low → b.high ≡ o.high → b.room ≡ o.room → Shows h s (levels_of b s) → Decides (has_place b s x) (Placed o h s x)
place_is o h s x b l g r w =
    let d = Decides-and _ _ (decides_leb b.low x) (Decides-and _ _ (decides_leb x b.high) (fewer_is h s (levels_of b s) b.room w)) in (
      (λ e.
          let p = d.0 e in
          (omega (arith, p.0, l), omega (arith, p.1.0, g), (p.1.1.0, p.1.1.1, omega (arith, p.1.1.2, r)))),
      λ c. d.1 (omega (arith, c.0, l), (omega (arith, c.1, g), (c.2.0, c.2.1, omega (arith, c.2.2, r)))),
    )

-- what the board answers to an order of main trading is what the last two checks say
add_row : (o : Opening) (h : List Entry) (s : Side) (x m : ℕ) (v : Option Level) (place : Bool) → m ≡ 0 → v ≡ level h s x → Decides place (Placed o h s x)
    → Check (m ≡ 0 → standing h s x < 65535) 7 (Check (m ≡ 0 → HasPlace o h s x) 8 Accepted) (number_of (by_board (join_answer v place)))
add_row o h s x m (Some l) place z e d =
    let i = shown-some (standing h s x) x (stands_since h s x) l e in
    elim (cases_Bool (full l)) [
      | inl f ↦ let g = leb-true _ _ f in rw f (fails (λ p. let k = p z in omega (arith, k, g, i.orders)) refl)
      | inr f ↦ let g = leb-false _ _ f in rw f (passes (λ _. omega (arith, g, i.orders)) (passes (λ _. inl i.some) refl))
    ]
add_row o h s x m None true z e d =
    let i = shown-none (standing h s x) x (stands_since h s x) e in
    passes (λ _. omega arith) (passes (λ _. inr (d.0 refl)) refl)
add_row o h s x m None false z e d =
    let i = shown-none (standing h s x) x (stands_since h s x) e in
    passes (λ _. omega arith) (fails (λ p. elim (p z) [ inl n ↦ omega arith | inr c ↦ not_from_Decides false d refl c ]) refl)

pub board_row : (o : Opening) (h : List Entry) (s : Side) (x m : ℕ) (b : Book) → m ≡ 0 → b.low ≡ o.low → b.high ≡ o.high → b.room ≡ o.room → Shows h s (levels_of b s)
    → Check (m ≡ 0 → standing h s x < 65535) 7 (Check (m ≡ 0 → HasPlace o h s x) 8 Accepted) (number_of (by_board (join_answer (level_at x (levels_of b s)) (has_place b s x))))
board_row o h s x m b z l g r w = add_row o h s x m (level_at x (levels_of b s)) (has_place b s x) z (w.levels x) (place_is o h s x b l g r w)

-- and to a leave, what the check of what stands there says
pub take_row : (h : List Entry) (s : Side) (x : ℕ) (v : Option Level) → v ≡ level h s x → Check (0 < standing h s x) 9 Accepted (number_of (by_board (leave_answer v)))
take_row h s x (Some l) e = passes (shown-some (standing h s x) x (stands_since h s x) l e).some refl
take_row h s x None e = let i = shown-none (standing h s x) x (stands_since h s x) e in fails (λ n. omega arith) refl
