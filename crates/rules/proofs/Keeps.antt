-- Each accepted entry keeps the board to its history.
use Rattle.std.proofs.Common.{◌≡◌, ℕ, suc, ◌+◌, ◌-◌, ◌<◌, ◌≤◌, Bool, true, false, cond, ◌&&◌, eqb, leb, ◌⊎◌, List, ◌∷◌, Some, Option, sym, refl, ap, ◌∙◌, subst, inl, inr, arith}
use Rattle.std.proofs.lemmas.Bool.Decides.{nat_tests}
use Rattle.std.proofs.lemmas.Bool.{cases_eq, cases_lt, cond-true, cond-false, eq-eqb, ne_eqb, lt-leb, and_left, and_right, and_from}
use Rattle.entry.specs.declared.Side.{Side}
use Rattle.entry.specs.declared.Side.TheVariants.{Buy, Sell}
use Rattle.entry.specs.declared.Entry.{Entry}
use Rattle.entry.specs.declared.Entry.TheVariants.{Post, Leave}
use Rattle.board.specs.declared.levels.Level.{Level}
use Rattle.board.specs.Book.{Book, level_at, levels_of, with_levels}
use Rattle.board.specs.Calls.{added, taken}
use Rattle.board.specs.Sound.{Sorted}
use Rattle.entry.specs.Sides.{other_side}
use Rattle.rules.specs.History.{at, same, posted, left, posts, leaves, standing, stands_since, shown, level, Uncrossed, Clear}
use Rattle.rules.proofs.Sides.{side_or, same_self, same-other}
use Rattle.rules.proofs.Boards.{grown, fewer, at-added-same, at-added-other, at-taken-same, at-taken-other, sorted-added, sorted-taken, on_sides}
use Rattle.rules.proofs.Past.{standing-posted, standing-left, standing_kept}

-- the board's part of what a history says
pub record Stocked (h : List Entry) (b : Book) : Type 0 where
  pub levels : (s : Side) (x : ℕ) → level_at x (levels_of b s) ≡ level h s x
  pub enough : (s : Side) (x : ℕ) → leaves h s x ≤ posts h s x
  pub sorted : (s : Side) → Sorted s (levels_of b s)
  pub uncrossed : Uncrossed h

-- ── a level after one entry ──

level_kept : (e : Entry) (h : List Entry) (s : Side) (x : ℕ) → posted e s x ≡ false → left e s x ≡ false → level (e ∷ h) s x ≡ level h s x
level_kept e h s x p l =
    let n = standing_kept e h s x p l in
    let u : stands_since (e ∷ h) s x ≡ stands_since h s x = cond-false _ _ _ (and_left _ _ p) in
    ap (λ (k : ℕ). shown k x (stands_since (e ∷ h) s x)) n ∙ ap (λ (k : ℕ). shown (standing h s x) x k) u

level-posted : (e : Entry) (h : List Entry) (s : Side) (x : ℕ) → posted e s x ≡ true → left e s x ≡ false → leaves h s x ≤ posts h s x
    → level (e ∷ h) s x ≡ shown (suc (standing h s x)) x (cond (eqb (standing h s x) 0) (at e) (stands_since h s x))
level-posted e h s x p l n =
    let k = standing-posted e h s x p l n in
    let u : stands_since (e ∷ h) s x ≡ cond (eqb (standing h s x) 0) (at e) (stands_since h s x) = ap (λ (b : Bool). cond (b && eqb (standing h s x) 0) (at e) (stands_since h s x)) p in
    ap (λ (m : ℕ). shown m x (stands_since (e ∷ h) s x)) k ∙ ap (λ (m : ℕ). shown (suc (standing h s x)) x m) u

level-left : (e : Entry) (h : List Entry) (s : Side) (x : ℕ) → posted e s x ≡ false → left e s x ≡ true → level (e ∷ h) s x ≡ shown (standing h s x - 1) x (stands_since h s x)
level-left e h s x p l =
    let n = standing-left e h s x p l in
    let u : stands_since (e ∷ h) s x ≡ stands_since h s x = cond-false _ _ _ (and_left _ _ p) in
    ap (λ (k : ℕ). shown k x (stands_since (e ∷ h) s x)) n ∙ ap (λ (k : ℕ). shown (standing h s x - 1) x k) u

abbrev Grows : ℕ → ℕ → ℕ → ℕ → Type 0
Grows x t u n = Some (grown (shown n x u) x t) ≡ shown (suc n) x (cond (eqb n 0) t u)

grown-shown : (n x t u : ℕ) → Grows x t u n
grown-shown n x t u =
    elim (cases_eq n 0) [
      | inl z ↦ subst (Grows x t u) (sym z) refl
      | inr z ↦
          let i = ne_eqb n 0 z in
          let j : eqb (suc n) 0 ≡ false = ne_eqb (suc n) 0 (λ e. omega arith) in
          let k : n + 1 ≡ suc n = omega arith in
          rw (i, j, k)
    ]

abbrev Lessens : ℕ → ℕ → ℕ → Type 0
Lessens x u n = fewer (shown n x u) ≡ shown (n - 1) x u

fewer-shown : (n x u : ℕ) → Lessens x u n
fewer-shown n x u =
    elim (cases_eq n 0) [
      | inl z ↦ subst (Lessens x u) (sym z) refl
      | inr z ↦ elim (cases_eq n 1) [
        | inl y ↦ subst (Lessens x u) (sym y) refl
        | inr y ↦
            let i = ne_eqb n 0 z in
            let j : eqb (n - 1) 0 ≡ false = ne_eqb (n - 1) 0 (λ e. omega arith) in
            let k : leb n 1 ≡ false = lt-leb n 1 (omega arith) in
            rw (i, j, k)
      ]
    ]

-- ── an entry that is neither a post of main trading nor a leave ──

pub quiet : (e : Entry) (h : List Entry) (b : Book) → ((s : Side) (x : ℕ) → posted e s x ≡ false) → ((s : Side) (x : ℕ) → left e s x ≡ false) → Stocked h b → Stocked (e ∷ h) b
quiet e h b p l v = record {
  levels = λ s x. v.levels s x ∙ sym (level_kept e h s x (p s x) (l s x));
  enough = λ s x. fewest s x;
  sorted = v.sorted;
  uncrossed = λ x y n m.
      v.uncrossed x y (subst (λ (k : ℕ). 0 < k) (standing_kept e h Buy x (p Buy x) (l Buy x)) n) (subst (λ (k : ℕ). 0 < k) (standing_kept e h Sell y (p Sell y) (l Sell y)) m);
}
  where
    fewest : (s : Side) (x : ℕ) → leaves (e ∷ h) s x ≤ posts (e ∷ h) s x
    fewest s x =
        let a : leaves (e ∷ h) s x ≡ leaves h s x = cond-false _ _ _ (l s x) in
        let c : posts (e ∷ h) s x ≡ posts h s x = cond-false _ _ _ (p s x) in
        omega (arith, a, c, v.enough s x)

-- ── a post of main trading ──

module _ (h : List Entry) (b : Book) (v : Stocked h b) (t : ℕ) (s : Side) (p : ℕ) where
  posted-here : posted (Post t s 0 p) s p ≡ true
  posted-here = and_from _ _ (same_self s) (eq-eqb p p refl)

  posted-not : (y : ℕ) → (p ≡ y → ⊥) → posted (Post t s 0 p) s y ≡ false
  posted-not y n = and_right (same s s) (eqb p y) (ne_eqb p y n)

  posted-other : (y : ℕ) → posted (Post t s 0 p) (other_side s) y ≡ false
  posted-other y = and_left (same s (other_side s)) (eqb p y) (same-other s)

  added-own : (y : ℕ) → level_at y (added s p t (levels_of b s)) ≡ level (Post t s 0 p ∷ h) s y
  added-own y =
      elim (cases_eq p y) [
        | inl i ↦ subst (λ (z : ℕ). level_at z (added s p t (levels_of b s)) ≡ level (Post t s 0 p ∷ h) s z) i
            (at-added-same s p t (levels_of b s) (v.sorted s)
            ∙ (ap (λ (o : Option Level). Some (grown o p t)) (v.levels s p)
            ∙ (grown-shown (standing h s p) p t (stands_since h s p) ∙ sym (level-posted (Post t s 0 p) h s p posted-here refl (v.enough s p)))))
        | inr n ↦ at-added-other s p t y (levels_of b s) n ∙ (v.levels s y ∙ sym (level_kept (Post t s 0 p) h s y (posted-not y n) refl))
      ]

  post-levels : (r : Side) (y : ℕ) → level_at y (levels_of (with_levels b s (added s p t (levels_of b s))) r) ≡ level (Post t s 0 p ∷ h) r y
  post-levels =
      on_sides b s _ (λ r ls. (y : ℕ) → level_at y ls ≡ level (Post t s 0 p ∷ h) r y) added-own
      (λ y. v.levels (other_side s) y ∙ sym (level_kept (Post t s 0 p) h (other_side s) y (posted-other y) refl))

  post-enough : (s' : Side) (y : ℕ) → leaves h s' y ≤ posts (Post t s 0 p ∷ h) s' y
  post-enough s' y = let n = v.enough s' y in grind (arith, nat_tests)

  -- what stands after the post stood before it, or is the post's own price
  stood : (s' : Side) (y : ℕ) → 0 < standing (Post t s 0 p ∷ h) s' y → (0 < standing h s' y) ⊎ ((s ≡ s') × (p ≡ y))
  stood s' y n =
      elim (cases_lt 0 (standing h s' y)) [
        | inl m ↦ inl m
        | inr z ↦ inr (elim (side_or s s') [
          | inl k ↦ (
            k.0,
            elim (cases_eq p y) [
              | inl i ↦ i
              | inr d ↦ absurd (let q = standing_kept (Post t s 0 p) h s' y (and_right (same s s') (eqb p y) (ne_eqb p y d)) refl in omega arith)
            ],
          )
          | inr k ↦ absurd (let q = standing_kept (Post t s 0 p) h s' y (and_left (same s s') (eqb p y) k.1) refl in omega arith)
        ])
      ]

buy≢sell : Buy ≡ Sell → ⊥
buy≢sell e = let z : ◌≡◌ {A = ℕ} 0 1 = cc in omega arith

post-uncrossed : (h : List Entry) (b : Book) (v : Stocked h b) (t : ℕ) (s : Side) (p : ℕ) → Clear h s p → Uncrossed (Post t s 0 p ∷ h)
post-uncrossed h b v t Buy p c x y n m =
    let k = stood h b v t Buy p Sell y m in
    elim k [
      | inr f ↦ absurd (buy≢sell f.0)
      | inl m' ↦ elim (stood h b v t Buy p Buy x n) [ inl n' ↦ v.uncrossed x y n' m' | inr i ↦ omega (arith, c y m', i.1) ]
    ]
post-uncrossed h b v t Sell p c x y n m =
    let k = stood h b v t Sell p Buy x n in
    elim k [
      | inr f ↦ absurd (buy≢sell (sym f.0))
      | inl n' ↦ elim (stood h b v t Sell p Sell y m) [ inl m' ↦ v.uncrossed x y n' m' | inr i ↦ omega (arith, c x n', i.1) ]
    ]

pub stocked_post : (h : List Entry) (b : Book) (t : ℕ) (s : Side) (p : ℕ) → Stocked h b → Clear h s p → Stocked (Post t s 0 p ∷ h) (with_levels b s (added s p t (levels_of b s)))
stocked_post h b t s p v c = record {
  levels = post-levels h b v t s p;
  enough = post-enough h b v t s p;
  sorted = on_sides b s _ Sorted (sorted-added s p t (levels_of b s) (v.sorted s)) (v.sorted (other_side s));
  uncrossed = post-uncrossed h b v t s p c;
}

-- ── a leave ──

module _ (h : List Entry) (b : Book) (v : Stocked h b) (t : ℕ) (s : Side) (p : ℕ) where
  left_here : left (Leave t s p) s p ≡ true
  left_here = and_from _ _ (same_self s) (eq-eqb p p refl)

  taken_own : (y : ℕ) → level_at y (taken p (levels_of b s)) ≡ level (Leave t s p ∷ h) s y
  taken_own y =
      elim (cases_eq p y) [
        | inl i ↦ subst (λ (z : ℕ). level_at z (taken p (levels_of b s)) ≡ level (Leave t s p ∷ h) s z) i
            (at-taken-same s p (levels_of b s) (v.sorted s)
            ∙ (ap fewer (v.levels s p) ∙ (fewer-shown (standing h s p) p (stands_since h s p) ∙ sym (level-left (Leave t s p) h s p refl left_here))))
        | inr n ↦ at-taken-other p y (levels_of b s) n ∙ (v.levels s y ∙ sym (level_kept (Leave t s p) h s y refl (and_right (same s s) (eqb p y) (ne_eqb p y n))))
      ]

  leave-levels : (r : Side) (y : ℕ) → level_at y (levels_of (with_levels b s (taken p (levels_of b s))) r) ≡ level (Leave t s p ∷ h) r y
  leave-levels =
      on_sides b s _ (λ r ls. (y : ℕ) → level_at y ls ≡ level (Leave t s p ∷ h) r y) taken_own
      (λ y. v.levels (other_side s) y ∙ sym (level_kept (Leave t s p) h (other_side s) y refl (and_left (same s (other_side s)) (eqb p y) (same-other s))))

  leave-enough : 0 < standing h s p → (s' : Side) (y : ℕ) → leaves (Leave t s p ∷ h) s' y ≤ posts h s' y
  leave-enough n s' y =
      elim (side_or s s') [
        | inl k ↦ elim (cases_eq p y) [
          | inl i ↦ subst (λ (r : Side). leaves (Leave t s p ∷ h) r y ≤ posts h r y) k.0
              (subst (λ (z : ℕ). leaves (Leave t s p ∷ h) s z ≤ posts h s z) i
              (let a : leaves (Leave t s p ∷ h) s p ≡ suc (leaves h s p) = cond-true _ _ _ left_here in omega (arith, a)))
          | inr d ↦ let a : leaves (Leave t s p ∷ h) s' y ≡ leaves h s' y = cond-false _ _ _ (and_right (same s s') (eqb p y) (ne_eqb p y d)) in omega (arith, a, v.enough s' y)
        ]
        | inr k ↦ let a : leaves (Leave t s p ∷ h) s' y ≡ leaves h s' y = cond-false _ _ _ (and_left (same s s') (eqb p y) k.1) in omega (arith, a, v.enough s' y)
      ]

  fewer-stand : (s' : Side) (y : ℕ) → 0 < standing (Leave t s p ∷ h) s' y → 0 < standing h s' y
  fewer-stand s' y n = grind (arith, nat_tests)

pub stocked_leave : (h : List Entry) (b : Book) (t : ℕ) (s : Side) (p : ℕ) → Stocked h b → 0 < standing h s p → Stocked (Leave t s p ∷ h) (with_levels b s (taken p (levels_of b s)))
stocked_leave h b t s p v n = record {
  levels = leave-levels h b v t s p;
  enough = leave-enough h b v t s p n;
  sorted = on_sides b s _ Sorted (sorted-taken s p (levels_of b s) (v.sorted s)) (v.sorted (other_side s));
  uncrossed = λ x y k m. v.uncrossed x y (fewer-stand h b v t s p Buy x k) (fewer-stand h b v t s p Sell y m);
}
