-- A side's levels against the history: the first is the best, and what crossing, ripeness and a leave read off it.
use Rattle.std.proofs.Common.{◌≡◌, ℕ, ◌-◌, ◌<◌, Bool, true, false, not, ◌&&◌, eqb, ltb, leb, List, [], ◌∷◌, Some, None, Decides, Option, sym, refl, ap, ◌∙◌, subst, inl, inr, arith}
use Rattle.std.proofs.lemmas.Option.{none-some}
use Rattle.std.proofs.lemmas.Bool.Decides.{nat_tests, Decides-ltb, Decides-and, not_from_Decides}
use Rattle.std.proofs.lemmas.Bool.{cases_eq, cond_both, cond-true, cond-false, eq-eqb, ne_eqb, and_parts, and_from, both_ways, leb-true, le-leb, eqb-true}
use Rattle.entry.specs.declared.Side.{Side}
use Rattle.entry.specs.declared.Side.TheVariants.{Buy, Sell}
use Rattle.entry.specs.declared.Entry.{Entry}
use Rattle.entry.specs.declared.Entry.TheVariants.{Leave}
use Rattle.board.specs.declared.levels.Level.{Level}
use Rattle.board.specs.Book.{better, level_at, first}
use Rattle.board.specs.Sound.{Sorted}
use Rattle.rules.specs.declared.figures.Forerunner.{Forerunner}
use Rattle.rules.specs.Figures.{Forerunners}
use Rattle.rules.specs.Readings.{full_time, credit_of, forerunner_of}
use Rattle.rules.specs.Checks.{meets}
use Rattle.rules.specs.Effects.{with_forerunner, ended}
use Rattle.entry.specs.Sides.{other_side}
use Rattle.rules.specs.History.{Opening, Better, left, standing, stands_since, shown, level, Best, Clear, Forerun, Credits, Requires, Ripe}
use Rattle.rules.specs.Promise.{Timely}
use Rattle.rules.proofs.Sides.{better_is, better_trans, better_or, same_self}
use Rattle.rules.proofs.Boards.{none_before}
use Rattle.rules.proofs.Past.{unbroken_aged, aged_unbroken, one-best, one-forerunner, one-required}

-- the levels ls are the side s after h
pub record Shows (h : List Entry) (s : Side) (ls : List Level) : Type 0 where
  pub sorted : Sorted s ls
  pub levels : (x : ℕ) → level_at x ls ≡ level h s x

-- what a level that is shown tells
pub record IsShown (n x u : ℕ) (l : Level) : Type 0 where
  pub some : 0 < n
  pub orders : l.orders ≡ n
  pub price : l.price ≡ x
  pub since : l.since ≡ u

some_is : (l k : Level) → Some l ≡ Some k → l ≡ k
some_is l k e = cc

pub shown-some : (n x u : ℕ) (l : Level) → Some l ≡ shown n x u → IsShown n x u l
shown-some n x u l e =
    elim (cases_eq n 0) [
      | inl z ↦ absurd (none-some l (sym (e ∙ cond-true _ _ _ (eq-eqb n 0 z))))
      | inr z ↦
          let i = some_is l _ (e ∙ cond-false _ _ _ (ne_eqb n 0 z)) in
          record { some = omega arith; orders = ap (λ k. k.orders) i; price = ap (λ k. k.price) i; since = ap (λ k. k.since) i }
    ]

pub shown-none : (n x u : ℕ) → None ≡ shown n x u → n ≡ 0
shown-none n x u e =
    elim (cases_eq n 0) [
      | inl z ↦ z
      | inr z ↦ absurd (none-some _ (e ∙ cond-false _ _ _ (ne_eqb n 0 z)))
    ]

module _ (h : List Entry) (s : Side) where
  pub none_stands : Shows h s [] → (x : ℕ) → standing h s x ≡ 0
  none_stands w x = shown-none (standing h s x) x (stands_since h s x) (w.levels x)

  pub head_shown : (l : Level) (ls : List Level) → Shows h s (l ∷ ls) → IsShown (standing h s l.price) l.price (stands_since h s l.price) l
  head_shown l ls w =
      shown-some (standing h s l.price) l.price (stands_since h s l.price) l
      (sym (cond-true (eqb l.price l.price) (Some l) (level_at l.price ls) (eq-eqb l.price l.price refl)) ∙ w.levels l.price)

  pub head_best : (l : Level) (ls : List Level) → Shows h s (l ∷ ls) → Best h s l.price
  head_best l ls w = (
    (head_shown l ls w).some,
    λ y n b.
        let z = none_before s y l ls w.sorted ((better_is s y l.price).1 b) in
        let i = shown-none (standing h s y) y (stands_since h s y) (sym z ∙ w.levels y) in
        omega arith,
  )

  pub head_only : (l : Level) (ls : List Level) (x : ℕ) → Shows h s (l ∷ ls) → Best h s x → x ≡ l.price
  head_only l ls x w b = one-best h s x l.price b (head_best l ls w)

-- ── crossing ──

apart_is : (s : Side) (p : ℕ) (x : Level) → Decides (not (meets s p (Some x))) (Better (other_side s) p x.price)
apart_is Buy p x = grind (arith, nat_tests)
apart_is Sell p x = grind (arith, nat_tests)

-- an order is clear of the other side if it is before every price that stands there
clear_from : (h : List Entry) (s : Side) (p : ℕ) → ((y : ℕ) → 0 < standing h (other_side s) y → Better (other_side s) p y) → Clear h s p
clear_from h Buy p c = c
clear_from h Sell p c = c

pub clear_to : (h : List Entry) (s : Side) (p : ℕ) → Clear h s p → (y : ℕ) → 0 < standing h (other_side s) y → Better (other_side s) p y
clear_to h Buy p c = c
clear_to h Sell p c = c

best-past : (h : List Entry) (s : Side) (p x y : ℕ) → Best h s x → Better s p x → 0 < standing h s y → Better s p y
best-past h s p x y b k n =
    elim (better_or s x y) [
      | inl e ↦ subst (λ (z : ℕ). Better s p z) e k
      | inr o ↦ elim o [ inl g ↦ better_trans s p x y k g | inr g ↦ absurd (b.1 y n g) ]
    ]

pub clear_is : (h : List Entry) (s : Side) (p : ℕ) (ls : List Level) → Shows h (other_side s) ls → Decides (not (meets s p (first ls))) (Clear h s p)
clear_is h s p [] w =
    ((λ _. clear_from h s p (λ y n. absurd (let z = none_stands h (other_side s) w y in omega arith))), λ _. none-met s)
  where
    none-met : (s : Side) → not (meets s p None) ≡ true
    none-met Buy = refl
    none-met Sell = refl
clear_is h s p (l ∷ ls) w =
    let d = apart_is s p l in
    let b = head_best h (other_side s) l ls w in (
      (λ e. clear_from h s p (λ y n. best-past h (other_side s) p l.price y b (d.0 e) n)),
      λ c. d.1 (clear_to h s p c l.price b.0),
    )

-- ── credit and ripeness ──

credits_is : (s : Side) (f : Forerunner) (x : Level) → Decides (better s f.price x.price && (ltb f.since x.since && ltb f.life full_time)) (Credits s f x.price x.since)
credits_is s f x =
    let d = Decides-and _ _ (better_is s f.price x.price) (Decides-and _ _ (Decides-ltb f.since x.since) (Decides-ltb f.life full_time)) in
    ((λ e. let p = d.0 e in (p.0, p.1.0, p.1.1)), λ c. d.1 (c.0, (c.1, c.2)))

required-holds : (s : Side) (f : Option Forerunner) (x : Level) → Requires s f x.price x.since (full_time - credit_of s x f)
required-holds s None x = refl
required-holds s (Some f) x =
    let d = credits_is s f x in
    cond_both _ f.life 0 (λ (c : ℕ). Requires s (Some f) x.price x.since (full_time - c))
    (λ e. let p = d.0 e in inl (p, omega (arith, p.2)))
    (λ e. inr (not_from_Decides _ d e, refl))

credit_below : (s : Side) (f : Option Forerunner) (x : Level) → credit_of s x f < 5000
credit_below s None x = omega arith
credit_below s (Some f) x =
    cond_both _ f.life 0 (λ (c : ℕ). c < 5000) (λ e. ((credits_is s f x).0 e).2) (λ _. omega arith)

-- the test for ripeness
abbrev pub ripens : Side → Level → Option Forerunner → ℕ → ℕ → Bool
ripens s x f q t = better s x.price q && leb (full_time - credit_of s x f) (t - x.since)

pub ripe_yes : (h : List Entry) (s : Side) (l : Level) (ls : List Level) (f : Option Forerunner) (q t : ℕ) → Shows h s (l ∷ ls) → Forerun h s f → ripens s l f q t ≡ true → Ripe h q t s l.price
ripe_yes h s l ls f q t w r e =
    let p = and_parts (better s l.price q) (leb (full_time - credit_of s l f) (t - l.since)) e in
    let i = head_shown h s l ls w in
    let c = credit_below s f l in
    let a = leb-true _ _ p.1 in
    record {
      best = head_best h s l ls w;
      betters = (better_is s l.price q).0 p.0;
      forerunner = f;
      forerun = r;
      required = full_time - credit_of s l f;
      requires = subst (λ (u : ℕ). Requires s f l.price u (full_time - credit_of s l f)) i.since (required-holds s f l);
      unbroken = aged_unbroken h s l.price (full_time - credit_of s l f) t i.some (omega (arith, i.since, a, c));
    }

pub ripe_no : (o : Opening) (h : List Entry) (s : Side) (l : Level) (ls : List Level) (f : Option Forerunner) (q t : ℕ) → Timely o h → Shows h s (l ∷ ls) → Forerun h s f → ripens s l f q t ≡ false → (x : ℕ) → Ripe h q t s x → ⊥
ripe_no o h s l ls f q t k w r e x g =
    let i = head_only h s l ls x w g.best in
    let u : stands_since h s x ≡ l.since = ap (λ z. stands_since h s z) i ∙ sym (head_shown h s l ls w).since in
    let n : g.required ≡ full_time - credit_of s l f =
    one-required s f l.price l.since g.required _
    (subst (λ (z : ℕ). Requires s f l.price z g.required) u
    (subst (λ (z : ℕ). Requires s f z (stands_since h s x) g.required) i
    (subst (λ (z : Option Forerunner). Requires s z x (stands_since h s x) g.required) (one-forerunner h s g.forerunner f g.forerun r) g.requires)))
    (required-holds s f l) in
    let a = (unbroken_aged o h s x g.required t k g.unbroken).1 in
    both_ways _ e (and_from (better s l.price q) _ ((better_is s l.price q).1 (subst (λ (z : ℕ). Better s z q) i g.betters)) (le-leb _ _ (omega (arith, a, n, u))))

-- ── the forerunner after a leave ──

forerunner_own : (f : Forerunners) (s : Side) (x : Forerunner) → forerunner_of (with_forerunner f s x) s ≡ Some x
forerunner_own f Buy x = refl
forerunner_own f Sell x = refl

forerunner-other : (f : Forerunners) (s : Side) (x : Forerunner) → forerunner_of (with_forerunner f s x) (other_side s) ≡ forerunner_of f (other_side s)
forerunner-other f Buy x = refl
forerunner-other f Sell x = refl

left_own : (s : Side) (x t : ℕ) → left (Leave t s x) s x ≡ true
left_own s x t = and_from _ _ (same_self s) (eq-eqb x x refl)

left_there : (s : Side) (x y t : ℕ) → left (Leave t s x) s y ≡ true → x ≡ y
left_there s x y t e = eqb-true x y (and_parts _ _ e).1

pub forerun-leave : (h : List Entry) (s : Side) (ls : List Level) (p t : ℕ) (fs : Forerunners) → Shows h s ls → Forerun h s (forerunner_of fs s) → Forerun (Leave t s p ∷ h) s (forerunner_of (ended fs s p t (first ls)) s)
forerun-leave h s [] p t fs w r = inr ((λ y e. let z = none_stands h s w y in omega (arith, e.2.0)), r)
forerun-leave h s (l ∷ ls) p t fs w r =
    let i = head_shown h s l ls w in
    let top = head_best h s l ls w in
    cond_both (eqb l.price p && eqb l.orders 1) _ _ (λ (g : Forerunners). Forerun (Leave t s p ∷ h) s (forerunner_of g s))
    (λ c.
    let both = and_parts (eqb l.price p) (eqb l.orders 1) c in
    let j = eqb-true l.price p both.0 in
    let k = eqb-true l.orders 1 both.1 in
    let one : standing h s p ≡ 1 = ap (λ z. standing h s z) (sym j) ∙ (sym i.orders ∙ k) in
    let u : l.since ≡ stands_since h s p = i.since ∙ ap (λ z. stands_since h s z) j in
    inl (
      p,
      (left_own s p t, one, subst (λ (z : ℕ). Best h s z) j top),
      (forerunner_own fs s _ ∙ ap (λ (v : ℕ). Some (record { price = p; since = v; life = t - v })) u),
    ))
    (λ c. inr (
      (λ y e.
          let j = left_there s p y t e.0 in
          let k = head_only h s l ls y w e.2 in
          let one : l.orders ≡ 1 = i.orders ∙ (ap (λ z. standing h s z) (sym k) ∙ e.1) in
          both_ways _ c (and_from (eqb l.price p) (eqb l.orders 1) (eq-eqb l.price p (sym (j ∙ k))) (eq-eqb l.orders 1 one))),
      r,
    ))

pub forerunner_kept : (s : Side) (ls : List Level) (p t : ℕ) (fs : Forerunners) → forerunner_of (ended fs s p t (first ls)) (other_side s) ≡ forerunner_of fs (other_side s)
forerunner_kept s [] p t fs = refl
forerunner_kept s (l ∷ ls) p t fs =
    cond_both (eqb l.price p && eqb l.orders 1) _ _ (λ (g : Forerunners). forerunner_of g (other_side s) ≡ forerunner_of fs (other_side s))
    (λ _. forerunner-other fs s _) (λ _. refl)
