-- The quotation: the ripe level that the day reads is the history's, and there is one only.
use Rattle.std.proofs.Common.{◌≡◌, ℕ, Bool, cond, eqb, List, [], ◌∷◌, Some, None, Decides, Option, sym, refl, ◌∙◌, subst, inl, inr, arith}
use Rattle.std.proofs.lemmas.Bool.{cond_both, eqb-true, eqb-false, cases_eq}
use Rattle.entry.specs.declared.Side.{Side}
use Rattle.entry.specs.declared.Side.TheVariants.{Buy, Sell}
use Rattle.entry.specs.declared.Entry.{Entry}
use Rattle.entry.specs.declared.Entry.TheVariants.{Clock, Post, Leave, Trade, Parameters, Reference, Ruling}
use Rattle.board.specs.declared.levels.Level.{Level}
use Rattle.board.specs.Book.{levels_of, first}
use Rattle.rules.specs.declared.figures.OpenFigures.{OpenFigures}
use Rattle.rules.specs.Readings.{or_else, forerunner_of, ripe_of, quotation_at}
use Rattle.rules.specs.Checks.{State}
use Rattle.rules.specs.Effects.{quotation_after}
use Rattle.rules.specs.History.{Opening, Uncrossed, Forerun, Ripe, Ripens, Grounds, QuotedAt}
use Rattle.rules.specs.Promise.{Timely, Agrees}
use Rattle.rules.proofs.Past.{one-best}
use Rattle.rules.proofs.Bests.{Shows, none_stands, ripens, ripe_yes, ripe_no}

-- ── one ripe level, so one quotation ──

one-ripe : (h : List Entry) (q t : ℕ) (r s : Side) (x y : ℕ) → Uncrossed h → Ripe h q t r x → Ripe h q t s y → x ≡ y
one-ripe h q t Buy Buy x y u a b = one-best h Buy x y a.best b.best
one-ripe h q t Buy Sell x y u a b = absurd (omega (arith, u x y a.best.0 b.best.0, a.betters, b.betters))
one-ripe h q t Sell Buy x y u a b = absurd (omega (arith, u y x b.best.0 a.best.0, a.betters, b.betters))
one-ripe h q t Sell Sell x y u a b = one-best h Sell x y a.best b.best

pub one-ripens : (h : List Entry) (q t x y : ℕ) → Uncrossed h → Ripens h q t x → Ripens h q t y → x ≡ y
one-ripens h q t x y u (inl a) (inl b) = one-ripe h q t a.0 b.0 x y u a.1 b.1
one-ripens h q t x y u (inl a) (inr b) = absurd (b.0 a.0 x a.1)
one-ripens h q t x y u (inr a) (inl b) = absurd (a.0 b.0 y b.1)
one-ripens h q t x y u (inr a) (inr b) = a.1 ∙ sym b.1

pub one_ground : (h : List Entry) (q : ℕ) (e : Entry) (x y : ℕ) → Uncrossed h → Grounds h q e x → Grounds h q e y → x ≡ y
one_ground h q (Clock t) x y u a b = one-ripens h q t x y u a b
one_ground h q (Post t s m p) x y u a b = one-ripens h q t x y u a b
one_ground h q (Leave t s p) x y u a b = one-ripens h q t x y u a b
one_ground h q (Trade t m p n) x y u a b =
    elim (cases_eq m 0) [ inl z ↦ a.0 z ∙ sym (b.0 z) | inr z ↦ one-ripens h q t x y u (a.1 z) (b.1 z) ]
one_ground h q (Parameters t p) x y u a b = one-ripens h q t x y u a b
one_ground h q (Reference t k p) x y u a b = one-ripens h q t x y u a b
one_ground h q (Ruling t p) x y u a b = a ∙ sym b

-- ── the ripe level of a side ──

-- what is read off a side's best level is its ripe level, or there is none
abbrev Found : List Entry → ℕ → ℕ → Side → Option ℕ → Type 0
Found h q t s (Some x) = Ripe h q t s x
Found h q t s None = (x : ℕ) → Ripe h q t s x → ⊥

found : (o : Opening) (h : List Entry) (d : OpenFigures) (s : Side) (t : ℕ) (ls : List Level) → Timely o h → Shows h s ls → Forerun h s (forerunner_of d.forerunners s) → Found h d.quotation t s (ripe_of d s t (first ls))
found o h d s t [] k w r = λ x g. let z = none_stands h s w x in omega (arith, g.best.0)
found o h d s t (l ∷ ls) k w r =
    cond_both (ripens s l (forerunner_of d.forerunners s) d.quotation t) (Some l.price) None (Found h d.quotation t s)
    (ripe_yes h s l ls (forerunner_of d.forerunners s) d.quotation t w r)
    (ripe_no o h s l ls (forerunner_of d.forerunners s) d.quotation t k w r)

either : (h : List Entry) (q t : ℕ) (a b : Option ℕ) → Found h q t Buy a → Found h q t Sell b → Ripens h q t (or_else a (or_else b q))
either h q t (Some x) b f g = inl (Buy, f)
either h q t None (Some y) f g = inl (Sell, g)
either h q t None None f g = inr (neither, refl)
  where
    neither : (s : Side) (x : ℕ) → Ripe h q t s x → ⊥
    neither Buy = f
    neither Sell = g

-- ── what a day reads ──

module _ (o : Opening) (h : List Entry) (w : State) (v : Agrees o h w) where
  pub shows : (s : Side) → Shows h s (levels_of w.book s)
  shows s = record { sorted = v.sorted s; levels = v.levels s }

  pub forerun : (s : Side) → Forerun h s (forerunner_of w.day.forerunners s)
  forerun Buy = v.buy_forerunner
  forerun Sell = v.sell_forerunner

  pub ripens_at : (t : ℕ) → Ripens h w.day.quotation t (quotation_at w.day w.book t)
  ripens_at t =
      either h w.day.quotation t (ripe_of w.day Buy t (first (levels_of w.book Buy))) (ripe_of w.day Sell t (first (levels_of w.book Sell)))
      (found o h w.day Buy t (levels_of w.book Buy) v.timely (shows Buy) (forerun Buy))
      (found o h w.day Sell t (levels_of w.book Sell) v.timely (shows Sell) (forerun Sell))

  pub quoted_at : (t : ℕ) → QuotedAt o h t (quotation_at w.day w.book t)
  quoted_at t = (w.day.quotation, v.quotation, ripens_at t)

  pub quoted_at_only : (t q : ℕ) → QuotedAt o h t q → q ≡ quotation_at w.day w.book t
  quoted_at_only t q c =
      one-ripens h w.day.quotation t q (quotation_at w.day w.book t) v.uncrossed
      (subst (λ (z : ℕ). Ripens h z t q) (v.no_other c.0 c.1) c.2) (ripens_at t)

  -- a test with the quotation that the day reads at t decides what the history says with its own
  pub at_quotation : (t : ℕ) (b : Bool) (W : ℕ → Type 0) → Decides b (W (quotation_at w.day w.book t)) → Decides b ((q : ℕ) × QuotedAt o h t q × W q)
  at_quotation t b W d =
      ((λ e. (quotation_at w.day w.book t, quoted_at t, d.0 e)), λ c. d.1 (subst W (quoted_at_only t c.0 c.1) c.2))

  traded : (m x q t : ℕ) → Ripens h w.day.quotation t q → (m ≡ 0 → cond (eqb m 0) x q ≡ x) × ((m ≡ 0 → ⊥) → Ripens h w.day.quotation t (cond (eqb m 0) x q))
  traded m x q t r =
      cond_both (eqb m 0) x q (λ (z : ℕ). (m ≡ 0 → z ≡ x) × ((m ≡ 0 → ⊥) → Ripens h w.day.quotation t z))
      (λ e. ((λ _. refl), λ n. absurd (n (eqb-true m 0 e)))) (λ e. ((λ z. absurd (eqb-false m 0 e z)), λ _. r))

  pub grounds : (e : Entry) → Grounds h w.day.quotation e (quotation_after w e)
  grounds (Clock t) = ripens_at t
  grounds (Post t s m p) = ripens_at t
  grounds (Leave t s p) = ripens_at t
  grounds (Trade t m p n) = traded m p (quotation_at w.day w.book t) t (ripens_at t)
  grounds (Parameters t p) = ripens_at t
  grounds (Reference t k p) = ripens_at t
  grounds (Ruling t p) = refl
