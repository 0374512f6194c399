-- The worked examples.
use Rattle.std.proofs.Common.{◌≡◌, ℕ, ◌+◌, ◌-◌, ◌<◌, ◌≤◌, [], ◌∷◌, Some, None, Option, refl, ap, subst, inl, inr, arith}
use Rattle.std.proofs.lemmas.Bool.{cases_eq, ne_eqb, le-leb, lt-ltb, false≢true, cases_lt, lt-leb}
use Rattle.std.proofs.lemmas.Bool.Decides.{nat_tests}
use Rattle.entry.specs.declared.Side.{Side}
use Rattle.entry.specs.declared.Side.TheVariants.{Buy, Sell}
use Rattle.entry.specs.declared.Entry.TheVariants.{Clock, Post}
use Rattle.board.specs.declared.levels.Level.{Level}
use Rattle.board.specs.Book.{level_at}
use Rattle.plan.specs.declared.slots.Session.TheVariants.{Morning, Main}
use Rattle.plan.specs.declared.slots.Slot.{Slot}
use Rattle.plan.specs.declared.slots.Slot.TheVariants.{Free, Bounded}
use Rattle.rules.specs.declared.figures.Forerunner.{Forerunner}
use Rattle.limits.specs.Rounded.{static_limits}
use Rattle.rules.specs.Readings.{credit_of, dynamic_of}
use Rattle.rules.specs.Promise.{Agrees, Opens, StaticPair, DynamicPair, start}
use Rattle.rules.specs.History.{Opening, standing, level, Forerun, Ripe, Quoted}
use Rattle.rules.specs.Worked.{opening, usual, ten, one_buy, better_gone, Worked}
use Rattle.rules.proofs.Bests.{Shows, ripe_yes, ripe_no}
use Rattle.rules.proofs.Tables.{by_table}
use Rattle.rules.proofs.Whole.{started, static_pair, dynamic_pair}

-- ── limits ──

-- figures of the examples are in range
in-range : (o : Opening) → 0 < o.params.sp → o.params.sp ≤ 1000000000 → o.params.l ≤ 1000000000 → o.params.ur ≤ 1000000000 → o.params.lr ≤ o.params.ur → o.time < 864000000 → Opens o
in-range o a b c d e f = (((a, b), c, d, e), f)

begun : Agrees usual [] (start usual)
begun = started usual (in-range usual (omega arith) (omega arith) (omega arith) (omega arith) (omega arith) (omega arith))

static-of : (sp l : ℕ) → 0 < sp → sp ≤ 1000000000 → l ≤ 1000000000 → StaticPair (opening (Free Main) None sp l 1300 700) [] (static_limits (record { sp = sp; l = l; ur = 1300; lr = 700 }))
static-of sp l a b c =
    let o = opening (Free Main) None sp l 1300 700 in
    static_pair o [] (start o) (started o (in-range o a b c (omega arith) (omega arith) (omega arith)))

dynamic_here : (slot : Slot) (q sp l ur lr : ℕ) → 0 < sp → sp ≤ 1000000000 → l ≤ 1000000000 → ur ≤ 1000000000 → lr ≤ ur
    → DynamicPair (opening slot (Some q) sp l ur lr) [] ten (dynamic_of (start (opening slot (Some q) sp l ur lr)).day q slot)
dynamic_here slot q sp l ur lr a b c d e =
    let o = opening slot (Some q) sp l ur lr in
    dynamic_pair o [] (start o) (started o (in-range o a b c d e (omega arith))) ten

-- ── ripeness ──

abbrev buy_at : ℕ → ℕ → Level
buy_at x t = record { price = x; orders = 1; since = t }

-- one buy
abbrev Alone : ℕ → ℕ → Type 0
Alone t x = level_at x (buy_at 1010 t ∷ []) ≡ level (one_buy t) Buy x

alone : (t : ℕ) → Shows (one_buy t) Buy (buy_at 1010 t ∷ [])
alone t = record { sorted = (tt, tt); levels = at-price }
  where
    at-price : (x : ℕ) → Alone t x
    at-price x = elim (cases_eq 1010 x) [ inl i ↦ subst (Alone t) i refl | inr n ↦ rw (ne_eqb 1010 x n) ]

unled : (t : ℕ) → Forerun (one_buy t) Buy None
unled t = inr ((λ x e. false≢true e.0), refl)

one-ripe : (t now : ℕ) → t + 5000 ≤ now → Ripe (one_buy t) 1000 now Buy 1010
one-ripe t now l = ripe_yes (one_buy t) Buy (buy_at 1010 t) [] None 1000 now (alone t) (unled t) (le-leb 5000 (now - t) (omega arith))

one_unripe : (t now : ℕ) → now < t + 5000 → (x : ℕ) → Ripe (one_buy t) 1000 now Buy x → ⊥
one_unripe t now l = ripe_no usual (one_buy t) Buy (buy_at 1010 t) [] None 1000 now (omega arith, tt) (alone t) (unled t) (lt-leb 5000 (now - t) (omega arith))

-- no ripe level before the first order
none-ripe : (q t : ℕ) (s : Side) (x : ℕ) → Ripe [] q t s x → ⊥
none-ripe q t s x r = omega (arith, r.best.0)

first-quoted : (t : ℕ) → Quoted usual (one_buy t) 1000
first-quoted t = (1000, refl, inr (none-ripe 1000 t, refl))

unmoved : (t : ℕ) → Quoted usual (Clock (t + 4999) ∷ one_buy t) 1000
unmoved t = (1000, first-quoted t, inr (nowhere, refl))
  where
    nowhere : (s : Side) (x : ℕ) → Ripe (one_buy t) 1000 (t + 4999) s x → ⊥
    nowhere Buy x r = one_unripe t (t + 4999) (omega arith) x r
    nowhere Sell x r = omega (arith, r.best.0)

-- a better buy that came first and left
abbrev BehindIt : ℕ → ℕ → Type 0
BehindIt t x = level_at x (buy_at 1010 (t + 1000) ∷ []) ≡ level (better_gone t) Buy x

behind : (t : ℕ) → Shows (better_gone t) Buy (buy_at 1010 (t + 1000) ∷ [])
behind t = record { sorted = (tt, tt); levels = at-price }
  where
    at-price : (x : ℕ) → BehindIt t x
    at-price x =
        elim (cases_eq 1010 x) [
          | inl i ↦ subst (BehindIt t) i refl
          | inr n ↦ elim (cases_eq 1020 x) [ inl i ↦ subst (BehindIt t) i refl | inr m ↦ rw (ne_eqb 1010 x n, ne_eqb 1020 x m) ]
        ]

abbrev leader : ℕ → Option Forerunner
leader t = Some (record { price = 1020; since = t; life = 2000 })

led : (t : ℕ) → Forerun (better_gone t) Buy (leader t)
led t = inl (1020, (refl, refl, (omega arith, best)), ap (λ (n : ℕ). Some (record { price = 1020; since = t; life = n })) life)
  where
    life : 2000 ≡ (t + 2000) - t
    life = omega arith

    best : (y : ℕ) → 0 < standing (Post (t + 1000) Buy 0 1010 ∷ Post t Buy 0 1020 ∷ []) Buy y → 1020 < y → ⊥
    best y n b = grind (arith, nat_tests)

credit_is : (t : ℕ) → credit_of Buy (buy_at 1010 (t + 1000)) (leader t) ≡ 2000
credit_is t = rw (lt-ltb t (t + 1000) (omega arith))

credited : (t now : ℕ) → t + 4000 ≤ now → Ripe (better_gone t) 1000 now Buy 1010
credited t now l =
    ripe_yes (better_gone t) Buy (buy_at 1010 (t + 1000)) [] (leader t) 1000 now (behind t) (led t)
    (le-leb (5000 - credit_of Buy (buy_at 1010 (t + 1000)) (leader t)) (now - (t + 1000)) (omega (arith, credit_is t)))

uncredited : (t now : ℕ) → now < t + 4000 → (x : ℕ) → Ripe (better_gone t) 1000 now Buy x → ⊥
uncredited t now l =
    ripe_no usual (better_gone t) Buy (buy_at 1010 (t + 1000)) [] (leader t) 1000 now (omega arith, (omega arith, (omega arith, tt))) (behind t) (led t)
    (lt-leb (5000 - credit_of Buy (buy_at 1010 (t + 1000)) (leader t)) (now - (t + 1000)) (omega (arith, credit_is t)))

by_then : (t now : ℕ) {R : Type 0} → (now < t → R → ⊥) → R → t ≤ now
by_then t now n r = elim (cases_lt now t) [ inl l ↦ absurd (n l r) | inr g ↦ g ]

pub worked : Worked
worked = record {
  fifth = static-of 1000 100 (omega arith) (omega arith) (omega arith);
  at_lower = by_table usual [] (start usual) begun (Post ten Buy 0 200);
  below_lower = by_table usual [] (start usual) begun (Post ten Buy 0 199);
  rounded = static-of 1003 10 (omega arith) (omega arith) (omega arith);
  cut = static-of 1000 2500 (omega arith) (omega arith) (omega arith);
  free = dynamic_pair usual [] (start usual) begun ten;
  inward = dynamic_here (Free Main) 100 101 0 200 0 (omega arith) (omega arith) (omega arith) (omega arith) (omega arith);
  bounded = dynamic_here (Bounded Morning 100) 1070 1000 100 1300 700 (omega arith) (omega arith) (omega arith) (omega arith) (omega arith);
  ripe = one-ripe;
  not_before = λ t now r. by_then (t + 5000) now (λ l r. one_unripe t now l 1010 r) r;
  unmoved = unmoved;
  moved = λ t. (1000, first-quoted t, inl (Buy, one-ripe t (t + 5000) (omega arith)));
  credited = credited;
  not_earlier = λ t now r. by_then (t + 4000) now (λ l r. uncredited t now l 1010 r) r;
}
