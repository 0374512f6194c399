-- The tests of ranges and limits decide what the history says of them.
use Rattle.std.proofs.Common.{ℕ, ◌+◌, ◌*◌, ◌≤◌, leb, Decides, Option, refl, inl, inr, arith}
use Rattle.std.proofs.lemmas.Bool.Decides.{nat_tests, Decides-and, Decides-or, Decides-eqb}
use Rattle.std.proofs.lemmas.Bool.{leb-true, le-leb, cases_lt}
use Rattle.entry.specs.declared.Params.{Params}
use Rattle.entry.specs.declared.Entry.{Entry}
use Rattle.entry.specs.declared.Entry.TheVariants.{Clock, Post, Leave, Trade, Parameters, Reference, Ruling}
use Rattle.limits.specs.declared.BoundedWindow.{BoundedWindow}
use Rattle.limits.specs.Rounded.{static_limits, dynamic_limits}
use Rattle.limits.specs.Exact.{Least, Greatest, FromStaticLower, ToStaticUpper, FromDynamicLower, ToDynamicUpper}
use Rattle.limits.proofs.Joined.{lower_exact, upper_exact}
use Rattle.rules.specs.Checks.{is_price, are_params, is_in_range, within}
use Rattle.rules.specs.History.{IsPrice, AreParams, InRange}

pub decides_leb : (a b : ℕ) → Decides (leb a b) (a ≤ b)
decides_leb a b = ((λ e. leb-true a b e), λ l. le-leb a b l)

-- ── limits ──

pub static_lower : (p : Params) → Least (FromStaticLower p) (static_limits p).0
static_lower p = record {
  least = λ x w. elim w [ inl a ↦ omega arith | inr a ↦ omega arith ];
  within = λ x n. elim (cases_lt (x + 2 * p.l) p.sp) [ inl a ↦ inr (omega arith) | inr a ↦ inl (omega arith) ];
}

pub static_upper : (p : Params) → Greatest (ToStaticUpper p) (static_limits p).1
static_upper p = record {
  greatest = λ x w. elim w [ inl a ↦ omega arith | inr a ↦ omega arith ];
  within = λ x n. elim (cases_lt (p.sp + 2 * p.l) x) [ inl a ↦ inr (omega arith) | inr a ↦ inl (omega arith) ];
}

-- a test against the least or the greatest number within decides whether a number lies within
from_least : {W : ℕ → Type 0} (n x : ℕ) → Least W n → Decides (leb n x) (W x)
from_least n x k = ((λ e. k.within x (leb-true n x e)), λ w. le-leb n x (k.least x w))

to_greatest : {W : ℕ → Type 0} (n x : ℕ) → Greatest W n → Decides (leb x n) (W x)
to_greatest n x k = ((λ e. k.within x (leb-true x n e)), λ w. le-leb x n (k.greatest x w))

pub static_is : (p : Params) (x : ℕ) → Decides (within x (static_limits p)) (FromStaticLower p x × ToStaticUpper p x)
static_is p x = Decides-and _ _ (from_least _ x (static_lower p)) (to_greatest _ x (static_upper p))

module _ (p : Params) (q : ℕ) (b : Option BoundedWindow) (sound : p.lr ≤ p.ur) (x : ℕ) where
  pub lower_is : Decides (leb (dynamic_limits p q b).0 x) (FromDynamicLower p q b x)
  lower_is = from_least _ x (lower_exact p q b _ refl sound)

  pub upper_is : Decides (leb x (dynamic_limits p q b).1) (ToDynamicUpper p q b x)
  upper_is = to_greatest _ x (upper_exact p q b _ refl sound)

  pub dynamic_is : Decides (within x (dynamic_limits p q b)) (FromDynamicLower p q b x × ToDynamicUpper p q b x)
  dynamic_is = Decides-and _ _ lower_is upper_is

-- ── ranges ──

price_is : (x : ℕ) → Decides (is_price x) (IsPrice x)
price_is x = grind (arith, nat_tests)

pub params_is : (p : Params) → Decides (are_params p) (AreParams p)
params_is p = grind (arith, nat_tests)

pub range_is : (e : Entry) → Decides (is_in_range e) (InRange e)
range_is (Clock t) = ((λ _. tt), λ _. refl)
range_is (Post t s m x) = Decides-and _ _ (Decides-or _ _ (Decides-eqb m 0) (Decides-eqb m 2)) (price_is x)
range_is (Leave t s x) = price_is x
range_is (Trade t m x n) = grind (arith, nat_tests)
range_is (Parameters t p) = params_is p
range_is (Reference t k x) = grind (arith, nat_tests)
range_is (Ruling t x) = price_is x
