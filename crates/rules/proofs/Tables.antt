-- The answer to an entry is the table's, and the table has one answer.
use Rattle.std.proofs.Common.{◌≡◌, ℕ, suc, ◌<◌, Bool, true, false, cond, not, ◌&&◌, eqb, leb, List, Some, None, Ok, Decides, Option, sym, refl, ap, ◌∙◌, subst, arith}
use Rattle.std.proofs.lemmas.Bool.Decides.{nat_tests, Decides-and, not_from_Decides}
use Rattle.std.proofs.lemmas.Bool.{cond_both, eqb-true, eqb-false, false≢true}
use Rattle.entry.specs.declared.Side.{Side}
use Rattle.entry.specs.declared.Side.TheVariants.{Buy, Sell}
use Rattle.entry.specs.declared.Params.{Params}
use Rattle.entry.specs.declared.Entry.{Entry}
use Rattle.entry.specs.declared.Entry.TheVariants.{Clock, Post, Leave, Trade, Parameters, Reference, Ruling}
use Rattle.entry.specs.declared.refusals.Refusal.{Refusal}
use Rattle.entry.specs.declared.refusals.Refusal.TheVariants as why
use Rattle.entry.specs.Refusals.{number}
use Rattle.board.specs.Book.{level_at, levels_of, best_of}
use Rattle.plan.specs.declared.slots.Session.{Session}
use Rattle.plan.specs.declared.slots.Session.TheVariants.{Morning, Main, Evening, Weekend}
use Rattle.plan.specs.declared.slots.Slot.{Slot}
use Rattle.plan.specs.declared.slots.Slot.TheVariants.{NoSession, Free, Bounded}
use Rattle.plan.specs.Sessions.{code_of}
use Rattle.plan.specs.Hours.{slot_at}
use Rattle.limits.specs.declared.BoundedWindow.{BoundedWindow}
use Rattle.limits.specs.Rounded.{static_limits, dynamic_limits}
use Rattle.rules.specs.Figures.{DaysLeft}
use Rattle.rules.specs.declared.figures.References.{References}
use Rattle.rules.specs.Readings.{or_else, reference_of, lp_of, window_of, static_of, dynamic_of, quotation_at}
use Rattle.rules.specs.Checks.{State, Answer, number_of, must, and_then, last_time, is_session, within, side_within, meets, other_side, main_order, answer}
use Rattle.rules.specs.History.{Opening, at, standing, reference, given, lp, params, bounds, Clear, InStatic, UpToDynamic, FromDynamic, InSide, InRange, OnTime, HasPlace, Check, passes, fails, Accepted, Table, Within}
use Rattle.rules.specs.Promise.{Agrees, references}
use Rattle.rules.proofs.Bests.{clear_is}
use Rattle.rules.proofs.Places.{board_row, take_row}
use Rattle.rules.proofs.Tested.{static_is, lower_is, upper_is, range_is}
use Rattle.rules.proofs.Grounds.{shows, at_quotation}

-- ── rows ──

-- a test that decides a check, and the answer of the checks after it, make a row
pub row : (b : Bool) (r : Refusal) (next : Answer) {P : Type 0} {R : ℕ → Type 0} → Decides b P → R (number_of next) → Check P (number r) R (number_of (and_then (must b r) next))
row true r next d k = passes (d.0 refl) k
row false r next d k = fails (not_from_Decides false d refl) refl

pub last_row : (b : Bool) (r : Refusal) {P : Type 0} → Decides b P → Check P (number r) Accepted (number_of (must b r))
last_row true r d = passes (d.0 refl) refl
last_row false r d = fails (not_from_Decides false d refl) refl

-- three checks, and the answer of those after them
three_rows : (a b c : Bool) (x y z : Refusal) (next : Answer) {P Q S : Type 0} {R : ℕ → Type 0} → Decides a P → Decides b Q → Decides c S → R (number_of next)
    → Check P (number x) (Check Q (number y) (Check S (number z) R)) (number_of (and_then (and_then (must a x) (and_then (must b y) (must c z))) next))
three_rows false b c x y z next p q s k = fails (not_from_Decides false p refl) refl
three_rows true false c x y z next p q s k = passes (p.0 refl) (fails (not_from_Decides false q refl) refl)
three_rows true true false x y z next p q s k = passes (p.0 refl) (passes (q.0 refl) (fails (not_from_Decides false s refl) refl))
three_rows true true true x y z next p q s k = passes (p.0 refl) (passes (q.0 refl) (passes (s.0 refl) k))

-- a check that only some modes meet
under : {M P : Type 0} (b : Bool) → M → Decides b P → Decides b (M → P)
under b m d = ((λ e _. d.0 e), λ f. d.1 (f m))

-- ── one answer ──

abbrev One : (ℕ → Type 0) → Type 0
One R = (m n : ℕ) → R m → R n → m ≡ n

one-accepted : One Accepted
one-accepted m n p q = p ∙ sym q

one_check : {P : Type 0} {k : ℕ} {R : ℕ → Type 0} → One R → One (Check P k R)
one_check r m n (passes p a) (passes q b) = r m n a b
one_check r m n (passes p a) (fails f j) = absurd (f p)
one_check r m n (fails f i) (passes q b) = absurd (f q)
one_check r m n (fails f i) (fails g j) = i ∙ sym j

pub one_answer : (o : Opening) (h : List Entry) (e : Entry) → One (Table o h e)
one_answer o h (Clock t) = one_check one-accepted
one_answer o h (Post t s m x) = one_check (one_check (one_check (one_check (one_check (one_check (one_check (one_check one-accepted)))))))
one_answer o h (Leave t s x) = one_check (one_check (one_check one-accepted))
one_answer o h (Trade t m x n) = one_check (one_check (one_check (one_check (one_check one-accepted))))
one_answer o h (Parameters t p) = one_check (one_check one-accepted)
one_answer o h (Reference t k x) = one_check (one_check one-accepted)
one_answer o h (Ruling t x) = one_check (one_check one-accepted)

-- ── what an accepted entry passed ──

pub passed : {P : Type 0} {k : ℕ} {R : ℕ → Type 0} → Check P (suc k) R 0 → P × R 0
passed (passes p r) = (p, r)
passed (fails f e) = absurd (omega arith)

pub table_range : (o : Opening) (h : List Entry) (e : Entry) → Table o h e 0 → InRange e
table_range o h (Clock t) k = tt
table_range o h (Post t s m x) k = (passed k).0
table_range o h (Leave t s x) k = (passed k).0
table_range o h (Trade t m x n) k = (passed k).0
table_range o h (Parameters t p) k = (passed k).0
table_range o h (Reference t s x) k = (passed k).0
table_range o h (Ruling t x) k = (passed k).0

pub table-time : (o : Opening) (h : List Entry) (e : Entry) → Table o h e 0 → OnTime o h (at e)
table-time o h (Clock t) k = (passed k).0
table-time o h (Post t s m x) k = (passed (passed k).1).0
table-time o h (Leave t s x) k = (passed (passed k).1).0
table-time o h (Trade t m x n) k = (passed (passed k).1).0
table-time o h (Parameters t p) k = (passed (passed k).1).0
table-time o h (Reference t s x) k = (passed (passed k).1).0
table-time o h (Ruling t x) k = (passed (passed k).1).0

pub table-within : (o : Opening) (h : List Entry) (e : Entry) → Table o h e 0 → Within o h e
table-within o h (Clock t) k = tt
table-within o h (Post t s m x) k = let a = passed (passed (passed (passed k).1).1).1 in (a.0, (passed a.1).0)
table-within o h (Leave t s x) k = tt
table-within o h (Trade t m x n) k = let a = passed (passed (passed (passed k).1).1).1 in (a.0, (passed a.1).0)
table-within o h (Parameters t p) k = tt
table-within o h (Reference t s x) k = tt
table-within o h (Ruling t x) k = tt

pub table_clear : (o : Opening) (h : List Entry) (t : ℕ) (s : Side) (m x : ℕ) → Table o h (Post t s m x) 0 → m ≡ 0 → Clear h s x
table_clear o h t s m x k = (passed (passed (passed (passed (passed (passed k).1).1).1).1).1).0

pub table-held : (o : Opening) (h : List Entry) (t : ℕ) (s : Side) (x : ℕ) → Table o h (Leave t s x) 0 → 0 < standing h s x
table-held o h t s x k = (passed (passed (passed k).1).1).0

-- ── the day's tests against the history ──

session_is : (slot : Slot) → Decides (is_session slot) (slot ≡ NoSession → ⊥)
session_is NoSession = ((λ e. absurd (false≢true e)), λ f. absurd (f refl))
session_is (Free s) = ((λ _ e. cc), λ _. refl)
session_is (Bounded s k) = ((λ _ e. cc), λ _. refl)

reference-of : (h : List Entry) (s : Session) → reference_of (references h) s ≡ reference h s
reference-of h Morning = refl
reference-of h Main = refl
reference-of h Evening = refl
reference-of h Weekend = refl

or_given : (x : Option ℕ) (y : ℕ) → or_else x y ≡ given x y
or_given None y = refl
or_given (Some x) y = refl

module _ (o : Opening) (h : List Entry) (w : State) (v : Agrees o h w) where
  pub lp_is : (s : Session) → lp_of w.day s ≡ lp o h s
  lp_is s =
      ap (λ (r : References). or_else (reference_of r s) w.day.params.sp) v.references_are
      ∙ (ap (λ (x : Option ℕ). or_else x w.day.params.sp) (reference-of h s)
      ∙ (or_given (reference h s) w.day.params.sp ∙ ap (λ (p : Params). given (reference h s) p.sp) v.params_are))

  window-is : (slot : Slot) → window_of w.day slot ≡ bounds o h slot
  window-is NoSession = refl
  window-is (Free s) = refl
  window-is (Bounded s k) =
      ap (λ (z : ℕ). bounded z w.day.days) (lp_is s) ∙ ap (λ (z : DaysLeft). bounded (lp o h s) z) v.days
    where
      bounded : ℕ → DaysLeft → Option BoundedWindow
      bounded z d = Some (record { session = code_of s; k = k; lp = z; up = d.upward; down = d.downward })

  pub dynamic-of : (q : ℕ) (slot : Slot) → dynamic_of w.day q slot ≡ dynamic_limits (params o h) q (bounds o h slot)
  dynamic-of q slot =
      ap (λ (p : Params). dynamic_limits p q (window_of w.day slot)) v.params_are
      ∙ ap (λ (b : Option BoundedWindow). dynamic_limits (params o h) q b) (window-is slot)

  pub time_is : (t : ℕ) → Decides (leb w.day.time t && leb t last_time) (OnTime o h t)
  time_is t = let e = v.time in grind (arith, nat_tests)

  static-here : (x : ℕ) → Decides (within x (static_of w.day)) (InStatic o h x)
  static-here x = subst (λ (p : Params). Decides (within x (static_limits p)) (InStatic o h x)) (sym v.params_are) (static_is (params o h) x)

  side-here : (t : ℕ) (s : Side) (x : ℕ) → Decides (side_within s x (dynamic_of w.day (quotation_at w.day w.book t) (slot_at o.hours t))) (InSide o h t s x)
  side-here t Buy x =
      subst (λ (l : ℕ × ℕ). Decides (side_within Buy x l) (InSide o h t Buy x)) (sym (dynamic-of _ (slot_at o.hours t)))
      (at_quotation o h w v t _ _ (upper_is (params o h) (quotation_at w.day w.book t) (bounds o h (slot_at o.hours t)) v.params_sound.3 x))
  side-here t Sell x =
      subst (λ (l : ℕ × ℕ). Decides (side_within Sell x l) (InSide o h t Sell x)) (sym (dynamic-of _ (slot_at o.hours t)))
      (at_quotation o h w v t _ _ (lower_is (params o h) (quotation_at w.day w.book t) (bounds o h (slot_at o.hours t)) v.params_sound.3 x))

  both-here : (t x : ℕ) → Decides (within x (dynamic_of w.day (quotation_at w.day w.book t) (slot_at o.hours t))) (FromDynamic o h t x × UpToDynamic o h t x)
  both-here t x = Decides-and _ _ (side-here t Sell x) (side-here t Buy x)

  apart-here : (s : Side) (x : ℕ) → Decides (not (meets s x (best_of w.book (other_side s)))) (Clear h s x)
  apart-here s x = clear_is h s x (levels_of w.book (other_side s)) (shows o h w v (other_side s))

  -- ── the answer ──

  main-rows : (t : ℕ) (s : Side) (m x : ℕ) → m ≡ 0
      → Check (m ≡ 0 → InSide o h t s x) 5 (Check (m ≡ 0 → Clear h s x) 6 (Check (m ≡ 0 → standing h s x < 65535) 7 (Check (m ≡ 0 → HasPlace o h s x) 8 Accepted)))
      (number_of (main_order o.hours w t s x))
  main-rows t s m x z =
      row _ why.OutsideDynamic _ (under _ z (side-here t s x))
      (row _ why.Crosses _ (under _ z (apart-here s x))
      (board_row o h s x m w.book z v.low v.high v.room (shows o h w v s)))

  post-rows : (t : ℕ) (s : Side) (m x : ℕ)
      → Check (m ≡ 0 → InSide o h t s x) 5 (Check (m ≡ 0 → Clear h s x) 6 (Check (m ≡ 0 → standing h s x < 65535) 7 (Check (m ≡ 0 → HasPlace o h s x) 8 Accepted)))
      (number_of (cond (eqb m 0) (main_order o.hours w t s x) (Ok tt)))
  post-rows t s m x =
      cond_both (eqb m 0) (main_order o.hours w t s x) (Ok tt)
      (λ (r : Answer). Check (m ≡ 0 → InSide o h t s x) 5 (Check (m ≡ 0 → Clear h s x) 6 (Check (m ≡ 0 → standing h s x < 65535) 7 (Check (m ≡ 0 → HasPlace o h s x) 8 Accepted))) (number_of r))
      (λ e. main-rows t s m x (eqb-true m 0 e))
      (λ e. let n = eqb-false m 0 e in passes (λ z. absurd (n z)) (passes (λ z. absurd (n z)) (passes (λ z. absurd (n z)) (passes (λ z. absurd (n z)) refl))))

  trade-row : (t m x : ℕ)
      → Check ((m ≡ 2 → ⊥) → FromDynamic o h t x × UpToDynamic o h t x) 5 Accepted
      (number_of (cond (eqb m 2) (Ok tt) (must (within x (dynamic_of w.day (quotation_at w.day w.book t) (slot_at o.hours t))) why.OutsideDynamic)))
  trade-row t m x =
      cond_both (eqb m 2) (Ok tt) _
      (λ (r : Answer). Check ((m ≡ 2 → ⊥) → FromDynamic o h t x × UpToDynamic o h t x) 5 Accepted (number_of r))
      (λ e. passes (λ n. absurd (n (eqb-true m 2 e))) refl)
      (λ e. last_row _ why.OutsideDynamic (under _ (eqb-false m 2 e) (both-here t x)))

  pub by_table : (e : Entry) → Table o h e (number_of (answer o.hours w e))
  by_table (Clock t) = last_row _ why.BadTime (time_is t)
  by_table (Post t s m x) =
      row _ why.OutOfRange _ (range_is (Post t s m x))
      (three_rows _ _ _ why.BadTime why.NoSession why.OutsideStatic _ (time_is t) (session_is (slot_at o.hours t)) (static-here x) (post-rows t s m x))
  by_table (Leave t s x) =
      row _ why.OutOfRange _ (range_is (Leave t s x))
      (row _ why.BadTime _ (time_is t) (take_row h s x (level_at x (levels_of w.book s)) (v.levels s x)))
  by_table (Trade t m x n) =
      row _ why.OutOfRange _ (range_is (Trade t m x n))
      (three_rows _ _ _ why.BadTime why.NoSession why.OutsideStatic _ (time_is t) (session_is (slot_at o.hours t)) (static-here x) (trade-row t m x))
  by_table (Parameters t p) = row _ why.OutOfRange _ (range_is (Parameters t p)) (last_row _ why.BadTime (time_is t))
  by_table (Reference t k x) = row _ why.OutOfRange _ (range_is (Reference t k x)) (last_row _ why.BadTime (time_is t))
  by_table (Ruling t x) = row _ why.OutOfRange _ (range_is (Ruling t x)) (last_row _ why.BadTime (time_is t))
