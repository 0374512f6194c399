-- Opening, every list of entries, every list of calls, striking, limits and close: the whole promise.
use Rattle.std.proofs.Common.{◌≡◌, ℕ, ◌-◌, ◌<◌, Bool, true, false, cond, eqb, leb, List, [], ◌∷◌, ◌++◌, Some, None, Ok, Err, Decides, Option, sym, refl, ap, ◌∙◌, subst, inl, inr, arith}
use Rattle.std.proofs.lemmas.Option.{none-some}
use Rattle.std.proofs.lemmas.Bool.Decides.{Decides-and, not_from_Decides, nat_tests}
use Rattle.std.proofs.lemmas.Bool.{cond-true, eq-eqb, ne_eqb, and_parts, false≢true}
use Rattle.entry.specs.declared.Side.{Side}
use Rattle.entry.specs.declared.Side.TheVariants.{Buy, Sell}
use Rattle.entry.specs.declared.Params.{Params}
use Rattle.entry.specs.declared.Entry.{Entry}
use Rattle.entry.specs.declared.refusals.Refusal.TheVariants as why
use Rattle.entry.specs.Refusals.{number}
use Rattle.board.specs.declared.levels.Level.{Level}
use Rattle.board.specs.Book.{Book, empty_book, levels_of, level_at, none, is_empty}
use Rattle.board.specs.Calls.{on_ok}
use Rattle.board.specs.Sound.{Sorted}
use Rattle.plan.specs.declared.slots.Window.{Window}
use Rattle.plan.specs.Hours.{slot_at}
use Rattle.limits.specs.Rounded.{static_limits}
use Rattle.limits.proofs.Joined.{lower_exact, upper_exact}
use Rattle.rules.specs.declared.figures.ClosedFigures.{ClosedFigures}
use Rattle.rules.specs.declared.figures.TrailLine.{TrailLine}
use Rattle.rules.specs.Readings.{or_else, quotation_at, static_of, dynamic_of}
use Rattle.rules.specs.Checks.{State, Answer, number_of, last_time, answer}
use Rattle.rules.specs.Effects.{moved, after}
use Rattle.rules.specs.Runs.{line_of, lines, final, Call, entries_of, all_entries, after_calls}
use Rattle.rules.specs.Days.{open_answer, opened, days_after, closed}
use Rattle.rules.specs.History.{Opening, first_quotation, params, bounds, AreParams}
use Rattle.rules.specs.Promise.{Agrees, Told, Answered, accepted, KeptAll, struck, OnlyRefused, OpenTable, NoLevel, Begins, Closes, StaticPair, DynamicPair, Opens, start, Promised}
use Rattle.rules.proofs.Tested.{params_is, static_lower, static_upper}
use Rattle.rules.proofs.Grounds.{quoted_at}
use Rattle.rules.proofs.Tables.{row, last_row, one_answer, dynamic-of}
use Rattle.rules.proofs.Steps.{number_positive, told}

-- ── opening ──

-- no level stands on a side exactly if it has none
none_is : (ls : List Level) → Decides (none ls) ((x : ℕ) → level_at x ls ≡ None)
none_is [] = ((λ _ _. refl), λ _. refl)
none_is (l ∷ ls) =
    ((λ e. absurd (false≢true e)), λ f. absurd (none-some l (sym (f l.price) ∙ cond-true _ _ _ (eq-eqb l.price l.price refl))))

pub empty_is : (b : Book) → Decides (is_empty b) (NoLevel b)
empty_is b =
    let d = Decides-and _ _ (none_is b.buys) (none_is b.sells) in
    ((λ e. sides (d.0 e)), λ f. d.1 (f Buy, f Sell))
  where
    sides : ((x : ℕ) → level_at x b.buys ≡ None) × ((x : ℕ) → level_at x b.sells ≡ None) → NoLevel b
    sides p Buy = p.0
    sides p Sell = p.1

late_is : (t : ℕ) → Decides (leb t last_time) (t < 864000000)
late_is t = grind (arith, nat_tests)

pub open_table : (b : Book) (t : ℕ) (p : Params) → OpenTable (NoLevel b) t p (number_of (open_answer b t p))
open_table b t p = row _ why.OutOfRange _ (params_is p) (row _ why.BadTime _ (late_is t) (last_row _ why.BoardNotEmpty (empty_is b)))

sorted_none : (s : Side) (ls : List Level) → none ls ≡ true → Sorted s ls
sorted_none s [] e = tt
sorted_none s (l ∷ ls) e = absurd (false≢true e)

first_is : (q : Option ℕ) (p : Params) → or_else q p.sp ≡ first_quotation q p
first_is None p = refl
first_is (Some x) p = refl

pub begins : (b : Book) (c : ClosedFigures) (t : ℕ) (p : Params) → AreParams p → is_empty b ≡ true → Begins b c t p (opened c t p)
begins b c t p sound e hours = record {
  low = refl;
  high = refl;
  room = refl;
  levels = (empty_is b).0 e;
  enough = λ s x. omega arith;
  sorted = sorts;
  uncrossed = λ x y n m. omega arith;
  time = refl;
  timely = tt;
  quotation = first_is c.quotation p;
  no_other = λ q i. i ∙ sym (first_is c.quotation p);
  params_are = refl;
  params_sound = sound;
  references_are = refl;
  upward = ((λ k. absurd (false≢true k)), λ k. absurd k);
  downward = ((λ k. absurd (false≢true k)), λ k. absurd k);
  days = refl;
  buy_forerunner = refl;
  sell_forerunner = refl;
  within = tt;
}
  where
    sorts : (s : Side) → Sorted s (levels_of b s)
    sorts Buy = sorted_none Buy b.buys (and_parts _ _ e).0
    sorts Sell = sorted_none Sell b.sells (and_parts _ _ e).1

-- ── every list of entries ──

abbrev Whole : Opening → List Entry → State → List Entry → Type 0
Whole o h w es = Answered o h es (lines o.hours w es) × Agrees o (accepted h es (lines o.hours w es)) (final o.hours w es)

-- from one entry on, whatever it was answered
onward : (o : Opening) (h : List Entry) (w : State) (e : Entry) (es : List Entry) (r : Answer) (new : State) → Told o h e (number_of r) w (on_ok r new w)
    → (Agrees o (e ∷ h) new → Whole o (e ∷ h) new es) → Whole o h w es
    → Answered o h (e ∷ es) (line_of r (on_ok r new w).day.quotation ∷ lines o.hours (on_ok r new w) es)
    × Agrees o (accepted h (e ∷ es) (line_of r (on_ok r new w).day.quotation ∷ lines o.hours (on_ok r new w) es)) (final o.hours (on_ok r new w) es)
onward o h w e es (Ok u) new t taken kept =
    let a = (t.accepted refl).1 in
    let k = taken a in
    ((t.table, inl (refl, a.quotation, k.0)), k.1)
onward o h w e es (Err x) new t taken kept =
    let z : eqb (number x) 0 ≡ false = ne_eqb (number x) 0 (λ i. let p = number_positive x in omega arith) in (
      (t.table, inr (number_positive x, refl, kept.0)),
      subst (λ (b : Bool). Agrees o (accepted (cond b (e ∷ h) h) es (lines o.hours w es)) (final o.hours w es)) (sym z) kept.1,
    )

pub whole : (o : Opening) (h : List Entry) (w : State) (es : List Entry) → Agrees o h w → Whole o h w es
whole o h w [] v = (tt, v)
whole o h w (e ∷ es) v =
    let taken = whole o (e ∷ h) (moved o.hours w e) es in
    let kept = whole o h w es v in
    onward o h w e es (answer o.hours w e) (moved o.hours w e) (told o h w v e) taken kept

pub kept_all : (hours : List Window) (w : State) (es : List Entry) → KeptAll hours w es (lines hours w es) (final hours w es)
kept_all hours w es o h i v =
    subst (λ (z : List Window). Answered o h es (lines z w es) × Agrees o (accepted h es (lines z w es)) (final z w es)) i (whole o h w es v)

-- ── striking ──

refused_stays : (r : Answer) (q : ℕ) (new old : State) → 0 < (line_of r q).answer → on_ok r new old ≡ old
refused_stays (Ok u) q new old n = absurd (omega arith)
refused_stays (Err x) q new old n = refl

pub striking : (hours : List Window) (w : State) (ks : List Bool) (es : List Entry) → OnlyRefused ks (lines hours w es)
    → (lines hours w (struck ks es) ≡ struck ks (lines hours w es)) × (final hours w (struck ks es) ≡ final hours w es)
striking hours w [] es b = (refl, refl)
striking hours w (true ∷ ks) [] b = (refl, refl)
striking hours w (false ∷ ks) [] b = (refl, refl)
striking hours w (true ∷ ks) (e ∷ es) b =
    let ih = striking hours (after hours w e) ks es b in
    (ap (λ (ls : List TrailLine). line_of (answer hours w e) (after hours w e).day.quotation ∷ ls) ih.0, ih.1)
striking hours w (false ∷ ks) (e ∷ es) b =
    let back : after hours w e ≡ w = refused_stays (answer hours w e) (after hours w e).day.quotation (moved hours w e) w b.0 in
    let ih = striking hours w ks es (subst (λ (z : State). OnlyRefused ks (lines hours z es)) back b.1) in
    subst (λ (z : State). (lines hours w (struck ks es) ≡ struck ks (lines hours z es)) × (final hours w (struck ks es) ≡ final hours z es)) (sym back) ih

-- ── every list of calls ──

final_join : (hours : List Window) (w : State) (es fs : List Entry) → final hours w (es ++ fs) ≡ final hours (final hours w es) fs
final_join hours w [] fs = refl
final_join hours w (e ∷ es) fs = final_join hours (after hours w e) es fs

calls_join : (hours : List Window) (w : State) (cs : List Call) → final hours w (all_entries cs) ≡ after_calls hours w cs
calls_join hours w [] = refl
calls_join hours w (c ∷ cs) = final_join hours w (entries_of c) (all_entries cs) ∙ calls_join hours (final hours w (entries_of c)) cs

-- a day opened on an empty board agrees with the history of no entry
pub started : (o : Opening) → Opens o → Agrees o [] (start o)
started o k = begins (empty_book o.low o.high o.room) o.before o.time o.params k.0 refl o.hours

pub promised : Promised
promised o cs k =
    let es = all_entries cs in
    let w = whole o [] (start o) es (started o k) in
    record {
      answered = w.0;
      one_answer = λ h e m n. one_answer o h e m n;
      agrees = subst (Agrees o (accepted [] es (lines o.hours (start o) es))) (calls_join o.hours (start o) cs) w.1;
      struck_lines = λ ks b. (striking o.hours (start o) ks es b).0;
      struck_end = λ ks b. (striking o.hours (start o) ks es b).1 ∙ calls_join o.hours (start o) cs;
    }

-- ── limits and close ──

module _ (o : Opening) (h : List Entry) (w : State) (v : Agrees o h w) where
  pub static_pair : StaticPair o h (static_of w.day)
  static_pair = subst (λ (p : Params). StaticPair o h (static_limits p)) (sym v.params_are) (static_lower (params o h), static_upper (params o h))

  pub dynamic_pair : (t : ℕ) → DynamicPair o h t (dynamic_of w.day (quotation_at w.day w.book t) (slot_at o.hours t))
  dynamic_pair t =
      let q = quotation_at w.day w.book t in
      let b = bounds o h (slot_at o.hours t) in
      subst (DynamicPair o h t) (sym (dynamic-of o h w v q (slot_at o.hours t)))
      (q, quoted_at o h w v t, lower_exact (params o h) q b _ refl v.params_sound.3, upper_exact (params o h) q b _ refl v.params_sound.3)

  days-marked : (b : Bool) {M : Type 0} (n m : ℕ) → Decides b M → n ≡ m → (M → days_after b n ≡ 2) × ((M → ⊥) → days_after b n ≡ m - 1)
  days-marked true n m d e = ((λ _. refl), λ f. absurd (f (d.0 refl)))
  days-marked false n m d e = ((λ k. absurd (not_from_Decides false d refl k)), λ _. ap (λ z. z - 1) e)

  pub closes : Closes o h (closed w.day)
  closes =
      let up = days-marked w.day.marks.upward w.day.days.upward o.before.days.upward v.upward (ap (λ d. d.upward) v.days) in
      let down = days-marked w.day.marks.downward w.day.days.downward o.before.days.downward v.downward (ap (λ d. d.downward) v.days) in
      record {
        quoted = (w.day.quotation, v.quotation, refl);
        marked_up = up.0;
        unmarked_up = up.1;
        marked_down = down.0;
        unmarked_down = down.1;
      }
