-- One entry: it is answered by the table, and an accepted one keeps day and board to the history.
use Rattle.std.proofs.Common.{◌≡◌, ℕ, ◌<◌, true, eqb, List, ◌∷◌, Ok, Err, Result, sym, refl, ap, ◌∙◌, subst, arith}
use Rattle.std.proofs.lemmas.Bool.{cond_both, eqb-true, and_left, cond-true}
use Rattle.entry.specs.declared.Side.{Side}
use Rattle.entry.specs.declared.Side.TheVariants.{Buy, Sell}
use Rattle.entry.specs.declared.Entry.{Entry}
use Rattle.entry.specs.declared.Entry.TheVariants.{Clock, Post, Leave, Trade, Parameters, Reference, Ruling}
use Rattle.entry.specs.declared.refusals.Refusal.{Refusal}
use Rattle.entry.specs.declared.refusals.Refusal.TheVariants as why
use Rattle.entry.specs.Refusals.{number}
use Rattle.board.specs.declared.faults.BoardFault.{BoardFault}
use Rattle.board.specs.declared.levels.Level.{Level}
use Rattle.board.specs.Book.{Book, levels_of, with_levels}
use Rattle.board.specs.Calls.{on_ok, add_answer, added, take_answer, taken}
use Rattle.plan.specs.declared.slots.Window.{Window}
use Rattle.plan.specs.Hours.{slot_at}
use Rattle.rules.specs.Readings.{quotation_at}
use Rattle.rules.specs.Checks.{State, Answer, number_of, must, and_then, is_in_range, on_time, listed, in_side, apart, by_board, answer}
use Rattle.rules.specs.Effects.{time_of, book_after, moved, after}
use Rattle.rules.specs.History.{Opening, at, Grounds, Table}
use Rattle.rules.specs.Promise.{Agrees, Told, Kept}
use Rattle.rules.proofs.Keeps.{Stocked, quiet, stocked_post, stocked_leave}
use Rattle.rules.proofs.Grounds.{grounds, one_ground}
use Rattle.rules.proofs.Tables.{one_answer, by_table, table_range, table-time, table-within, table_clear, table-held}
use Rattle.rules.proofs.Carried.{upward_is, downward_is, params-after, params_sound_after, references-after, forerun_after}

-- every refusal has a number above 0
pub number_positive : (r : Refusal) → 0 < number r
number_positive why.OutOfRange = omega arith
number_positive why.BadTime = omega arith
number_positive why.NoSession = omega arith
number_positive why.OutsideStatic = omega arith
number_positive why.OutsideDynamic = omega arith
number_positive why.Crosses = omega arith
number_positive why.LevelFull = omega arith
number_positive why.NoPlace = omega arith
number_positive why.NothingThere = omega arith
number_positive why.TrailShort = omega arith
number_positive why.BoardNotEmpty = omega arith
number_positive why.WindowOverlaps = omega arith
number_positive why.TooManyWindows = omega arith
number_positive (why.FeedEnds place) = omega arith
number_positive (why.UnknownKind place) = omega arith
number_positive (why.SpareBitSet place) = omega arith
number_positive why.FeedTooLong = omega arith
number_positive why.OutputShort = omega arith

-- ── the board after an accepted entry ──

-- what the last of several checks answered
last_ok : (a b : Answer) → and_then a b ≡ Ok tt → b ≡ Ok tt
last_ok (Ok v) b e = e
last_ok (Err x) b e = cc

board_ok : (r : Result (Unit {0}) BoardFault) → by_board r ≡ Ok tt → r ≡ Ok tt
board_ok (Ok v) e = refl
board_ok (Err f) e = cc

done : {X E : Type 0} (r : Result (Unit {0}) E) (new old : X) → r ≡ Ok tt → on_ok r new old ≡ new
done r new old e = ap (λ k. on_ok k new old) e

-- an accepted post of main trading, and an accepted leave, were accepted by the board
post_board : (hours : List Window) (w : State) (t : ℕ) (s : Side) (m p : ℕ) → eqb m 0 ≡ true → answer hours w (Post t s m p) ≡ Ok tt → add_answer w.book s p ≡ Ok tt
post_board hours w t s m p i a =
    let b = last_ok (must (is_in_range (Post t s m p)) why.OutOfRange) _ a in
    let c = sym (cond-true (eqb m 0) _ _ i) ∙ last_ok (listed hours w.day t p) _ b in
    let d = last_ok (in_side w.day s p (quotation_at w.day w.book t) (slot_at hours t)) _ c in
    board_ok _ (last_ok (apart w.book s p) _ d)

leave_board : (hours : List Window) (w : State) (t : ℕ) (s : Side) (p : ℕ) → answer hours w (Leave t s p) ≡ Ok tt → take_answer w.book s p ≡ Ok tt
leave_board hours w t s p a =
    board_ok _ (last_ok (on_time w.day t) _ (last_ok (must (is_in_range (Leave t s p)) why.OutOfRange) _ a))

-- an entry keeps the board's range and greatest number
abbrev SameBoard : Book → Book → Type 0
SameBoard a b = (a.low ≡ b.low) × (a.high ≡ b.high) × (a.room ≡ b.room)

same-levels : (b : Book) (s : Side) (ls : List Level) → SameBoard (with_levels b s ls) b
same-levels b Buy ls = (refl, refl, refl)
same-levels b Sell ls = (refl, refl, refl)

same-done : {E : Type 0} (r : Result (Unit {0}) E) (a b : Book) → SameBoard a b → SameBoard (on_ok r a b) b
same-done (Ok v) a b k = k
same-done (Err e) a b k = (refl, refl, refl)

same_board : (b : Book) (e : Entry) → SameBoard (book_after b e) b
same_board b (Clock t) = (refl, refl, refl)
same_board b (Post t s m p) =
    cond_both (eqb m 0) _ _ (λ (a : Book). SameBoard a b) (λ _. same-done (add_answer b s p) _ b (same-levels b s _)) (λ _. (refl, refl, refl))
same_board b (Leave t s p) = same-done (take_answer b s p) _ b (same-levels b s _)
same_board b (Trade t m p n) = (refl, refl, refl)
same_board b (Parameters t p) = (refl, refl, refl)
same_board b (Reference t k p) = (refl, refl, refl)
same_board b (Ruling t p) = (refl, refl, refl)

module _ (o : Opening) (h : List Entry) (w : State) (v : Agrees o h w) where
  stock : Stocked h w.book
  stock = record { levels = v.levels; enough = v.enough; sorted = v.sorted; uncrossed = v.uncrossed }

  stocked-after : (e : Entry) → answer o.hours w e ≡ Ok tt → Table o h e 0 → Stocked (e ∷ h) (book_after w.book e)
  stocked-after (Clock t) a k = quiet (Clock t) h w.book (λ _ _. refl) (λ _ _. refl) stock
  stocked-after (Post t s m p) a k =
      cond_both (eqb m 0) _ _ (Stocked (Post t s m p ∷ h))
      (λ i.
      let z = eqb-true m 0 i in
      let c = post_board o.hours w t s m p i a in
      subst (Stocked (Post t s m p ∷ h)) (sym (done (add_answer w.book s p) (with_levels w.book s (added s p t (levels_of w.book s))) w.book c))
      (subst (λ (n : ℕ). Stocked (Post t s n p ∷ h) (with_levels w.book s (added s p t (levels_of w.book s)))) (sym z)
      (stocked_post h w.book t s p stock (table_clear o h t s m p k z))))
      (λ i. quiet (Post t s m p) h w.book (λ _ _. and_left _ _ i) (λ _ _. refl) stock)
  stocked-after (Leave t s p) a k =
      let c = leave_board o.hours w t s p a in
      subst (Stocked (Leave t s p ∷ h)) (sym (done (take_answer w.book s p) (with_levels w.book s (taken p (levels_of w.book s))) w.book c))
      (stocked_leave h w.book t s p stock (table-held o h t s p k))
  stocked-after (Trade t m p n) a k = quiet (Trade t m p n) h w.book (λ _ _. refl) (λ _ _. refl) stock
  stocked-after (Parameters t p) a k = quiet (Parameters t p) h w.book (λ _ _. refl) (λ _ _. refl) stock
  stocked-after (Reference t s p) a k = quiet (Reference t s p) h w.book (λ _ _. refl) (λ _ _. refl) stock
  stocked-after (Ruling t p) a k = quiet (Ruling t p) h w.book (λ _ _. refl) (λ _ _. refl) stock

  time-at : (e : Entry) → time_of e ≡ at e
  time-at (Clock t) = refl
  time-at (Post t s m p) = refl
  time-at (Leave t s p) = refl
  time-at (Trade t m p n) = refl
  time-at (Parameters t p) = refl
  time-at (Reference t k p) = refl
  time-at (Ruling t p) = refl

  -- an accepted entry keeps every figure to the history
  pub agrees_after : (e : Entry) → answer o.hours w e ≡ Ok tt → Table o h e 0 → Agrees o (e ∷ h) (moved o.hours w e)
  agrees_after e a k =
      let b = same_board w.book e in
      let c = stocked-after e a k in
      record {
        low = b.0 ∙ v.low;
        high = b.1 ∙ v.high;
        room = b.2 ∙ v.room;
        levels = c.levels;
        enough = c.enough;
        sorted = c.sorted;
        uncrossed = c.uncrossed;
        time = time-at e;
        timely = ((table-time o h e k).0, v.timely);
        quotation = (w.day.quotation, v.quotation, grounds o h w v e);
        no_other = λ q p.
            one_ground h w.day.quotation e q _ v.uncrossed
            (subst (λ (z : ℕ). Grounds h z e q) (v.no_other p.0 p.1) p.2) (grounds o h w v e);
        params_are = params-after o h w v e;
        params_sound = params_sound_after o h w v e (table_range o h e k);
        references_are = references-after o h w v e;
        upward = upward_is o h w v e;
        downward = downward_is o h w v e;
        days = v.days;
        buy_forerunner = forerun_after o h w v e Buy;
        sell_forerunner = forerun_after o h w v e Sell;
        within = (table-within o h e k, v.within);
      }

  told-by : (e : Entry) (r : Answer) → answer o.hours w e ≡ r → Told o h e (number_of r) w (on_ok r (moved o.hours w e) w)
  told-by e (Ok u) a =
      let k : Table o h e 0 = subst (λ (z : Answer). Table o h e (number_of z)) a (by_table o h w v e) in
      record {
        table = k;
        no_other = λ n t. one_answer o h e n 0 t k;
        accepted = λ _. (table-within o h e k, agrees_after e a k);
        refused = λ n. absurd (omega arith);
      }
  told-by e (Err x) a =
      let k : Table o h e (number x) = subst (λ (z : Answer). Table o h e (number_of z)) a (by_table o h w v e) in
      record {
        table = k;
        no_other = λ n t. one_answer o h e n (number x) t k;
        accepted = λ z. absurd (let p = number_positive x in omega arith);
        refused = λ _. refl;
      }

  pub told : (e : Entry) → Told o h e (number_of (answer o.hours w e)) w (after o.hours w e)
  told e = told-by e (answer o.hours w e) refl

-- whatever history led to the day and the board, an entry keeps the promise
pub kept : (hours : List Window) (w : State) (e : Entry) → Kept hours w e (answer hours w e) (after hours w e)
kept hours w e o h i v = subst (λ (z : List Window). Told o h e (number_of (answer z w e)) w (after z w e)) i (told o h w v e)

-- a refused entry changes nothing
pub refused-same : (hours : List Window) (w : State) (e : Entry) → 0 < number_of (answer hours w e) → after hours w e ≡ w
refused-same hours w e n = stays (answer hours w e) (moved hours w e) w n
  where
    stays : (r : Answer) (new old : State) → 0 < number_of r → on_ok r new old ≡ old
    stays (Ok u) new old n = absurd (omega arith)
    stays (Err x) new old n = refl
