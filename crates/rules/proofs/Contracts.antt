-- From the answer and the state after a call, by equality, to what the call promises.
use Rattle.std.proofs.Common.{◌≡◌, ℕ, suc, ◌<◌, ◌≤◌, Bool, true, false, List, [], ◌∷◌, ◌++◌, length, take, drop, Ok, Decides, sym, refl, ap, ◌∙◌, subst, arith}
use Rattle.std.proofs.lemmas.Bool.Decides.{not_from_Decides}
use Rattle.std.proofs.lemmas.List.{take_at, drop_at}
use Rattle.std.proofs.lemmas.Bool.{cond-true, cond-false, le-leb, lt-leb, and_parts, false≢true}
use Rattle.entry.specs.declared.Params.{Params}
use Rattle.entry.specs.declared.Entry.{Entry}
use Rattle.entry.specs.declared.refusals.Refusal.TheVariants as why
use Rattle.board.specs.declared.levels.Level.{Level}
use Rattle.board.specs.Book.{Book, empty_book, none, is_empty}
use Rattle.plan.specs.declared.slots.Window.{Window}
use Rattle.rules.specs.declared.figures.OpenFigures.{OpenFigures}
use Rattle.rules.specs.declared.figures.ClosedFigures.{ClosedFigures}
use Rattle.rules.specs.declared.figures.TrailLine.{TrailLine}
use Rattle.rules.specs.Readings.{static_of}
use Rattle.rules.specs.Checks.{State, Answer, both, number_of, must, priced, answer, static_answer, dynamic_answer}
use Rattle.rules.specs.Effects.{after}
use Rattle.rules.specs.Runs.{lines, final, run_answer, applied, trail_after}
use Rattle.rules.specs.Days.{open_answer, opened, closed}
use Rattle.rules.specs.History.{Opening, OnTime, Check, passes, fails, Accepted}
use Rattle.rules.specs.Promise.{Kept, KeptAll, NoLevel, OpenTable, StaticPair, DynamicPair, opening_of}
use Rattle.rules.specs.Calls.{Entered, Ran, Limited, StaticTold, DynamicTold, ClosedAs, Starts}
use Rattle.rules.proofs.Tested.{decides_leb}
use Rattle.rules.proofs.Tables.{last_row, passed, time_is}
use Rattle.rules.proofs.Steps.{kept, refused-same}
use Rattle.rules.proofs.Whole.{kept_all, begins, promised, static_pair, dynamic_pair, closes, empty_is, open_table}

pub entered : (hours : List Window) (w : State) (e : Entry) (r : Answer) (w' : State) → r ≡ answer hours w e → w' ≡ after hours w e → Entered hours w e r w'
entered hours w e r w' i j = record {
  answered = i;
  left = j;
  refused = λ n. j ∙ refused-same hours w e (subst (λ (z : Answer). 0 < number_of z) i n);
  promise = subst (λ (z : Answer). Kept hours w e z w') (sym i) (subst (Kept hours w e (answer hours w e)) (sym j) (kept hours w e));
}

-- ── runs ──

lines_length : (hours : List Window) (w : State) (es : List Entry) → length (lines hours w es) ≡ length es
lines_length hours w [] = refl
lines_length hours w (e ∷ es) = ap suc (lines_length hours (after hours w e) es)

module _ (hours : List Window) (w : State) (es : List Entry) (trail : List TrailLine) (r : Answer) (w' : State) (trail' : List TrailLine)
    (i : r ≡ run_answer es (length trail)) (j : w' ≡ final hours w (applied es (length trail))) (k : trail' ≡ trail_after hours w es trail) where
  run-table : Check (length es ≤ length trail) 10 Accepted (number_of r)
  run-table = subst (λ (z : Answer). Check (length es ≤ length trail) 10 Accepted (number_of z)) (sym i) (last_row _ why.TrailShort (decides_leb (length es) (length trail)))

  -- the entries that were applied are all of them, or none
  all-applied : number_of r ≡ 0 → applied es (length trail) ≡ es
  all-applied z = elim run-table [ passes p _ ↦ cond-true _ _ _ (le-leb _ _ p) | fails _ e ↦ absurd (omega arith) ]

  none-applied : 0 < number_of r → applied es (length trail) ≡ []
  none-applied n = elim run-table [ passes _ e ↦ absurd (omega arith) | fails f _ ↦ cond-false _ _ _ (lt-leb _ _ (short f)) ]
    where
      short : (length es ≤ length trail → ⊥) → length trail < length es
      short f = omega arith

  trail-of : (fs : List Entry) → applied es (length trail) ≡ fs → trail' ≡ lines hours w fs ++ drop (length fs) trail
  trail-of fs e = k ∙ ap (λ (gs : List Entry). lines hours w gs ++ drop (length gs) trail) e

  front : number_of r ≡ 0 → take (length es) trail' ≡ lines hours w es
  front z = ap (take (length es)) (trail-of es (all-applied z)) ∙ take_at (lines hours w es) (drop (length es) trail) (length es) (lines_length hours w es)

  pub ran : Ran hours w es trail r w' trail'
  ran = record {
    answered = i;
    left = j;
    written = k;
    table = run-table;
    refused = λ n. (j ∙ ap (final hours w) (none-applied n), trail-of [] (none-applied n));
    promise = λ z.
        subst (λ (ls : List TrailLine). KeptAll hours w es ls w') (sym (front z))
        (subst (KeptAll hours w es (lines hours w es)) (sym (j ∙ ap (final hours w) (all-applied z))) (kept_all hours w es));
    past = λ z. ap (drop (length es)) (trail-of es (all-applied z)) ∙ drop_at (lines hours w es) (drop (length es) trail) (length es) (lines_length hours w es);
  }

-- ── limits and close ──

limited : (o : Opening) (h : List Entry) (t : ℕ) (Pair : ℕ × ℕ → Type 0) (pair : ℕ × ℕ) (b : Bool) → Decides b (OnTime o h t) → Pair pair → Limited o h t Pair (priced (must b why.BadTime) pair)
limited o h t Pair pair true d p = (d.0 refl, p)
limited o h t Pair pair false d p = (not_from_Decides false d refl, refl)

pub static_told : (d : OpenFigures) (t : ℕ) → StaticTold d t (static_answer d t)
static_told d t o h b v = limited o h t (StaticPair o h) (static_of d) _ (time_is o h (both d b) v t) (static_pair o h (both d b) v)

pub dynamic_told : (hours : List Window) (w : State) (t : ℕ) → DynamicTold hours w t (dynamic_answer hours w t)
dynamic_told hours w t o h i v =
    subst (λ (z : List Window). Limited o h t (DynamicPair o h t) (dynamic_answer z w t)) i
    (limited o h t (DynamicPair o h t) _ _ (time_is o h w v t) (dynamic_pair o h w v t))

pub closed_as : (d : OpenFigures) → ClosedAs d (closed d)
closed_as d o h b v = closes o h (both d b) v

-- ── open ──

empty-levels : (ls : List Level) → none ls ≡ true → ls ≡ []
empty-levels [] e = refl
empty-levels (l ∷ ls) e = absurd (false≢true e)

empty-book : (b : Book) → is_empty b ≡ true → b ≡ empty_book b.low b.high b.room
empty-book b e =
    let p = and_parts (none b.buys) (none b.sells) e in
    ap (λ (ls : List Level). book ls b.sells) (empty-levels b.buys p.0) ∙ ap (λ (ls : List Level). book [] ls) (empty-levels b.sells p.1)
  where
    book : List Level → List Level → Book
    book buys sells = record { low = b.low; high = b.high; room = b.room; buys = buys; sells = sells }

pub starts : (b : Book) (c : ClosedFigures) (t : ℕ) (p : Params) → open_answer b t p ≡ Ok tt → Starts b c t p (opened c t p)
starts b c t p a =
    let k = subst (λ (z : Answer). OpenTable (NoLevel b) t p (number_of z)) a (open_table b t p) in
    let first = passed k in
    let second = passed first.1 in
    let third = passed second.1 in
    let e = (empty_is b).1 third.0 in
    record {
      begins = begins b c t p first.0 e;
      begun = λ hours. ap (λ (z : Book). both (opened c t p) z) (empty-book b e);
      promise = λ hours calls. promised (opening_of hours b c t p) calls (first.0, second.0);
    }
