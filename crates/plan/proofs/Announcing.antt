-- What an announced plan's calls find on the shelf, and what they leave there.
use Rattle.std.proofs.Common.{◌≡◌, ℕ, zero, suc, ◌-◌, ◌<◌, Bool, true, false, cond, ltb, List, length, Some, None, Ok, Err, Option, Result, sym, refl, ap, ◌∙◌, inl, inr, arith}
use Rattle.std.proofs.lemmas.Bool.{cases_Bool, cond-true, cond-false}
use Rattle.std.proofs.lemmas.Bool.Decides.{nat_tests}
use Rattle.std.specs.List.{slice_get}
use Rattle.entry.specs.declared.refusals.Refusal.{Refusal}
use Rattle.entry.specs.declared.refusals.Refusal.TheVariants.{TooManyWindows}
use Rattle.entry.specs.declared.windows.Announcement.{Announcement}
use Rattle.shelf.specs.declared.ShelfFault.{ShelfFault}
use Rattle.shelf.specs.declared.ShelfFault.TheVariants.{NoRoom}
use Rattle.shelf.specs.Order.{ascends, sought, placed}
use Rattle.shelf.specs.Calls.{on_ok, insert_answer, insert_live}
use Rattle.shelf.proofs.Order.{sought_ok, sought_err}
use Rattle.plan.specs.declared.slots.Session.{Session}
use Rattle.plan.specs.declared.slots.Window.{Window}
use Rattle.plan.specs.Hours.{in_order}
use Rattle.plan.specs.Windows.{most_windows, start_of, earlier, last_by, overlaps_any}
use Rattle.plan.specs.Announced.{window_in, add_answer, add_after}
use Rattle.plan.proofs.Apart.{before_at, last_at, last_before, start_free, order_placed}

-- the search for a time finds the last window that starts at or before it
module _ (t : ℕ) (ws : List Window) (at : ℕ) where
  pub found_at : ascends start_of earlier ws ≡ true → Ok at ≡ sought start_of earlier t ws → slice_get ws at ≡ last_by t ws
  found_at a e =
      let s = sought_ok start_of earlier t ws at e in
      ap (slice_get ws) s.1 ∙ last_at t None ws a s.0

  before : Err at ≡ sought start_of earlier t ws → before_at None ws at ≡ last_by t ws
  before e =
      let s = sought_err start_of earlier t ws at e in
      ap (before_at None ws) s.1 ∙ last_before t None ws s.0

  pub found_none : Err at ≡ sought start_of earlier t ws → at ≡ 0 → None ≡ last_by t ws
  found_none e z = sym (ap (before_at None ws) z) ∙ before e

one_less : (ws : List Window) (at : ℕ) → (at ≡ 0 → ⊥) → slice_get ws (at - 1) ≡ before_at None ws at
one_less ws zero n = absurd (n refl)
one_less ws (suc i) n = let e : suc i - 1 ≡ i = omega arith in ap (slice_get ws) e

pub found_before-one_less : (t : ℕ) (ws : List Window) (at : ℕ) → Err at ≡ sought start_of earlier t ws → (at ≡ 0 → ⊥) → slice_get ws (at - 1) ≡ last_by t ws
found_before-one_less t ws at e n = one_less ws at n ∙ before t ws at e

pub found_before : (t : ℕ) (ws : List Window) (at i : ℕ) → Err at ≡ sought start_of earlier t ws → at ≡ suc i → slice_get ws i ≡ last_by t ws
found_before t ws at i e s = ap (before_at None ws) (sym s) ∙ before t ws at e

-- a window in range starts before its end
pub in-range : (a : Announcement) (session : Option Session) (w : Window) → Ok w ≡ window_in a session → w.start < w.end
in-range a None w e = absurd (let z : ◌≡◌ {A = ℕ} 0 1 = cc in omega arith)
in-range a (Some session) w e = grind (arith, nat_tests)

-- a shelf's answer in the plan's words: the plan asks only for starts that do not stand, so that a refusal is for want of room
abbrev pub told_as : Result (Unit {0}) ShelfFault → Result (Unit {0}) Refusal
told_as (Ok u) = Ok u
told_as (Err fault) = Err TooManyWindows

told_either : (b : Bool) → told_as (cond b (Ok tt) (Err NoRoom)) ≡ cond b (Ok tt) (Err TooManyWindows)
told_either true = refl
told_either false = refl

told_leaves : (r : Result (Unit {0}) ShelfFault) (more same : List Window) → on_ok (told_as r) more same ≡ on_ok r more same
told_leaves (Ok u) more same = refl
told_leaves (Err fault) more same = refl

-- what a call leaves holds if it holds of the windows with one more and of those before
either_way : {E : Type 0} (test : List Window → Bool) (r : Result (Unit {0}) E) (more same : List Window) → test more ≡ true → test same ≡ true → test (on_ok r more same) ≡ true
either_way test (Ok u) more same m s = m
either_way test (Err e) more same m s = s

module _ (w : Window) (proper : w.start < w.end) (ws : List Window) (order : in_order 0 ws ≡ true) (apart : false ≡ overlaps_any w ws) where
  pub order_inserted : (most : ℕ) → in_order 0 (insert_live start_of earlier w ws most) ≡ true
  order_inserted most =
      either_way (in_order 0) (insert_answer start_of earlier w ws most) (placed start_of earlier w ws) ws (order_placed w proper 0 ws order (sym apart) (omega arith)) order

  -- the shelf refuses the window only for want of room
  inserted : (most : ℕ) → most ≡ most_windows → insert_answer start_of earlier w ws most ≡ cond (ltb (length ws) most_windows) (Ok tt) (Err NoRoom)
  inserted most m =
      cond-false _ _ _ (start_free w proper 0 ws order (sym apart))
      ∙ ap (λ n. cond (ltb (length ws) n) (Ok tt) (Err NoRoom)) m

  added : add_answer w ws ≡ cond (ltb (length ws) most_windows) (Ok tt) (Err TooManyWindows)
  added = cond-false _ _ _ (sym apart)

  module _ (most : ℕ) (m : most ≡ most_windows) where
    -- where the shelf has room, the window is accepted, and else it is refused
    room : (u : Unit {0}) → Ok u ≡ insert_answer start_of earlier w ws most → ltb (length ws) most_windows ≡ true
    room u e = let i = e ∙ inserted most m in elim (cases_Bool (ltb (length ws) most_windows)) [
      | inl r ↦ r
      | inr r ↦ absurd (let f = i ∙ cond-false _ _ _ r in let z : ◌≡◌ {A = ℕ} 0 1 = cc in omega arith)
    ]

    no_room : (f : ShelfFault) → Err f ≡ insert_answer start_of earlier w ws most → ltb (length ws) most_windows ≡ false
    no_room f e = let i = e ∙ inserted most m in elim (cases_Bool (ltb (length ws) most_windows)) [
      | inl r ↦ absurd (let g = i ∙ cond-true _ _ _ r in let z : ◌≡◌ {A = ℕ} 0 1 = cc in omega arith)
      | inr r ↦ r
    ]

    -- the plan tells the shelf's refusal in its own word
    pub answer_told : told_as (insert_answer start_of earlier w ws most) ≡ add_answer w ws
    answer_told = ap told_as (inserted most m) ∙ told_either (ltb (length ws) most_windows) ∙ sym added

    pub accepted : (u : Unit {0}) → Ok u ≡ insert_answer start_of earlier w ws most → Ok tt ≡ add_answer w ws
    accepted u e = ap told_as e ∙ answer_told

    pub refused : (f : ShelfFault) → Err f ≡ insert_answer start_of earlier w ws most → Err TooManyWindows ≡ add_answer w ws
    refused f e = ap told_as e ∙ answer_told

    -- either way the plan holds the windows that the shelf holds
    pub after_same : insert_live start_of earlier w ws most ≡ add_after w ws
    after_same =
        sym (told_leaves (insert_answer start_of earlier w ws most) (placed start_of earlier w ws) ws)
        ∙ ap (λ r. on_ok r (placed start_of earlier w ws) ws) answer_told
