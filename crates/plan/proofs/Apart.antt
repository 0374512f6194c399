-- Windows in order: what the last one that starts by a time says of the slot there and of overlaps, and one more at its place.
use Rattle.std.proofs.Common.{◌≡◌, ℕ, zero, suc, ◌-◌, ◌<◌, ◌≤◌, Bool, true, false, cond, ◌||◌, ltb, ◌⊎◌, List, [], ◌∷◌, Some, None, Option, refl, ◌∙◌, arith}
use Rattle.std.proofs.lemmas.Bool.{and_parts}
use Rattle.std.proofs.lemmas.Bool.Decides.{nat_tests}
use Rattle.std.specs.List.{slice_get}
use Rattle.shelf.specs.Order.{all_after, ascends, place, stands, placed}
use Rattle.plan.specs.declared.slots.Slot.{Slot}
use Rattle.plan.specs.declared.slots.Slot.TheVariants.{NoSession}
use Rattle.plan.specs.declared.slots.Window.{Window}
use Rattle.plan.specs.Hours.{slot_at, in_order}
use Rattle.plan.specs.Windows.{start_of, earlier, last_from, last_by, overlaps_any}
use Rattle.plan.proofs.Order.{order_parts, early, skipped}

-- the window before a place, and otherwise the one before them all
abbrev pub before_at : Option Window → List Window → ℕ → Option Window
before_at prior ws zero = prior
before_at prior ws (suc i) = slice_get ws i

module _ (t : ℕ) where
  none-later : (prior : Option Window) (k : ℕ) (ws : List Window) → t ≤ k → all_after start_of earlier k ws ≡ true → last_from prior t ws ≡ prior
  none-later prior k [] l h = refl
  none-later prior k (x ∷ xs) l h = grind (arith, nat_tests)

  -- the window at the place of a time that starts one
  pub last_at : (prior : Option Window) (ws : List Window) → ascends start_of earlier ws ≡ true → stands start_of earlier t ws ≡ true → slice_get ws (place start_of earlier t ws) ≡ last_from prior t ws
  last_at prior [] a h = absurd (let z : ◌≡◌ {A = ℕ} 0 1 = cc in omega arith)
  last_at prior (x ∷ xs) a h =
      let p = and_parts (all_after start_of earlier x.start xs) (ascends start_of earlier xs) a in
      let ih = last_at (Some x) xs p.1 in
      let n : t ≤ x.start → last_from (Some x) t xs ≡ Some x = λ l. none-later (Some x) x.start xs l p.0 in
      grind (arith, nat_tests)

  one-back : (x : Window) (xs : List Window) (i : ℕ) → slice_get (x ∷ xs) i ≡ before_at (Some x) xs i
  one-back x xs zero = refl
  one-back x xs (suc i) = refl

  -- the window before the place of any other time
  pub last_before : (prior : Option Window) (ws : List Window) → stands start_of earlier t ws ≡ false → before_at prior ws (place start_of earlier t ws) ≡ last_from prior t ws
  last_before prior [] h = refl
  last_before prior (x ∷ xs) h =
      let ih = last_before (Some x) xs in
      let b = one-back x xs (place start_of earlier t xs) in
      grind (arith, nat_tests)

-- what the last window by a time says of the slot there
abbrev pub slot-by : ℕ → Option Window → Slot
slot-by t None = NoSession
slot-by t (Some w) = cond (ltb t w.end) w.slot NoSession

no_slot : (t from : ℕ) (ws : List Window) → t < from → in_order from ws ≡ true → slot_at ws t ≡ NoSession
no_slot t from [] l h = refl
no_slot t from (x ∷ xs) l h =
    let p = order_parts from x xs h in
    skipped x xs t (early x t (omega arith)) ∙ no_slot t x.end xs (omega arith) p.2

slot_after : (t : ℕ) (prior : Window) (ws : List Window) → in_order prior.end ws ≡ true → slot-by t (last_from (Some prior) t ws) ≡ cond (ltb t prior.end) prior.slot (slot_at ws t)
slot_after t prior [] h = refl
slot_after t prior (x ∷ xs) h =
    let p = order_parts prior.end x xs h in
    let ih = slot_after t x xs p.2 in
    let none : t < x.start → slot_at xs t ≡ NoSession = λ l. no_slot t x.end xs (omega arith) p.2 in
    grind (arith, nat_tests)

pub slot_last : (t : ℕ) (ws : List Window) → in_order 0 ws ≡ true → slot-by t (last_by t ws) ≡ slot_at ws t
slot_last t [] h = refl
slot_last t (x ∷ xs) h =
    let p = order_parts 0 x xs h in
    let ih = slot_after t x xs p.2 in
    let none : t < x.start → slot_at xs t ≡ NoSession = λ l. no_slot t x.end xs (omega arith) p.2 in
    grind (arith, nat_tests)

-- what the last window that starts before a window's end says of overlaps
abbrev pub met_by : ℕ → Option Window → Bool
met_by start None = false
met_by start (Some x) = ltb start x.end

module _ (w : Window) (proper : w.start < w.end) where
  none-met : (from : ℕ) (ws : List Window) → w.end ≤ from → in_order from ws ≡ true → overlaps_any w ws ≡ false
  none-met from [] l h = refl
  none-met from (x ∷ xs) l h =
      let p = order_parts from x xs h in
      let ih = none-met x.end xs (omega arith) p.2 in
      grind (arith, nat_tests)

  met-after : (prior : Window) (ws : List Window) → in_order prior.end ws ≡ true → met_by w.start (last_from (Some prior) (w.end - 1) ws) ≡ (ltb w.start prior.end || overlaps_any w ws)
  met-after prior [] h = grind (arith, nat_tests)
  met-after prior (x ∷ xs) h =
      let p = order_parts prior.end x xs h in
      let ih = met-after x xs p.2 in
      let none : w.end ≤ x.start → overlaps_any w xs ≡ false = λ l. none-met x.end xs (omega arith) p.2 in
      grind (arith, nat_tests)

  pub met_last : (ws : List Window) → in_order 0 ws ≡ true → met_by w.start (last_by (w.end - 1) ws) ≡ overlaps_any w ws
  met_last [] h = refl
  met_last (x ∷ xs) h =
      let p = order_parts 0 x xs h in
      let ih = met-after x xs p.2 in
      let none : w.end ≤ x.start → overlaps_any w xs ≡ false = λ l. none-met x.end xs (omega arith) p.2 in
      grind (arith, nat_tests)

  -- a window that overlaps none starts where no other does, and goes to its place
  pub start_free : (from : ℕ) (ws : List Window) → in_order from ws ≡ true → overlaps_any w ws ≡ false → stands start_of earlier w.start ws ≡ false
  start_free from [] h o = refl
  start_free from (x ∷ xs) h o =
      let p = order_parts from x xs h in
      let ih = start_free x.end xs p.2 in
      grind (arith, nat_tests)

  apart : (x : Window) (xs : List Window) → overlaps_any w (x ∷ xs) ≡ false → ((x.end ≤ w.start) ⊎ (w.end ≤ x.start)) × (overlaps_any w xs ≡ false)
  apart x xs o = grind (arith, nat_tests)

  pub order_placed : (from : ℕ) (ws : List Window) → in_order from ws ≡ true → overlaps_any w ws ≡ false → from ≤ w.start → in_order from (placed start_of earlier w ws) ≡ true
  order_placed from [] h o l = grind (arith, nat_tests)
  order_placed from (x ∷ xs) h o l =
      let p = order_parts from x xs h in
      let ih = order_placed x.end xs p.2 in
      grind (arith, nat_tests)
