-- Windows that are in order do not overlap, so that each gives the slot at every time that it contains.
use Rattle.std.proofs.Common.{◌≡◌, ℕ, zero, suc, ◌<◌, ◌≤◌, true, false, cond, List, [], ◌∷◌, Some, refl, ap, ◌∙◌, arith}
use Rattle.std.proofs.lemmas.Bool.Decides.{nat_tests}
use Rattle.std.specs.List.{slice_get}
use Rattle.plan.specs.declared.slots.Slot.TheVariants.{NoSession}
use Rattle.plan.specs.declared.slots.Window.{Window}
use Rattle.plan.specs.Hours.{contains, slot_at, in_order, Told}

-- what order says of the first window
pub order_parts : (from : ℕ) (w : Window) (ws : List Window) → in_order from (w ∷ ws) ≡ true → (from ≤ w.start) × (w.start < w.end) × (in_order w.end ws ≡ true)
order_parts from w ws h = grind (arith, nat_tests)

pub order_from : (from : ℕ) (w : Window) (ws : List Window) → from ≤ w.start → w.start < w.end → in_order w.end ws ≡ true → in_order from (w ∷ ws) ≡ true
order_from from w ws a b h = grind (arith, nat_tests)

pub order_earlier : (from to : ℕ) (ws : List Window) → from ≤ to → in_order to ws ≡ true → in_order from ws ≡ true
order_earlier from to [] l h = refl
order_earlier from to (w ∷ ws) l h =
    let p = order_parts to w ws h in
    order_from from w ws (omega arith) p.1 p.2

-- a window contains a time from its start to before its end
pub inside : (w : Window) (t : ℕ) → contains w t ≡ true → (w.start ≤ t) × (t < w.end)
inside w t h = grind (arith, nat_tests)

pub outside : (w : Window) (t : ℕ) → (w.end ≤ t) → contains w t ≡ false
outside w t h = grind (arith, nat_tests)

pub early : (w : Window) (t : ℕ) → (t < w.start) → contains w t ≡ false
early w t h = grind (arith, nat_tests)

pub skipped : (w : Window) (ws : List Window) (t : ℕ) → contains w t ≡ false → slot_at (w ∷ ws) t ≡ slot_at ws t
skipped w ws t h = ap (λ b. cond b w.slot (slot_at ws t)) h

pub met : (w : Window) (ws : List Window) (t : ℕ) → contains w t ≡ true → slot_at (w ∷ ws) t ≡ w.slot
met w ws t h = ap (λ b. cond b w.slot (slot_at ws t)) h

-- every window starts no earlier than the time given
no_earlier : (from i : ℕ) (w : Window) (ws : List Window) → in_order from ws ≡ true → slice_get ws i ≡ Some w → from ≤ w.start
no_earlier from i w [] h e = absurd (let z : ◌≡◌ {A = ℕ} 0 1 = cc in omega arith)
no_earlier from zero w (x ∷ xs) h e =
    let same : x.start ≡ w.start = cc in
    omega (arith, (order_parts from x xs h).0)
no_earlier from (suc i) w (x ∷ xs) h e =
    let p = order_parts from x xs h in
    omega (arith, no_earlier x.end i w xs p.2 e)

there : (from : ℕ) (ws : List Window) → in_order from ws ≡ true → (t i : ℕ) (w : Window) → slice_get ws i ≡ Some w → contains w t ≡ true → slot_at ws t ≡ w.slot
there from [] h t i w e c = absurd (let z : ◌≡◌ {A = ℕ} 0 1 = cc in omega arith)
there from (x ∷ xs) h t zero w e c =
    let same : x ≡ w = cc in
    met x xs t (ap (λ v. contains v t) same ∙ c) ∙ ap (λ v. v.slot) same
there from (x ∷ xs) h t (suc i) w e c =
    let p = order_parts from x xs h in
    let far = no_earlier x.end i w xs p.2 e in
    let in-w = inside w t c in
    skipped x xs t (outside x t (omega arith)) ∙ there x.end xs p.2 t i w e c

nowhere : (t : ℕ) (ws : List Window) → ((i : ℕ) (w : Window) → slice_get ws i ≡ Some w → contains w t ≡ false) → slot_at ws t ≡ NoSession
nowhere t [] h = refl
nowhere t (x ∷ xs) h = skipped x xs t (h zero x refl) ∙ nowhere t xs (λ i. h (suc i))

pub told : (ws : List Window) → in_order 0 ws ≡ true → Told ws
told ws h = record { there = there 0 ws h; nowhere = λ t. nowhere t ws }
