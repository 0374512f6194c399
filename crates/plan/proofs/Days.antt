-- The windows of the fixed plan: sound by the table, and what they give at a time of a calendar day.
use Rattle.std.proofs.Common.{◌≡◌, ℕ, zero, suc, ◌+◌, ◌*◌, ◌/◌, ◌%◌, ◌<◌, ◌≤◌, Bool, true, false, cond, ◌&&◌, eqb, ltb, leb, List, [], ◌∷◌, length, get_or, drop, sym, refl, ap, ◌∙◌, add-one, arith, drop-cons}
use Rattle.std.proofs.lemmas.Bool.Decides.{nat_tests}
use Rattle.plan.specs.declared.slots.Slot.TheVariants.{NoSession}
use Rattle.plan.specs.declared.slots.Window.{Window}
use Rattle.plan.specs.declared.fixed.Group.{Group}
use Rattle.plan.specs.declared.fixed.Row.{Row}
use Rattle.plan.specs.declared.fixed.FixedPlan.{FixedPlan}
use Rattle.plan.specs.Hours.{contains, slot_at, in_order}
use Rattle.plan.specs.Fixed.{day, table, of_day, row_slot, window_on, on_day, from_day, fixed_hours, row_holds, rows_at}
use Rattle.plan.proofs.Order.{order_earlier}

-- the rows of the last calendar day, or of an earlier one, are in order, do not overlap and lie within a day
abbrev rows_in_order : Bool → ℕ → List Row → Bool
rows_in_order last from [] = leb from day
rows_in_order last from (r ∷ rs) = cond (of_day last r) (leb from r.start && (ltb r.start r.end && rows_in_order last r.end rs)) (rows_in_order last from rs)

-- the table is sound
table_sound : (last : Bool) → rows_in_order last 0 table ≡ true
table_sound true = refl
table_sound false = refl

-- what order says of the first row
row_parts : (last : Bool) (from : ℕ) (r : Row) (rs : List Row) → of_day last r ≡ true → rows_in_order last from (r ∷ rs) ≡ true → (from ≤ r.start) × (r.start < r.end) × (rows_in_order last r.end rs ≡ true)
row_parts last from r rs o h = grind (arith, nat_tests)

row_skipped : (last : Bool) (from : ℕ) (r : Row) (rs : List Row) → of_day last r ≡ false → rows_in_order last from (r ∷ rs) ≡ true → rows_in_order last from rs ≡ true
row_skipped last from r rs o h = grind (arith, nat_tests)

within-day : (last : Bool) (from : ℕ) (rs : List Row) → rows_in_order last from rs ≡ true → from ≤ day
within-day last from [] h = grind (arith, nat_tests)
within-day last from (r ∷ rs) h =
    let taken : rows_in_order last r.end rs ≡ true → r.end ≤ day = λ e. within-day last r.end rs e in
    let passed : rows_in_order last from rs ≡ true → from ≤ day = λ e. within-day last from rs e in
    grind (arith, nat_tests)

module _ (last : Bool) (d : ℕ) (group : Group) where
  order-day : (from : ℕ) (rs : List Row) (later : List Window) → rows_in_order last from rs ≡ true → in_order (suc d * day) later ≡ true → in_order (d * day + from) (on_day last d group rs later) ≡ true
  order-day from [] later h l = order_earlier (d * day + from) (suc d * day) later (omega (arith, within-day last from [] h)) l
  order-day from (r ∷ rs) later h l =
      let taken : rows_in_order last r.end rs ≡ true → in_order (d * day + r.end) (on_day last d group rs later) ≡ true = λ e. order-day r.end rs later e l in
      let passed : rows_in_order last from rs ≡ true → in_order (d * day + from) (on_day last d group rs later) ≡ true = λ e. order-day from rs later e l in
      grind (arith, nat_tests)

  -- before the day and after it, its windows contain no time
  before-day : (rs : List Row) (later : List Window) (t : ℕ) → t < d * day → slot_at (on_day last d group rs later) t ≡ slot_at later t
  before-day [] later t h = refl
  before-day (r ∷ rs) later t h = let ih = before-day rs later t h in grind (arith, nat_tests)

  after-day : (from : ℕ) (rs : List Row) (later : List Window) (t : ℕ) → rows_in_order last from rs ≡ true → suc d * day ≤ t → slot_at (on_day last d group rs later) t ≡ slot_at later t
  after-day from [] later t s h = refl
  after-day from (r ∷ rs) later t s h =
      let ends : rows_in_order last r.end rs ≡ true → r.end ≤ day = λ e. within-day last r.end rs e in
      let taken : rows_in_order last r.end rs ≡ true → slot_at (on_day last d group rs later) t ≡ slot_at later t = λ e. after-day r.end rs later t e h in
      let passed : rows_in_order last from rs ≡ true → slot_at (on_day last d group rs later) t ≡ slot_at later t = λ e. after-day from rs later t e h in
      grind (arith, nat_tests)

  -- at a time of the day, they give what the rows give
  row_moved : (r : Row) (c : ℕ) → contains (window_on d group r) (d * day + c) ≡ (leb r.start c && ltb c r.end)
  row_moved r c = grind (arith, nat_tests)

  in-day : (rs : List Row) (later : List Window) (c : ℕ) → slot_at later (d * day + c) ≡ NoSession → slot_at (on_day last d group rs later) (d * day + c) ≡ rows_at last c group rs
  in-day [] later c h = h
  in-day (r ∷ rs) later c h =
      let ih = in-day rs later c h in
      let m = row_moved r c in
      grind (arith, nat_tests)

-- one row after another
rows_next : (last : Bool) (t : ℕ) (group : Group) (rs : List Row) (i : ℕ) (r : Row) → i < length rs → rows_at last t group (drop i rs) ≡ cond (row_holds last t (get_or rs i r)) (row_slot group (get_or rs i r)) (rows_at last t group (drop (i + 1) rs))
rows_next last t group rs i r h = rw (add-one, drop-cons rs i r) (grind (arith, nat_tests))

pub rows_passed : (last : Bool) (t : ℕ) (group : Group) (rs : List Row) (i : ℕ) (r : Row) → i < length rs → false ≡ row_holds last t (get_or rs i r) → rows_at last t group (drop (i + 1) rs) ≡ rows_at last t group (drop i rs)
rows_passed last t group rs i r h e =
    ap (λ b. cond b (row_slot group (get_or rs i r)) (rows_at last t group (drop (i + 1) rs))) e ∙ sym (rows_next last t group rs i r h)

pub rows_held : (last : Bool) (t : ℕ) (group : Group) (rs : List Row) (i : ℕ) (r : Row) → i < length rs → true ≡ row_holds last t (get_or rs i r) → row_slot group (get_or rs i r) ≡ rows_at last t group (drop i rs)
rows_held last t group rs i r h e =
    ap (λ b. cond b (row_slot group (get_or rs i r)) (rows_at last t group (drop (i + 1) rs))) e ∙ sym (rows_next last t group rs i r h)

order_days : (d n : ℕ) (group : Group) → in_order (d * day) (from_day d n group) ≡ true
order_days d zero group = order_earlier (d * day) (d * day + 0) (from_day d zero group) (omega arith) (order-day true d group 0 table [] (table_sound true) refl)
order_days d (suc n) group = order_earlier (d * day) (d * day + 0) (from_day d (suc n) group) (omega arith) (order-day false d group 0 table (from_day (suc d) n group) (table_sound false) (order_days (suc d) n group))

pub fixed_order : (p : FixedPlan) → in_order 0 (fixed_hours p) ≡ true
fixed_order p = order_earlier 0 (0 * day) (fixed_hours p) (omega arith) (order_days 0 p.earlier p.group)

none_before : (d n : ℕ) (group : Group) (t : ℕ) → t < d * day → slot_at (from_day d n group) t ≡ NoSession
none_before d zero group t h = before-day true d group table [] t h
none_before d (suc n) group t h = before-day false d group table (from_day (suc d) n group) t h ∙ none_before (suc d) n group t (omega arith)

-- the slot at a time of a calendar day, counted from day d
slot_on : (d n : ℕ) (group : Group) (e c : ℕ) → c < day → slot_at (from_day d n group) ((d + e) * day + c) ≡ cond (ltb n e) NoSession (rows_at (eqb e n) c group table)
slot_on d zero group zero c h =
    let t : (d + 0) * day + c ≡ d * day + c = omega arith in
    ap (slot_at (from_day d zero group)) t ∙ in-day true d group table [] c refl
slot_on d zero group (suc e) c h =
    let past : true ≡ ltb 0 (suc e) = grind (arith, nat_tests) in
    after-day true d group 0 table [] ((d + suc e) * day + c) (table_sound true) (omega arith)
    ∙ ap (λ b. cond b NoSession (rows_at (eqb (suc e) 0) c group table)) past
slot_on d (suc n) group zero c h =
    let held : false ≡ ltb (suc n) 0 = grind (arith, nat_tests) in
    let first : false ≡ eqb 0 (suc n) = grind (arith, nat_tests) in
    let t : (d + 0) * day + c ≡ d * day + c = omega arith in
    ap (slot_at (from_day d (suc n) group)) t ∙ in-day false d group table (from_day (suc d) n group) c (none_before (suc d) n group (d * day + c) (omega arith))
    ∙ ap (λ b. rows_at b c group table) first
    ∙ ap (λ b. cond b NoSession (rows_at (eqb 0 (suc n)) c group table)) held
slot_on d (suc n) group (suc e) c h =
    let t : (d + suc e) * day + c ≡ (suc d + e) * day + c = omega arith in
    let more : ltb n e ≡ ltb (suc n) (suc e) = grind (arith, nat_tests) in
    let same : eqb e n ≡ eqb (suc e) (suc n) = grind (arith, nat_tests) in
    after-day false d group 0 table (from_day (suc d) n group) ((d + suc e) * day + c) (table_sound false) (omega arith)
    ∙ ap (slot_at (from_day (suc d) n group)) t ∙ slot_on (suc d) n group e c h
    ∙ ap (λ b. cond b NoSession (rows_at (eqb e n) c group table)) more
    ∙ ap (λ b. cond (ltb (suc n) (suc e)) NoSession (rows_at b c group table)) same

pub fixed_slot : (p : FixedPlan) (t : ℕ) → slot_at (fixed_hours p) t ≡ cond (ltb p.earlier (t / day)) NoSession (rows_at (eqb (t / day) p.earlier) (t % day) p.group table)
fixed_slot p t =
    let e : t ≡ (0 + t / day) * day + t % day = omega arith in
    ap (slot_at (fixed_hours p)) e ∙ slot_on 0 p.earlier p.group (t / day) (t % day) (omega arith)
