-- What the shelf's calls answer, and the records that stand after them.
use Rattle.std.specs.Prelude.{ℕ, Bool, cond, List, length, Ok, Err, Result, nat_lt, slice_set}
use Rattle.std.specs.List.{slice_get}
use Rattle.shelf.specs.declared.ShelfFault.{ShelfFault}
use Rattle.shelf.specs.declared.ShelfFault.TheVariants.{Taken, NoRoom, Elsewhere}
use Rattle.shelf.specs.Order.{stands, placed, has_key}

-- what a call leaves: a refusal changes nothing
abbrev pub on_ok : {X E : Type 0} → Result (Unit {0}) E → X → X → X
on_ok (Ok v) done kept = done
on_ok (Err e) done kept = kept

-- most is the number of records handed over
abbrev pub insert_answer : {R K : Type 0} → (R → K) → (K → K → Bool) → R → List R → ℕ → Result (Unit {0}) ShelfFault
insert_answer key before r xs most =
    cond (stands key before (key r) xs) (Err Taken) (cond (nat_lt (length xs) most) (Ok tt) (Err NoRoom))

abbrev pub insert_live : {R K : Type 0} → (R → K) → (K → K → Bool) → R → List R → ℕ → List R
insert_live key before r xs most = on_ok (insert_answer key before r xs most) (placed key before r xs) xs

abbrev pub replace_answer : {R K : Type 0} → (R → K) → (K → K → Bool) → ℕ → R → List R → Result (Unit {0}) ShelfFault
replace_answer key before at r xs = cond (has_key key before (key r) (slice_get xs at)) (Ok tt) (Err Elsewhere)

abbrev pub replace_live : {R K : Type 0} → (R → K) → (K → K → Bool) → ℕ → R → List R → List R
replace_live key before at r xs = on_ok (replace_answer key before at r xs) (slice_set xs at r) xs
