-- What the shelf's calls answer, and what a call that writes leaves of the records handed over.
use Rattle.std.proofs.Common.{◌≡◌, ℕ, zero, suc, ◌+◌, ◌-◌, ◌<◌, ◌≤◌, Bool, true, false, cond, not, ◌&&◌, List, [], ◌∷◌, ◌++◌, length, get_or, take, drop, set, Some, None, Ok, Err, Option, Result, sym, refl, ap, ◌∙◌, arith}
use Rattle.std.proofs.lemmas.List.{take-append-drop, take_at, length-take-le, length-append, length-set, set-append_left, get_or-take}
use Rattle.std.proofs.lemmas.Option.{slice_get_read, slice_get_past}
use Rattle.std.proofs.lemmas.Bool.{lt-ltb, le-ltb, cond-true, cond-false}
use Rattle.std.specs.List.{insert, remove, slice_get}
use Rattle.shelf.specs.declared.ShelfFault.{ShelfFault}
use Rattle.shelf.specs.declared.ShelfFault.TheVariants.{Taken, NoRoom, Elsewhere}
use Rattle.std.proofs.lemmas.List.Edits.{length-insert, length-remove}
use Rattle.shelf.specs.Order.{ascends, place, placed, stands, sought, has_key}
use Rattle.shelf.specs.Standing.{over}
use Rattle.shelf.specs.Calls.{on_ok, insert_answer, insert_live, replace_answer, replace_live}
use Rattle.shelf.proofs.Order.{sought_err, place_all, inserted_placed, ascends_placed, ascends_set, ascends_removed}

-- what a refusal and what a success leave
pub kept : {X : Type 0} {f : ShelfFault} (r : Result (Unit {0}) ShelfFault) (x y : X) → r ≡ Err f → y ≡ on_ok r x y
kept {X = X} r x y e = let F : Result (Unit {0}) ShelfFault → X = λ a. on_ok a x y in sym (ap F e)

pub done : {X : Type 0} (r : Result (Unit {0}) ShelfFault) (x y : X) → r ≡ Ok tt → x ≡ on_ok r x y
done {X = X} r x y e = let F : Result (Unit {0}) ShelfFault → X = λ a. on_ok a x y in sym (ap F e)

-- the records that stand, over the records handed over, are these
pub over-same : {R : Type 0} (xs : List R) (n : ℕ) → n ≤ length xs → xs ≡ over (take n xs) xs
over-same xs n h = sym (ap (λ k. take n xs ++ drop k xs) (length-take-le n xs h) ∙ take-append-drop n xs)

-- the record at a place among the first n
pub nth_live : {R : Type 0} (xs : List R) (n i : ℕ) (x : R) → n ≤ length xs → i < n → x ≡ get_or xs i x → Some x ≡ slice_get (take n xs) i
nth_live xs n i x h l e = sym (slice_get_read (take n xs) n i x (sym (length-take-le n xs h)) l (e ∙ sym (get_or-take n xs i x l)))

pub nth_none : {R : Type 0} (xs : List R) (n i : ℕ) → n ≤ length xs → n ≤ i → None ≡ slice_get (take n xs) i
nth_none xs n i h l = let e = length-take-le n xs h in sym (slice_get_past (take n xs) i (omega arith))

some-none : {X : Type 0} {x : X} → Some x ≡ None → ⊥
some-none e = let z : ◌≡◌ {A = ℕ} 0 1 = cc in omega arith

-- where a record stands at a place, the place is inside, and the other way round
pub nth_inside : {R : Type 0} (xs : List R) (i : ℕ) (x : R) → Some x ≡ slice_get xs i → i < length xs
nth_inside [] i x e = absurd (some-none e)
nth_inside (y ∷ xs) zero x e = omega arith
nth_inside (y ∷ xs) (suc i) x e = let ih = nth_inside xs i x e in omega arith

pub nth_outside : {R : Type 0} (xs : List R) (i : ℕ) → None ≡ slice_get xs i → length xs ≤ i
nth_outside [] i e = omega arith
nth_outside (y ∷ xs) zero e = absurd (some-none (sym e))
nth_outside (y ∷ xs) (suc i) e = let ih = nth_outside xs i e in omega arith

pub nth_is : {R : Type 0} (xs : List R) (i : ℕ) (x d : R) → Some x ≡ slice_get xs i → get_or xs i d ≡ x
nth_is [] i x d e = absurd (some-none e)
nth_is (y ∷ xs) zero x d e = cc
nth_is (y ∷ xs) (suc i) x d e = nth_is xs i x d e

pub removed_past : {R : Type 0} (xs : List R) (i : ℕ) → length xs ≤ i → xs ≡ remove xs i
removed_past [] zero h = refl
removed_past [] (suc i) h = refl
removed_past (x ∷ xs) zero h = absurd (omega arith)
removed_past (x ∷ xs) (suc i) h = ap (λ z. x ∷ z) (removed_past xs i (omega arith))

-- the records ys are the front, and past it what xs holds there
module _ {R : Type 0} (front xs ys : List R) (m : ℕ) (l : length front ≡ m) (e : ys ≡ front ++ drop m xs) where
  pub live_written : take m ys ≡ front
  live_written = ap (take m) e ∙ take_at front (drop m xs) m l

  pub records_written : ys ≡ over (take m ys) xs
  records_written = e ∙ ap (λ k. front ++ drop k xs) (sym l) ∙ ap (λ z. over z xs) (sym live_written)

  pub fits_written : m ≤ length ys
  fits_written = omega (arith, ap length e, length-append front (drop m xs))

  pub sorted_written : {K : Type 0} (key : R → K) (before : K → K → Bool) → ascends key before front ≡ true → ascends key before (take m ys) ≡ true
  sorted_written key before a = ap (ascends key before) live_written ∙ a

  pub stands_written : {K : Type 0} (key : R → K) (before : K → K → Bool) → ascends key before front ≡ true → (m ≤ length ys) × (ascends key before (take m ys) ≡ true)
  stands_written key before a = (fits_written, sorted_written key before a)

-- a record written among the first n
pub set_front : {R : Type 0} (xs : List R) (n i : ℕ) (x : R) → n ≤ length xs → i < n → set xs i x ≡ set (take n xs) i x ++ drop n xs
set_front xs n i x h l =
    let e = length-take-le n xs h in
    ap (λ z. set z i x) (sym (take-append-drop n xs)) ∙ set-append_left (take n xs) (drop n xs) i x (omega arith)

module _ {R K : Type 0} (key : R → K) (before : K → K → Bool) where
  -- what insert answers
  module _ (r : R) (xs : List R) (most : ℕ) where
    pub insert_taken : stands key before (key r) xs ≡ true → insert_answer key before r xs most ≡ Err Taken
    insert_taken h = cond-true _ _ _ h

    pub insert_full : stands key before (key r) xs ≡ false → most ≤ length xs → insert_answer key before r xs most ≡ Err NoRoom
    insert_full h l = cond-false _ _ _ h ∙ cond-false _ _ _ (le-ltb (length xs) most l)

    pub insert_done : stands key before (key r) xs ≡ false → length xs < most → insert_answer key before r xs most ≡ Ok tt
    insert_done h l = cond-false _ _ _ h ∙ cond-true _ _ _ (lt-ltb (length xs) most l)

  -- what replace answers
  module _ (at : ℕ) (r : R) (xs : List R) where
    pub replace_none : None ≡ slice_get xs at → replace_answer key before at r xs ≡ Err Elsewhere
    replace_none e = let F : Option R → Result (Unit {0}) ShelfFault = λ o. cond (has_key key before (key r) o) (Ok tt) (Err Elsewhere) in sym (ap F e)

    replace-some : (x : R) (u v : Bool) → Some x ≡ slice_get xs at → before (key x) (key r) ≡ u → before (key r) (key x) ≡ v → replace_answer key before at r xs ≡ cond (not u && not v) (Ok tt) (Err Elsewhere)
    replace-some x u v e p q =
        let F : Option R → Result (Unit {0}) ShelfFault = λ o. cond (has_key key before (key r) o) (Ok tt) (Err Elsewhere) in
        let G : Bool → Bool → Result (Unit {0}) ShelfFault = λ a b. cond (not a && not b) (Ok tt) (Err Elsewhere) in
        sym (ap F e) ∙ ap (λ a. G a (before (key r) (key x))) p ∙ ap (G u) q

    pub replace_early : (x : R) → Some x ≡ slice_get xs at → before (key x) (key r) ≡ true → replace_answer key before at r xs ≡ Err Elsewhere
    replace_early x e p = replace-some x true (before (key r) (key x)) e p refl

    pub replace_late : (x : R) → Some x ≡ slice_get xs at → before (key x) (key r) ≡ false → before (key r) (key x) ≡ true → replace_answer key before at r xs ≡ Err Elsewhere
    replace_late x e p q = replace-some x false true e p q

    pub replace_done : (x : R) → Some x ≡ slice_get xs at → before (key x) (key r) ≡ false → before (key r) (key x) ≡ false → replace_answer key before at r xs ≡ Ok tt
    replace_done x e p q = replace-some x false false e p q

  -- what insert leaves, where the key k of the record stands nowhere among the first n of the records xs, of which one more is free
  module _ (transitive : (x y z : K) → before x y ≡ true → before y z ≡ true → before x z ≡ true) (r : R) (xs ys : List R) (n at : ℕ) (k : K)
      (room : n < length xs) (sorted : ascends key before (take n xs) ≡ true) (named : k ≡ key r) (missing : Err at ≡ sought key before k (take n xs))
      (written : ys ≡ insert (take n xs) at r ++ drop (n + 1) xs) where
    long : length (take n xs) ≡ n
    long = length-take-le n xs (omega arith)

    absent : stands key before (key r) (take n xs) ≡ false
    absent = ap (λ j. stands key before j (take n xs)) (sym named) ∙ (sought_err key before k (take n xs) at missing).0

    put : ys ≡ placed key before r (take n xs) ++ drop (n + 1) xs
    put =
        let w : at ≡ place key before (key r) (take n xs) = (sought_err key before k (take n xs) at missing).1 ∙ ap (λ j. place key before j (take n xs)) named in
        written ∙ ap (λ z. z ++ drop (n + 1) xs) (ap (λ j. insert (take n xs) j r) w ∙ inserted_placed key before r (take n xs))

    longer : length (placed key before r (take n xs)) ≡ n + 1
    longer =
        let q = place_all key before (key r) (take n xs) in
        ap length (sym (inserted_placed key before r (take n xs))) ∙ length-insert (take n xs) _ r (omega (arith, q)) ∙ ap (λ j. j + 1) long

    answered : insert_answer key before r (take n xs) (length xs) ≡ Ok tt
    answered = insert_done r (take n xs) (length xs) absent (omega (arith, long))

    pub insert_sound : (n + 1 ≤ length ys) × (ascends key before (take (n + 1) ys) ≡ true)
    insert_sound = stands_written _ xs ys (n + 1) longer put key before (ascends_placed key before transitive r (take n xs) sorted absent)

    pub inserted : take (n + 1) ys ≡ insert_live key before r (take n xs) (length xs)
    inserted = live_written _ xs ys (n + 1) longer put ∙ done _ (placed key before r (take n xs)) (take n xs) answered

    pub insert_kept : ys ≡ over (take (n + 1) ys) xs
    insert_kept = records_written _ xs ys (n + 1) longer put

  -- what replace leaves, where a record x with the key of r stands at the place
  module _ (total : (x y : K) → before x y ≡ false → before y x ≡ false → x ≡ y) (r x : R) (xs : List R) (n at : ℕ) (fits : n ≤ length xs) (sorted : ascends key before (take n xs) ≡ true)
      (stood : Some x ≡ slice_get (take n xs) at) (early : before (key x) (key r) ≡ false) (late : before (key r) (key x) ≡ false) where
    within : at < n
    within = let e = length-take-le n xs fits in let i = nth_inside (take n xs) at x stood in omega arith

    over_it : set xs at r ≡ set (take n xs) at r ++ drop n xs
    over_it = set_front xs n at r fits within

    alike : length (set (take n xs) at r) ≡ n
    alike = length-set (take n xs) at r ∙ length-take-le n xs fits

    pub replace_sound : (n ≤ length (set xs at r)) × (ascends key before (take n (set xs at r)) ≡ true)
    replace_sound =
        let same : key r ≡ key (get_or (take n xs) at r) = total (key r) (key x) late early ∙ ap key (sym (nth_is (take n xs) at x r stood)) in
        stands_written _ xs _ n alike over_it key before (ascends_set key before (take n xs) at r same ∙ sorted)

    pub replaced : take n (set xs at r) ≡ replace_live key before at r (take n xs)
    replaced = live_written _ xs _ n alike over_it ∙ done _ (set (take n xs) at r) (take n xs) (replace_done at r (take n xs) x stood early late)

    pub replace_kept : set xs at r ≡ over (take n (set xs at r)) xs
    replace_kept = records_written _ xs _ n alike over_it

  -- what remove leaves, where a record x stands at the place
  module _ (x : R) (xs ys : List R) (n at : ℕ) (fits : n ≤ length xs) (sorted : ascends key before (take n xs) ≡ true)
      (stood : Some x ≡ slice_get (take n xs) at) (written : ys ≡ remove (take n xs) at ++ drop (n - 1) xs) where
    pub shorter : length (remove (take n xs) at) ≡ n - 1
    shorter = let e = length-take-le n xs fits in let i = nth_inside (take n xs) at x stood in omega (arith, length-remove (take n xs) at i)

    pub remove_sound : (n - 1 ≤ length ys) × (ascends key before (take (n - 1) ys) ≡ true)
    remove_sound = stands_written _ xs ys (n - 1) shorter written key before (ascends_removed key before (take n xs) at sorted)

    pub removed : take (n - 1) ys ≡ remove (take n xs) at
    removed = live_written _ xs ys (n - 1) shorter written
