-- What holds of every ladder: proper levels stay proper, and each side is in order.
use Rattle.std.proofs.Common.{◌≡◌, ℕ, zero, suc, ◌≤◌, Bool, true, false, cond, ◌&&◌, eqb, ltb, leb, List, [], ◌∷◌, map, length, set, Some, None, Ok, Err, Option, Result, sym, refl, ap, ◌∙◌, inl, inr, arith}
use Rattle.std.proofs.lemmas.List.{length-map}
use Rattle.std.proofs.lemmas.Bool.{and_parts, and_from, cases_Bool, leb-true, eqb-true}
use Rattle.std.proofs.lemmas.Bool.Decides.{nat_tests}
use Rattle.std.specs.List.{remove, slice_get}
use Rattle.entry.specs.declared.Side.{Side}
use Rattle.entry.specs.declared.Side.TheVariants.{Buy, Sell}
use Rattle.board.specs.declared.levels.Level.{Level}
use Rattle.board.specs.declared.faults.BoardFault.{BoardFault}
use Rattle.board.specs.Levels.{full, single, new_level, joined, left, more_answer, less_answer}
use Rattle.board.specs.Book.{Book, levels_of, better, level_at}
use Rattle.board.specs.Calls as calls
use Rattle.board.specs.Calls.{added, taken, join_answer}
use Rattle.board.specs.Sound.{Sorted, AllProper, Sound}
use Rattle.shelf.specs.declared.ShelfFault.{ShelfFault}
use Rattle.shelf.specs.declared.Record.{Ghosts}
use Rattle.shelf.specs.declared.Shelf.{Shelf}
use Rattle.shelf.specs.Standing.{live, held}
use Rattle.shelf.specs.Order.{ascends, placed}
use Rattle.shelf.specs.Calls.{on_ok, insert_answer, insert_live, replace_answer, replace_live}
use Rattle.ladder.specs.declared.records.SideLevel.{SideLevel}
use Rattle.ladder.specs.Records.{price_in, level_of, levels_in, proper, all_proper}
use Rattle.ladder.specs.Counts.{counts_fit}
use Rattle.ladder.proofs.Shelved.{sorted_levels}
use Rattle.ladder.specs.OneSide.{add_answer_on, add_levels, take_answer_on, take_levels}

joined-proper : (x : Level) → proper x ≡ true → full x ≡ false → proper (joined x) ≡ true
joined-proper x a f = grind (arith, nat_tests)

left-proper : (x : Level) → proper x ≡ true → single x ≡ false → proper (left x) ≡ true
left-proper x a f = grind (arith, nat_tests)

-- a new level in the range is proper, and a proper one stays so with an order more or less
pub new_proper : (p time : ℕ) → (leb 1 p && leb p 1000000000) ≡ true → proper (new_level p time) ≡ true
new_proper p time r = grind (arith, nat_tests)

pub proper_joined : (x y : Level) → Ok y ≡ more_answer x → proper x ≡ true → proper y ≡ true
proper_joined x y e a =
    let f : full x ≡ false = grind (arith, nat_tests) in
    let j : y ≡ joined x = grind (arith, nat_tests) in
    ap proper j ∙ joined-proper x a f

pub proper_left : (x y : Level) → Some y ≡ less_answer x → proper x ≡ true → proper y ≡ true
proper_left x y e a =
    let f : single x ≡ false = grind (arith, nat_tests) in
    let j : y ≡ left x = grind (arith, nat_tests) in
    ap proper j ∙ left-proper x a f

either : {X : Type 0} (P : X → Type 0) (r : Result (Unit {0}) ShelfFault) (x y : X) → P x → P y → P (on_ok r x y)
either P (Ok v) x y a b = a
either P (Err e) x y a b = b

module _ {R : Type 0} (level : R → Level) where
  -- the level of a record among proper ones
  pub proper_there : (xs : List R) (i : ℕ) (x : R) → Some x ≡ slice_get xs i → all_proper (map level xs) ≡ true → proper (level x) ≡ true
  proper_there [] i x e a = absurd (let z : ◌≡◌ {A = ℕ} 0 1 = cc in omega arith)
  proper_there (y ∷ xs) zero x e a =
      let o : x ≡ y = cc in
      ap (λ z. proper (level z)) o ∙ (and_parts (proper (level y)) (all_proper (map level xs)) a).0
  proper_there (y ∷ xs) (suc i) x e a = proper_there xs i x e (and_parts (proper (level y)) (all_proper (map level xs)) a).1

  set-proper : (xs : List R) (i : ℕ) (r : R) → proper (level r) ≡ true → all_proper (map level xs) ≡ true → all_proper (map level (set xs i r)) ≡ true
  set-proper [] i r p a = a
  set-proper (x ∷ xs) zero r p a = and_from (proper (level r)) _ p (and_parts (proper (level x)) (all_proper (map level xs)) a).1
  set-proper (x ∷ xs) (suc i) r p a =
      let q = and_parts (proper (level x)) (all_proper (map level xs)) a in
      and_from (proper (level x)) _ q.0 (set-proper xs i r p q.1)

placed-proper : {R K : Type 0} (key : R → K) (before : K → K → Bool) (level : R → Level) (r : R) (xs : List R) → proper (level r) ≡ true → all_proper (map level xs) ≡ true → all_proper (map level (placed key before r xs)) ≡ true
placed-proper key before level r [] p a = and_from (proper (level r)) true p refl
placed-proper key before level r (x ∷ xs) p a =
    let q = and_parts (proper (level x)) (all_proper (map level xs)) a in
    elim (before (key x) (key r)) as (λ b. all_proper (map level (cond b (x ∷ placed key before r xs) (r ∷ x ∷ xs))) ≡ true) [
      | true ↦ and_from (proper (level x)) _ q.0 (placed-proper key before level r xs p q.1)
      | false ↦ and_from (proper (level r)) _ p a
    ]

-- the levels of a shelf stay proper when a record is put, written over another, or taken away
module _ {R K : Type 0} {order : Ghosts R K} (level : R → Level) (s : Shelf R K order) (a : all_proper (map level (live s)) ≡ true) where
  pub proper_inserted : (r : R) (ys : List R) → ys ≡ insert_live order.key order.before r (live s) (length (held s)) → proper (level r) ≡ true → all_proper (map level ys) ≡ true
  proper_inserted r ys e p =
      ap (λ z. all_proper (map level z)) e
      ∙ either (λ z. all_proper (map level z) ≡ true) (insert_answer order.key order.before r (live s) (length (held s))) (placed order.key order.before r (live s)) (live s) (placed-proper order.key order.before level r (live s) p a) a

  pub proper_replaced : (i : ℕ) (r : R) (ys : List R) → ys ≡ replace_live order.key order.before i r (live s) → proper (level r) ≡ true → all_proper (map level ys) ≡ true
  proper_replaced i r ys e p =
      ap (λ z. all_proper (map level z)) e
      ∙ either (λ z. all_proper (map level z) ≡ true) (replace_answer order.key order.before i r (live s)) (set (live s) i r) (live s) (set-proper level (live s) i r p a) a

pub proper_removed : {R : Type 0} (level : R → Level) (xs : List R) (i : ℕ) → all_proper (map level xs) ≡ true → all_proper (map level (remove xs i)) ≡ true
proper_removed level [] zero a = a
proper_removed level [] (suc i) a = a
proper_removed level (x ∷ xs) zero a = (and_parts (proper (level x)) (all_proper (map level xs)) a).1
proper_removed level (x ∷ xs) (suc i) a =
    let q = and_parts (proper (level x)) (all_proper (map level xs)) a in
    and_from (proper (level x)) _ q.0 (proper_removed level xs i q.1)

-- a level at a price has that price, and is one of the proper ones
at-proper : (p : ℕ) (ls : List Level) (x : Level) → all_proper ls ≡ true → level_at p ls ≡ Some x → (proper x ≡ true) × (x.price ≡ p)
at-proper p [] x a e = absurd (let z : ◌≡◌ {A = ℕ} 0 1 = cc in omega arith)
at-proper p (y ∷ ls) x a e =
    let q = and_parts (proper y) (all_proper ls) a in
    elim (cases_Bool (eqb y.price p)) [
      | inl t ↦
          let o : y ≡ x = grind (arith, nat_tests) in
          (ap proper (sym o) ∙ q.0, ap (λ z. z.price) (sym o) ∙ eqb-true y.price p t)
      | inr f ↦ at-proper p ls x q.1 (grind (arith, nat_tests))
    ]

-- the levels of any side stay proper when an order is added or taken
added-proper : (s : Side) (p time : ℕ) (ls : List Level) → (leb 1 p && leb p 1000000000) ≡ true → all_proper ls ≡ true → ((x : Level) → level_at p ls ≡ Some x → full x ≡ false) → all_proper (added s p time ls) ≡ true
added-proper s p time [] r a f = and_from (proper (new_level p time)) true (new_proper p time r) refl
added-proper s p time (x ∷ ls) r a f =
    let q = and_parts (proper x) (all_proper ls) a in
    let n = new_proper p time r in
    elim (cases_Bool (eqb x.price p)) [
      | inl t ↦
          let u : full x ≡ false = f x (grind (arith, nat_tests)) in
          let j = joined-proper x q.0 u in
          let w = q.1 in
          grind (arith, nat_tests)
      | inr t ↦
          let ih = added-proper s p time ls r q.1 (λ y e. f y (grind (arith, nat_tests))) in
          let b = cases_Bool (better s p x.price) in
          let v = q.0 in
          let w = q.1 in
          grind (arith, nat_tests)
    ]

taken-proper : (p : ℕ) (ls : List Level) → all_proper ls ≡ true → all_proper (taken p ls) ≡ true
taken-proper p [] a = refl
taken-proper p (x ∷ ls) a =
    let q = and_parts (proper x) (all_proper ls) a in
    let ih = taken-proper p ls q.1 in
    let l = left-proper x q.0 in
    let t = cases_Bool (eqb x.price p) in
    let u = cases_Bool (single x) in
    let v = q.0 in
    let w = q.1 in
    grind (arith, nat_tests)

-- the answer Ok to an order more: the level is not full, or the price has a place
join_ok : (o : Option Level) (place : Bool) → join_answer o place ≡ Ok tt → (x : Level) → o ≡ Some x → full x ≡ false
join_ok o place a x e = grind (arith, nat_tests)

in-range : (p : ℕ) (x : Level) → proper x ≡ true → x.price ≡ p → (leb 1 p && leb p 1000000000) ≡ true
in-range p x a e = grind (arith, nat_tests)

range_from : (p n room : ℕ) (ls : List Level) (o : Option Level) → level_at p ls ≡ o → all_proper ls ≡ true → join_answer o (leb 1 p && (leb p 1000000000 && ltb n room)) ≡ Ok tt → (leb 1 p && leb p 1000000000) ≡ true
range_from p n room ls (Some x) h a e = let q = at-proper p ls x a h in in-range p x q.0 q.1
range_from p n room ls None h a e = grind (arith, nat_tests)

-- an order more or less leaves proper levels
pub add_proper : (s : Side) (room p time : ℕ) (ls : List Level) → all_proper ls ≡ true → all_proper (add_levels s room p time ls) ≡ true
add_proper s room p time ls a =
    let P : Result (Unit {0}) BoardFault → Type 0 = λ r. add_answer_on room p ls ≡ r → all_proper (calls.on_ok r (added s p time ls) ls) ≡ true in
    elim (add_answer_on room p ls) as P [
      | Ok v ↦ λ e. added-proper s p time ls (range_from p (length ls) room ls (level_at p ls) refl a e) a (join_ok (level_at p ls) _ e)
      | Err f ↦ λ e. a
    ] refl

pub take_proper : (p : ℕ) (ls : List Level) → all_proper ls ≡ true → all_proper (take_levels p ls) ≡ true
take_proper p ls a =
    let P : Result (Unit {0}) BoardFault → Type 0 = λ r. all_proper (calls.on_ok r (taken p ls) ls) ≡ true in
    elim (take_answer_on p ls) as P [ Ok v ↦ taken-proper p ls a | Err f ↦ a ]

all-proper : (ls : List Level) → all_proper ls ≡ true → AllProper 1 1000000000 ls
all-proper [] a = tt
all-proper (x ∷ ls) a =
    let q = and_parts (proper x) (all_proper ls) a in
    let u = and_parts (leb 1 x.price) _ q.0 in
    let v = and_parts (leb x.price 1000000000) _ u.1 in
    let w = and_parts (leb 1 x.orders) _ v.1 in
    (record { above = leb-true 1 x.price u.0; below = leb-true x.price 1000000000 v.0; some = leb-true 1 x.orders w.0; fits = leb-true x.orders 65535 w.1 }, all-proper ls q.1)

-- the numbers that passed the first test
pub counts_told : (m n : ℕ) → counts_fit m n ≡ true → (16 ≤ m) × (n ≡ m)
counts_told m n e = (grind (arith, nat_tests), grind (arith, nat_tests))

pub sound_of : {m n : ℕ} (bs : List (SideLevel m)) (ss : List (SideLevel n)) (room : ℕ) → 16 ≤ room → length bs ≤ room → length ss ≤ room → ascends price_in (better Buy) bs ≡ true → ascends price_in (better Sell) ss ≡ true → all_proper (levels_in bs) ≡ true → all_proper (levels_in ss) ≡ true → Sound (record { low = 1; high = 1000000000; room = room; buys = levels_in bs; sells = levels_in ss })
sound_of {m = m} {n = n} bs ss room r k j a b p q =
    let book : Book = record { low = 1; high = 1000000000; room = room; buys = levels_in bs; sells = levels_in ss } in
    let lb = length-map bs (λ (x : SideLevel m). level_of x) in
    let ls = length-map ss (λ (x : SideLevel n). level_of x) in
    record {
      lowest = omega arith;
      wide = omega arith;
      highest = omega arith;
      roomy = r;
      within = λ s. elim s as (λ v. length (levels_of book v) ≤ room) [ Buy ↦ omega arith | Sell ↦ omega arith ];
      sorted = λ s. elim s as (λ v. Sorted v (levels_of book v)) [ Buy ↦ sorted_levels price_in (better Buy) level_of Buy (λ _. refl) (λ _ _. refl) bs a | Sell ↦ sorted_levels price_in (better Sell) level_of Sell (λ _. refl) (λ _ _. refl) ss b ];
      proper = λ s. elim s as (λ v. AllProper 1 1000000000 (levels_of book v)) [ Buy ↦ all-proper (levels_in bs) p | Sell ↦ all-proper (levels_in ss) q ];
    }
