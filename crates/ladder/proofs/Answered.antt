-- What an order more or less is answered on one side of a ladder, and the levels that it leaves.
use Rattle.std.proofs.Common.{◌≡◌, ℕ, ◌≤◌, Bool, true, false, ◌&&◌, ltb, leb, List, map, length, set, Some, None, Ok, Err, Option, Result, sym, ap, ◌∙◌, arith}
use Rattle.std.proofs.lemmas.List.{length-map}
use Rattle.std.proofs.lemmas.Bool.Decides.{nat_tests}
use Rattle.std.specs.List.{remove, slice_get}
use Rattle.entry.specs.declared.Side.{Side}
use Rattle.board.specs.declared.levels.Level.{Level}
use Rattle.board.specs.declared.faults.BoardFault.{BoardFault}
use Rattle.board.specs.declared.faults.BoardFault.TheVariants.{NoPlace, NothingThere}
use Rattle.board.specs.Levels.{new_level, joined, left, single, more_answer, less_answer}
use Rattle.board.specs.Book.{better, level_at}
use Rattle.board.specs.Calls.{added, taken}
use Rattle.shelf.specs.declared.ShelfFault.{ShelfFault}
use Rattle.shelf.specs.Order.{ascends, stands, placed, sought}
use Rattle.shelf.specs.Calls.{insert_answer, insert_live, replace_answer, replace_live}
use Rattle.shelf.proofs.Order.{sought_ok, sought_err}
use Rattle.ladder.specs.OneSide.{level_in, add_answer_on, add_levels, take_answer_on, take_levels}
use Rattle.ladder.proofs.Shelved.{found_at, stands_there, not_standing, joined_at, left_at, gone_at, begun_at, missing_at}

-- an answer and the levels after it, each with what it is to be
pub record Owed (r answer' : Result (Unit {0}) BoardFault) (ls levels' : List Level) : Type 0 where
  pub answer : r ≡ answer'
  pub levels : ls ≡ levels'

module _ {R : Type 0} (key : R → ℕ) (before : ℕ → ℕ → Bool) (level : R → Level) (s : Side) (priced : (x : R) → key x ≡ (level x).price) (ranked : (p q : ℕ) → before p q ≡ better s p q) where
  -- a new level, where none stands
  module _ (p time room : ℕ) (xs ys : List R) (r : R) (m : level_at p (map level xs) ≡ None) (low : 1 ≤ p) (high : p ≤ 1000000000) (e : level r ≡ new_level p time) (l : ys ≡ insert_live key before r xs room) where
    own : key r ≡ p
    own = priced r ∙ ap (λ z. z.price) e

    absent : stands key before (key r) xs ≡ false
    absent = ap (λ k. stands key before k xs) own ∙ not_standing key before level s priced ranked p xs m

    pub begin_done : Ok tt ≡ insert_answer key before r xs room → Owed (Ok tt) (add_answer_on room p (map level xs)) (map level ys) (add_levels s room p time (map level xs))
    begin_done a =
        let h = absent in
        let n = length-map xs level in
        let b = begun_at key before level s priced ranked p time xs r (not_standing key before level s priced ranked p xs m) e in
        let d : ltb (length xs) room ≡ true = grind (arith, nat_tests) in
        let y : ys ≡ placed key before r xs = grind (arith, nat_tests) in
        let z : map level ys ≡ added s p time (map level xs) = ap (map level) y ∙ b in
        let w : add_answer_on room p (map level xs) ≡ Ok tt = grind (arith, nat_tests) in
        record { answer = sym w; levels = grind (arith, nat_tests) }

    pub begin_refused : (f : ShelfFault) → Err f ≡ insert_answer key before r xs room → Owed (Err NoPlace) (add_answer_on room p (map level xs)) (map level ys) (add_levels s room p time (map level xs))
    begin_refused f a =
        let h = absent in
        let n = length-map xs level in
        let d : ltb (length xs) room ≡ false = grind (arith, nat_tests) in
        let y : ys ≡ xs = grind (arith, nat_tests) in
        let z : map level ys ≡ map level xs = ap (map level) y in
        let w : add_answer_on room p (map level xs) ≡ Err NoPlace = grind (arith, nat_tests) in
        record { answer = sym w; levels = grind (arith, nat_tests) }

  -- outside the range, where no level stands
  pub begin_outside : (p time room : ℕ) (xs : List R) → level_at p (map level xs) ≡ None → (leb 1 p && leb p 1000000000) ≡ false → Owed (Err NoPlace) (add_answer_on room p (map level xs)) (map level xs) (add_levels s room p time (map level xs))
  begin_outside p time room xs m o =
      let w : add_answer_on room p (map level xs) ≡ Err NoPlace = grind (arith, nat_tests) in
      record { answer = sym w; levels = grind (arith, nat_tests) }

  -- a record x stands at the place where the price was found
  module _ (p : ℕ) (xs : List R) (at : ℕ) (i : Ok at ≡ sought key before p xs) where
    pub there : None ≡ slice_get xs at → ⊥
    there n = let o = sought_ok key before p xs at i in stands_there key before level s priced ranked p xs o.0 (n ∙ ap (slice_get xs) o.1)

    module _ (x : R) (f : Some x ≡ slice_get xs at) where
      at_level : level_at p (map level xs) ≡ Some (level x)
      at_level =
          let o = sought_ok key before p xs at i in
          let F : Option R → Option Level = λ y. level_in level y in
          sym (ap F (f ∙ ap (slice_get xs) o.1) ∙ found_at key before level s priced ranked p xs o.0)

      pub join_full : (time room : ℕ) (fault : BoardFault) → Err fault ≡ more_answer (level x) → Owed (Err fault) (add_answer_on room p (map level xs)) (map level xs) (add_levels s room p time (map level xs))
      join_full time room fault a =
          let v = at_level in
          let w : add_answer_on room p (map level xs) ≡ Err fault = grind (arith, nat_tests) in
          record { answer = sym w; levels = grind (arith, nat_tests) }

      pub join_done : (time room : ℕ) (y : Level) (r : R) (ys : List R) → Ok y ≡ more_answer (level x) → level r ≡ y → Ok tt ≡ replace_answer key before at r xs → ys ≡ replace_live key before at r xs → Owed (Ok tt) (add_answer_on room p (map level xs)) (map level ys) (add_levels s room p time (map level xs))
      join_done time room y r ys a e b l =
          let o = sought_ok key before p xs at i in
          let v = at_level in
          let j : level r ≡ joined (level x) = grind (arith, nat_tests) in
          let u : ys ≡ set xs at r = grind (arith, nat_tests) in
          let z : map level ys ≡ added s p time (map level xs) = ap (map level) (u ∙ ap (λ k. set xs k r) o.1) ∙ joined_at key before level s priced ranked p time xs x r o.0 (f ∙ ap (slice_get xs) o.1) j in
          let w : add_answer_on room p (map level xs) ≡ Ok tt = grind (arith, nat_tests) in
          record { answer = sym w; levels = grind (arith, nat_tests) }

      pub leave_done : (y : Level) (r : R) (ys : List R) → Some y ≡ less_answer (level x) → level r ≡ y → Ok tt ≡ replace_answer key before at r xs → ys ≡ replace_live key before at r xs → Owed (Ok tt) (take_answer_on p (map level xs)) (map level ys) (take_levels p (map level xs))
      leave_done y r ys a e b l =
          let o = sought_ok key before p xs at i in
          let v = at_level in
          let n : single (level x) ≡ false = grind (arith, nat_tests) in
          let j : level r ≡ left (level x) = grind (arith, nat_tests) in
          let u : ys ≡ set xs at r = grind (arith, nat_tests) in
          let z : map level ys ≡ taken p (map level xs) = ap (map level) (u ∙ ap (λ k. set xs k r) o.1) ∙ left_at key before level s priced ranked p xs x r o.0 (f ∙ ap (slice_get xs) o.1) n j in
          let w : take_answer_on p (map level xs) ≡ Ok tt = grind (arith, nat_tests) in
          record { answer = sym w; levels = grind (arith, nat_tests) }

      pub leave_last : (ys : List R) → None ≡ less_answer (level x) → ys ≡ remove xs at → Owed (Ok tt) (take_answer_on p (map level xs)) (map level ys) (take_levels p (map level xs))
      leave_last ys a l =
          let o = sought_ok key before p xs at i in
          let v = at_level in
          let n : single (level x) ≡ true = grind (arith, nat_tests) in
          let z : map level ys ≡ taken p (map level xs) = ap (map level) (l ∙ ap (remove xs) o.1) ∙ gone_at key before level s priced ranked p xs x o.0 (f ∙ ap (slice_get xs) o.1) n in
          let w : take_answer_on p (map level xs) ≡ Ok tt = grind (arith, nat_tests) in
          record { answer = sym w; levels = grind (arith, nat_tests) }

  -- the record that was found for a price holds the level there
  pub found : (p : ℕ) (xs : List R) (at : ℕ) → Ok at ≡ sought key before p xs → level_in level (slice_get xs at) ≡ level_at p (map level xs)
  found p xs at i = let o = sought_ok key before p xs at i in ap (λ k. level_in level (slice_get xs k)) o.1 ∙ found_at key before level s priced ranked p xs o.0

  -- no level stands where the price was not found
  module _ (transitive : (x y z : ℕ) → before x y ≡ true → before y z ≡ true → before x z ≡ true) (p : ℕ) (xs : List R) (at : ℕ) (a : ascends key before xs ≡ true) (i : Err at ≡ sought key before p xs) where
    pub missing : level_at p (map level xs) ≡ None
    missing = missing_at key before level s priced ranked transitive p xs a (sought_err key before p xs at i).0

    pub leave_none : Owed (Err NothingThere) (take_answer_on p (map level xs)) (map level xs) (take_levels p (map level xs))
    leave_none =
        let v = missing in
        let w : take_answer_on p (map level xs) ≡ Err NothingThere = grind (arith, nat_tests) in
        record { answer = sym w; levels = grind (arith, nat_tests) }
