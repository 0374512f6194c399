-- The records of a shelf as the levels of a side: what finding, placing and taking away a record means for the levels.
use Rattle.std.proofs.Common.{◌≡◌, ℕ, ◌<◌, Bool, true, false, eqb, ◌⊎◌, List, [], ◌∷◌, map, set, Some, None, sym, refl, ap, ◌∙◌, subst, inl, inr, arith}
use Rattle.std.proofs.lemmas.Bool.{and_parts, cases_order, lt-ltb, le-ltb, eq-eqb, ne_eqb, cases_Bool}
use Rattle.std.proofs.lemmas.Bool.Decides.{nat_tests}
use Rattle.std.specs.List.{remove, slice_get}
use Rattle.entry.specs.declared.Side.{Side}
use Rattle.entry.specs.declared.Side.TheVariants.{Buy, Sell}
use Rattle.board.specs.declared.levels.Level.{Level}
use Rattle.board.specs.Levels.{new_level, joined, left, single}
use Rattle.board.specs.Book.{better, level_at, next_after}
use Rattle.board.specs.Calls.{added, taken}
use Rattle.board.specs.Sound.{Behind, Sorted}
use Rattle.shelf.specs.Order.{all_after, ascends, place, stands, placed, first_after}
use Rattle.shelf.proofs.Order.{all_after_earlier}
use Rattle.ladder.specs.OneSide.{level_in}

-- a price q lies before a price p, at it, or behind it
abbrev Lies : Side → ℕ → ℕ → Type 0
Lies s q p =
    ((better s q p ≡ true) × (better s p q ≡ false) × (eqb q p ≡ false)) ⊎ (((better s q p ≡ false) × (better s p q ≡ false) × (eqb q p ≡ true)) ⊎ ((better s q p ≡ false) × (better s p q ≡ true) × (eqb q p ≡ false)))

apart : (q p : ℕ) → q < p → eqb q p ≡ false
apart q p h = ne_eqb q p (λ e. omega arith)

apart' : (q p : ℕ) → p < q → eqb q p ≡ false
apart' q p h = ne_eqb q p (λ e. omega arith)

lies : (s : Side) (q p : ℕ) → Lies s q p
lies Buy q p = elim (cases_order q p) [
  | inl e ↦ inr (inl (le-ltb p q (omega arith), le-ltb q p (omega arith), eq-eqb q p e))
  | inr (inl e) ↦ inr (inr (le-ltb p q (omega arith), lt-ltb q p e, apart q p e))
  | inr (inr e) ↦ inl (lt-ltb p q e, le-ltb q p (omega arith), apart' q p e)
]
lies Sell q p = elim (cases_order q p) [
  | inl e ↦ inr (inl (le-ltb q p (omega arith), le-ltb p q (omega arith), eq-eqb q p e))
  | inr (inl e) ↦ inl (lt-ltb q p e, le-ltb p q (omega arith), apart q p e)
  | inr (inr e) ↦ inr (inr (le-ltb q p (omega arith), lt-ltb p q e, apart' q p e))
]

module _ {R : Type 0} (key : R → ℕ) (before : ℕ → ℕ → Bool) (level : R → Level) (s : Side) (priced : (x : R) → key x ≡ (level x).price) (ranked : (p q : ℕ) → before p q ≡ better s p q) where
  earlier : (x : R) (p : ℕ) → before (key x) p ≡ better s (level x).price p
  earlier x p = ap (λ k. before k p) (priced x) ∙ ranked (level x).price p

  later : (x : R) (p : ℕ) → before p (key x) ≡ better s p (level x).price
  later x p = ap (before p) (priced x) ∙ ranked p (level x).price

  -- the record at the place of a price that stands holds the level there
  pub found_at : (p : ℕ) (xs : List R) → stands key before p xs ≡ true → level_in level (slice_get xs (place key before p xs)) ≡ level_at p (map level xs)
  found_at p [] h = refl
  found_at p (x ∷ xs) h =
      let ih = found_at p xs in
      let t = earlier x p in
      let u = later x p in
      let l = lies s (level x).price p in
      grind (arith, nat_tests)

  -- a price that stands has a record at its place, and one with no level does not stand
  pub stands_there : (p : ℕ) (xs : List R) → stands key before p xs ≡ true → None ≡ slice_get xs (place key before p xs) → ⊥
  stands_there p [] h e = let z : ◌≡◌ {A = ℕ} 0 1 = cc in omega arith
  stands_there p (x ∷ xs) h e =
      let ih = stands_there p xs in
      let t = earlier x p in
      let u = later x p in
      let l = lies s (level x).price p in
      grind (arith, nat_tests)

  pub not_standing : (p : ℕ) (xs : List R) → level_at p (map level xs) ≡ None → stands key before p xs ≡ false
  not_standing p [] e = refl
  not_standing p (x ∷ xs) e =
      let ih = not_standing p xs in
      let t = earlier x p in
      let u = later x p in
      let l = lies s (level x).price p in
      grind (arith, nat_tests)

  -- an order joins the level of the record at the place, and leaves it
  pub joined_at : (p time : ℕ) (xs : List R) (x r : R) → stands key before p xs ≡ true → Some x ≡ slice_get xs (place key before p xs) → level r ≡ joined (level x) → map level (set xs (place key before p xs) r) ≡ added s p time (map level xs)
  joined_at p time [] x r h f e = absurd (let z : ◌≡◌ {A = ℕ} 0 1 = cc in omega arith)
  joined_at p time (y ∷ xs) x r h f e =
      let ih = joined_at p time xs x r in
      let t = earlier y p in
      let u = later y p in
      let l = lies s (level y).price p in
      grind (arith, nat_tests)

  pub left_at : (p : ℕ) (xs : List R) (x r : R) → stands key before p xs ≡ true → Some x ≡ slice_get xs (place key before p xs) → single (level x) ≡ false → level r ≡ left (level x) → map level (set xs (place key before p xs) r) ≡ taken p (map level xs)
  left_at p [] x r h f n e = refl
  left_at p (y ∷ xs) x r h f n e =
      let ih = left_at p xs x r in
      let t = earlier y p in
      let u = later y p in
      let l = lies s (level y).price p in
      grind (arith, nat_tests)

  pub gone_at : (p : ℕ) (xs : List R) (x : R) → stands key before p xs ≡ true → Some x ≡ slice_get xs (place key before p xs) → single (level x) ≡ true → map level (remove xs (place key before p xs)) ≡ taken p (map level xs)
  gone_at p [] x h f n = refl
  gone_at p (y ∷ xs) x h f n =
      let ih = gone_at p xs x in
      let t = earlier y p in
      let u = later y p in
      let l = lies s (level y).price p in
      grind (arith, nat_tests)

  -- a new level goes to its place
  pub begun_at : (p time : ℕ) (xs : List R) (r : R) → stands key before p xs ≡ false → level r ≡ new_level p time → map level (placed key before r xs) ≡ added s p time (map level xs)
  begun_at p time [] r h e = ap (λ z. z ∷ []) e
  begun_at p time (y ∷ xs) r h e =
      let ih = begun_at p time xs r in
      let k : key r ≡ p = priced r ∙ ap (λ z. z.price) e in
      let t = earlier y p in
      let u = later y p in
      let v : before (key y) (key r) ≡ before (key y) p = ap (before (key y)) k in
      let l = lies s (level y).price p in
      grind (arith, nat_tests)

  -- the first record after a price holds the next level
  pub next-after : (p : ℕ) (xs : List R) → level_in level (first_after key before p xs) ≡ next_after s p (map level xs)
  next-after p [] = refl
  next-after p (y ∷ xs) =
      let ih = next-after p xs in
      let u = later y p in
      let v = cases_Bool (before p (key y)) in
      grind (arith, nat_tests)

  -- levels that are all behind a price
  none-at : (p : ℕ) (xs : List R) → all_after key before p xs ≡ true → level_at p (map level xs) ≡ None
  none-at p [] a = refl
  none-at p (y ∷ xs) a =
      let q = and_parts (before p (key y)) (all_after key before p xs) a in
      let ih = none-at p xs q.1 in
      let b = q.0 in
      let u = later y p in
      let l = lies s (level y).price p in
      grind (arith, nat_tests)

  behind-after : (p : ℕ) (xs : List R) → all_after key before p xs ≡ true → Behind s p (map level xs)
  behind-after p [] a = tt
  behind-after p (y ∷ xs) a =
      let q = and_parts (before p (key y)) (all_after key before p xs) a in
      (sym (later y p) ∙ q.0, behind-after p xs q.1)

  pub sorted_levels : (xs : List R) → ascends key before xs ≡ true → Sorted s (map level xs)
  sorted_levels [] a = tt
  sorted_levels (y ∷ xs) a =
      let q = and_parts (all_after key before (key y) xs) (ascends key before xs) a in
      (subst (λ (p : ℕ). Behind s p (map level xs)) (priced y) (behind-after (key y) xs q.0), sorted_levels xs q.1)

  module _ (transitive : (x y z : ℕ) → before x y ≡ true → before y z ≡ true → before x z ≡ true) where
    -- no level stands at a price that the records do not have
    pub missing_at : (p : ℕ) (xs : List R) → ascends key before xs ≡ true → stands key before p xs ≡ false → level_at p (map level xs) ≡ None
    missing_at p [] a h = refl
    missing_at p (y ∷ xs) a h =
        let q = and_parts (all_after key before (key y) xs) (ascends key before xs) a in
        let ih = missing_at p xs q.1 in
        let n : before p (key y) ≡ true → level_at p (map level xs) ≡ None = λ b. none-at p xs (all_after_earlier key before transitive p (key y) xs b q.0) in
        let t = earlier y p in
        let u = later y p in
        let l = lies s (level y).price p in
        grind (arith, nat_tests)
