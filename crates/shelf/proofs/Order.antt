-- Records in order: the place of a key, and what stays in order.
use Rattle.std.proofs.Common.{◌≡◌, ℕ, zero, suc, ◌<◌, ◌≤◌, Bool, true, false, cond, not, ◌&&◌, List, [], ◌∷◌, length, get_or, take, set, Some, None, Ok, Err, Result, sym, refl, ap, ◌∙◌, subst, inl, inr, arith, get_or-take}
use Rattle.std.specs.List.{insert, remove, slice_get}
use Rattle.std.specs.List.Sorted.{IsPartitionedBy, IsPartitionPoint}
use Rattle.std.proofs.lemmas.Bool.{and_parts, and_from, cases_Bool, cond-true, cond-false}
use Rattle.std.proofs.lemmas.Bool.Decides.{nat_tests}
use Rattle.std.proofs.lemmas.List.{length-take-le, get_or_default}
use Rattle.std.proofs.lemmas.Option.{slice_get_read, slice_get_past}
use Rattle.shelf.specs.Order.{all_after, ascends, place, stands, placed, sought, first_after}

clash : {X : Type 0} → (b : Bool) → b ≡ true → b ≡ false → X
clash b p q = let z : ◌≡◌ {A = ℕ} 0 1 = cc in absurd (omega arith)

not_not : (b : Bool) → not b ≡ false → b ≡ true
not_not true e = refl
not_not false e = clash true refl e

module _ {R K : Type 0} (key : R → K) (before : K → K → Bool) where
  pub place_le : (k : K) (xs : List R) (i : ℕ) (d : R) → i < length xs → before (key (get_or xs i d)) k ≡ false → place key before k xs ≤ i
  place_le k [] i d h b = absurd (omega arith)
  place_le k (x ∷ xs) zero d h b = subst (λ (v : Bool). cond v (suc (place key before k xs)) 0 ≤ 0) (sym b) (omega arith)
  place_le k (x ∷ xs) (suc i) d h b =
      let ih : place key before k xs ≤ i = place_le k xs i d (omega arith) b in
      elim (before (key x) k) as (λ v. cond v (suc (place key before k xs)) 0 ≤ suc i) [ true ↦ omega arith | false ↦ omega arith ]

  pub place_all : (k : K) (xs : List R) → place key before k xs ≤ length xs
  place_all k [] = omega arith
  place_all k (x ∷ xs) =
      let ih : place key before k xs ≤ length xs = place_all k xs in
      elim (before (key x) k) as (λ v. cond v (suc (place key before k xs)) 0 ≤ suc (length xs)) [ true ↦ omega arith | false ↦ omega arith ]

  pub all_after_at : (k : K) (xs : List R) (i : ℕ) (d : R) → i < length xs → all_after key before k xs ≡ true → before k (key (get_or xs i d)) ≡ true
  all_after_at k [] i d h a = absurd (omega arith)
  all_after_at k (x ∷ xs) zero d h a = (and_parts (before k (key x)) (all_after key before k xs) a).0
  all_after_at k (x ∷ xs) (suc i) d h a = all_after_at k xs i d (omega arith) (and_parts (before k (key x)) (all_after key before k xs) a).1

  -- the record at its place tells whether the key stands
  pub stands_read : (k : K) (xs : List R) (r : R) → Some r ≡ slice_get xs (place key before k xs) → stands key before k xs ≡ not (before k (key r))
  stands_read k [] r e = absurd (let z : ◌≡◌ {A = ℕ} 0 1 = cc in omega arith)
  stands_read k (x ∷ xs) r e =
      let F : Bool → Type 0 = λ v. Some r ≡ slice_get (x ∷ xs) (cond v (suc (place key before k xs)) 0) → cond v (stands key before k xs) (not (before k (key x))) ≡ not (before k (key r)) in
      elim (before (key x) k) as F [ true ↦ λ q. stands_read k xs r q | false ↦ λ q. let o : x ≡ r = cc in ap (λ z. not (before k (key z))) o ] e

  pub stands_none : (k : K) (xs : List R) → None ≡ slice_get xs (place key before k xs) → stands key before k xs ≡ false
  stands_none k [] e = refl
  stands_none k (x ∷ xs) e =
      let F : Bool → Type 0 = λ v. None ≡ slice_get (x ∷ xs) (cond v (suc (place key before k xs)) 0) → cond v (stands key before k xs) (not (before k (key x))) ≡ false in
      elim (before (key x) k) as F [ true ↦ λ q. stands_none k xs q | false ↦ λ q. absurd (let z : ◌≡◌ {A = ℕ} 0 1 = cc in omega arith) ] e

  -- the same of the record that is read there, or of a place past the last
  pub stands_at : (k : K) (xs : List R) (d : R) → place key before k xs < length xs → stands key before k xs ≡ not (before k (key (get_or xs (place key before k xs) d)))
  stands_at k xs d h = let i = place key before k xs in let r = get_or xs i d in stands_read k xs r (sym (slice_get_read xs (length xs) i r refl h (get_or_default xs i d r h)))

  pub stands_past : (k : K) (xs : List R) → length xs ≤ place key before k xs → stands key before k xs ≡ false
  stands_past k xs h = stands_none k xs (sym (slice_get_past xs (place key before k xs) h))

  -- a key that stands has its place among the records
  pub place_inside : (k : K) (xs : List R) → stands key before k xs ≡ true → place key before k xs < length xs
  place_inside k [] h = clash false h refl
  place_inside k (x ∷ xs) h =
      let F : Bool → Type 0 = λ v. cond v (stands key before k xs) (not (before k (key x))) ≡ true → cond v (suc (place key before k xs)) 0 < suc (length xs) in
      let ih : stands key before k xs ≡ true → place key before k xs < length xs = place_inside k xs in
      elim (before (key x) k) as F [ true ↦ λ g. let l = ih g in omega arith | false ↦ λ g. omega arith ] h

  -- the shift gives the ordered insertion
  pub inserted_placed : (r : R) (xs : List R) → insert xs (place key before (key r) xs) r ≡ placed key before r xs
  inserted_placed r [] = refl
  inserted_placed r (x ∷ xs) =
      let ih : insert xs (place key before (key r) xs) r ≡ placed key before r xs = inserted_placed r xs in
      let F : Bool → Type 0 = λ v. insert (x ∷ xs) (cond v (suc (place key before (key r) xs)) 0) r ≡ cond v (x ∷ placed key before r xs) (r ∷ x ∷ xs) in
      elim (before (key x) (key r)) as F [ true ↦ ap (λ z. x ∷ z) ih | false ↦ refl ]

  pub all_after_removed : (k : K) (xs : List R) (i : ℕ) → all_after key before k xs ≡ true → all_after key before k (remove xs i) ≡ true
  all_after_removed k [] zero a = refl
  all_after_removed k [] (suc i) a = refl
  all_after_removed k (x ∷ xs) zero a = (and_parts (before k (key x)) (all_after key before k xs) a).1
  all_after_removed k (x ∷ xs) (suc i) a =
      let p = and_parts (before k (key x)) (all_after key before k xs) a in
      and_from (before k (key x)) (all_after key before k (remove xs i)) p.0 (all_after_removed k xs i p.1)

  pub ascends_removed : (xs : List R) (i : ℕ) → ascends key before xs ≡ true → ascends key before (remove xs i) ≡ true
  ascends_removed [] zero a = refl
  ascends_removed [] (suc i) a = refl
  ascends_removed (x ∷ xs) zero a = (and_parts (all_after key before (key x) xs) (ascends key before xs) a).1
  ascends_removed (x ∷ xs) (suc i) a =
      let p = and_parts (all_after key before (key x) xs) (ascends key before xs) a in
      and_from (all_after key before (key x) (remove xs i)) (ascends key before (remove xs i)) (all_after_removed (key x) xs i p.0) (ascends_removed xs i p.1)

  pub all_after_taken : (k : K) (xs : List R) (n : ℕ) → all_after key before k xs ≡ true → all_after key before k (take n xs) ≡ true
  all_after_taken k xs zero a = refl
  all_after_taken k [] (suc n) a = refl
  all_after_taken k (x ∷ xs) (suc n) a =
      let p = and_parts (before k (key x)) (all_after key before k xs) a in
      and_from (before k (key x)) (all_after key before k (take n xs)) p.0 (all_after_taken k xs n p.1)

  -- the first records are in order too
  pub ascends_taken : (xs : List R) (n : ℕ) → ascends key before xs ≡ true → ascends key before (take n xs) ≡ true
  ascends_taken xs zero a = refl
  ascends_taken [] (suc n) a = refl
  ascends_taken (x ∷ xs) (suc n) a =
      let p = and_parts (all_after key before (key x) xs) (ascends key before xs) a in
      and_from (all_after key before (key x) (take n xs)) (ascends key before (take n xs)) (all_after_taken (key x) xs n p.0) (ascends_taken xs n p.1)

  pub all_after_set : (k : K) (xs : List R) (i : ℕ) (a : R) → key a ≡ key (get_or xs i a) → all_after key before k (set xs i a) ≡ all_after key before k xs
  all_after_set k [] i a e = refl
  all_after_set k (x ∷ xs) zero a e = ap (λ z. before k z && all_after key before k xs) e
  all_after_set k (x ∷ xs) (suc i) a e = ap (λ v. before k (key x) && v) (all_after_set k xs i a e)

  pub ascends_set : (xs : List R) (i : ℕ) (a : R) → key a ≡ key (get_or xs i a) → ascends key before (set xs i a) ≡ ascends key before xs
  ascends_set [] i a e = refl
  ascends_set (x ∷ xs) zero a e = ap (λ z. all_after key before z xs && ascends key before xs) e
  ascends_set (x ∷ xs) (suc i) a e = ap (λ v. v && ascends key before (set xs i a)) (all_after_set (key x) xs i a e) ∙ ap (λ v. all_after key before (key x) xs && v) (ascends_set xs i a e)

  -- what the test of the record at i says of the list
  pub test_at : (k : K) (s : List R) (n i : ℕ) (d : R) (q : K) (v : Bool) → i < n → d ≡ get_or s i d → q ≡ key d → v ≡ before q k → before (key (get_or (take n s) i d)) k ≡ v
  test_at k s n i d q v h e eq ev = ap (λ z. before (key z) k) (get_or-take n s i d h ∙ sym e) ∙ sym (ap (λ z. before z k) eq) ∙ sym ev

  pub stands_test : (k : K) (s : List R) (n i : ℕ) (d : R) (q : K) (v : Bool) → n ≤ length s → i ≡ place key before k (take n s) → i < n → d ≡ get_or s i d → q ≡ key d → v ≡ before k q → stands key before k (take n s) ≡ not v
  stands_test k s n i d q v ln ei h e eq ev =
      let l : length (take n s) ≡ n = length-take-le n s ln in
      stands_at k (take n s) d (omega arith)
      ∙ ap (λ j. not (before k (key (get_or (take n s) j d)))) (sym ei)
      ∙ ap (λ z. not (before k (key z))) (get_or-take n s i d h ∙ sym e)
      ∙ ap (λ z. not (before k z)) (sym eq) ∙ ap not (sym ev)

  -- every record below the place has a key before k
  below_place : (k : K) (xs : List R) (i : ℕ) (d : R) → i < place key before k xs → before (key (get_or xs i d)) k ≡ true
  below_place k [] i d h = absurd (omega arith)
  below_place k (x ∷ xs) zero d h =
      let F : Bool → Type 0 = λ v. 0 < cond v (suc (place key before k xs)) 0 → v ≡ true in
      elim (before (key x) k) as F [ true ↦ λ g. refl | false ↦ λ g. absurd (omega arith) ] h
  below_place k (x ∷ xs) (suc i) d h =
      let F : Bool → Type 0 = λ v. suc i < cond v (suc (place key before k xs)) 0 → before (key (get_or xs i d)) k ≡ true in
      elim (before (key x) k) as F [ true ↦ λ g. below_place k xs i d (omega arith) | false ↦ λ g. absurd (omega arith) ] h

  -- where the test of a binary search parts the records, there is the place
  pub place_parts : (k : K) (xs : List R) (i : ℕ) → i ≤ length xs → IsPartitionPoint (λ x. before (key x) k ≡ true) (λ x. before (key x) k ≡ false) xs i → i ≡ place key before k xs
  place_parts k [] zero h p = refl
  place_parts k [] (suc i) h p = absurd (omega arith)
  place_parts k (x ∷ xs) zero h p = sym (cond-false _ _ _ (p.1 0 x (omega arith) (omega arith)))
  place_parts k (x ∷ xs) (suc i) h p =
      let ih = place_parts k xs i (omega arith) (λ j d a b. p.0 (suc j) d (omega arith) (omega arith), λ j d a b. p.1 (suc j) d (omega arith) (omega arith)) in
      ap suc ih ∙ sym (cond-true _ _ _ (p.0 0 x (omega arith) (omega arith)))

  pub ok_sought : (k : K) (xs : List R) (i : ℕ) → i ≡ place key before k xs → stands key before k xs ≡ true → Ok i ≡ sought key before k xs
  ok_sought k xs i e h =
      let F : Bool → Result ℕ ℕ = λ v. cond v (Ok (place key before k xs)) (Err (place key before k xs)) in
      let G : ℕ → Result ℕ ℕ = λ j. Ok j in
      ap G e ∙ sym (ap F h)

  pub err_sought : (k : K) (xs : List R) (i : ℕ) → i ≡ place key before k xs → stands key before k xs ≡ false → Err i ≡ sought key before k xs
  err_sought k xs i e h =
      let F : Bool → Result ℕ ℕ = λ v. cond v (Ok (place key before k xs)) (Err (place key before k xs)) in
      let G : ℕ → Result ℕ ℕ = λ j. Err j in
      ap G e ∙ sym (ap F h)

  err-at : (p i : ℕ) (v : Bool) → ◌≡◌ {A = Result ℕ ℕ} (Err i) (cond v (Ok p) (Err p)) → (v ≡ false) × (i ≡ p)
  err-at p i true e = let z : ◌≡◌ {A = ℕ} 0 1 = cc in absurd (omega arith)
  err-at p i false e = (refl, cc)

  pub sought_err : (k : K) (xs : List R) (i : ℕ) → Err i ≡ sought key before k xs → (stands key before k xs ≡ false) × (i ≡ place key before k xs)
  sought_err k xs i e = err-at (place key before k xs) i (stands key before k xs) e

  ok_at : (p i : ℕ) (v : Bool) → ◌≡◌ {A = Result ℕ ℕ} (Ok i) (cond v (Ok p) (Err p)) → (v ≡ true) × (i ≡ p)
  ok_at p i true e = (refl, cc)
  ok_at p i false e = let z : ◌≡◌ {A = ℕ} 0 1 = cc in absurd (omega arith)

  pub sought_ok : (k : K) (xs : List R) (i : ℕ) → Ok i ≡ sought key before k xs → (stands key before k xs ≡ true) × (i ≡ place key before k xs)
  sought_ok k xs i e = ok_at (place key before k xs) i (stands key before k xs) e

  module _ (transitive : (x y z : K) → before x y ≡ true → before y z ≡ true → before x z ≡ true) where
    pub place_gt : (k : K) (xs : List R) (i : ℕ) (d : R) → ascends key before xs ≡ true → i < length xs → before (key (get_or xs i d)) k ≡ true → i < place key before k xs
    place_gt k [] i d a h b = absurd (omega arith)
    place_gt k (x ∷ xs) zero d a h b = subst (λ (v : Bool). 0 < cond v (suc (place key before k xs)) 0) (sym b) (omega arith)
    place_gt k (x ∷ xs) (suc i) d a h b =
        let p = and_parts (all_after key before (key x) xs) (ascends key before xs) a in
        let il : i < length xs = omega arith in
        let ih : i < place key before k xs = place_gt k xs i d p.1 il b in
        let xk : before (key x) k ≡ true = transitive (key x) (key (get_or xs i d)) k (all_after_at (key x) xs i d il p.0) b in
        subst (λ (v : Bool). suc i < cond v (suc (place key before k xs)) 0) (sym xk) (omega arith)

    -- the records with keys before k come first
    pub parted : (k : K) (xs : List R) → ascends key before xs ≡ true → IsPartitionedBy (λ x. before (key x) k) xs
    parted k xs a i j d h l b = below_place k xs i d (let p = place_gt k xs j d a l b in omega arith)

    pub all_after_earlier : (j k : K) (xs : List R) → before j k ≡ true → all_after key before k xs ≡ true → all_after key before j xs ≡ true
    all_after_earlier j k [] b a = refl
    all_after_earlier j k (x ∷ xs) b a =
        let p = and_parts (before k (key x)) (all_after key before k xs) a in
        and_from (before j (key x)) (all_after key before j xs) (transitive j k (key x) b p.0) (all_after_earlier j k xs b p.1)

    pub all_after_placed : (k : K) (r : R) (xs : List R) → before k (key r) ≡ true → all_after key before k xs ≡ true → all_after key before k (placed key before r xs) ≡ true
    all_after_placed k r [] b a = and_from (before k (key r)) true b refl
    all_after_placed k r (x ∷ xs) b a =
        let p = and_parts (before k (key x)) (all_after key before k xs) a in
        let F : Bool → Type 0 = λ v. all_after key before k (cond v (x ∷ placed key before r xs) (r ∷ x ∷ xs)) ≡ true in
        elim (before (key x) (key r)) as F [
          | true ↦ and_from (before k (key x)) (all_after key before k (placed key before r xs)) p.0 (all_after_placed k r xs b p.1)
          | false ↦ and_from (before k (key r)) (all_after key before k (x ∷ xs)) b a
        ]

    pub ascends_placed : (r : R) (xs : List R) → ascends key before xs ≡ true → stands key before (key r) xs ≡ false → ascends key before (placed key before r xs) ≡ true
    ascends_placed r [] a h = refl
    ascends_placed r (x ∷ xs) a h =
        let p = and_parts (all_after key before (key x) xs) (ascends key before xs) a in
        let F : Bool → Type 0 = λ v. before (key x) (key r) ≡ v → cond v (stands key before (key r) xs) (not (before (key r) (key x))) ≡ false → ascends key before (cond v (x ∷ placed key before r xs) (r ∷ x ∷ xs)) ≡ true in
        elim (before (key x) (key r)) as F [
          | true ↦ λ b g. and_from (all_after key before (key x) (placed key before r xs)) (ascends key before (placed key before r xs)) (all_after_placed (key x) r xs b p.0) (ascends_placed r xs p.1 g)
          | false ↦ λ b g.
              let rx : before (key r) (key x) ≡ true = not_not (before (key r) (key x)) g in
              let ra : all_after key before (key r) (x ∷ xs) ≡ true = and_from (before (key r) (key x)) (all_after key before (key r) xs) rx (all_after_earlier (key r) (key x) xs rx p.0) in
              and_from (all_after key before (key r) (x ∷ xs)) (ascends key before (x ∷ xs)) ra a
        ] refl h

    -- the first record after a key is the one at its place, or past the record that has it
    module _ (irreflexive : (x : K) → before x x ≡ false) (total : (x y : K) → before x y ≡ false → before y x ≡ false → x ≡ y) where
      not_after : (j k : K) → before j k ≡ true → before k j ≡ false
      not_after j k b = elim (cases_Bool (before k j)) [ inl c ↦ clash (before j j) (transitive j k j b c) (irreflexive j) | inr c ↦ c ]

      after_first : (k : K) (xs : List R) → all_after key before k xs ≡ true → slice_get xs 0 ≡ first_after key before k xs
      after_first k [] a = refl
      after_first k (x ∷ xs) a = sym (cond-true _ _ _ (and_parts (before k (key x)) (all_after key before k xs) a).0)

      pub after_missing : (k : K) (xs : List R) → stands key before k xs ≡ false → slice_get xs (place key before k xs) ≡ first_after key before k xs
      after_missing k [] h = refl
      after_missing k (x ∷ xs) h =
          let ih = after_missing k xs in
          let n = not_after (key x) k in
          let u = cases_Bool (before (key x) k) in
          let v = cases_Bool (before k (key x)) in
          grind (arith, nat_tests)

      pub after_found : (k : K) (xs : List R) → ascends key before xs ≡ true → stands key before k xs ≡ true → slice_get xs (suc (place key before k xs)) ≡ first_after key before k xs
      after_found k [] a h = refl
      after_found k (x ∷ xs) a h =
          let p = and_parts (all_after key before (key x) xs) (ascends key before xs) a in
          let ih = after_found k xs p.1 in
          let n = not_after (key x) k in
          let f : before (key x) k ≡ false → before k (key x) ≡ false → slice_get xs 0 ≡ first_after key before k xs =
          λ b c. after_first k xs (subst (λ (j : K). all_after key before j xs ≡ true) (total (key x) k b c) p.0) in
          let u = cases_Bool (before (key x) k) in
          let v = cases_Bool (before k (key x)) in
          grind (arith, nat_tests)
