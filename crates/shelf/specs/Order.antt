-- Records in the order of their keys, and the place of a key among them.
use Rattle.std.specs.Prelude.{ℕ, suc, Bool, true, false, cond, not, ◌&&◌, List, [], ◌∷◌, Some, None, Ok, Err, Option, Result}

-- each record has a key after k
abbrev pub all_after : {R K : Type 0} → (R → K) → (K → K → Bool) → K → List R → Bool
all_after key before k [] = true
all_after key before k (x ∷ xs) = before k (key x) && all_after key before k xs

-- the keys ascend, so that no two are equal
abbrev pub ascends : {R K : Type 0} → (R → K) → (K → K → Bool) → List R → Bool
ascends key before [] = true
ascends key before (x ∷ xs) = all_after key before (key x) xs && ascends key before xs

-- how many records from the front have keys before k
abbrev pub place : {R K : Type 0} → (R → K) → (K → K → Bool) → K → List R → ℕ
place key before k [] = 0
place key before k (x ∷ xs) = cond (before (key x) k) (suc (place key before k xs)) 0

-- whether the key stands: the first record whose key is not before k has no key after k either
abbrev pub stands : {R K : Type 0} → (R → K) → (K → K → Bool) → K → List R → Bool
stands key before k [] = false
stands key before k (x ∷ xs) = cond (before (key x) k) (stands key before k xs) (not (before k (key x)))

-- the place where the key stands, or else the place where it would
abbrev pub sought : {R K : Type 0} → (R → K) → (K → K → Bool) → K → List R → Result ℕ ℕ
sought key before k xs = cond (stands key before k xs) (Ok (place key before k xs)) (Err (place key before k xs))

-- the records with one more at its place
abbrev pub placed : {R K : Type 0} → (R → K) → (K → K → Bool) → R → List R → List R
placed key before r [] = r ∷ []
placed key before r (x ∷ xs) = cond (before (key x) (key r)) (x ∷ placed key before r xs) (r ∷ x ∷ xs)

-- the first record with a key after k
abbrev pub first_after : {R K : Type 0} → (R → K) → (K → K → Bool) → K → List R → Option R
first_after key before k [] = None
first_after key before k (x ∷ xs) = cond (before k (key x)) (Some x) (first_after key before k xs)

-- whether this record, if there is one, has the key k
abbrev pub has_key : {R K : Type 0} → (R → K) → (K → K → Bool) → K → Option R → Bool
has_key key before k None = false
has_key key before k (Some x) = not (before (key x) k) && not (before k (key x))
