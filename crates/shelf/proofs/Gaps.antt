-- A gap that is opened, and one that is closed, in one move.
use Rattle.std.proofs.Common.{◌≡◌, ℕ, suc, ◌+◌, ◌-◌, ◌<◌, ◌≤◌, List, ◌∷◌, ◌++◌, length, take, drop, set, sym, ap, ◌∙◌, ap₂, add-one, arith}
use Rattle.std.proofs.lemmas.List.{append_assoc, take-append-drop, take-take, length-take-le, length-append, length-drop, drop-take, set_split, take-append-le, take_at, drop_at}
use Rattle.std.proofs.lemmas.List.Edits.{length-paste}
use Rattle.std.specs.List.{insert, remove, copy_within}

-- what stands past a place among the first n
drawn : {X : Type 0} (xs : List X) (n at : ℕ) → at ≤ n → take (n - at) (drop at xs) ≡ drop at (take n xs)
drawn xs n at h = let e : at + (n - at) ≡ n = omega arith in sym (drop-take at (n - at) xs) ∙ ap (λ k. drop at (take k xs)) e

-- with the gap at i: before it the records are as they were, past it each of the first n has moved one place on
abbrev pub Opened : {X : Type 0} → List X → List X → ℕ → ℕ → Type 0
Opened xs ys n i = (take i ys ≡ take i xs) × (drop (i + 1) ys ≡ drop i (take n xs) ++ drop (n + 1) xs) × (length ys ≡ length xs)

pub opened_moved : {X : Type 0} (xs : List X) (n i : ℕ) → i ≤ n → n < length xs → Opened xs (copy_within xs i n (i + 1)) n i
opened_moved xs n i h l =
    let first = take (i + 1) xs in
    let moved = take (n - i) (drop i xs) in
    let past = drop (i + 1 + (n - i)) xs in
    let k : length first ≡ i + 1 = length-take-le (i + 1) xs (omega arith) in
    let y : copy_within xs i n (i + 1) ≡ first ++ (moved ++ past) = append_assoc first moved past in
    let front : take i (first ++ (moved ++ past)) ≡ take i xs = take-append-le i first (moved ++ past) (omega arith) ∙ take-take i (i + 1) xs (omega arith) in
    let back : drop (i + 1) (first ++ (moved ++ past)) ≡ moved ++ past = drop_at first (moved ++ past) (i + 1) k in
    let e : i + 1 + (n - i) ≡ n + 1 = omega arith in (
      ap (take i) y ∙ front,
      ap (drop (i + 1)) y ∙ back ∙ ap (λ z. z ++ past) (drawn xs n i h) ∙ ap (λ j. drop i (take n xs) ++ drop j xs) e,
      length-paste xs (i + 1) (drop i xs) (n - i) (omega arith) (omega (arith, length-drop i xs)),
    )

pub opened-all : {X : Type 0} (xs ys : List X) (n i : ℕ) (y : X) → i ≤ n → n < length xs → Opened xs ys n i → set ys i y ≡ insert (take n xs) i y ++ drop (n + 1) xs
opened-all xs ys n i y le nx (t, d, l) =
    let s : set ys i y ≡ take i ys ++ y ∷ drop (i + 1) ys = rw add-one (set_split ys i y (omega arith)) in
    let t2 : take i (take n xs) ≡ take i xs = take-take i n xs le in
    s ∙ ap (λ z. z ++ y ∷ drop (i + 1) ys) (t ∙ sym t2) ∙ ap (λ z. take i (take n xs) ++ y ∷ z) d
    ∙ sym (append_assoc (take i (take n xs)) (y ∷ drop i (take n xs)) (drop (n + 1) xs))

pub opened : {X : Type 0} (xs : List X) (n at : ℕ) (x : X) → at ≤ n → n < length xs → set (copy_within xs at n (at + 1)) at x ≡ insert (take n xs) at x ++ drop (n + 1) xs
opened xs n at x h l = opened-all xs (copy_within xs at n (at + 1)) n at x h l (opened_moved xs n at h l)

-- with the gap that was at `at` come to i - 1: the records passed have moved one place back, and those from the gap on are as they were
abbrev pub Closed : {X : Type 0} → List X → List X → ℕ → ℕ → Type 0
Closed xs ys at i = (take (i - 1) ys ≡ take at xs ++ take (i - (at + 1)) (drop (at + 1) xs)) × (drop (i - 1) ys ≡ drop (i - 1) xs) × (length ys ≡ length xs)

pub closed_moved : {X : Type 0} (xs : List X) (at i : ℕ) → at < i → i ≤ length xs → Closed xs (copy_within xs (at + 1) i at) at i
closed_moved xs at i h l =
    let m : ℕ = i - (at + 1) in
    let front = take at xs ++ take m (drop (at + 1) xs) in
    let e : at + m ≡ i - 1 = omega arith in
    let d = length-drop (at + 1) xs in
    let a : length (take at xs) ≡ at = length-take-le at xs (omega arith) in
    let b : length (take m (drop (at + 1) xs)) ≡ m = length-take-le m (drop (at + 1) xs) (omega arith) in
    let k : length front ≡ i - 1 = omega (arith, length-append (take at xs) (take m (drop (at + 1) xs))) in
    (take_at front (drop (at + m) xs) (i - 1) k, drop_at front (drop (at + m) xs) (i - 1) k ∙ ap (λ j. drop j xs) e, length-paste xs at (drop (at + 1) xs) m (omega arith) (omega arith))

pub closed : {X : Type 0} (xs : List X) (n at : ℕ) → at < n → copy_within xs (at + 1) n at ≡ remove (take n xs) at ++ drop (n - 1) xs
closed xs n at h =
    let e : at + (n - (at + 1)) ≡ n - 1 = omega arith in
    let a : take at xs ≡ take at (take n xs) = sym (take-take at n xs (omega arith)) in
    let b : take (n - (at + 1)) (drop (at + 1) xs) ≡ drop (suc at) (take n xs) = drawn xs n (at + 1) (omega arith) ∙ ap (λ k. drop k (take n xs)) (add-one at) in
    ap (λ z. (z ++ take (n - (at + 1)) (drop (at + 1) xs)) ++ drop (at + (n - (at + 1))) xs) a ∙ ap (λ z. (take at (take n xs) ++ z) ++ drop (at + (n - (at + 1))) xs) b
    ∙ ap (λ k. remove (take n xs) at ++ drop k xs) e

pub closed_all : {X : Type 0} (xs ys : List X) (n at i : ℕ) → at < n → n ≤ i → i ≤ n → n ≤ length xs → Closed xs ys at i → ys ≡ remove (take n xs) at ++ drop (n - 1) xs
closed_all xs ys n at i an ni in' nx (t, d, l) =
    let e : i ≡ n = omega arith in
    let p : at + (i - (at + 1)) ≡ i - 1 = omega arith in
    let w : ys ≡ copy_within xs (at + 1) i at = sym (take-append-drop (i - 1) ys) ∙ ap₂ (λ u v. u ++ v) t (d ∙ ap (λ k. drop k xs) (sym p)) in
    w ∙ ap (λ k. copy_within xs (at + 1) k at) e ∙ closed xs n at an
