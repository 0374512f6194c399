-- Numbers as bytes, and the numbers in fields of bits.
use Rattle.std.proofs.Common.{◌≡◌, ℕ, zero, suc, ◌+◌, ◌-◌, ◌*◌, ◌/◌, ◌%◌, ◌^◌, ◌<◌, ◌≤◌, List, [], ◌∷◌, ◌++◌, length, get_or, take, drop, sym, refl, ap, ◌∙◌, subst, inl, inr, mul_assoc, add-mul, add-one, arith, pow-add, shr-shr}
use lib.Pow.{high, low, field as field_of, mod-mod-pow, mod-pow-add}
use lib.Arith.{digits_lt}
use Rattle.std.proofs.lemmas.List.{take_more, length-append, length-take, length_push, take-append-drop, length-drop, get_or-drop, get_or-take, get_or_past}
use Rattle.std.proofs.Math.Seq.{take-add}
use Rattle.std.proofs.lemmas.Bool.{cases_lt}
use Rattle.layout.specs.Bits.{bytes, spelt, AreBytes, field}

pub length_bytes : (k n : ℕ) → length (bytes k n) ≡ k
length_bytes zero n = refl
length_bytes (suc k) n = length_push (bytes k (n / 256)) (n % 256) ∙ (ap (λ (i : ℕ). i + 1) (length_bytes k (n / 256)) ∙ add-one k)

pub spelt_append : (xs ys : List ℕ) → spelt (xs ++ ys) ≡ spelt xs * 2 ^ (8 * length ys) + spelt ys
spelt_append [] ys = omega arith
spelt_append (x ∷ xs) ys =
    let long : 8 * length (xs ++ ys) ≡ 8 * length xs + 8 * length ys = omega (arith, length-append xs ys) in
    let power : 2 ^ (8 * length (xs ++ ys)) ≡ 2 ^ (8 * length xs) * 2 ^ (8 * length ys) = ap (λ (i : ℕ). 2 ^ i) long ∙ pow-add 2 (8 * length xs) (8 * length ys) in
    let one : x * 2 ^ (8 * length (xs ++ ys)) ≡ x * 2 ^ (8 * length xs) * 2 ^ (8 * length ys) =
    ap (λ (i : ℕ). x * i) power ∙ sym (mul_assoc x (2 ^ (8 * length xs)) (2 ^ (8 * length ys))) in
    let two = spelt_append xs ys in
    let three = add-mul (x * 2 ^ (8 * length xs)) (spelt xs) (2 ^ (8 * length ys)) in
    omega arith

pub spelt_push : (bs : List ℕ) (b : ℕ) → spelt (bs ++ (b ∷ [])) ≡ spelt bs * 256 + b
spelt_push bs b = omega (arith, spelt_append bs (b ∷ []))

-- one byte more
pub spelt-more : (bs : List ℕ) (i : ℕ) → i < length bs → spelt (take (i + 1) bs) ≡ spelt (take i bs) * 256 + get_or bs i 0
spelt-more bs i p = ap spelt (take_more bs i 0 p) ∙ spelt_push (take i bs) (get_or bs i 0)

pub spelt_lt : (bs : List ℕ) → AreBytes bs → spelt bs < 2 ^ (8 * length bs)
spelt_lt [] p = omega arith
spelt_lt (b ∷ bs) p =
    let power : 2 ^ (8 * length (b ∷ bs)) ≡ 256 * 2 ^ (8 * length bs) =
    (let e : 8 * length (b ∷ bs) ≡ 8 + 8 * length bs = omega arith in ap (λ (i : ℕ). 2 ^ i) e ∙ pow-add 2 8 (8 * length bs)) in
    let below : b * 2 ^ (8 * length bs) + spelt bs < 256 * 2 ^ (8 * length bs) = digits_lt (p 0) (spelt_lt bs (λ i. p (suc i))) in
    omega arith

pub bytes_drop : (bs : List ℕ) (i : ℕ) → AreBytes bs → AreBytes (drop i bs)
bytes_drop bs i p j = subst (λ (x : ℕ). x < 256) (sym (get_or-drop i bs j 0)) (p (i + j))

pub bytes_take : (bs : List ℕ) (i : ℕ) → AreBytes bs → AreBytes (take i bs)
bytes_take bs i p j =
    elim (cases_lt j i) [
      | inl q ↦ subst (λ (x : ℕ). x < 256) (sym (get_or-take i bs j 0 q)) (p j)
      | inr q ↦
          let past : length (take i bs) ≤ j = omega (arith, length-take i bs) in
          subst (λ (x : ℕ). x < 256) (sym (get_or_past (take i bs) j 0 past)) (omega arith)
    ]

-- the first bytes are the number's upper bits
pub spelt_take : (bs : List ℕ) (i : ℕ) → AreBytes bs → i ≤ length bs → spelt (take i bs) ≡ spelt bs / 2 ^ (8 * (length bs - i))
spelt_take bs i p q =
    let e : spelt bs ≡ spelt (take i bs) * 2 ^ (8 * length (drop i bs)) + spelt (drop i bs) =
    ap spelt (sym (take-append-drop i bs)) ∙ spelt_append (take i bs) (drop i bs) in
    let n : 8 * length (drop i bs) ≡ 8 * (length bs - i) = ap (λ (x : ℕ). 8 * x) (length-drop i bs) in
    sym (ap (λ (x : ℕ). spelt bs / 2 ^ x) (sym n)
    ∙ (ap (λ (x : ℕ). x / 2 ^ (8 * length (drop i bs))) e ∙ high (spelt (take i bs)) (8 * length (drop i bs)) (spelt_lt (drop i bs) (bytes_drop bs i p))))

-- the bytes from one place to another are the lower bits of those up to the second place
pub spelt_between :
    (bs : List ℕ) (first last : ℕ) → AreBytes bs → first ≤ last → last ≤ length bs → spelt (take (last - first) (drop first bs)) ≡ spelt (take last bs) % 2 ^ (8 * (last - first))
spelt_between bs first last p q r =
    let front : List ℕ = take first bs in
    let middle : List ℕ = take (last - first) (drop first bs) in
    let whole : first + (last - first) ≡ last = omega arith in
    let long : 8 * length middle ≡ 8 * (last - first) = omega (arith, length-take (last - first) (drop first bs), length-drop first bs) in
    let e : spelt (take last bs) ≡ spelt front * 2 ^ (8 * (last - first)) + spelt middle =
    ap (λ (x : ℕ). spelt (take x bs)) (sym whole)
    ∙ (ap spelt (take-add first (last - first) bs) ∙ (spelt_append front middle ∙ ap (λ (x : ℕ). spelt front * 2 ^ x + spelt middle) long)) in
    let small : spelt middle < 2 ^ (8 * (last - first)) =
    subst (λ (x : ℕ). spelt middle < 2 ^ x) long (spelt_lt middle (bytes_take (drop first bs) (last - first) (bytes_drop bs first p))) in
    sym (ap (λ (x : ℕ). x % 2 ^ (8 * (last - first))) e ∙ low (spelt front) (8 * (last - first)) small)

-- a word of d bytes that takes one more
pub word_more : (p d b : ℕ) → b < 256 → (p * 256 + b) % 2 ^ (8 * (d + 1)) ≡ p % 2 ^ (8 * d) * 256 + b
word_more p d b small =
    let e : 8 * (d + 1) ≡ 8 * d + 8 = omega arith in
    ap (λ (x : ℕ). (p * 256 + b) % 2 ^ x) e
    ∙ (mod-pow-add (p * 256 + b) (8 * d) 8
    ∙ (ap (λ (x : ℕ). x % 2 ^ (8 * d) * 256 + (p * 256 + b) % 256) (high p 8 small) ∙ ap (λ (x : ℕ). p % 2 ^ (8 * d) * 256 + x) (low p 8 small)))

-- bits that lie within a number's lowest ones
pub within_low : (n a s w : ℕ) → s + w ≤ a → n % 2 ^ a / 2 ^ s % 2 ^ w ≡ n / 2 ^ s % 2 ^ w
within_low n a s w p =
    let one : a ≡ (a - s) + s = omega arith in
    let two : a - s ≡ (a - s - w) + w = omega arith in
    ap (λ (x : ℕ). n % 2 ^ x / 2 ^ s % 2 ^ w) one
    ∙ (ap (λ (x : ℕ). x % 2 ^ w) (field_of n (a - s) s ∙ ap (λ (x : ℕ). n / 2 ^ s % 2 ^ x) two) ∙ mod-mod-pow (n / 2 ^ s) (a - s - w) w)

-- the bits of a field, read from a word that ends with the byte before `last`
pub field_in :
    (bs : List ℕ) (from width last a : ℕ) → AreBytes bs → last ≤ length bs → from + width ≤ 8 * last → 8 * last ≤ from + a →
    spelt (take last bs) % 2 ^ a / 2 ^ (8 * last - from - width) % 2 ^ width ≡ field bs from width
field_in bs from width last a p q r t =
    let s = 8 * last - from - width in
    let e : 8 * (length bs - last) + (8 * last - from - width) ≡ 8 * length bs - (from + width) = omega arith in
    within_low (spelt (take last bs)) a (8 * last - from - width) width (omega arith)
    ∙ (ap (λ (x : ℕ). x / 2 ^ (8 * last - from - width) % 2 ^ width) (spelt_take bs last p q)
    ∙ ap (λ (x : ℕ). x % 2 ^ width) (shr-shr (spelt bs) (8 * (length bs - last)) (8 * last - from - width) ∙ ap (λ (x : ℕ). spelt bs / 2 ^ x) e))
