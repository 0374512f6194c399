-- A record's bits are its fields, and its fields are its bits.
use Rattle.std.proofs.Common.{◌≡◌, ℕ, zero, suc, ◌+◌, ◌-◌, ◌*◌, ◌/◌, ◌%◌, ◌^◌, ◌<◌, ◌≤◌, Bool, true, false, ltb, List, [], ◌∷◌, ◌++◌, length, get_or, take, sym, refl, ap, ◌∙◌, subst, add-zero, add_comm, div-one, add-one, arith, pow_pos, pow-add, shr-shr, ltb-true, lt-ltb}
use lib.Pow.{high, low, split, shl-shr}
use lib.Arith.{digits_lt, digits_div, digits_mod}
use Rattle.std.proofs.lemmas.Nat.{div_below, mod_below}
use Rattle.std.proofs.lemmas.Bool.{and_parts, and_from}
use Rattle.std.proofs.lemmas.List.{take_more, take_all}
use Rattle.layout.specs.Bits.{bytes, spelt, AreBytes, field, fields, total, fit, packed}
use Rattle.layout.specs.Layout.{bits_for, bytes_for, spare_for, record_with}
use Rattle.layout.proofs.Numbers.{length_bytes, spelt_push, spelt-more, spelt_lt}

pub spelt-bytes : (k n : ℕ) → n < 2 ^ (8 * k) → spelt (bytes k n) ≡ n
spelt-bytes zero n p = omega (arith, p)
spelt-bytes (suc k) n p =
    let power : 2 ^ (8 * suc k) ≡ 2 ^ (8 * k) * 256 = (let e : 8 * suc k ≡ 8 * k + 8 = omega arith in ap (λ (x : ℕ). 2 ^ x) e ∙ pow-add 2 (8 * k) 8) in
    let upper = spelt-bytes k (n / 256) (div_below n 256 (2 ^ (8 * k)) (omega arith) (omega (arith, power))) in
    spelt_push (bytes k (n / 256)) (n % 256) ∙ (ap (λ (x : ℕ). x * 256 + n % 256) upper ∙ omega arith)

push_bytes : (bs : List ℕ) (b : ℕ) → AreBytes bs → b < 256 → AreBytes (bs ++ (b ∷ []))
push_bytes [] b p q zero = q
push_bytes [] b p q (suc i) = omega arith
push_bytes (x ∷ bs) b p q zero = p 0
push_bytes (x ∷ bs) b p q (suc i) = push_bytes bs b (λ j. p (suc j)) q i

pub bytes_are_bytes : (k n : ℕ) → AreBytes (bytes k n)
bytes_are_bytes zero n i = omega arith
bytes_are_bytes (suc k) n i = push_bytes (bytes k (n / 256)) (n % 256) (bytes_are_bytes k (n / 256)) (omega arith) i

bytes-spelt_front : (bs : List ℕ) (i : ℕ) → AreBytes bs → i ≤ length bs → bytes i (spelt (take i bs)) ≡ take i bs
bytes-spelt_front bs zero p q = refl
bytes-spelt_front bs (suc i) p q =
    let more : spelt (take (suc i) bs) ≡ spelt (take i bs) * 256 + get_or bs i 0 =
    subst (λ (x : ℕ). spelt (take x bs) ≡ spelt (take i bs) * 256 + get_or bs i 0) (add-one i) (spelt-more bs i (omega arith)) in
    let upper : spelt (take (suc i) bs) / 256 ≡ spelt (take i bs) = ap (λ (x : ℕ). x / 256) more ∙ digits_div (spelt (take i bs)) (p i) in
    let lower : spelt (take (suc i) bs) % 256 ≡ get_or bs i 0 = ap (λ (x : ℕ). x % 256) more ∙ digits_mod (spelt (take i bs)) (p i) in
    ap (λ (x : ℕ). bytes i x ++ (spelt (take (suc i) bs) % 256 ∷ [])) upper
    ∙ (ap (λ (x : ℕ). bytes i (spelt (take i bs)) ++ (x ∷ [])) lower
    ∙ (ap (λ (x : List ℕ). x ++ (get_or bs i 0 ∷ [])) (bytes-spelt_front bs i p (omega arith))
    ∙ subst (λ (x : ℕ). take i bs ++ (get_or bs i 0 ∷ []) ≡ take x bs) (add-one i) (sym (take_more bs i 0 (omega arith)))))

pub bytes-spelt : (bs : List ℕ) → AreBytes bs → bytes (length bs) (spelt bs) ≡ bs
bytes-spelt bs p =
    let all = take_all (length bs) bs (omega arith) in
    ap (λ (x : List ℕ). bytes (length bs) (spelt x)) (sym all) ∙ (bytes-spelt_front bs (length bs) p (omega arith) ∙ all)

pub packed-high : (n : ℕ) (ws vs : List ℕ) → fit ws vs ≡ true → packed n ws vs / 2 ^ total ws ≡ n
packed-high n [] vs p = div-one n
packed-high n (w ∷ ws) [] p = absurd (let z : ◌≡◌ {A = Bool} false true = p in let y : ◌≡◌ {A = ℕ} 0 1 = cc in omega arith)
packed-high n (w ∷ ws) (v ∷ vs) p =
    let h = and_parts (ltb v (2 ^ w)) (fit ws vs) p in
    let m = packed (n * 2 ^ w + v) ws vs in
    ap (λ (x : ℕ). m / 2 ^ x) (add_comm w (total ws))
    ∙ (sym (shr-shr m (total ws) w)
    ∙ (ap (λ (x : ℕ). x / 2 ^ w) (packed-high (n * 2 ^ w + v) ws vs h.1) ∙ high n w (ltb-true v (2 ^ w) h.0)))

-- the number of a record above its last fields and its spare bits
upper_of : (n s : ℕ) (ws vs : List ℕ) → fit ws vs ≡ true → packed n ws vs * 2 ^ s / 2 ^ (s + total ws) ≡ n
upper_of n s ws vs p =
    sym (shr-shr (packed n ws vs * 2 ^ s) s (total ws)) ∙ (ap (λ (x : ℕ). x / 2 ^ total ws) (shl-shr (packed n ws vs) s) ∙ packed-high n ws vs p)

-- a record's fields have the values that were packed
pub fields-packed :
    (bs : List ℕ) (o s : ℕ) (ws vs : List ℕ) (n : ℕ) → fit ws vs ≡ true → length vs ≡ length ws → 8 * length bs ≡ o + total ws + s →
    spelt bs ≡ packed n ws vs * 2 ^ s → fields bs o ws ≡ vs
fields-packed bs o s [] [] n p l long e = refl
fields-packed bs o s [] (v ∷ vs) n p l long e = absurd (omega (arith, l))
fields-packed bs o s (w ∷ ws) [] n p l long e = absurd (omega (arith, l))
fields-packed bs o s (w ∷ ws) (v ∷ vs) n p l long e =
    let h = and_parts (ltb v (2 ^ w)) (fit ws vs) p in
    let shift : 8 * length bs - (o + w) ≡ s + total ws = omega arith in
    let here : field bs o w ≡ v =
    ap (λ (x : ℕ). spelt bs / 2 ^ x % 2 ^ w) shift
    ∙ (ap (λ (x : ℕ). x / 2 ^ (s + total ws) % 2 ^ w) e
    ∙ (ap (λ (x : ℕ). x % 2 ^ w) (upper_of (n * 2 ^ w + v) s ws vs h.1) ∙ low n w (ltb-true v (2 ^ w) h.0))) in
    let rest : fields bs (o + w) ws ≡ vs = fields-packed bs (o + w) s ws vs (n * 2 ^ w + v) h.1 (omega (arith, l)) (omega arith) e in
    cc

-- the first byte's upper half is the number above all but 4 bits
pub first_half : (bs : List ℕ) → AreBytes bs → 0 < length bs → get_or bs 0 0 / 16 ≡ spelt bs / 2 ^ (8 * length bs - 4)
first_half [] p q = absurd (omega (arith, q))
first_half (b ∷ bs) p q =
    let shift : 8 * length (b ∷ bs) - 4 ≡ 8 * length bs + 4 = omega arith in
    sym
    (ap (λ (x : ℕ). spelt (b ∷ bs) / 2 ^ x) shift
    ∙ (sym (shr-shr (spelt (b ∷ bs)) (8 * length bs) 4) ∙ ap (λ (x : ℕ). x / 16) (high b (8 * length bs) (spelt_lt bs (λ i. p (suc i))))))

pub fields_fit : (bs : List ℕ) (o : ℕ) (ws : List ℕ) → fit ws (fields bs o ws) ≡ true
fields_fit bs o [] = refl
fields_fit bs o (w ∷ ws) =
    and_from (ltb (field bs o w) (2 ^ w)) (fit ws (fields bs (o + w) ws)) (lt-ltb (field bs o w) (2 ^ w) (mod_below _ (2 ^ w) (pow_pos w))) (fields_fit bs (o + w) ws)

-- fields that are packed behind the bits before them are the bits up to their end
pub packed-fields :
    (bs : List ℕ) (o : ℕ) (ws : List ℕ) → o + total ws ≤ 8 * length bs →
    packed (spelt bs / 2 ^ (8 * length bs - o)) ws (fields bs o ws) ≡ spelt bs / 2 ^ (8 * length bs - (o + total ws))
packed-fields bs o [] p = ap (λ (x : ℕ). spelt bs / 2 ^ (8 * length bs - x)) (sym (add-zero o))
packed-fields bs o (w ∷ ws) p =
    let r : ℕ = 8 * length bs - (o + w) in
    let above : 8 * length bs - o ≡ r + w = omega arith in
    let step : spelt bs / 2 ^ (8 * length bs - o) * 2 ^ w + field bs o w ≡ spelt bs / 2 ^ r =
    ap (λ (x : ℕ). x * 2 ^ w + field bs o w) (ap (λ (x : ℕ). spelt bs / 2 ^ x) above ∙ sym (shr-shr (spelt bs) r w)) ∙ split (spelt bs / 2 ^ r) w in
    let shift : 8 * length bs - (o + w + total ws) ≡ 8 * length bs - (o + (w + total ws)) = omega arith in
    ap (λ (x : ℕ). packed x ws (fields bs (o + w) ws)) step ∙ (packed-fields bs (o + w) ws (omega arith) ∙ ap (λ (x : ℕ). spelt bs / 2 ^ x) shift)

-- bytes with no spare bit set are the record with their code and their fields
pub record_back :
    (bs ws : List ℕ) → AreBytes bs → 0 < length bs → length bs ≡ bytes_for ws → field bs (bits_for ws) (spare_for ws) ≡ 0 →
    record_with (get_or bs 0 0 / 16) ws (fields bs 4 ws) ≡ bs
record_back bs ws p some long z =
    let s : ℕ = spare_for ws in
    let whole : 8 * length bs ≡ 4 + total ws + s = omega arith in
    let packs : packed (get_or bs 0 0 / 16) ws (fields bs 4 ws) ≡ spelt bs / 2 ^ (8 * length bs - (4 + total ws)) =
    ap (λ (x : ℕ). packed x ws (fields bs 4 ws)) (first_half bs p some) ∙ packed-fields bs 4 ws (omega arith) in
    let down : 8 * length bs - (4 + total ws) ≡ s = omega arith in
    let none : 8 * length bs - (bits_for ws + s) ≡ 0 = omega arith in
    let spare : spelt bs % 2 ^ s ≡ 0 = ap (λ (x : ℕ). x % 2 ^ s) (sym (div-one (spelt bs))) ∙ (ap (λ (x : ℕ). spelt bs / 2 ^ x % 2 ^ s) (sym none) ∙ z) in
    let number : packed (get_or bs 0 0 / 16) ws (fields bs 4 ws) * 2 ^ s ≡ spelt bs =
    ap (λ (x : ℕ). x * 2 ^ s) (packs ∙ ap (λ (x : ℕ). spelt bs / 2 ^ x) down) ∙ omega (arith, split (spelt bs) s, spare) in
    ap (bytes (bytes_for ws)) number ∙ (ap (λ (x : ℕ). bytes x (spelt bs)) (sym long) ∙ bytes-spelt bs p)

-- what is read from a record that was written
module _ (c : ℕ) (ws vs : List ℕ) (small : c < 16) (ok : fit ws vs ≡ true) where
  pub number_lt : packed c ws vs * 2 ^ spare_for ws < 2 ^ (8 * bytes_for ws)
  number_lt =
      let s : ℕ = spare_for ws + total ws in
      let n : ℕ = packed c ws vs * 2 ^ spare_for ws in
      let top : n / 2 ^ s ≡ c = upper_of c (spare_for ws) ws vs ok in
      let parts = split n s in
      let below : n / 2 ^ s * 2 ^ s + n % 2 ^ s < 2 ^ 4 * 2 ^ s = digits_lt (subst (λ (x : ℕ). x < 16) (sym top) small) (mod_below n (2 ^ s) (pow_pos s)) in
      let power : 2 ^ 4 * 2 ^ s ≡ 2 ^ (8 * bytes_for ws) = (let u : 4 + s ≡ 8 * bytes_for ws = omega arith in sym (pow-add 2 4 s) ∙ ap (λ (x : ℕ). 2 ^ x) u) in
      omega arith

  pub spelt_record : spelt (record_with c ws vs) ≡ packed c ws vs * 2 ^ spare_for ws
  spelt_record = spelt-bytes (bytes_for ws) (packed c ws vs * 2 ^ spare_for ws) number_lt

  pub length_record : length (record_with c ws vs) ≡ bytes_for ws
  length_record = length_bytes (bytes_for ws) (packed c ws vs * 2 ^ spare_for ws)

  pub record_bytes : AreBytes (record_with c ws vs)
  record_bytes = bytes_are_bytes (bytes_for ws) (packed c ws vs * 2 ^ spare_for ws)

  pub record_code : get_or (record_with c ws vs) 0 0 / 16 ≡ c
  record_code =
      let bs : List ℕ = record_with c ws vs in
      let some : 0 < length bs = omega (arith, length_record) in
      let shift : 8 * length bs - 4 ≡ spare_for ws + total ws = omega (arith, length_record) in
      first_half bs record_bytes some
      ∙ (ap (λ (x : ℕ). spelt bs / 2 ^ x) shift ∙ (ap (λ (x : ℕ). x / 2 ^ (spare_for ws + total ws)) spelt_record ∙ upper_of c (spare_for ws) ws vs ok))

  pub record_spare : field (record_with c ws vs) (bits_for ws) (spare_for ws) ≡ 0
  record_spare =
      let bs : List ℕ = record_with c ws vs in
      let s : ℕ = spare_for ws in
      let none : 8 * length bs - (bits_for ws + s) ≡ 0 = omega (arith, length_record) in
      ap (λ (x : ℕ). spelt bs / 2 ^ x % 2 ^ s) none
      ∙ (ap (λ (x : ℕ). x % 2 ^ s) (div-one (spelt bs) ∙ spelt_record)
      ∙ (ap (λ (x : ℕ). x % 2 ^ s) (sym (add-zero (packed c ws vs * 2 ^ s))) ∙ low (packed c ws vs) s (pow_pos s)))

  pub record_fields : length vs ≡ length ws → fields (record_with c ws vs) 4 ws ≡ vs
  record_fields l = fields-packed (record_with c ws vs) 4 (spare_for ws) ws vs c ok l (omega (arith, length_record)) spelt_record
