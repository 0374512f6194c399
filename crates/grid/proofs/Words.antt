-- A word of marks: its leading zeros find the first cell that stands, and a cell that comes to stand or falls flips one bit.
use Rattle.std.proofs.Common.{◌≡◌, ℕ, zero, suc, ◌+◌, ◌-◌, ◌*◌, ◌/◌, ◌%◌, ◌^◌, ◌<◌, ◌≤◌, true, false, cond, not, eqb, ltb, ◌≢◌, List, [], ◌∷◌, length, get_or, take, drop, set, replicate, None, Some, Option, sym, refl, ap, ◌∙◌, subst, ap₂, inl, inr, mod-eq_of_lt, mul_assoc, add-mul, pow-suc, arith, pow_pos}
use Rattle.std.specs.List.{position, position_or_len}
use mathlib.Core.Bool.{beq}
use native.Mathlib.Nat.{zero-mod, mul-add-mod_self_right}
use lib.Bits.{bit_and, bit_xor, xor_block, xor_zero_r}
use lib.Pow.{pow-lt}
use Rattle.std.proofs.lemmas.Nat.{pow-add, and_mask, shr_high}
use lib.Count.{count_leading_zeros, leading_unique, leading_length}
use Rattle.std.proofs.lemmas.Bool.Decides.{nat_tests}
use Rattle.std.proofs.lemmas.Bool.{cases_lt, cases_order, cases_Bool}
use Rattle.std.proofs.lemmas.List.{take_all, drop-set-lt, drop-set-add, get_or-drop, get_or-set_same, get_or-set_other, length-drop, drop-drop}
use Rattle.grid.specs.declared.cells.Cell.{Cell}
use Rattle.grid.specs.Ranks.{no_order, cell_at, first_of, bit, word, Marks}

pub word_below : (n : ℕ) (cs : List Cell) → word n cs < 2 ^ n
word_below zero cs = omega arith
word_below (suc n) [] = pow_pos (suc n)
word_below (suc n) (c ∷ cs) =
    let ih = word_below n cs in
    let p = pow-suc 2 n in
    grind (arith, nat_tests)

-- the leading zeros of a word whose top bit is set, and of one whose top bit is not
top_set : (n a : ℕ) → a < 2 ^ n → count_leading_zeros (suc n) (2 ^ n + a) ≡ 0
top_set n a h =
    let p = pow-suc 2 n in
    sym (leading_unique (suc n) (2 ^ n + a) 0 (suc n) (omega arith) (omega arith) (omega arith))

top_clear : (n a : ℕ) → a < 2 ^ n → count_leading_zeros (suc n) a ≡ suc (count_leading_zeros n a)
top_clear n a h =
    let l = leading_length n a h in
    sym (leading_unique (suc n) a (suc (count_leading_zeros n a)) l.0 (omega arith) l.2 l.3)

pub first_word : (n k : ℕ) (cs : List Cell) → first_of k cs ≡ cond (eqb (word n cs) 0) (first_of (k + n) (drop n cs)) (Some (k + count_leading_zeros n (word n cs)))
first_word zero k cs = ap (λ (j : ℕ). first_of j cs) (omega arith)
first_word (suc n) k [] = refl
first_word (suc n) k (c ∷ cs) =
    let ih = first_word n (k + 1) cs in
    let b = word_below n cs in
    let s = top_set n (word n cs) b in
    let t = top_clear n (word n cs) b in
    let p = pow_pos n in
    grind (arith, nat_tests)

word_nothing : (m : ℕ) → word m [] ≡ 0
word_nothing zero = refl
word_nothing (suc m) = refl

-- the lower bits of a word are the word of the later cells
pub word-rest : (n j m : ℕ) (cs : List Cell) → j + m ≡ n → word n cs % 2 ^ m ≡ word m (drop j cs)
word-rest n zero m cs e =
    let o : n ≡ m = omega arith in
    ap (λ (k : ℕ). word k cs % 2 ^ m) o ∙ mod-eq_of_lt (word_below m cs)
word-rest zero (suc j) m cs e = absurd (omega arith)
word-rest (suc n) (suc j) m [] e = zero-mod (2 ^ m) ∙ sym (word_nothing m)
word-rest (suc n) (suc j) m (c ∷ cs) e =
    let o : n ≡ j + m = omega arith in
    let p : bit c * 2 ^ n ≡ bit c * 2 ^ j * 2 ^ m = ap (λ (k : ℕ). bit c * 2 ^ k) o ∙ (ap (λ (q : ℕ). bit c * q) (pow-add 2 j m) ∙ sym (mul_assoc (bit c) (2 ^ j) (2 ^ m))) in
    ap (λ (q : ℕ). (q + word n cs) % 2 ^ m) p ∙ (mul-add-mod_self_right (bit c * 2 ^ j) (2 ^ m) (word n cs) ∙ word-rest n j m cs (sym o))

-- a number of fewer bits has so many more leading zeros
pub leading_rest : (n j m a : ℕ) → j + m ≡ n → a < 2 ^ m → count_leading_zeros n a ≡ j + count_leading_zeros m a
leading_rest n j m a e h =
    let l = leading_length m a h in
    sym (leading_unique n a (j + count_leading_zeros m a) l.0 (omega arith) l.2 l.3)

-- all 64 bits shifted down by j are the lowest m bits
low_bits : (j m : ℕ) → j + m ≡ 64 → 18446744073709551615 / 2 ^ j ≡ 2 ^ m - 1
low_bits j m e =
    let p : ℕ = 2 ^ m - 1 in
    let a : 2 ^ (m + j) ≡ 2 ^ m * 2 ^ j = pow-add 2 m j in
    let o : m + j ≡ 64 = omega arith in
    let b : 2 ^ (m + j) ≡ 18446744073709551616 = ap (λ (k : ℕ). 2 ^ k) o in
    let u = pow_pos m in
    let v = pow_pos j in
    let h : 2 ^ m ≡ p + 1 = omega arith in
    let d : 2 ^ m * 2 ^ j ≡ p * 2 ^ j + 1 * 2 ^ j = ap (λ (x : ℕ). x * 2 ^ j) h ∙ add-mul p 1 (2 ^ j) in
    let f : 18446744073709551615 ≡ p * 2 ^ j + (2 ^ j - 1) = omega arith in
    ap (λ (x : ℕ). x / 2 ^ j) f ∙ shr_high p j (2 ^ j - 1) (omega arith)

-- what a word marks from rank i on
pub rest_marks : (ms : List ℕ) (cs : List Cell) (i : ℕ) → Marks ms cs → i < 256 → bit_and (get_or ms (i / 64) 0) (18446744073709551615 / 2 ^ (i % 64)) ≡ word (64 - i % 64) (drop i cs)
rest_marks ms cs i k n =
    let m : ℕ = 64 - i % 64 in
    let o : i % 64 + m ≡ 64 = omega arith in
    let q : 64 * (i / 64) + i % 64 ≡ i = omega arith in
    let x : ℕ = get_or ms (i / 64) 0 in
    ap (bit_and x) (low_bits (i % 64) m o)
    ∙ (and_mask x m ∙ (ap (λ (y : ℕ). y % 2 ^ m) (k (i / 64) (omega arith)) ∙ (word-rest 64 (i % 64) m (drop (64 * (i / 64)) cs) o
    ∙ (ap (word m) (drop-drop (i % 64) (64 * (i / 64)) cs) ∙ ap (λ (y : ℕ). word m (drop y cs)) q))))

-- the first rank from i on stands in the rest of its word, or past that word
pub first_rest : (cs : List Cell) (i r : ℕ) → r ≡ word (64 - i % 64) (drop i cs) → first_of i (drop i cs) ≡ cond (eqb r 0) (first_of (64 * (i / 64 + 1)) (drop (64 * (i / 64 + 1)) cs)) (Some (64 * (i / 64) + count_leading_zeros 64 r))
first_rest cs i r e =
    let m : ℕ = 64 - i % 64 in
    let o : i % 64 + m ≡ 64 = omega arith in
    let q : i + m ≡ 64 * (i / 64 + 1) = omega arith in
    let f = first_word m i (drop i cs) in
    let b : r < 2 ^ m = subst (λ (y : ℕ). y < 2 ^ m) (sym e) (word_below m (drop i cs)) in
    let l = leading_rest 64 (i % 64) m r o b in
    let d : drop m (drop i cs) ≡ drop (64 * (i / 64 + 1)) cs = drop-drop m i cs ∙ ap (λ (y : ℕ). drop y cs) q in
    let z : i + count_leading_zeros m r ≡ 64 * (i / 64) + count_leading_zeros 64 r = omega arith in
    let F : ℕ → ℕ → List Cell → Option ℕ = λ y k t. cond (eqb y 0) (first_of k t) (Some (i + count_leading_zeros m y)) in
    f ∙ (ap (λ (y : ℕ). F y (i + m) (drop m (drop i cs))) (sym e) ∙ (ap (λ (k : ℕ). F r k (drop m (drop i cs))) q ∙ (ap (F r (64 * (i / 64 + 1))) d
    ∙ ap (λ (y : ℕ). cond (eqb r 0) (first_of (64 * (i / 64 + 1)) (drop (64 * (i / 64 + 1)) cs)) (Some y)) z)))

-- a cell past the word's leaves it
pub word-past : (n j : ℕ) (c : Cell) (cs : List Cell) → n ≤ j → word n (set cs j c) ≡ word n cs
word-past zero j c cs m = refl
word-past (suc n) j c [] m = refl
word-past (suc n) zero c (x ∷ cs) m = absurd (omega arith)
word-past (suc n) (suc j) c (x ∷ cs) m = ap (λ (w : ℕ). bit x * 2 ^ n + w) (word-past n j c cs (omega arith))

-- a cell as full as before leaves it
pub word_same : (n j : ℕ) (c : Cell) (cs : List Cell) → bit c ≡ bit (cell_at cs j) → word n (set cs j c) ≡ word n cs
word_same zero j c cs m = refl
word_same (suc n) j c [] m = refl
word_same (suc n) zero c (x ∷ cs) m = ap (λ (w : ℕ). w * 2 ^ n + word n cs) m
word_same (suc n) (suc j) c (x ∷ cs) m = ap (λ (w : ℕ). bit x * 2 ^ n + w) (word_same n j c cs m)

-- any other flips its bit
flipped : (b d : ℕ) → b + d ≡ 1 → bit_xor b 1 ≡ d
flipped zero d e = omega arith
flipped (suc zero) d e = omega arith
flipped (suc (suc b)) d e = absurd (omega arith)

pub word_flip : (n j : ℕ) (c : Cell) (cs : List Cell) → j < n → j < length cs → bit (cell_at cs j) + bit c ≡ 1 → word n (set cs j c) ≡ bit_xor (word n cs) (2 ^ (n - 1 - j))
word_flip zero j c cs m l e = absurd (omega arith)
word_flip (suc n) j c [] m l e = absurd (omega arith)
word_flip (suc n) zero c (x ∷ cs) m l e =
    let h : suc n - 1 - 0 ≡ n = omega arith in
    let b = xor_block n (bit x) 1 (word n cs) 0 (word_below n cs) (pow_pos n) in
    let o : 2 ^ (suc n - 1 - 0) ≡ 1 * 2 ^ n + 0 = ap (λ (k : ℕ). 2 ^ k) h ∙ omega arith in
    sym (ap (bit_xor (bit x * 2 ^ n + word n cs)) o ∙ (b ∙ ap₂ (λ (u v : ℕ). u * 2 ^ n + v) (flipped (bit x) (bit c) e) (xor_zero_r (word n cs))))
word_flip (suc n) (suc j) c (x ∷ cs) m l e =
    let ih = word_flip n j c cs (omega arith) (omega arith) e in
    let h : suc n - 1 - suc j ≡ n - 1 - j = omega arith in
    let p : 2 ^ (n - 1 - j) < 2 ^ n = pow-lt (omega arith) in
    let b = xor_block n (bit x) 0 (word n cs) (2 ^ (n - 1 - j)) (word_below n cs) p in
    let o : 2 ^ (suc n - 1 - suc j) ≡ 0 * 2 ^ n + 2 ^ (n - 1 - j) = ap (λ (k : ℕ). 2 ^ k) h ∙ omega arith in
    sym (ap (bit_xor (bit x * 2 ^ n + word n cs)) o ∙ (b ∙ ap₂ (λ (u v : ℕ). u * 2 ^ n + v) (xor_zero_r (bit x)) (sym ih)))

-- the four words of a side
pub marks_none : Marks (0 ∷ 0 ∷ 0 ∷ 0 ∷ []) (replicate 256 no_order)
marks_none zero l = refl
marks_none (suc zero) l = refl
marks_none (suc (suc zero)) l = refl
marks_none (suc (suc (suc zero))) l = refl
marks_none (suc (suc (suc (suc w)))) l = absurd (omega arith)

pub marks_same : (ms : List ℕ) (cs : List Cell) (i : ℕ) (c : Cell) → Marks ms cs → bit c ≡ bit (cell_at cs i) → Marks ms (set cs i c)
marks_same ms cs i c k e w l = k w l ∙ sym (
    elim (cases_lt i (64 * w)) [
      | inl b ↦ ap (word 64) (drop-set-lt (64 * w) cs i c b)
      | inr b ↦
          let o : 64 * w + (i - 64 * w) ≡ i = omega arith in
          let d = drop-set-add (64 * w) cs (i - 64 * w) c in
          let g = get_or-drop (64 * w) cs (i - 64 * w) no_order in
          let h : bit c ≡ bit (cell_at (drop (64 * w) cs) (i - 64 * w)) = e ∙ ap bit (sym (g ∙ ap (cell_at cs) o)) in
          ap (λ (j : ℕ). word 64 (drop (64 * w) (set cs j c))) (sym o) ∙ (ap (word 64) d ∙ word_same 64 (i - 64 * w) c (drop (64 * w) cs) h)
    ])

pub marks_flip : (ms : List ℕ) (cs : List Cell) (i v : ℕ) (c : Cell) → Marks ms cs → length ms ≡ 4 → length cs ≡ 256 → i < 256 → bit (cell_at cs i) + bit c ≡ 1 → v ≡ bit_xor (get_or ms (i / 64) 0) (2 ^ (63 - i % 64)) → Marks (set ms (i / 64) v) (set cs i c)
marks_flip ms cs i v c k m n p e x w l =
    elim (cases_order w (i / 64)) [
      | inl b ↦
          let o : 64 * w + i % 64 ≡ i = omega arith in
          let d = drop-set-add (64 * w) cs (i % 64) c in
          let g = get_or-drop (64 * w) cs (i % 64) no_order in
          let h : bit (cell_at (drop (64 * w) cs) (i % 64)) + bit c ≡ 1 = ap (λ (y : Cell). bit y + bit c) (g ∙ ap (cell_at cs) o) ∙ e in
          let f = word_flip 64 (i % 64) c (drop (64 * w) cs) (omega arith) (omega (arith, length-drop (64 * w) cs)) h in
          let a : word 64 (drop (64 * w) (set cs i c)) ≡ bit_xor (word 64 (drop (64 * w) cs)) (2 ^ (63 - i % 64)) = ap (λ (j : ℕ). word 64 (drop (64 * w) (set cs j c))) (sym o) ∙ (ap (word 64) d ∙ f) in
          let s = get_or-set_same ms w v 0 (omega arith) in
          let t = k w l in
          let y : set ms (i / 64) v ≡ set ms w v = ap (λ (j : ℕ). set ms j v) (sym b) in
          let z : get_or ms (i / 64) 0 ≡ get_or ms w 0 = ap (λ (j : ℕ). get_or ms j 0) (sym b) in
          cc
      | inr (inl b) ↦
          let ne : w ≢ i / 64 = omega arith in
          let o : 64 * w + (i - 64 * w) ≡ i = omega arith in
          let d = drop-set-add (64 * w) cs (i - 64 * w) c in
          get_or-set_other ms (i / 64) w v 0 ne ∙ (k w l ∙ sym (ap (λ (j : ℕ). word 64 (drop (64 * w) (set cs j c))) (sym o) ∙ (ap (word 64) d ∙ word-past 64 (i - 64 * w) c (drop (64 * w) cs) (omega arith))))
      | inr (inr b) ↦
          let ne : w ≢ i / 64 = omega arith in
          get_or-set_other ms (i / 64) w v 0 ne ∙ (k w l ∙ sym (ap (word 64) (drop-set-lt (64 * w) cs i c (omega arith))))
    ]

-- the first rank stands in the first word with a mark, at its leading zeros
abbrev first_mark : List ℕ → ℕ
first_mark ms = position_or_len (λ m. not (eqb m 0)) ms

first_in_words : (ms : List ℕ) (k : ℕ) (cs : List Cell) → ((w : ℕ) → w < length ms → get_or ms w 0 ≡ word 64 (drop (64 * w) cs)) → length cs ≤ 64 * length ms → first_of k cs ≡ cond (ltb (first_mark ms) (length ms)) (Some (k + 64 * first_mark ms + count_leading_zeros 64 (get_or ms (first_mark ms) 0))) None
first_in_words [] k [] h n = refl
first_in_words [] k (c ∷ cs) h n = absurd (omega arith)
first_in_words (m ∷ ms) k cs h n =
    let f = first_word 64 k cs in
    let z : m ≡ word 64 cs = h 0 (omega arith) in
    let g : (w : ℕ) → w < length ms → get_or ms w 0 ≡ word 64 (drop (64 * w) (drop 64 cs)) = λ w l. h (suc w) (omega arith) ∙ sym (ap (word 64) (drop-drop (64 * w) 64 cs ∙ ap (λ (y : ℕ). drop y cs) (omega arith))) in
    let ih = first_in_words ms (k + 64) (drop 64 cs) g (omega (arith, length-drop 64 cs)) in
    grind (arith, nat_tests)

-- the rank that a word past the first ones has, where the j-th of the others is the first with a mark
abbrev pub rank_past : List ℕ → ℕ → Option ℕ → Option ℕ
rank_past ms from None = None
rank_past ms from (Some j) = Some (64 * (from + j) + count_leading_zeros 64 (get_or ms (from + j) 0))

pub first_past : (ms : List ℕ) (cs : List Cell) (from : ℕ) → Marks ms cs → length ms ≡ 4 → length cs ≡ 256 → from ≤ 4 → first_of (64 * from) (drop (64 * from) cs) ≡ rank_past ms from (position (λ m. not (eqb m 0)) (take (4 - from) (drop from ms)))
first_past ms cs from h m n l =
    let d = length-drop from ms in
    let g : (w : ℕ) → w < length (drop from ms) → get_or (drop from ms) w 0 ≡ word 64 (drop (64 * w) (drop (64 * from) cs)) = λ w b. get_or-drop from ms w 0 ∙ (h (from + w) (omega arith) ∙ sym (ap (word 64) (drop-drop (64 * w) (64 * from) cs ∙ ap (λ (y : ℕ). drop y cs) (omega arith)))) in
    let f = first_in_words (drop from ms) (64 * from) (drop (64 * from) cs) g (omega (arith, length-drop (64 * from) cs)) in
    let e = get_or-drop from ms (first_mark (drop from ms)) 0 in
    let t = ap (position (λ m. not (eqb m 0))) (take_all (4 - from) (drop from ms) (omega arith)) in
    let q : first_of (64 * from) (drop (64 * from) cs) ≡ rank_past ms from (position (λ m. not (eqb m 0)) (drop from ms)) = grind (arith, nat_tests) in
    q ∙ sym (ap (rank_past ms from) t)

pub first_below : (k i : ℕ) (cs : List Cell) → first_of k cs ≡ Some i → i < k + length cs
first_below k i [] e = absurd (let z : ◌≡◌ {A = ℕ} 0 1 = cc in omega arith)
first_below k i (c ∷ cs) e =
    elim (cases_Bool (eqb c.orders 0)) [
      | inl t ↦
          let e' : first_of (k + 1) cs ≡ Some i = grind (arith, nat_tests) in
          let ih = first_below (k + 1) i cs e' in
          omega arith
      | inr f ↦
          let e' : k ≡ i = grind (arith, nat_tests) in
          omega arith
    ]

-- a test of both cells, as bits
pub stood_same : (c d : Cell) → not (beq (ltb 0 c.orders) (ltb 0 d.orders)) ≡ false → bit d ≡ bit c
stood_same c d e = grind (arith, nat_tests)

pub stood_other : (c d : Cell) → not (beq (ltb 0 c.orders) (ltb 0 d.orders)) ≡ true → bit c + bit d ≡ 1
stood_other c d e = grind (arith, nat_tests)
