-- The laws of a list of fields, one step on.
use Rattle.std.proofs.Common.{◌≡◌, ℕ, ◌+◌, ◌-◌, ◌*◌, ◌/◌, ◌%◌, ◌^◌, ◌<◌, ◌≤◌, true, false, ◌&&◌, ltb, leb, List, length, get_or, drop, sym, ap, ◌∙◌, subst, inl, inr, mod-lt, arith, pow_pos, ltb-true, le-ltb, lt-ltb, leb-true}
use lib.Pow.{split}
use native.Mathlib.Nat.{div-eq_of_lt}
use Rattle.std.proofs.lemmas.Bool.{cases_lt, and_parts}
use Rattle.std.proofs.lemmas.List.{drop_more, drop-drop}
use Rattle.layout.specs.Bits.{total, fit, packed}
use Rattle.feed.specs.Cursor.{narrow, widths_in, values_in}

module _ (fs : List (ℕ × ℕ)) (i : ℕ) (lt : i < length fs) where
  pub total_more : total (widths_in (drop i fs)) ≡ (get_or fs i (0, 0)).0 + total (widths_in (drop (i + 1) fs))
  total_more = ap (λ (x : List (ℕ × ℕ)). total (widths_in x)) (drop_more fs i (0, 0) lt)

  pub narrow_more : narrow (widths_in (drop i fs)) ≡ true → ((get_or fs i (0, 0)).0 ≤ 32) × (narrow (widths_in (drop (i + 1) fs)) ≡ true)
  narrow_more h =
      let p = and_parts (leb (get_or fs i (0, 0)).0 32) (narrow (widths_in (drop (i + 1) fs))) (sym (ap (λ (x : List (ℕ × ℕ)). narrow (widths_in x)) (drop_more fs i (0, 0) lt)) ∙ h) in
      (leb-true (get_or fs i (0, 0)).0 32 p.0, p.1)

  pub fit_more :
      fit (widths_in (drop i fs)) (values_in (drop i fs))
      ≡ (ltb (get_or fs i (0, 0)).1 (2 ^ (get_or fs i (0, 0)).0) && fit (widths_in (drop (i + 1) fs)) (values_in (drop (i + 1) fs)))
  fit_more = ap (λ (x : List (ℕ × ℕ)). fit (widths_in x) (values_in x)) (drop_more fs i (0, 0) lt)

  pub fit_parts :
      fit (widths_in (drop i fs)) (values_in (drop i fs)) ≡ true →
      ((get_or fs i (0, 0)).1 < 2 ^ (get_or fs i (0, 0)).0) × (fit (widths_in (drop (i + 1) fs)) (values_in (drop (i + 1) fs)) ≡ true)
  fit_parts h =
      let p = and_parts (ltb (get_or fs i (0, 0)).1 (2 ^ (get_or fs i (0, 0)).0)) (fit (widths_in (drop (i + 1) fs)) (values_in (drop (i + 1) fs))) (sym fit_more ∙ h) in
      (ltb-true (get_or fs i (0, 0)).1 (2 ^ (get_or fs i (0, 0)).0) p.0, p.1)

  pub packed_more :
      (m : ℕ) → packed m (widths_in (drop i fs)) (values_in (drop i fs))
      ≡ packed (m * 2 ^ (get_or fs i (0, 0)).0 + (get_or fs i (0, 0)).1) (widths_in (drop (i + 1) fs)) (values_in (drop (i + 1) fs))
  packed_more m = ap (λ (x : List (ℕ × ℕ)). packed m (widths_in x) (values_in x)) (drop_more fs i (0, 0) lt)

pub drop_further : (xs ys : List ℕ) (i j : ℕ) → i ≤ j → drop i xs ≡ drop i ys → drop j xs ≡ drop j ys
drop_further xs ys i j p e =
    let s : i + (j - i) ≡ j = omega arith in
    subst (λ (x : ℕ). drop x xs ≡ drop x ys) s (sym (drop-drop (j - i) i xs) ∙ (ap (drop (j - i)) e ∙ drop-drop (j - i) i ys))

-- `value >> width == 0`
pub wide : (v w : ℕ) → (v / 2 ^ w ≡ 0 → ⊥) → ltb v (2 ^ w) ≡ false
wide v w h = elim (cases_lt v (2 ^ w)) [ inl p ↦ absurd (h (div-eq_of_lt p)) | inr p ↦ le-ltb v (2 ^ w) p ]

pub slim : (v w : ℕ) → v / 2 ^ w ≡ 0 → ltb v (2 ^ w) ≡ true
slim v w h =
    let e : 0 * 2 ^ w + v % 2 ^ w ≡ v = subst (λ (x : ℕ). x * 2 ^ w + v % 2 ^ w ≡ v) h (split v w) in
    lt-ltb v (2 ^ w) (omega (arith, e, mod-lt v (pow_pos w)))
