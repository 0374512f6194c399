-- The laws of a list of widths and of a list of values, one step on.
use Rattle.std.proofs.Common.{◌≡◌, ℕ, ◌+◌, ◌*◌, ◌^◌, ◌<◌, ◌≤◌, true, ◌&&◌, ltb, leb, List, ◌∷◌, length, get_or, drop, sym, ap, ◌∙◌, ltb-true, leb-true}
use Rattle.std.proofs.lemmas.Bool.{and_parts}
use Rattle.std.proofs.lemmas.List.{drop_more}
use Rattle.layout.specs.Bits.{total, fit, packed}
use Rattle.feed.specs.Cursor.{narrow}

module _ (ws : List ℕ) (i : ℕ) (lt : i < length ws) where
  pub total_more : total (drop i ws) ≡ get_or ws i 0 + total (drop (i + 1) ws)
  total_more = ap total (drop_more ws i 0 lt)

  pub narrow_more : narrow (drop i ws) ≡ true → (get_or ws i 0 ≤ 32) × (narrow (drop (i + 1) ws) ≡ true)
  narrow_more h =
      let p = and_parts (leb (get_or ws i 0) 32) (narrow (drop (i + 1) ws)) (sym (ap narrow (drop_more ws i 0 lt)) ∙ h) in
      (leb-true (get_or ws i 0) 32 p.0, p.1)

  module _ (vs : List ℕ) (lt' : i < length vs) where
    pub fit_more : fit (drop i ws) (drop i vs) ≡ (ltb (get_or vs i 0) (2 ^ get_or ws i 0) && fit (drop (i + 1) ws) (drop (i + 1) vs))
    fit_more = ap (λ (x : List ℕ). fit x (drop i vs)) (drop_more ws i 0 lt) ∙ ap (fit (get_or ws i 0 ∷ drop (i + 1) ws)) (drop_more vs i 0 lt')

    pub fit_parts : fit (drop i ws) (drop i vs) ≡ true → (get_or vs i 0 < 2 ^ get_or ws i 0) × (fit (drop (i + 1) ws) (drop (i + 1) vs) ≡ true)
    fit_parts h =
        let p = and_parts (ltb (get_or vs i 0) (2 ^ get_or ws i 0)) (fit (drop (i + 1) ws) (drop (i + 1) vs)) (sym fit_more ∙ h) in
        (ltb-true (get_or vs i 0) (2 ^ get_or ws i 0) p.0, p.1)

    pub packed_more : (m : ℕ) → packed m (drop i ws) (drop i vs) ≡ packed (m * 2 ^ get_or ws i 0 + get_or vs i 0) (drop (i + 1) ws) (drop (i + 1) vs)
    packed_more m =
        ap (λ (x : List ℕ). packed m x (drop i vs)) (drop_more ws i 0 lt) ∙ ap (packed m (get_or ws i 0 ∷ drop (i + 1) ws)) (drop_more vs i 0 lt')
