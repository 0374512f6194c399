-- The records that stand are the first of those handed over.
use Rattle.std.proofs.Common.{◌≡◌, ℕ, ◌≤◌, List, [], ◌∷◌, map, length, take, ap, ◌∙◌, ap₂}
use Rattle.std.proofs.lemmas.List.{length-map, length-take-le, take-map}
use Rattle.board.specs.declared.levels.Level.{Level}
use Rattle.shelf.specs.Standing.{held}
use Rattle.ladder.specs.Records.{level_of}
use Rattle.ladder.specs.Standing.{side_room}
use Rattle.ladder.proofs.Soundness.{counts_told}
use Rattle.ladder.proofs.Ladder.into_records.Goals as goal

first-levels : {R : Type 0} (level : R → Level) (xs ys : List R) (n : ℕ) → n ≤ length xs → ys ≡ xs → take (length (map level (take n xs))) (map level ys) ≡ map level (take n xs)
first-levels level xs ys n h e =
    ap (λ k. take k (map level ys)) (length-map (take n xs) level ∙ length-take-le n xs h) ∙ (take-map level n ys ∙ ap (λ z. map level (take n z)) e)

pub returns : goal.returns
returns c =
    let l = c.args.self in
    let b = ap (λ r. r.now) c.into_records.ensures in
    let s = ap (λ r. r.now) c.into_records-2.ensures in
    let n = counts_told (side_room l.buys) (side_room l.sells) l.counts in
    let u = ap (λ x. x.ghost_name) c.into_records.ensures in
    let v = ap (λ x. x.ghost_name) c.into_records-2.ensures in
    record {
      buys = first-levels level_of (held l.buys.shelf) _ l.buys.shelf.len l.buys.shelf.fits b;
      sells = first-levels level_of (held l.sells.shelf) _ l.sells.shelf.len l.sells.shelf.fits s;
      most = (ap length b, ap length s ∙ n.1);
      lent = ap₂ (λ x y. x ∷ y ∷ []) u v;
    }
