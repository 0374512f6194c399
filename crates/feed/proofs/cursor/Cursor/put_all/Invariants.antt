use Rattle.std.proofs.Common.{◌≡◌, ℕ, ◌+◌, ◌*◌, true, drop}
use Rattle.layout.specs.Bits.{total, fit, packed}
use Rattle.feed.specs.Cursor.{Wrote, narrow, widths_in, values_in}
use Rattle.feed.proofs.cursor.Cursor.put_all.Given as goal

abbrev pub invariant-loop-width : goal.invariant-loop-width
invariant-loop-width l =
    (8 * l.cursor.at + l.cursor.held + total (widths_in (drop l.width-index l.fields)) ≡ 8 * l.initial.cursor.at + l.initial.cursor.held + total (widths_in l.fields))
    × (narrow (widths_in (drop l.width-index l.fields)) ≡ true)
    × (fit (widths_in (drop l.width-index l.fields)) (values_in (drop l.width-index l.fields)) ≡ true)
    × ((n : ℕ) →
    Wrote l.initial.out l.initial.cursor.at l.initial.cursor.held l.initial.cursor.rest n →
    (m : ℕ)
    × Wrote l.out l.cursor.at l.cursor.held l.cursor.rest m
    × (packed m (widths_in (drop l.width-index l.fields)) (values_in (drop l.width-index l.fields)) ≡ packed n (widths_in l.fields) (values_in l.fields)))
    × (drop l.cursor.at l.out ≡ drop l.cursor.at l.initial.out)
