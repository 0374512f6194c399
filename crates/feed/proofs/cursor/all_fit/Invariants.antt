use Rattle.std.proofs.Common.{◌≡◌, true, drop}
use Rattle.layout.specs.Bits.{fit}
use Rattle.feed.specs.Cursor.{narrow, widths_in, values_in}
use Rattle.feed.proofs.cursor.all_fit.Given as goal

abbrev pub invariant-loop-width : goal.invariant-loop-width
invariant-loop-width l =
    (narrow (widths_in (drop l.width-index l.fields)) ≡ true)
    × (fit (widths_in (drop l.width-index l.fields)) (values_in (drop l.width-index l.fields)) ≡ fit (widths_in l.fields) (values_in l.fields))
