use Rattle.std.proofs.Common.{◌+◌, Bool, ◌&&◌, get_or, drop, sym, ap, ◌∙◌}
use Rattle.layout.specs.Bits.{fit}
use Rattle.feed.specs.Cursor.{widths_in, values_in}
use Rattle.feed.proofs.Fields.{narrow_more, fit_more, slim}
use Rattle.feed.proofs.cursor.all_fit.Goals as goal

pub loop-width-preserved : goal.loop-width-preserved
loop-width-preserved c =
    let fs = c.args.fields.now in
    let i = c.loop-width.width-index in
    let f = slim (get_or fs i (0, 0)).1 (get_or fs i (0, 0)).0 c.if-value-width-ne0.false in (
      (narrow_more fs i c.loop-width-test.true c.loop-width.invariant.0).1,
      sym (fit_more fs i c.loop-width-test.true ∙ ap (λ (b : Bool). b && fit (widths_in (drop (i + 1) fs)) (values_in (drop (i + 1) fs))) f) ∙ c.loop-width.invariant.1,
    )
