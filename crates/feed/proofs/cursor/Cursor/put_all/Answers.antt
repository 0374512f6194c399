use Rattle.std.proofs.Common.{◌+◌, ◌*◌, ◌^◌, get_or, sym, ◌∙◌, arith}
use Rattle.feed.proofs.Fields.{total_more, narrow_more, fit_parts, packed_more, drop_further}
use Rattle.feed.proofs.cursor.Cursor.put_all.Goals as goal

pub loop-width-preserved : goal.loop-width-preserved
loop-width-preserved c =
    let fs = c.args.fields.now in
    let i = c.loop-width.width-index in
    let lt = c.loop-width-test.true in
    let t = total_more fs i lt in (
      omega arith,
      (narrow_more fs i lt c.loop-width.invariant.1).1,
      (fit_parts fs i lt c.loop-width.invariant.2).1,
      (λ n p.
          let q = c.loop-width.invariant.3 n p in (
            q.0 * 2 ^ (get_or fs i (0, 0)).0 + (get_or fs i (0, 0)).1,
            c.put-cursor.ensures.wrote q.0 q.1,
            sym (packed_more fs i lt q.0) ∙ q.2,
          )),
      c.put-cursor.ensures.kept
          ∙ drop_further c.loop-width.out c.args.out.now c.loop-width.cursor.at c.put-cursor.result.at (omega arith) c.loop-width.invariant.4,
    )
