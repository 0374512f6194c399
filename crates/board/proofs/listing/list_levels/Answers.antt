-- A turn writes the level at hand and goes on to the next one.
use Rattle.std.proofs.Common.{set, sym, ap, ◌∙◌, add-one, arith}
use Rattle.std.specs.List.{slice_get}
use Rattle.board.specs.Book.{levels_of}
use Rattle.board.specs.Listing.{listed}
use Rattle.board.proofs.Ordered.{next_nth, nth_inside, nth_outside, listed_more}
use Rattle.board.proofs.listing.list_levels.Goals as goal

pub returns-in_default : goal.returns-in_default
returns-in_default g c =
    let ls = levels_of (g.B.Board.book c.args.board.now) c.args.side in
    let o = nth_outside ls c.loop-i.i (sym c.in_default.is ∙ c.loop-i.invariant.1) in
    let i = c.loop-i.invariant.0 in
    record { answer = omega arith; after = c.loop-i.invariant.2 }

pub loop-i-preserved : goal.loop-i-preserved
loop-i-preserved g c =
    let ls = levels_of (g.B.Board.book c.args.board.now) c.args.side in
    let i = c.loop-i.i in
    let e = sym c.in-Some.is ∙ c.loop-i.invariant.1 in
    let h = nth_inside ls i c.in-Some.standing e in
    let n = next_nth c.args.side ls i c.in-Some.standing (c.vouch.ensures.sorted c.args.side) e in
    let l = listed_more ls c.args.out.now i c.in-Some.standing e (omega arith) in
    let s = sym (add-one i) in (
      omega arith,
      c.next-level.ensures.answer ∙ (n ∙ ap (slice_get ls) s),
      ap (λ z. set z i c.in-Some.standing) c.loop-i.invariant.2 ∙ (l ∙ ap (λ k. listed k ls c.args.out.now) s),
    )
