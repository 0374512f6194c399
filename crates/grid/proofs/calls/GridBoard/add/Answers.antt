-- No place outside the range, what the level answers inside it, and its cell stored.
use Rattle.std.proofs.Common.{◌≡◌, None, Some, Ok, Err, refl, sym, ap, ◌∙◌, arith}
use Rattle.std.proofs.lemmas.Result.{err_from_is_err_and}
use Rattle.board.specs.declared.faults.BoardFault.TheVariants.{NoPlace}
use Rattle.grid.specs.Ranks.{cell_at, seen}
use Rattle.grid.specs.Holding.{grid_book, cells_of}
use Rattle.grid.proofs.Levels.{raised}
use Rattle.grid.proofs.Answered.{grid_off, grid_spot, add_off, add_refused, add_level}
use Rattle.grid.proofs.calls.GridBoard.add.Goals as goal
use Rattle.grid.proofs.calls.GridBoard.add.Goals.{in-Some+in_ok-level-in-Some, in-None}

pub returns-in_err-rank : goal.returns-in_err-rank
returns-in_err-rank c =
    let e : c.rank.result ≡ None = grind arith in
    let f : c.in_err-rank.field-0.0 ≡ NoPlace = grind arith in
    let p = err_from_is_err_and c.from_residual.result c.from_residual.ensures.1 in
    let d = add_off c.args.time (grid_off c.args.side c.args.self.now c.args.price (rw e at c.rank.ensures)) in
    record { answer = cc (d.answer); after = d.after; lent = refl }

pub returns-in_err-level-in-Some : goal.returns-in_err-level-in-Some
returns-in_err-level-in-Some c =
    let e : c.rank.result ≡ Some c.in_ok-rank.rank = grind arith in
    let o = grid_spot c.args.side c.args.self.now c.args.price c.in_ok-rank.rank (omega arith) (rw e at c.rank.ensures) in
    let p = err_from_is_err_and c.from_residual-in_err-level-in-Some.result c.from_residual-in_err-level-in-Some.ensures.1 in
    let w : raised c.args.price c.args.time (seen c.args.price (cell_at (cells_of c.args.side c.args.self.now) c.in_ok-rank.rank)) ≡ Err c.in_err-level-in-Some.field-0.0 =
    ap (raised c.args.price c.args.time) (sym (c.level.ensures ∙ ap (seen c.args.price) c.get.ensures) ∙ c.in-Some.is) ∙ (sym c.one_more.ensures.answer ∙ c.in_err-level-in-Some.was) in
    let d = add_refused c.args.time o w in
    record { answer = cc (d.answer); after = d.after; lent = refl }

pub returns : goal.returns
returns c =
    let e : c.rank.result ≡ Some c.in_ok-rank.rank = grind arith in
    let o = grid_spot c.args.side c.args.self.now c.args.price c.in_ok-rank.rank (omega arith) (rw e at c.rank.ensures) in
    let w : raised c.args.price c.args.time (seen c.args.price (cell_at (cells_of c.args.side c.args.self.now) c.in_ok-rank.rank)) ≡ Ok c.match-level.level =
    ap (raised c.args.price c.args.time) (sym (c.level.ensures ∙ ap (seen c.args.price) c.get.ensures))
    ∙ elim c.match-level.branch [
      | in-Some+in_ok-level-in-Some b ↦ ap (raised c.args.price c.args.time) b.in-Some.is ∙ (sym b.one_more.ensures.answer ∙ (b.in_ok-level-in-Some.was ∙ ap Ok (sym b.level-is)))
      | in-None b ↦ ap (raised c.args.price c.args.time) b.in-None.is ∙ ap Ok (sym (b.level-is ∙ b.new-level.ensures.answer))
    ] in
    let d = add_level c.args.time c.match-level.level (grid_book c.put.new.self) o w (rw c.from.ensures at c.put.ensures) in
    record { answer = d.answer; after = d.after; lent = refl }
