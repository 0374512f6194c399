-- Nothing there outside the range or where no level stands, and else the cell of what the level leaves stored.
use Rattle.std.proofs.Common.{◌≡◌, ℕ, None, Some, refl, sym, ap, ap₂, ◌∙◌, arith}
use Rattle.std.proofs.lemmas.Result.{err_from_is_err_and}
use Rattle.board.specs.declared.faults.BoardFault.TheVariants.{NothingThere}
use Rattle.grid.specs.declared.cells.Cell.{Cell}
use Rattle.grid.specs.Ranks.{no_order, seen}
use Rattle.grid.specs.Holding.{grid_book}
use Rattle.grid.proofs.Levels.{lowered_is}
use Rattle.grid.proofs.Answered.{grid_off, grid_spot, take_off, take_refused, take_level}
use Rattle.grid.proofs.calls.GridBoard.take.Goals as goal

pub returns-in_err-rank : goal.returns-in_err-rank
returns-in_err-rank c =
    let e : c.rank.result ≡ None = grind arith in
    let f : c.in_err-rank.field-0.0 ≡ NothingThere = grind arith in
    let p = err_from_is_err_and c.from_residual.result c.from_residual.ensures.1 in
    let d = take_off (grid_off c.args.side c.args.self.now c.args.price (rw e at c.rank.ensures)) in
    record { answer = cc (d.answer); after = d.after; lent = refl }

pub returns-in_err-level : goal.returns-in_err-level
returns-in_err-level c =
    let e : c.rank.result ≡ Some c.in_ok-rank.rank = grind arith in
    let o = grid_spot c.args.side c.args.self.now c.args.price c.in_ok-rank.rank (omega arith) (rw e at c.rank.ensures) in
    let n : c.level.result ≡ None = grind arith in
    let f : c.in_err-level.field-0.0 ≡ NothingThere = grind arith in
    let p = err_from_is_err_and c.from_residual-in_err-level.result c.from_residual-in_err-level.ensures.1 in
    let d = take_refused o (sym (c.level.ensures ∙ ap (seen c.args.price) c.get-cell.ensures) ∙ n) in
    record { answer = cc (d.answer); after = d.after; lent = refl }

pub returns : goal.returns
returns c =
    let F : ℕ → ℕ → Cell = λ n t. record { orders = n; since = t } in
    let e : c.rank.result ≡ Some c.in_ok-rank.rank = grind arith in
    let o = grid_spot c.args.side c.args.self.now c.args.price c.in_ok-rank.rank (omega arith) (rw e at c.rank.ensures) in
    let l : c.level.result ≡ Some c.in_ok-level.level = grind arith in
    let z : c.default.result ≡ no_order = ap₂ F c.default.ensures.0 c.default.ensures.1 in
    let k = lowered_is c.in_ok-level.level c.map_or-left.result c.default.result z (rw c.one_less.ensures.answer at c.map_or-left.ensures) in
    let d = take_level c.in_ok-level.level c.map_or-left.result (grid_book c.put.new.self) o (sym (c.level.ensures ∙ ap (seen c.args.price) c.get-cell.ensures) ∙ l) k c.put.ensures in
    record { answer = d.answer; after = d.after; lent = refl }
