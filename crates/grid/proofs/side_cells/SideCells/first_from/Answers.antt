-- The rest of the word of the first rank, and then the words past it.
use Rattle.std.proofs.Common.{arith}
use Rattle.std.proofs.lemmas.Bool.Decides.{nat_tests}
use Rattle.grid.proofs.Words.{rest_marks, first_rest}
use Rattle.grid.proofs.side_cells.SideCells.first_from.Goals as goal

pub returns-then-rest-ne0 : goal.returns-then-rest-ne0
returns-then-rest-ne0 c =
    let h = c.args.self.now in
    let f = first_rest h.cells c.args.from _ (rest_marks h.marks h.cells c.args.from h.marked (omega arith)) in
    let t = c.if-rest-ne0.true in
    grind (arith, nat_tests)

pub returns : goal.returns
returns c =
    let h = c.args.self.now in
    let f = first_rest h.cells c.args.from _ (rest_marks h.marks h.cells c.args.from h.marked (omega arith)) in
    let t = c.if-rest-ne0.false in
    let e = c.first_from_word.ensures in
    grind (arith, nat_tests)
