-- The first word with a mark has the first rank at its leading zeros.
use Rattle.std.proofs.Common.{◌*◌, drop, sym, ap, ◌∙◌, arith}
use Rattle.std.proofs.lemmas.List.{length-drop}
use Rattle.grid.proofs.Words.{rank_past, first_past, first_below}
use Rattle.grid.proofs.side_cells.SideCells.first_from_word.Goals as goal

pub returns-in_err-w : goal.returns-in_err-w
returns-in_err-w c =
    let h = c.args.self.now in
    let f = first_past h.marks h.cells c.args.from h.marked h.words h.size c.requires in
    c.from_residual.ensures ∙ sym (f ∙ ap (rank_past h.marks c.args.from) (sym c.first_marked.ensures ∙ c.in_err-w.was))

pub overflow_cast-result-2 : goal.overflow_cast-result-2
overflow_cast-result-2 c =
    let h = c.args.self.now in
    let n = 64 * c.args.from in
    let f = first_past h.marks h.cells c.args.from h.marked h.words h.size c.requires in
    let b = first_below n _ (drop n h.cells) (f ∙ ap (rank_past h.marks c.args.from) (sym c.first_marked.ensures ∙ c.in_ok-w.was)) in
    let d = length-drop n h.cells in
    omega arith

pub returns : goal.returns
returns c =
    let h = c.args.self.now in
    let f = first_past h.marks h.cells c.args.from h.marked h.words h.size c.requires in
    sym (f ∙ ap (rank_past h.marks c.args.from) (sym c.first_marked.ensures ∙ c.in_ok-w.was))
