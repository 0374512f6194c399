-- A turn moves the invariant on by one entry, and what a run answers, leaves and writes is what the history says of its entries.
use Rattle.std.proofs.Common.{◌<◌, ◌≤◌, length, Ok, ◌∙◌, arith, length-set, le-leb}
use Rattle.rules.proofs.Contracts.{ran}
use Rattle.engine.specs.Calls.{state_of}
use Rattle.engine.proofs.Turns.{final_more, lines_more, rest_more, final_end, trail_end}
use Rattle.engine.proofs.OpenDay.run.Goals as goal

pub loop-i-preserved : goal.loop-i-preserved
loop-i-preserved g c =
    let inv = c.loop-i.invariant in
    let hours = g.P.Plan.hours c.args.plan.now in
    let room : c.loop-i.i < length c.loop-i.trail = omega arith in
    let room0 : c.loop-i.i < length c.args.trail.now = omega arith in
    let moves = c.apply-answer.ensures.after in (
      simp length-set (omega arith),
      final_more hours _ _ c.args.entries.now c.loop-i.i _ c.loop-i-test.true moves ∙ inv.1,
      lines_more hours _ _ c.args.entries.now c.loop-i.i _ c.loop-i-test.true moves c.loop-i.trail _ _ room c.apply-answer.ensures.answer c.line.ensures ∙ inv.2,
      rest_more c.loop-i.trail c.args.trail.now c.line.result c.loop-i.i room room0 inv.3,
      c.apply-answer.ensures.lent ∙ inv.4,
    )

pub returns-clause-ran : goal.returns-clause-ran
returns-clause-ran g c =
    let inv = c.loop-i.invariant in
    let hours = g.P.Plan.hours c.args.plan.now in
    let es = c.args.entries.now in
    let start = state_of c.args.self.now (g.B.Board.book c.args.board.now) in
    let here = state_of c.loop-i.self (g.B.Board.book c.loop-i.board) in
    let up : c.loop-i.i ≤ length es = omega arith in
    let fits = le-leb _ _ c.if-trail-entries.false in
    ran hours start es c.args.trail.now (Ok tt) here c.loop-i.trail
    (rw fits)
    (rw fits (final_end hours here start es c.loop-i.i up c.loop-i-test.false inv.1))
    (rw fits (trail_end hours here start es c.loop-i.i up c.loop-i-test.false c.loop-i.trail c.args.trail.now inv.2 inv.3))
