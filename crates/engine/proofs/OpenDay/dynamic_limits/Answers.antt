-- The pair is the one that the history gives.
use Rattle.std.proofs.Common.{◌≡◌, Ok, sym, subst, rules}
use Rattle.rules.specs.Checks.{both, dynamic_answer}
use Rattle.rules.specs.Calls.{DynamicTold}
use Rattle.rules.proofs.Contracts.{dynamic_told}
use Rattle.engine.proofs.OpenDay.dynamic_limits.Goals as goal

pub returns-clause-promise : goal.returns-clause-promise
returns-clause-promise g c =
    let hours = g.P.Plan.hours c.args.plan.now in
    let w = both c.args.self.now.figures (g.B.Board.book c.args.board.now) in
    let e : Ok c.dynamic.result ≡ dynamic_answer hours w c.args.time = search rules in
    subst (DynamicTold hours w c.args.time) (sym e) (dynamic_told hours w c.args.time)
