-- What is carried over is what the history says.
use Rattle.std.proofs.Common.{sym, subst}
use Rattle.rules.specs.declared.figures.ClosedFigures.{ClosedFigures}
use Rattle.rules.specs.Calls.{ClosedAs}
use Rattle.rules.proofs.Contracts.{closed_as}
use Rattle.engine.proofs.OpenDay.close.Goals as goal

pub returns : goal.returns
returns c =
    let d = c.args.self.figures in
    let e = c.carried_over.ensures in
    record { answer = e; promise = subst (λ (z : ClosedFigures). ClosedAs d z) (sym e) (closed_as d) }
