-- The window at the place of the time, or before it.
use Rattle.std.proofs.Common.{◌∙◌, arith}
use Rattle.plan.specs.Announced.{announced_hours}
use Rattle.plan.proofs.Announcing.{found_at, found_before}
use Rattle.plan.proofs.announced.AnnouncedPlan.last_by.Goals as goal

pub returns-in-Ok : goal.returns-in-Ok
returns-in-Ok c =
    let p = c.args.self.now in
    c.get.ensures ∙ found_at c.args.time (announced_hours p) c.in-Ok.at p.shelf.sorted c.in-Ok.ensures

pub returns-in_ok-checked_sub-in-Err : goal.returns-in_ok-checked_sub-in-Err
returns-in_ok-checked_sub-in-Err c =
    let t = c.args.time in
    let ws = announced_hours c.args.self.now in
    c.get-in-Err.ensures
    ∙ found_before t ws c.in-Err.at c.in_ok-checked_sub-in-Err.field-0 c.in-Err.ensures (omega (arith, c.in_ok-checked_sub-in-Err.ensures))
