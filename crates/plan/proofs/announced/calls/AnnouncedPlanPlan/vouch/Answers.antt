-- The windows are in order, so that each gives the slot where it contains the time.
use Rattle.plan.specs.Announced.{announced_hours}
use Rattle.plan.proofs.Order.{told}
use Rattle.plan.proofs.announced.calls.AnnouncedPlanPlan.vouch.Goals as goal

pub returns : goal.returns
returns c =
    let p = c.args.self.now in
    record { order = p.order; told = told (announced_hours p) p.order }
