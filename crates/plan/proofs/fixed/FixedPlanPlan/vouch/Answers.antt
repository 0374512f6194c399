-- The table is sound, so that the windows are.
use Rattle.plan.specs.Fixed.{fixed_hours}
use Rattle.plan.proofs.Order.{told}
use Rattle.plan.proofs.Days.{fixed_order}
use Rattle.plan.proofs.fixed.FixedPlanPlan.vouch.Goals as goal

pub returns : goal.returns
returns c =
    let p = c.args.self.now in
    record { order = fixed_order p; told = told (fixed_hours p) (fixed_order p) }
