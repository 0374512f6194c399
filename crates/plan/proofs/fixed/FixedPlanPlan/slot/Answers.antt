-- The windows of the plan give what the rows of the calendar day give.
use Rattle.std.proofs.Common.{arith}
use Rattle.std.proofs.lemmas.Bool.Decides.{nat_tests}
use Rattle.plan.proofs.Days.{fixed_slot}
use Rattle.plan.proofs.fixed.FixedPlanPlan.slot.Goals as goal

pub returns-then-day-self : goal.returns-then-day-self
returns-then-day-self c = let e = fixed_slot c.args.self.now c.args.time in record { answer = grind (arith, nat_tests) }

pub returns : goal.returns
returns c = let e = fixed_slot c.args.self.now c.args.time in record { answer = grind (arith, nat_tests) }
