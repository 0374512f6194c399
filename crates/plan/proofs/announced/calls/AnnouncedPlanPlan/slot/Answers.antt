-- The last window that starts by the time is the one that contains it, if any does.
use Rattle.std.proofs.Common.{◌≡◌, rules, ap, ◌∙◌}
use Rattle.plan.specs.Announced.{announced_hours}
use Rattle.plan.proofs.Apart.{slot-by, slot_last}
use Rattle.plan.proofs.announced.calls.AnnouncedPlanPlan.slot.Goals as goal

pub returns : goal.returns
returns c =
    let p = c.args.self.now in
    let t = c.args.time in
    let r : c.map_or.result ≡ slot-by t c.last_by.result = search rules in
    record { answer = r ∙ ap (slot-by t) c.last_by.ensures ∙ slot_last t (announced_hours p) p.order }
