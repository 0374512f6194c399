-- If the window overlaps any, then the last one that starts before its end.
use Rattle.std.proofs.Common.{◌≡◌, rules, ap, ◌∙◌}
use Rattle.plan.specs.Announced.{announced_hours}
use Rattle.plan.proofs.Apart.{met_by, met_last}
use Rattle.plan.proofs.announced.AnnouncedPlan.overlaps.Goals as goal

pub returns : goal.returns
returns c =
    let w = c.args.window in
    let p = c.args.self.now in
    let m = met_last w c.requires (announced_hours p) p.order in
    let r : c.is_some_and.result ≡ met_by w.start c.last_by.result = search rules in
    r ∙ ap (met_by w.start) c.last_by.ensures ∙ m
