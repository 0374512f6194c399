-- A window that overlaps none goes to its place, if there is room.
use Rattle.std.proofs.Common.{◌≡◌, length, ap, ◌∙◌, rules}
use Rattle.shelf.specs.Standing.{held}
use Rattle.plan.specs.Hours.{in_order}
use Rattle.plan.specs.Announced.{announced_hours, announced_records}
use Rattle.plan.proofs.Announcing.{order_inserted, told_as, answer_told, after_same}
use Rattle.shelf.proofs.Answered.{over-same}
use Rattle.plan.proofs.announced.AnnouncedPlan.add.Goals as goal

pub invariant_of-self : goal.invariant_of-self
invariant_of-self c =
    let p = c.args.self.now in
    let i = c.insert.ensures in
    let o = ap (in_order 0) i.live ∙ order_inserted c.args.window c.requires (announced_hours p) p.order c.if-overlaps.ensures (length (held p.shelf)) in
    record { order = o; records = i.most ∙ p.records }

pub returns-clause-answer : goal.returns-clause-answer
returns-clause-answer c =
    let p = c.args.self.now in
    let r : c.map_err.result ≡ told_as c.insert.result = search rules in
    r ∙ ap told_as c.insert.ensures.answer ∙ answer_told c.args.window c.requires (announced_hours p) p.order c.if-overlaps.ensures (length (held p.shelf)) p.records

pub returns-clause-after : goal.returns-clause-after
returns-clause-after c =
    let p = c.args.self.now in
    c.insert.ensures.live ∙ after_same c.args.window c.requires (announced_hours p) p.order c.if-overlaps.ensures (length (held p.shelf)) p.records

pub returns-then-overlaps-clause-records : goal.returns-then-overlaps-clause-records
returns-then-overlaps-clause-records c =
    let p = c.args.self.now in
    over-same (announced_records p) p.shelf.len p.shelf.fits
