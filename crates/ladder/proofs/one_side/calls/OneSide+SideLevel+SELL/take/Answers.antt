-- An order leaves the level that stands, and the last one takes the level with it.
use Rattle.std.proofs.Common.{refl, ap, ◌∙◌}
use Rattle.shelf.specs.Standing.{live}
use Rattle.ladder.specs.Records.{price_in, level_of, levels_in, all_proper}
use Rattle.ladder.specs.Better.{better_transitive}
use Rattle.ladder.proofs.Answered.{there, leave_none, leave_done, leave_last}
use Rattle.ladder.proofs.Soundness.{proper_left, proper_there, proper_replaced, proper_removed}
use Rattle.ladder.proofs.one_side.calls.OneSide+SideLevel+SELL.take.Goals as goal

pub returns-in_default : goal.returns-in_default
returns-in_default g c =
    let s = c.args.self.now.shelf in
    let d = leave_none price_in _ level_of _ (λ x. refl) (λ p q. refl) (better_transitive _) c.args.price (live s) c.in_default.field-0 s.sorted c.in_default.ensures in
    record { answer = d.answer; levels = d.levels; most = refl; lent = refl }

pub unreachable-requires : goal.unreachable-requires
unreachable-requires g c =
    let s = c.args.self.now.shelf in
    there price_in _ level_of _ (λ x. refl) (λ p q. refl) c.args.price (live s) c.in-Ok.at c.in-Ok.ensures c.in_default-get.ensures

pub returns-in-Ok-replace : goal.returns-in-Ok-replace
returns-in-Ok-replace g c =
    let s = c.args.self.now.shelf in
    let i = c.in-Ok-replace.ensures in
    let d = leave_done price_in _ level_of _ (λ x. refl) (λ p q. refl) c.args.price (live s) c.in-Ok.at c.in-Ok.ensures c.in-Some.record c.in-Some.ensures c.in-Some-one_less.left _ _ c.in-Some-one_less.ensures.answer refl i.answer i.live in
    record { answer = d.answer; levels = d.levels; most = i.most; lent = i.lent }

pub returns-in-None : goal.returns-in-None
returns-in-None g c =
    let s = c.args.self.now.shelf in
    let i = c.remove.ensures in
    let d = leave_last price_in _ level_of _ (λ x. refl) (λ p q. refl) c.args.price (live s) c.in-Ok.at c.in-Ok.ensures c.in-Some.record c.in-Some.ensures _ c.in-None.ensures.answer i.live in
    record { answer = d.answer; levels = d.levels; most = i.most; lent = i.lent }

pub invariant_of-self : goal.invariant_of-self
invariant_of-self g c =
    let s = c.args.self.now in
    let p = proper_there level_of (live s.shelf) c.in-Ok.at c.in-Some.record c.in-Some.ensures s.proper in
    record { proper = proper_replaced level_of s.shelf s.proper c.in-Ok.at _ _ c.replace.ensures.live (proper_left _ _ c.in-Some-one_less.ensures.answer p) }

pub invariant_of-self-in-None : goal.invariant_of-self-in-None
invariant_of-self-in-None g c =
    let s = c.args.self.now in
    record { proper = ap (λ z. all_proper (levels_in z)) c.remove.ensures.live ∙ proper_removed level_of (live s.shelf) c.in-Ok.at s.proper }
