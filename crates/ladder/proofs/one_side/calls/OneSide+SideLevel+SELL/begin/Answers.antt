-- A new level finds a place, or none.
use Rattle.std.proofs.Common.{length, refl, ap, ◌∙◌, arith}
use Rattle.std.proofs.lemmas.Bool.Decides.{nat_tests}
use Rattle.shelf.specs.Standing.{live, held}
use Rattle.ladder.specs.Records.{price_in, level_of, proper}
use Rattle.ladder.proofs.Answered.{begin_done, begin_refused}
use Rattle.ladder.proofs.Soundness.{new_proper, proper_inserted}
use Rattle.ladder.proofs.one_side.calls.OneSide+SideLevel+SELL.begin.Goals as goal

pub returns-in-Ok : goal.returns-in-Ok
returns-in-Ok g c =
    let s = c.args.self.now.shelf in
    let i = c.in-Ok.ensures in
    let d = begin_done price_in _ level_of _ (λ x. refl) (λ p q. refl) c.args.price c.args.time (length (held s)) (live s) _ _ c.requires (grind (arith, nat_tests)) (grind (arith, nat_tests)) c.new-2.ensures.answer i.live i.answer in
    record { answer = d.answer; levels = d.levels; most = i.most; lent = i.lent }

pub returns-in-Err : goal.returns-in-Err
returns-in-Err g c =
    let s = c.args.self.now.shelf in
    let i = c.in-Err.ensures in
    let d = begin_refused price_in _ level_of _ (λ x. refl) (λ p q. refl) c.args.price c.args.time (length (held s)) (live s) _ _ c.requires (grind (arith, nat_tests)) (grind (arith, nat_tests)) c.new-2.ensures.answer i.live c.in-Err.field-0 i.answer in
    record { answer = d.answer; levels = d.levels; most = i.most; lent = i.lent }

pub invariant_of-self : goal.invariant_of-self
invariant_of-self g c =
    let s = c.args.self.now in
    record { proper = proper_inserted level_of s.shelf s.proper _ _ c.insert.ensures.live (ap proper c.new-2.ensures.answer ∙ new_proper c.args.price c.args.time (grind (arith, nat_tests))) }
