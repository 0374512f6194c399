-- The record at the place of the price holds the level there.
use Rattle.std.proofs.Common.{refl, sym, ap, ◌∙◌}
use Rattle.shelf.specs.Standing.{live}
use Rattle.ladder.specs.OneSide.{level_in}
use Rattle.ladder.specs.Records.{price_in, level_of}
use Rattle.ladder.specs.Better.{better_transitive}
use Rattle.ladder.proofs.Answered.{found, missing}
use Rattle.ladder.proofs.one_side.calls.OneSide+SideLevel+SELL.at.Goals as goal

pub returns-in-Ok : goal.returns-in-Ok
returns-in-Ok g c =
    c.level_in.ensures ∙ ap (level_in level_of) c.get.ensures
    ∙ found price_in _ level_of _ (λ x. refl) (λ p q. refl) c.args.price (live c.args.self.now.shelf) c.in-Ok.at c.in-Ok.ensures

pub returns-in-Err : goal.returns-in-Err
returns-in-Err g c =
    let s = c.args.self.now.shelf in
    sym (missing price_in _ level_of _ (λ x. refl) (λ p q. refl) (better_transitive _) c.args.price (live s) c.in-Err.field-0 s.sorted c.in-Err.ensures)
