-- The first record after the price holds the next level.
use Rattle.std.proofs.Common.{refl, ap, ◌∙◌}
use Rattle.shelf.specs.Standing.{live}
use Rattle.ladder.specs.OneSide.{level_in}
use Rattle.ladder.specs.Records.{price_in, level_of}
use Rattle.ladder.proofs.Shelved.{next-after}
use Rattle.ladder.proofs.one_side.calls.OneSide+SideLevel+SELL.next.Goals as goal

pub returns : goal.returns
returns g c = c.level_in.ensures ∙ ap (level_in level_of) c.after.ensures ∙ next-after price_in _ level_of _ (λ x. refl) (λ p q. refl) c.args.price (live c.args.self.now.shelf)
