-- The first record holds the best level.
use Rattle.std.proofs.Common.{◌≡◌, List, [], ◌∷◌, map, refl, ap, ◌∙◌}
use Rattle.std.specs.List.{slice_get}
use Rattle.board.specs.declared.levels.Level.{Level}
use Rattle.board.specs.Book.{first}
use Rattle.shelf.specs.Standing.{live}
use Rattle.ladder.specs.OneSide.{level_in}
use Rattle.ladder.specs.Records.{level_of}
use Rattle.ladder.proofs.one_side.calls.OneSide+SideLevel+SELL.best.Goals as goal

first-level : {R : Type 0} (level : R → Level) (xs : List R) → level_in level (slice_get xs 0) ≡ first (map level xs)
first-level level [] = refl
first-level level (x ∷ xs) = refl

pub returns : goal.returns
returns g c = c.level_in.ensures ∙ ap (level_in level_of) c.first.ensures ∙ first-level level_of (live c.args.self.now.shelf)
