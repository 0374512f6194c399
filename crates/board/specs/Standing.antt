-- The levels that are left, where a side is told level by level.
use Rattle.std.specs.Prelude.{ℕ, cond, List, [], ◌∷◌, Some, None, Option}
use Rattle.entry.specs.declared.Side.{Side}
use Rattle.board.specs.declared.levels.Level.{Level}
use Rattle.board.specs.declared.standing.Levels.{Levels}
use Rattle.board.specs.Book.{Book, levels_of, better}

-- the levels from the first one on that is worse than price p
abbrev pub worse : Side → ℕ → List Level → List Level
worse s p [] = []
worse s p (x ∷ xs) = cond (better s p x.price) (x ∷ xs) (worse s p xs)

-- a level, and those of the side that are worse
abbrev pub from_level : Side → Option Level → List Level → List Level
from_level s None xs = []
from_level s (Some x) xs = x ∷ worse s x.price xs

abbrev pub ahead : {B : Type 0} → (B → Book) → Levels B → List Level
ahead book l = from_level l.side l.first (levels_of (book l.board.now) l.side)
