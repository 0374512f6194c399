-- What an order more or less is answered on one side of a ladder, and the levels after it.
use Rattle.std.specs.Prelude.{ℕ, ◌&&◌, List, length, Some, None, Option, Result, nat_le, nat_lt}
use Rattle.entry.specs.declared.Side.{Side}
use Rattle.board.specs.declared.levels.Level.{Level}
use Rattle.board.specs.declared.faults.BoardFault.{BoardFault}
use Rattle.board.specs.Book.{level_at}
use Rattle.board.specs.Calls.{added, taken, join_answer, leave_answer, on_ok}
use Rattle.ladder.specs.Records.{lowest, highest}

-- the level in a record, if there is one
abbrev pub level_in : {R : Type 0} → (R → Level) → Option R → Option Level
level_in level None = None
level_in level (Some r) = Some (level r)

-- room is the greatest number of levels
abbrev pub add_answer_on : ℕ → ℕ → List Level → Result (Unit {0}) BoardFault
add_answer_on room p ls = join_answer (level_at p ls) (nat_le lowest p && (nat_le p highest && nat_lt (length ls) room))

abbrev pub add_levels : Side → ℕ → ℕ → ℕ → List Level → List Level
add_levels s room p time ls = on_ok (add_answer_on room p ls) (added s p time ls) ls

abbrev pub take_answer_on : ℕ → List Level → Result (Unit {0}) BoardFault
take_answer_on p ls = leave_answer (level_at p ls)

abbrev pub take_levels : ℕ → List Level → List Level
take_levels p ls = on_ok (take_answer_on p ls) (taken p ls) ls
