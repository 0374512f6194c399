-- What an order more or less is answered, and what it makes of a board.
use Rattle.std.specs.Prelude.{ℕ, Bool, cond, ◌&&◌, List, [], ◌∷◌, length, Some, None, Ok, Err, Option, Result, ◌==◌, nat_le, nat_lt}
use Rattle.entry.specs.declared.Side.{Side}
use Rattle.board.specs.declared.levels.Level.{Level}
use Rattle.board.specs.declared.faults.BoardFault.{BoardFault}
use Rattle.board.specs.declared.faults.BoardFault.TheVariants.{LevelFull, NoPlace, NothingThere}
use Rattle.board.specs.Levels.{new_level, joined, left, full, single}
use Rattle.board.specs.Book.{Book, levels_of, with_levels, better, level_at}

-- the levels with one order more at price p: it joins the level there, or makes a new one at its place
abbrev pub added : Side → ℕ → ℕ → List Level → List Level
added s p time [] = new_level p time ∷ []
added s p time (x ∷ xs) =
    cond (x.price == p) (joined x ∷ xs) (cond (better s p x.price) (new_level p time ∷ (x ∷ xs)) (x ∷ added s p time xs))

-- the levels with one order less at price p: a level with none left is gone
abbrev pub taken : ℕ → List Level → List Level
taken p [] = []
taken p (x ∷ xs) = cond (x.price == p) (cond (single x) xs (left x ∷ xs)) (x ∷ taken p xs)

-- whether a new level at price p has a place: the price is in the range, and the side has not its greatest number
abbrev pub has_place : Book → Side → ℕ → Bool
has_place b s p = nat_le b.low p && (nat_le p b.high && nat_lt (length (levels_of b s)) b.room)

abbrev pub join_answer : Option Level → Bool → Result (Unit {0}) BoardFault
join_answer (Some x) place = cond (full x) (Err LevelFull) (Ok tt)
join_answer None place = cond place (Ok tt) (Err NoPlace)

abbrev pub add_answer : Book → Side → ℕ → Result (Unit {0}) BoardFault
add_answer b s p = join_answer (level_at p (levels_of b s)) (has_place b s p)

abbrev pub leave_answer : Option Level → Result (Unit {0}) BoardFault
leave_answer (Some x) = Ok tt
leave_answer None = Err NothingThere

abbrev pub take_answer : Book → Side → ℕ → Result (Unit {0}) BoardFault
take_answer b s p = leave_answer (level_at p (levels_of b s))

-- what a call leaves: a refusal changes nothing
abbrev pub on_ok : {X E : Type 0} → Result (Unit {0}) E → X → X → X
on_ok (Ok v) done kept = done
on_ok (Err e) done kept = kept

abbrev pub add_after : Book → Side → ℕ → ℕ → Book
add_after b s p time = on_ok (add_answer b s p) (with_levels b s (added s p time (levels_of b s))) b

abbrev pub take_after : Book → Side → ℕ → Book
take_after b s p = on_ok (take_answer b s p) (with_levels b s (taken p (levels_of b s))) b
