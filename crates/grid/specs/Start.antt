-- What the first test of a grid answers.
use Rattle.std.specs.Prelude.{ℕ, Bool, cond, ◌&&◌, Ok, Err, Result, nat_le}
use Rattle.entry.specs.declared.refusals.Refusal.{Refusal}
use Rattle.entry.specs.declared.refusals.Refusal.TheVariants.{OutOfRange}

-- a grid starts at a price from 1 to 999,999,745, so that its last price is at most 1,000,000,000
abbrev pub start_fits : ℕ → Bool
start_fits start = nat_le 1 start && nat_le start 999999745

abbrev pub start_answer : ℕ → Result (Unit {0}) Refusal
start_answer start = cond (start_fits start) (Ok tt) (Err OutOfRange)
