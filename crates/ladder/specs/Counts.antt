-- What the first test of a ladder answers.
use Rattle.std.specs.Prelude.{ℕ, Bool, cond, ◌&&◌, Ok, Err, Result, ◌==◌, nat_le}
use Rattle.entry.specs.declared.refusals.Refusal.{Refusal}
use Rattle.entry.specs.declared.refusals.Refusal.TheVariants.{OutOfRange}

-- a ladder has 16 to 4,096 records a side, and as many on one side as on the other
abbrev pub counts_fit : ℕ → ℕ → Bool
counts_fit buys sells = nat_le 16 buys && (nat_le buys 4096 && sells == buys)

abbrev pub counts_answer : ℕ → ℕ → Result (Unit {0}) Refusal
counts_answer buys sells = cond (counts_fit buys sells) (Ok tt) (Err OutOfRange)
