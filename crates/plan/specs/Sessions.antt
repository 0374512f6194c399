-- The sessions with their codes.
use Rattle.std.specs.Prelude.{ℕ, cond, Some, None, Option, Result, ◌==◌, ok_or}
use Rattle.entry.specs.declared.refusals.Refusal.{Refusal}
use Rattle.entry.specs.declared.refusals.Refusal.TheVariants.{OutOfRange}
use Rattle.plan.specs.declared.slots.Session.{Session}
use Rattle.plan.specs.declared.slots.Session.TheVariants.{Morning, Main, Evening, Weekend}

abbrev pub code_of : Session → ℕ
code_of Morning = 1
code_of Main = 2
code_of Evening = 3
code_of Weekend = 4

abbrev pub session_of : ℕ → Option Session
session_of n =
    cond (n == 1) (Some Morning) (cond (n == 2) (Some Main) (cond (n == 3) (Some Evening) (cond (n == 4) (Some Weekend) None)))

-- the session with a code; a code that no session has is out of range
abbrev pub session_answer : ℕ → Result Session Refusal
session_answer n = ok_or (session_of n) OutOfRange
