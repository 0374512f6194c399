-- A session's code is read as that session.
use Rattle.std.proofs.Common.{◌≡◌, Some, refl, rules}
use Rattle.plan.specs.declared.slots.Session.{Session}
use Rattle.plan.specs.declared.slots.Session.TheVariants.{Morning, Main, Evening, Weekend}
use Rattle.plan.specs.Sessions.{code_of, session_of}
use Rattle.engine.proofs.OpenDay.set_reference.Goals as goal

session_read : (s : Session) → session_of (code_of s) ≡ Some s
session_read Morning = refl
session_read Main = refl
session_read Evening = refl
session_read Weekend = refl

pub returns-clause-after : goal.returns-clause-after
returns-clause-after g c = rw (session_read c.args.session) (search rules)
