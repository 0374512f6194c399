-- An entry's answer and what it leaves are what the history says.
use Rattle.rules.proofs.Contracts.{entered}
use Rattle.engine.proofs.OpenDay.enter.Goals as goal

pub returns : goal.returns
returns g c = let e = c.apply.ensures in record { entered = entered _ _ _ _ _ e.answer e.after; lent = e.lent }
