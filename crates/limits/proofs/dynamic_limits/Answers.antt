-- In a bounded window each limit is the tighter of the radius and the bound.
use Rattle.std.proofs.Common.{rules}
use Rattle.limits.proofs.Joined.{lower_exact, upper_exact}
use Rattle.limits.proofs.dynamic_limits.Goals as goal

pub returns-in-Some-clause-lower : goal.returns-in-Some-clause-lower
returns-in-Some-clause-lower c = lower_exact c.args.params c.args.quotation c.args.bounded _ (search rules)

pub returns-in-Some-clause-upper : goal.returns-in-Some-clause-upper
returns-in-Some-clause-upper c = upper_exact c.args.params c.args.quotation c.args.bounded _ (search rules)
