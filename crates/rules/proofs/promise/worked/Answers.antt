-- The worked examples.
use Rattle.rules.proofs.Examples.{worked}
use Rattle.rules.proofs.promise.worked.Goals as goal

pub returns : goal.returns
returns c = record { examples = worked }
