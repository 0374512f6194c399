-- The promise, over every list of calls.
use Rattle.rules.proofs.Whole.{promised}
use Rattle.rules.proofs.promise.promised.Goals as goal

pub returns : goal.returns
returns c = record { promise = promised }
