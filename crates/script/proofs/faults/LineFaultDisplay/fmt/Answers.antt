-- What is written of each fault is its text.
use Rattle.script.proofs.faults.LineFaultDisplay.fmt.Goals as goal

pub returns-in-NotFigure-clause-writes : goal.returns-in-NotFigure-clause-writes
returns-in-NotFigure-clause-writes g c = rw c.in-NotFigure.is c.write-in-NotFigure.ensures.writes

pub returns-in-MissingChoice-clause-writes : goal.returns-in-MissingChoice-clause-writes
returns-in-MissingChoice-clause-writes g c = rw c.in-MissingChoice.is c.write-in-MissingChoice.ensures.writes
