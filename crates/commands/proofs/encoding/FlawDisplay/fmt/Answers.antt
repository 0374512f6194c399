-- What is written of each flaw is its text.
use Rattle.commands.proofs.encoding.FlawDisplay.fmt.Goals as goal

pub returns-in-TooWide-clause-writes : goal.returns-in-TooWide-clause-writes
returns-in-TooWide-clause-writes g c = rw c.in-TooWide.is c.write-in-TooWide.ensures.writes

pub returns-in-TooLong-clause-writes : goal.returns-in-TooLong-clause-writes
returns-in-TooLong-clause-writes g c = rw c.in-TooLong.is c.write-in-TooLong.ensures.writes

pub returns-in-NoMemory-clause-writes : goal.returns-in-NoMemory-clause-writes
returns-in-NoMemory-clause-writes g c = rw c.in-NoMemory.is c.write-in-NoMemory.ensures.writes
