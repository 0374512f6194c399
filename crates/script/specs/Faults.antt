-- What is printed of a line that cannot be read.
use Rattle.std.specs.Prelude.{◌++◌, codes, decimal}
use Rattle.script.specs.declared.faults.LineFault.{LineFault}
use Rattle.script.specs.declared.faults.LineFault.TheVariants.{UnknownCommand, Missing, NotFigure, MissingChoice, Neither, TooMany}
use Rattle.script.specs.Spelling.{Bytes}

abbrev pub fault_text : LineFault → Bytes
fault_text (UnknownCommand word) = codes "unknown command '" ++ (word.now ++ codes "'")
fault_text (Missing name) = name.now ++ codes " is missing"
fault_text (NotFigure name word most) = name.now ++ (codes " '" ++ (word.now ++ (codes "' is not a whole number from 0 to " ++ decimal most)))
fault_text (MissingChoice first second) = first.now ++ (codes " or " ++ (second.now ++ codes " is missing"))
fault_text (Neither word first second) = codes "'" ++ (word.now ++ (codes "' is neither " ++ (first.now ++ (codes " nor " ++ second.now))))
fault_text (TooMany word) = codes "one word too many: '" ++ (word.now ++ codes "'")
