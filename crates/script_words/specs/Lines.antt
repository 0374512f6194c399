-- The lines of a script.
use Rattle.std.specs.Prelude.{cond, List, [], ◌∷◌, ◌==◌}
use Rattle.script_words.specs.declared.lines.Lines.{Lines}
use Rattle.script.specs.Spelling.{Bytes}
use Rattle.script_words.specs.Words.{onto}

-- each line ends at a line feed, the byte 10, or at the end of the text
abbrev pub lines_of : Bytes → List Bytes
lines_of [] = []
lines_of (b ∷ bs) = cond (b == 10) ([] ∷ lines_of bs) (onto b (lines_of bs))

-- the lines that are left
abbrev pub to_come : Lines → List Bytes
to_come lines = lines_of lines.rest.now
