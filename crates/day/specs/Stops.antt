-- How a line that stopped a script is told.
use Rattle.std.specs.Prelude.{ℕ, List, ◌++◌, codes, decimal, string_bytes}
use Rattle.day.specs.declared.report.Stop.{Stop}

-- the line's number, and what is wrong with it
abbrev pub stop_text : Stop → List ℕ
stop_text stop = decimal stop.line ++ (codes ": " ++ string_bytes stop.why)
