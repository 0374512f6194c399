-- The text has the lines of the entries so far.
use Rattle.std.proofs.Common.{◌≡◌, take, string_bytes}
use Rattle.commands.specs.Listing.{lines_text}
use Rattle.commands.proofs.listing.lines.Given as goal

abbrev pub invariant-loop-entry : goal.invariant-loop-entry
invariant-loop-entry l = string_bytes l.text ≡ lines_text (take l.entry-index l.entries)
