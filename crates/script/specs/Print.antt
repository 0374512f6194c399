-- What is printed: words and decimal figures, with single blanks between.
use Rattle.std.specs.Prelude.{ℕ, List, [], ◌∷◌, ◌++◌, Some, None, Option, codes, decimal}
use Rattle.entry.specs.declared.Entry.{Entry}
use Rattle.entry.specs.declared.Params.{Params}
use Rattle.entry.specs.declared.refusals.Place.{Place}
use Rattle.entry.specs.declared.refusals.Refusal.{Refusal}
use Rattle.entry.specs.Refusals.{number, place}
use Rattle.script.specs.Spelling.{Bytes, Part, name, figure, code, entry_parts, params_parts}
pub use Rattle.script.specs.Spelling.{side_text}

abbrev pub part_text : Part → Bytes
part_text (name word) = word
part_text (figure n) = decimal n
part_text (code n) = decimal n

-- the parts with a blank, the byte 32, between each two
abbrev pub spaced : List Part → Bytes
spaced [] = []
spaced (part ∷ []) = part_text part
spaced (part ∷ next ∷ parts) = part_text part ++ (32 ∷ spaced (next ∷ parts))

abbrev pub params_text : Params → Bytes
params_text params = spaced (params_parts params)

abbrev pub entry_text : Entry → Bytes
entry_text entry = spaced (entry_parts entry)

-- a refusal by its number, and after its place if it is a fault in a feed
abbrev pub told_text : ℕ → Option Place → Bytes
told_text number None = codes "refused " ++ decimal number
told_text number (Some at) = codes "record " ++ (decimal at.number ++ (codes " bit " ++ (decimal at.bit ++ (codes " refused " ++ decimal number))))

abbrev pub refusal_text : Refusal → Bytes
refusal_text refusal = told_text (number refusal) (place refusal)
