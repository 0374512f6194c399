-- What is written out of a window.
use Rattle.std.specs.Prelude.{ℕ, List, codes}
use Rattle.entry.specs.declared.windows.Bounding.{Bounding}
use Rattle.entry.specs.declared.windows.Bounding.TheVariants.{Free, Bounded}

-- whether a window is free or bounded, in a word
abbrev pub bounding_text : Bounding → List ℕ
bounding_text Free = codes "free"
bounding_text Bounded = codes "bounded"
