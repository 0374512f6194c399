-- How each entry is spelt: its words in order, each a name or a figure.
use Rattle.std.specs.Prelude.{ℕ, ◌^◌, ◌<◌, List, [], ◌∷◌, codes}
use Rattle.entry.specs.declared.Entry.{Entry}
use Rattle.entry.specs.declared.Entry.TheVariants as kind
use Rattle.entry.specs.declared.Params.{Params}
use Rattle.entry.specs.declared.Side.{Side}
use Rattle.entry.specs.declared.Side.TheVariants.{Buy, Sell}

abbrev pub Bytes : Type 0
Bytes = List ℕ

-- a word that stands as it is, a figure of 32 bits, or one of 8
pub data Part : Type 0 where
  name : Bytes → Part
  figure : ℕ → Part
  code : ℕ → Part

abbrev pub side_text : Side → Bytes
side_text Buy = codes "buy"
side_text Sell = codes "sell"

abbrev pub params_parts : Params → List Part
params_parts p = figure p.sp ∷ figure p.l ∷ figure p.ur ∷ figure p.lr ∷ []

abbrev pub entry_parts : Entry → List Part
entry_parts (kind.Clock time) = name (codes "clock") ∷ figure time ∷ []
entry_parts (kind.Post time side mode price) = name (codes "post") ∷ figure time ∷ name (side_text side) ∷ code mode ∷ figure price ∷ []
entry_parts (kind.Leave time side price) = name (codes "leave") ∷ figure time ∷ name (side_text side) ∷ figure price ∷ []
entry_parts (kind.Trade time mode price quantity) = name (codes "trade") ∷ figure time ∷ code mode ∷ figure price ∷ figure quantity ∷ []
entry_parts (kind.Parameters time params) = name (codes "parameters") ∷ figure time ∷ params_parts params
entry_parts (kind.Reference time session price) = name (codes "reference") ∷ figure time ∷ code session ∷ figure price ∷ []
entry_parts (kind.Ruling time price) = name (codes "ruling") ∷ figure time ∷ figure price ∷ []

-- a figure has as many bits as its place allows
abbrev pub PartFits : Part → Type 0
PartFits (name word) = Unit {0}
PartFits (figure n) = n < 2 ^ 32
PartFits (code n) = n < 2 ^ 8

abbrev pub PartsFit : List Part → Type 0
PartsFit [] = Unit {0}
PartsFit (part ∷ parts) = PartFits part × PartsFit parts

-- each figure of an entry fits its type
abbrev pub Fits : Entry → Type 0
Fits entry = PartsFit (entry_parts entry)
