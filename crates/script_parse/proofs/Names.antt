-- Names that begin no entry.
use Rattle.std.proofs.Common.{◌≡◌, None, codes}
use Rattle.script.specs.Spelling.{Bytes}
use Rattle.script_words.proofs.Compared.{differs}
use Rattle.script_parse.specs.Entries.{kind_named}

-- a name that no kind of entry has
pub none_of_seven : (w : Bytes) → (w ≡ codes "clock" → ⊥) → (w ≡ codes "post" → ⊥) → (w ≡ codes "leave" → ⊥) → (w ≡ codes "trade" → ⊥) → (w ≡ codes "parameters" → ⊥) → (w ≡ codes "reference" → ⊥) → (w ≡ codes "ruling" → ⊥) → None ≡ kind_named w
none_of_seven w clock post leave trade parameters reference ruling =
    simp (differs clock, differs post, differs leave, differs trade, differs parameters, differs reference, differs ruling)
