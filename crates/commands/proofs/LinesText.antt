-- A line more.
use Rattle.std.proofs.Common.{◌≡◌, ℕ, List, [], ◌∷◌, ◌++◌, sym, ap, ◌∙◌, append_assoc, append-nil}
use Rattle.entry.specs.declared.Entry.{Entry}
use Rattle.script.specs.Print.{entry_text}
use Rattle.commands.specs.Listing.{lines_text}

abbrev pub line : Entry → List ℕ
line e = entry_text e ++ (10 ∷ [])

pub lines_push : (es : List Entry) (e : Entry) → lines_text (es ++ (e ∷ [])) ≡ lines_text es ++ line e
lines_push [] e = append-nil (line e)
lines_push (x ∷ es) e = ap (λ (l : List ℕ). line x ++ l) (lines_push es e) ∙ sym (append_assoc (line x) (lines_text es) (line e))
