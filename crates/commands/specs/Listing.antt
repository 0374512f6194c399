-- What is printed of a feed.
use Rattle.std.specs.Prelude.{◌≡◌, ℕ, Bool, cond, not, List, [], ◌∷◌, ◌++◌, length, is_some, Some, None, codes, decimal, Option, ◌==◌}
use Rattle.entry.specs.declared.Entry.{Entry}
use Rattle.entry.specs.declared.refusals.Refusal.{Refusal}
use Rattle.layout.specs.Laws.{ReadWhole}
use Rattle.script.specs.Print.{entry_text, refusal_text}

-- a line feed, the byte 10, ends each line
abbrev pub lines_text : List Entry → List ℕ
lines_text [] = []
lines_text (e ∷ es) = (entry_text e ++ (10 ∷ [])) ++ lines_text es

abbrev pub noun : ℕ → List ℕ
noun records = cond (records == 1) (codes "record") (codes "records")

-- the size is a comment, so that what is printed of a feed is a script
abbrev pub counted_with : List ℕ → ℕ → ℕ → List ℕ
counted_with word records bytes = codes "# " ++ (decimal records ++ (codes " " ++ (word ++ (codes ", " ++ (decimal bytes ++ codes " bytes\n")))))

abbrev pub counted_text : ℕ → ℕ → List ℕ
counted_text records bytes = counted_with (noun records) records bytes

-- the fault, or the size of a feed without one
abbrev pub last_text : ℕ → ℕ → Option Refusal → List ℕ
last_text records bytes None = counted_text records bytes
last_text records bytes (Some refusal) = refusal_text refusal ++ codes "\n"

abbrev pub listing_text : List Entry → Option Refusal → ℕ → List ℕ
listing_text es fault bytes = lines_text es ++ last_text (length es) bytes fault

-- the text and whether the feed was read to its end, by the entries and the fault that the feed gives
pub record Listed (feed text : List ℕ) (whole : Bool) : Type 0 where
  pub entries : List Entry
  pub fault : Option Refusal
  pub gives : ReadWhole feed entries fault
  pub printed : text ≡ listing_text entries fault (length feed)
  pub ended : whole ≡ not (is_some fault)
