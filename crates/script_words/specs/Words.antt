-- The words of a line: the longest runs without a blank, up to a comment.
use Rattle.std.specs.Prelude.{ℕ, Bool, true, false, cond, ◌||◌, List, [], ◌∷◌, ◌==◌}
use Rattle.script.specs.Spelling.{Bytes}
use Rattle.script_words.specs.declared.words.Words.{Words}

-- a space, a tab, or the carriage return that some editors put at a line's end
abbrev pub is_blank : ℕ → Bool
is_blank b = b == 32 || b == 9 || b == 13

-- what stands before the first `#`, the byte 35
abbrev pub uncommented : Bytes → Bytes
uncommented [] = []
uncommented (b ∷ bs) = cond (b == 35) [] (b ∷ uncommented bs)

-- whether a text begins inside a word
abbrev pub goes_on : Bytes → Bool
goes_on [] = false
goes_on (b ∷ bs) = cond (is_blank b) false true

-- a byte before the first word
abbrev pub onto : ℕ → List Bytes → List Bytes
onto b [] = (b ∷ []) ∷ []
onto b (w ∷ ws) = (b ∷ w) ∷ ws

abbrev pub words_of : Bytes → List Bytes
words_of [] = []
words_of (b ∷ bs) = cond (is_blank b) (words_of bs) (cond (goes_on bs) (onto b (words_of bs)) ((b ∷ []) ∷ words_of bs))

-- the words that are left
abbrev pub left : Words → List Bytes
left words = words_of words.rest.now
