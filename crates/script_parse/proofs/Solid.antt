-- Words with single blanks between are read as the same words.
use Rattle.std.proofs.Common.{◌≡◌, ℕ, Bool, true, false, not, ◌&&◌, ◌||◌, eqb, List, [], ◌∷◌, ◌++◌, map, refl, append-nil, arith}
use Rattle.std.proofs.lemmas.Bool.Decides.{nat_tests}
use Rattle.std.specs.Char.{is_ascii_digit}
use Rattle.std.specs.Str.{all_ascii_digits}
use Rattle.script.specs.Spelling.{Bytes, Part}
use Rattle.script.specs.Print.{part_text, spaced}
use Rattle.script_words.specs.Words.{is_blank, uncommented, goes_on, words_of}

-- neither a blank nor the start of a comment
abbrev pub is_solid : ℕ → Bool
is_solid b = not (is_blank b || eqb b 35)

abbrev pub solid : Bytes → Bool
solid [] = true
solid (b ∷ bs) = is_solid b && solid bs

-- a text that is one word
abbrev pub is_word : Bytes → Bool
is_word [] = false
is_word (b ∷ bs) = solid (b ∷ bs)

solid_not_blank : (b : ℕ) → is_solid b ≡ true → is_blank b ≡ false
solid_not_blank b e = grind (arith, nat_tests)

solid_not_comment : (b : ℕ) → is_solid b ≡ true → eqb b 35 ≡ false
solid_not_comment b e = grind (arith, nat_tests)

digit_solid : (b : ℕ) → is_ascii_digit b ≡ true → is_solid b ≡ true
digit_solid b e = grind (arith, nat_tests)

pub digits_solid : (bs : Bytes) → all_ascii_digits bs ≡ true → solid bs ≡ true
digits_solid [] e = refl
digits_solid (b ∷ bs) e =
    grind (arith, nat_tests, digit_solid, digits_solid bs)

uncommented-solid : (w rest : Bytes) → solid w ≡ true → uncommented (w ++ rest) ≡ w ++ uncommented rest
uncommented-solid [] rest e = refl
uncommented-solid (b ∷ bs) rest e = grind (arith, nat_tests, solid_not_comment, uncommented-solid bs rest)

words_solid : (b : ℕ) (bs rest : Bytes) → solid (b ∷ bs) ≡ true → goes_on rest ≡ false → words_of (b ∷ (bs ++ rest)) ≡ (b ∷ bs) ∷ words_of rest
words_solid b [] rest e ends = grind (arith, nat_tests, solid_not_blank)
words_solid b (x ∷ xs) rest e ends = grind (arith, nat_tests, solid_not_blank, words_solid x xs rest)

words_word : (w rest : Bytes) → is_word w ≡ true → goes_on rest ≡ false → words_of (w ++ rest) ≡ w ∷ words_of rest
words_word [] rest e ends = grind (arith, nat_tests)
words_word (b ∷ bs) rest e ends = words_solid b bs rest e ends

word-solid : (w : Bytes) → is_word w ≡ true → solid w ≡ true
word-solid [] e = refl
word-solid (b ∷ bs) e = e

-- each part is printed as one word
abbrev pub AllWords : List Part → Type 0
AllWords [] = Unit {0}
AllWords (part ∷ parts) = (is_word (part_text part) ≡ true) × AllWords parts

pub uncommented-spaced : (parts : List Part) → AllWords parts → uncommented (spaced parts) ≡ spaced parts
uncommented-spaced [] all = refl
uncommented-spaced (part ∷ []) all = grind (arith, append-nil, uncommented-solid (part_text part) [], word-solid)
uncommented-spaced (part ∷ next ∷ parts) all = grind (arith, uncommented-solid, word-solid, uncommented-spaced (next ∷ parts) all.1)

pub words_spaced : (parts : List Part) → AllWords parts → words_of (spaced parts) ≡ map part_text parts
words_spaced [] all = refl
words_spaced (part ∷ []) all = grind (arith, append-nil, words_word (part_text part) [])
words_spaced (part ∷ next ∷ parts) all = grind (arith, words_word, words_spaced (next ∷ parts) all.1)
