-- A text cut after its leading blanks, after its first word, and before its comment.
use Rattle.std.proofs.Common.{◌≡◌, ℕ, zero, suc, ◌<◌, ◌≤◌, Bool, true, false, not, cond, eqb, List, [], ◌∷◌, ◌++◌, length, get_or, take, drop, Some, None, Option, unwrap_or, IsUtf8, sym, refl, ap, ◌∙◌, subst, suc-le-suc, not-suc-le-zero, add-one, arith}
use Rattle.std.proofs.lemmas.Grind.{common_steps}
use Rattle.std.proofs.lemmas.List.{length-drop}
use Rattle.std.proofs.lemmas.List.Quantifiers.{position-Some}
use Rattle.std.proofs.lemmas.List.Sums.{fails_before_first, passes_at_first, prefix_len-le-length}
use Rattle.std.proofs.lemmas.Str.{IsCharBoundary-start, IsCharBoundary-after_ascii}
use Rattle.std.proofs.lemmas.Bool.Decides.{nat_tests}
use Rattle.std.specs.List.{position, position_or_len}
use Rattle.std.specs.Str.{IsCharBoundary}
use Rattle.script.specs.Spelling.{Bytes}
use Rattle.script_words.specs.Words.{is_blank, uncommented, onto, words_of}

abbrev pub not_blank : ℕ → Bool
not_blank b = not (is_blank b)

blank_ascii : (b : ℕ) → is_blank b ≡ true → b < 128
blank_ascii b e = grind (arith, nat_tests)

yes_of_not : (b : Bool) → not b ≡ false → b ≡ true
yes_of_not b e = grind (arith, nat_tests)

no_of_not : (b : Bool) → not b ≡ true → b ≡ false
no_of_not b e = grind (arith, nat_tests)

pub place_or_length : (bs : Bytes) (r : Option ℕ) → r ≡ position is_blank bs → unwrap_or r (length bs) ≡ position_or_len is_blank bs
place_or_length bs r e = let within = prefix_len-le-length not_blank bs in grind (arith, nat_tests)

-- a cut falls between characters where a word starts, and where it ends
pub boundary_start : (bs : Bytes) (n : ℕ) → IsUtf8 bs → position not_blank bs ≡ Some n → IsCharBoundary bs n
boundary_start bs zero u e = IsCharBoundary-start bs u
boundary_start bs (suc n) u e =
    let at = position-Some not_blank bs (suc n) 0 e in
    rw (← add-one) (IsCharBoundary-after_ascii bs n u (omega arith) (blank_ascii _ (yes_of_not _ (at.2 n (omega arith)))))

pub boundary_end : (bs : Bytes) → IsCharBoundary bs (position_or_len is_blank bs)
boundary_end bs = (prefix_len-le-length not_blank bs, λ inside high. absurd (let low : get_or bs (position_or_len is_blank bs) 0 < 128 = blank_ascii _ (passes_at_first is_blank bs 0 inside) in omega arith))

-- so it does behind the blanks at the front
pub boundary_after_blanks : (bs : Bytes) → IsUtf8 bs → IsCharBoundary bs (position_or_len not_blank bs)
boundary_after_blanks bs u = after (position_or_len not_blank bs) refl
  where
    after : (n : ℕ) → position_or_len not_blank bs ≡ n → IsCharBoundary bs n
    after zero e = IsCharBoundary-start bs u
    after (suc n) e =
        let within : suc n ≤ length bs = subst (λ i. i ≤ length bs) e (prefix_len-le-length (λ b. not (not_blank b)) bs) in
        rw (← add-one) (IsCharBoundary-after_ascii bs n u within (blank_ascii _ (yes_of_not _ (fails_before_first not_blank bs n 0 (omega arith)))))

-- after the blanks at the front comes no blank
pub starts_after_blanks : (bs : Bytes) (n : ℕ) → n ≡ position_or_len not_blank bs → 0 < length (drop n bs) → is_blank (get_or (drop n bs) 0 0) ≡ false
starts_after_blanks bs n e h =
    let inside : position_or_len not_blank bs < length bs = omega (arith, length-drop n bs) in
    let here : get_or (drop n bs) 0 0 ≡ get_or bs (position_or_len not_blank bs) 0 = grind (arith, common_steps) in
    ap is_blank here ∙ no_of_not _ (passes_at_first not_blank bs 0 inside)

-- leading blanks hold no word
pub words_after_blanks : (bs : Bytes) (n : ℕ) → ((k : ℕ) → k < n → is_blank (get_or bs k 0) ≡ true) → words_of bs ≡ words_of (drop n bs)
words_after_blanks bs zero all = refl
words_after_blanks [] (suc n) all = refl
words_after_blanks (b ∷ bs) (suc n) all =
    let here : is_blank b ≡ true = all 0 (omega arith) in
    grind (arith, words_after_blanks bs n (λ k h. all (suc k) (suc-le-suc h)))

onto_word : {ws : List Bytes} {w : Bytes} {rest : List Bytes} (b : ℕ) (apart blank : Bool) → apart ≡ false → blank ≡ false → ws ≡ w ∷ rest → cond apart ws (cond (cond blank false true) (onto b ws) ((b ∷ []) ∷ ws)) ≡ (b ∷ w) ∷ rest
onto_word b false false e h is = ap (onto b) is
onto_word b true blank e h is = cc
onto_word b false true e h is = cc

longer : (b : ℕ) (bs : Bytes) → is_blank b ≡ false → position_or_len is_blank (b ∷ bs) ≡ suc (position_or_len is_blank bs)
longer b bs e = grind (arith, add-one)

-- a byte that is not blank and what stands before the next blank are the first word
pub words_first : (b : ℕ) (bs : Bytes) → is_blank b ≡ false → words_of (b ∷ bs) ≡ (b ∷ take (position_or_len is_blank bs) bs) ∷ words_of (drop (position_or_len is_blank bs) bs)
words_first b [] e = grind arith
words_first b (x ∷ xs) e = by_kind (is_blank x) refl (words_first x xs)
  where
    by_kind : (t : Bool) → is_blank x ≡ t → (is_blank x ≡ false → words_of (x ∷ xs) ≡ (x ∷ take (position_or_len is_blank xs) xs) ∷ words_of (drop (position_or_len is_blank xs) xs)) → words_of (b ∷ (x ∷ xs)) ≡ (b ∷ take (position_or_len is_blank (x ∷ xs)) (x ∷ xs)) ∷ words_of (drop (position_or_len is_blank (x ∷ xs)) (x ∷ xs))
    by_kind true h rest = grind arith
    by_kind false h rest =
        onto_word b (is_blank b) (is_blank x) e h (rest h) ∙ sym (ap (λ n. (b ∷ take n (x ∷ xs)) ∷ words_of (drop n (x ∷ xs))) (longer x xs h))

-- what stands before the next blank in a text that starts with none is the first word
pub at_start : (bs : Bytes) → 0 < length bs → is_blank (get_or bs 0 0) ≡ false → words_of bs ≡ take (position_or_len is_blank bs) bs ∷ words_of (drop (position_or_len is_blank bs) bs)
at_start [] some e = absurd (not-suc-le-zero some)
at_start (b ∷ bs) some e = words_first b bs e ∙ sym (ap (λ n. take n (b ∷ bs) ∷ words_of (drop n (b ∷ bs))) (longer b bs e))

pub first_cut : (text word : Bytes) (n : ℕ) → position not_blank text ≡ Some n → word ≡ drop n text → words_of text ≡ take (position_or_len is_blank word) word ∷ words_of (drop (position_or_len is_blank word) word)
first_cut text word n e is =
    let at = position-Some not_blank text n 0 e in
    let some : 0 < length word = grind (arith, common_steps) in
    let here : get_or word 0 0 ≡ get_or text n 0 = grind (arith, common_steps) in
    words_after_blanks text n (λ k h. yes_of_not _ (at.2 k h)) ∙ ap words_of (sym is) ∙ at_start word some (ap is_blank here ∙ no_of_not _ at.1)

pub no_words : (text : Bytes) → position not_blank text ≡ None → words_of text ≡ []
no_words text e =
    let past : length text ≤ position_or_len not_blank text = grind (arith, nat_tests) in
    words_after_blanks text (length text) (λ k h. yes_of_not _ (fails_before_first not_blank text k 0 (omega arith)))
    ∙ ap words_of (let gone : drop (length text) text ≡ [] = grind (arith, common_steps) in gone)

-- no `#` stands in a text
abbrev pub Plain : Bytes → Type 0
Plain bs = (i : ℕ) → i < length bs → get_or bs i 0 ≡ 35 → ⊥

pub apart : (a b : ℕ) → (a ≡ b → ⊥) → eqb a b ≡ false
apart a b h = grind (arith, nat_tests)

pub uncommented_plain : (bs : Bytes) → Plain bs → uncommented bs ≡ bs
uncommented_plain [] plain = refl
uncommented_plain (b ∷ bs) plain = grind (arith, apart b 35 (plain 0 (omega arith)), uncommented_plain bs (λ i h. plain (suc i) (suc-le-suc h)))

pub uncommented-cut : (xs ys : Bytes) → Plain xs → uncommented (xs ++ (35 ∷ ys)) ≡ xs
uncommented-cut [] ys plain = refl
uncommented-cut (b ∷ bs) ys plain = grind (arith, apart b 35 (plain 0 (omega arith)), uncommented-cut bs ys (λ i h. plain (suc i) (suc-le-suc h)))
