-- A text cut after its first line.
use Rattle.std.proofs.Common.{Bor, Some, None, Option, unwrap_or, ◌≡◌, ℕ, suc, ◌<◌, ◌≤◌, Bool, true, false, cond, eqb, List, [], ◌∷◌, ◌++◌, length, get_or, refl, ap, ◌∙◌, suc-le-suc, not-suc-le-zero, arith}
use Rattle.std.proofs.lemmas.Str.Pattern.{IsSplitOnceResult, split_parts}
use Rattle.script.specs.Spelling.{Bytes}
use Rattle.script_words.specs.Words.{onto}
use Rattle.script_words.specs.Lines.{lines_of}
use Rattle.script_words.proofs.Cuts.{apart}

-- no line feed stands in a text
abbrev pub Unbroken : Bytes → Type 0
Unbroken bs = (i : ℕ) → i < length bs → get_or bs i 0 ≡ 10 → ⊥

pub lines_none : (bs : Bytes) → length bs ≡ 0 → lines_of bs ≡ []
lines_none [] e = refl
lines_none (b ∷ bs) e = absurd (omega arith)

pub lines-first : (line rest : Bytes) → Unbroken line → lines_of (line ++ (10 ∷ rest)) ≡ line ∷ lines_of rest
lines-first [] rest whole = refl
lines-first (b ∷ bs) rest whole = grind (arith, apart b 10 (whole 0 (omega arith)), lines-first bs rest (λ i h. whole (suc i) (suc-le-suc h)))

pub lines_last : (line : Bytes) → 0 < length line → Unbroken line → lines_of line ≡ line ∷ []
lines_last [] some whole = absurd (not-suc-le-zero some)
lines_last (b ∷ []) some whole = grind (arith, apart b 10 (whole 0 (omega arith)))
lines_last (b ∷ x ∷ xs) some whole = grind (arith, apart b 10 (whole 0 (omega arith)), lines_last (x ∷ xs) (omega arith) (λ i h. whole (suc i) (suc-le-suc h)))

-- what is cut off at the first line feed is the first line, and the whole text where there is none
pub first_line : (text : Bytes) (r : Option (Bor Bytes × Bor Bytes)) (whole : Bor Bytes × Bor Bytes) → IsSplitOnceResult 10 text r → 0 < length text → whole.0.now ≡ text → whole.1.now ≡ [] → lines_of text ≡ (unwrap_or r whole).0.now ∷ lines_of (unwrap_or r whole).1.now
first_line text (Some cut) whole split some all none =
    let parts = split_parts 10 text (Some cut) split (omega arith) in
    ap lines_of parts.0 ∙ lines-first cut.0.now cut.1.now parts.1
first_line text None whole split some all none =
    let last : lines_of text ≡ text ∷ [] = lines_last text some (split_parts 10 text None split (omega arith)) in
    let rest : lines_of whole.1.now ≡ [] = ap lines_of none in
    cc

-- no text has more lines than bytes
few_more : (b : ℕ) (ls : List Bytes) (n : ℕ) (ends : Bool) → length ls ≤ n → length (cond ends ([] ∷ ls) (onto b ls)) ≤ suc n
few_more b ls n true h = omega arith
few_more b [] n false h = omega arith
few_more b (l ∷ ls) n false h = omega arith

pub lines_few : (bs : Bytes) → length (lines_of bs) ≤ length bs
lines_few [] = omega arith
lines_few (b ∷ bs) = few_more b (lines_of bs) (length bs) (eqb b 10) (lines_few bs)
