-- What `parse` reads of a word without a sign is its number.
use Rattle.std.proofs.Common.{◌≡◌, ℕ, ◌^◌, ◌<◌, Bool, true, ◌&&◌, ltb, length, get_or, Some, None, Ok, Err, Result, sym, ap, ◌∙◌, arith}
use Rattle.std.specs.Result.{OkIff, result_ok}
use Rattle.std.specs.Str.Parse.{digits_value, ParsesUnsigned}
use Rattle.std.specs.Str.{all_ascii_digits}
use Rattle.std.proofs.lemmas.Str.Parse.{IsNumeralModel, numerals_by_value, tells_all_ascii_digits, parse_plain}
use Rattle.std.proofs.lemmas.Bool.Decides.{nat_tests}
use Rattle.script.specs.Spelling.{Bytes}
use Rattle.script_words.specs.Reading.{number}

pub own : IsNumeralModel (λ ds. all_ascii_digits ds ≡ true) (digits_value 10)
own = numerals_by_value _ tells_all_ascii_digits

abbrev Numeric : Bytes → Type 0
Numeric w = (all_ascii_digits w ≡ true) × (0 < length w) × (digits_value 10 w < 2 ^ 32)

all_three : (a : Bool) (m n : ℕ) → a ≡ true → 0 < m → n < 2 ^ 32 → (a && (ltb 0 m && ltb n (2 ^ 32))) ≡ true
all_three a m n e h k = grind (arith, nat_tests)

each_of_three : (a : Bool) (m n : ℕ) → (a && (ltb 0 m && ltb n (2 ^ 32))) ≡ true → (a ≡ true) × (0 < m) × (n < 2 ^ 32)
each_of_three a m n e = (grind (arith, nat_tests), grind (arith, nat_tests), grind (arith, nat_tests))

pub number_of : (w : Bytes) → Numeric w → number w ≡ Some (digits_value 10 w)
number_of w h = grind (arith, nat_tests)

not_number : (w : Bytes) → (Numeric w → ⊥) → None ≡ number w
not_number w h = grind (arith, nat_tests)

pub number_read : {E : Type 0} (w : Bytes) (r : Result ℕ E) → ParsesUnsigned 32 10 w r → (get_or w 0 0 ≡ 43 → ⊥) → result_ok r ≡ number w
number_read w r h plain = converted r (parse_plain own 32 w r h plain)
  where
    converted : {E : Type 0} (r : Result ℕ E) → OkIff r (Numeric w) (digits_value 10 w) → result_ok r ≡ number w
    converted (Ok x) h = ap (λ n. Some n) h.1 ∙ sym (number_of w h.0)
    converted (Err e) h = not_number w h
