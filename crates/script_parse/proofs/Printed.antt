-- A printed entry is read as the same entry.
use Rattle.std.proofs.Common.{◌≡◌, ℕ, ◌-◌, ◌^◌, ◌<◌, ◌≤◌, true, cond, List, [], ◌∷◌, map, length, Some, None, Ok, Err, decimal, Option, Result, refl, ap, ◌∙◌, arith, rules, le-leb}
use Rattle.std.proofs.lemmas.Fmt.{digits_decimal, digits_value-decimal, decimal_nonempty}
use Rattle.entry.specs.declared.Entry.{Entry}
use Rattle.entry.specs.declared.Entry.TheVariants as made
use Rattle.entry.specs.declared.Side.{Side}
use Rattle.entry.specs.declared.Side.TheVariants.{Buy, Sell}
use Rattle.script.specs.declared.command.Command.{Command}
use Rattle.script.specs.declared.command.Command.TheVariants as asks
use Rattle.script.specs.Spelling.{Bytes, Part, name, figure, code, side_text, entry_parts, PartsFit, Fits}
use Rattle.script.specs.Print.{part_text, entry_text}
use Rattle.script_words.specs.Reading.{number, up_to, before, figure_to, side}
use Rattle.script_parse.specs.Entries.{entry_of_words, entry_of, entry_parsed}
use Rattle.script.specs.Commands.{entry_in}
use Rattle.script_words.specs.Reading as read
use Rattle.script_words.specs.Words.{words_of}
use Rattle.script_words.proofs.Figures.{own, number_of}
use Rattle.script_parse.proofs.Solid.{is_word, solid, digits_solid, AllWords, uncommented-spaced, words_spaced}

number_decimal : (n : ℕ) → n < 2 ^ 32 → number (decimal n) ≡ Some n
number_decimal n h =
    let wide : n < 2 ^ 64 = omega arith in
    grind (arith, number_of, digits_value-decimal own n wide, digits_decimal own n wide, decimal_nonempty n wide)

figure_to_decimal : (most n : ℕ) (ws : List Bytes) → n < 2 ^ 32 → n ≤ most → figure_to most (decimal n ∷ ws) ≡ Some (n, ws)
figure_to_decimal most n ws h k =
    ap (λ o. before ws (up_to most o)) (number_decimal n h) ∙ ap (λ b. before ws (cond b (Some n) None)) (le-leb n most k)

figure_decimal : (n : ℕ) (ws : List Bytes) → n < 2 ^ 32 → read.figure (decimal n ∷ ws) ≡ Some (n, ws)
figure_decimal n ws h = figure_to_decimal (2 ^ 32 - 1) n ws h (omega arith)

code_decimal : (n : ℕ) (ws : List Bytes) → n < 2 ^ 8 → read.code (decimal n ∷ ws) ≡ Some (n, ws)
code_decimal n ws h = figure_to_decimal 255 n ws (omega arith) (omega arith)

side-word : (s : Side) (ws : List Bytes) → side (side_text s ∷ ws) ≡ Some (s, ws)
side-word Buy ws = refl
side-word Sell ws = refl

decimal_word : (n : ℕ) → n < 2 ^ 32 → is_word (decimal n) ≡ true
decimal_word n h =
    let wide : n < 2 ^ 64 = omega arith in
    nonempty (decimal n) (decimal_nonempty n wide) (digits_solid (decimal n) (digits_decimal own n wide))
  where
    nonempty : (w : Bytes) → 0 < length w → solid w ≡ true → is_word w ≡ true
    nonempty [] some e = absurd (omega arith)
    nonempty (b ∷ bs) some e = e

side_is_word : (s : Side) → is_word (side_text s) ≡ true
side_is_word Buy = refl
side_is_word Sell = refl

-- each name among the parts is one word
abbrev Named : List Part → Type 0
Named [] = Unit {0}
Named (name word ∷ parts) = (is_word word ≡ true) × Named parts
Named (figure n ∷ parts) = Named parts
Named (code n ∷ parts) = Named parts

parts_words : (parts : List Part) → PartsFit parts → Named parts → AllWords parts
parts_words [] fits named = tt
parts_words (name word ∷ parts) fits named = (named.0, parts_words parts fits.1 named.1)
parts_words (figure n ∷ parts) fits named = (decimal_word n fits.0, parts_words parts fits.1 named)
parts_words (code n ∷ parts) fits named = (decimal_word n (omega (arith, fits.0)), parts_words parts fits.1 named)

entry_named : (e : Entry) → Named (entry_parts e)
entry_named (made.Clock time) = search rules
entry_named (made.Post time side mode price) = search (rules, side_is_word)
entry_named (made.Leave time side price) = search (rules, side_is_word)
entry_named (made.Trade time mode price quantity) = search rules
entry_named (made.Parameters time params) = search rules
entry_named (made.Reference time session price) = search rules
entry_named (made.Ruling time price) = search rules

words_read : (e : Entry) → Fits e → entry_of_words (map part_text (entry_parts e)) ≡ Some e
words_read (made.Clock time) h = grind (arith, figure_decimal)
words_read (made.Post time side mode price) h = grind (arith, figure_decimal, side-word, code_decimal)
words_read (made.Leave time side price) h = grind (arith, figure_decimal, side-word)
words_read (made.Trade time mode price quantity) h = grind (arith, figure_decimal, code_decimal)
words_read (made.Parameters time params) h = grind (arith, figure_decimal)
words_read (made.Reference time session price) h = grind (arith, figure_decimal, code_decimal)
words_read (made.Ruling time price) h = grind (arith, figure_decimal)

pub entry_read : (e : Entry) → Fits e → entry_of (entry_text e) ≡ Some e
entry_read e h =
    let all = parts_words (entry_parts e) h (entry_named e) in
    ap (λ l. entry_of_words (words_of l)) (uncommented-spaced (entry_parts e) all) ∙ ap entry_of_words (words_spaced (entry_parts e) all) ∙ words_read e h

-- a command that is an entry is that entry's command
entry_command : (command : Command) (e : Entry) → entry_in command ≡ Some e → command ≡ asks.Entry e
entry_command (asks.Entry entry) e h = cc
entry_command (asks.Plan command) e h = cc
entry_command (asks.NewBoard asked) e h = cc
entry_command (asks.Board command) e h = cc
entry_command (asks.Day command) e h = cc

entry_answer : {E : Type 0} (r : Result (Option Command) E) (e : Entry) → entry_parsed r ≡ Some e → r ≡ Ok (Some (asks.Entry e))
entry_answer (Ok None) e h = cc
entry_answer (Ok (Some command)) e h = ap (λ c. Ok (Some c)) (entry_command command e h)
entry_answer (Err fault) e h = cc

-- the answer for any line gives the answer for a printed entry
pub printed-answer : {E : Type 0} (r : Result (Option Command) E) (line : Bytes) → entry_parsed r ≡ entry_of line → (e : Entry) → Fits e → line ≡ entry_text e → r ≡ Ok (Some (asks.Entry e))
printed-answer r line h e fits is = entry_answer r e (h ∙ ap entry_of is ∙ entry_read e fits)
