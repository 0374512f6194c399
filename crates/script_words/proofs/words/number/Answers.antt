-- What `parse` reads of a word without a sign.
use Rattle.std.proofs.Common.{◌≡◌, Bool, true, false, sym, ◌∙◌, arith}
use Rattle.std.proofs.lemmas.Str.Pattern.{starts_char}
use Rattle.script_words.proofs.Figures.{number_read}
use Rattle.script_words.proofs.words.number.Goals as goal

pub returns : goal.returns
returns c =
    let plus = starts_char 43 c.args.word.now _ c.starts_with.ensures.cases (omega arith) (omega arith) in
    record { answer = c.ok.ensures.value ∙ number_read c.args.word.now c.parse.result c.parse.ensures.value.0 (λ e. let both : ◌≡◌ {A = Bool} false true = sym c.if-starts_with.false ∙ plus.1 e in cc) }
