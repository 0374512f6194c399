-- The words of a line are those before its comment.
use Rattle.std.proofs.Common.{◌≡◌, Bor, Some, None, Option, unwrap_or, refl, sym, ap, ◌∙◌, arith}
use Rattle.std.proofs.lemmas.Str.Pattern.{IsSplitOnceResult, split_parts}
use Rattle.script.specs.Spelling.{Bytes}
use Rattle.script_words.specs.Words.{words_of, uncommented}
use Rattle.script_words.proofs.Cuts.{uncommented-cut, uncommented_plain}
use Rattle.script_words.proofs.words.Words.new.Goals as goal

before_comment : (line : Bytes) (cut : Option (Bor Bytes × Bor Bytes)) (whole : Bor Bytes × Bor Bytes) → IsSplitOnceResult 35 line cut → whole.0.now ≡ line → words_of (unwrap_or cut whole).0.now ≡ words_of (uncommented line)
before_comment line (Some x) whole cases all =
    let parts = split_parts 35 line (Some x) cases (omega arith) in
    ap words_of (sym (ap uncommented parts.0 ∙ uncommented-cut _ _ parts.1))
before_comment line None whole cases all =
    ap words_of (all ∙ sym (uncommented_plain _ (split_parts 35 line None cases (omega arith))))

pub returns : goal.returns
returns c = rw c.unwrap_or.ensures (record { made = before_comment c.args.line.now c.split_once.result _ c.split_once.ensures.cases refl })
