-- The word for the records stands in the text.
use Rattle.std.proofs.Common.{◌≡◌, IfOk, string_bytes, subst}
use Rattle.commands.specs.Listing.{counted_with}
use Rattle.commands.proofs.listing.counted.Goals as goal

pub returns : goal.returns
returns c =
    record {
      answer =
          subst (λ word. IfOk c.format.result (λ text. string_bytes text ≡ counted_with word c.args.records c.args.bytes)) c.record_word-word.ensures.answer
          c.format.ensures.ok;
    }
