-- The words, by their number.
use Rattle.std.proofs.Common.{◌≡◌, string_bytes, sym, ◌∙◌, codes, arith, rules}
use Rattle.commands.proofs.ByNumber.{one_of, two_of, three_of}
use Rattle.commands.proofs.request.read_request.Goals as goal

pub returns-in-len1 : goal.returns-in-len1
returns-in-len1 c =
    let command : c.as_str.result.now ≡ codes "--help" = search rules in
    record { answer = one_of string_bytes _ (omega arith) c.command-item.is (sym c.as_str.ensures.value ∙ command) }

pub returns-in-len2 : goal.returns-in-len2
returns-in-len2 c =
    let command : c.as_str-then-words-lt3.result.now ≡ codes "day" = search rules in
    record {
      answer =
          two_of string_bytes _ (omega arith) c.command-item-then-words-lt3.is c.file-item.is (sym c.as_str-then-words-lt3.ensures.value ∙ command)
          (sym c.as_str-in-len2.ensures.value);
    }

pub returns-in-len2-2 : goal.returns-in-len2-2
returns-in-len2-2 c =
    let command : c.as_str-then-words-lt3-2.result.now ≡ codes "decode" = search rules in
    record {
      answer =
          two_of string_bytes _ (omega arith) c.command-item-then-words-lt3-2.is c.feed-item.is (sym c.as_str-then-words-lt3-2.ensures.value ∙ command)
          (sym c.as_str-in-len2-2.ensures.value);
    }

pub returns-in-len3 : goal.returns-in-len3
returns-in-len3 c =
    let command : c.as_str-then-words-lt4.result.now ≡ codes "encode" = search rules in
    record {
      answer =
          three_of string_bytes _ (omega arith) c.command-item-then-words-lt4.is c.script-item.is c.feed-item-then-words-lt4.is
          (sym c.as_str-then-words-lt4.ensures.value ∙ command) (sym c.as_str-in-len3.ensures.value) (sym c.as_str-in-len3-2.ensures.value);
    }
