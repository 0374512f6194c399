-- A cut beside a blank falls between characters, and what stands between two cuts is the first word.
use Rattle.std.proofs.Common.{◌≡◌, Some, ◌∙◌, sym}
use Rattle.std.specs.List.{position, position_or_len}
use Rattle.script_words.specs.Words.{is_blank}
use Rattle.script_words.proofs.Cuts.{not_blank, boundary_start, boundary_end, place_or_length, first_cut, no_words}
use Rattle.script_words.proofs.words.first_word.Goals as goal
use Rattle.script_words.proofs.words.first_word.Goals.{In_ok-word_start, After-unwrap_or-end}

start : (c : In_ok-word_start) → position not_blank c.args.text.now ≡ Some c.in_ok-word_start.field-0
start c = sym c.word_start.ensures.answer ∙ c.in_ok-word_start.was

end : (c : After-unwrap_or-end) → c.unwrap_or-end.result ≡ position_or_len is_blank c.split_at.result.1.now
end c = c.unwrap_or-end.ensures ∙ place_or_length _ _ c.first_blank.ensures.answer

pub returns-in_err-word_start : goal.returns-in_err-word_start
returns-in_err-word_start c = rw c.from_residual.ensures (record { answer = no_words c.args.text.now (sym c.word_start.ensures.answer ∙ c.in_err-word_start.was) })

pub split_at-requires : goal.split_at-requires
split_at-requires c = boundary_start _ _ c.utf8.text (start c)

pub split_at-requires-2 : goal.split_at-requires-2
split_at-requires-2 c = rw (end c) (boundary_end c.split_at.result.1.now)

pub returns : goal.returns
returns c =
    let cut = first_cut c.args.text.now c.split_at.result.1.now c.in_ok-word_start.field-0 (start (goal.at.returns c).In_ok-word_start) c.split_at.ensures.back in
    record { answer = simp (c.split_at-2.ensures.front, c.split_at-2.ensures.back, end (goal.at.returns c).After-unwrap_or-end) cut }
