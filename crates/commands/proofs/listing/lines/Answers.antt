-- Each turn adds the line of the next entry.
use Rattle.std.proofs.Common.{ℕ, List, ◌++◌, get_or, take, sym, ap, ◌∙◌}
use Rattle.entry.specs.declared.Entry.TheVariants.{Clock}
use Rattle.std.proofs.lemmas.List.{take_more}
use Rattle.commands.specs.Listing.{lines_text}
use Rattle.commands.proofs.LinesText.{line, lines_push}
use Rattle.commands.proofs.listing.lines.Goals as goal

pub loop-entry-preserved : goal.loop-entry-preserved
loop-entry-preserved c =
    let es = c.args.entries.now in
    let i = c.loop-entry.entry-index in
    let next = get_or es i (Clock 0) in
    c.in_ok-writeln.ensures.bytes
    ∙ ap (λ (l : List ℕ). l ++ line next) c.loop-entry.invariant
    ∙ sym (lines_push (take i es) next)
    ∙ ap lines_text (sym (take_more es i (Clock 0) c.loop-entry-test.true))
