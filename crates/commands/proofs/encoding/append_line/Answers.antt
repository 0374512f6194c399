-- Why the writer refused.
use Rattle.std.proofs.Common.{◌≡◌, Some, Ok, vec_items, sym, ap, ◌∙◌}
use Rattle.script.specs.declared.faults.LineFault.{LineFault}
use Rattle.script_parse.specs.Entries.{entry_of, entry_parsed}
use Rattle.commands.specs.Encoding.{Flawed}
use Rattle.commands.proofs.Flaws.{flawed, flawed_so}
use Rattle.commands.proofs.encoding.append_line.Goals as goal

pub returns-in_err-append : goal.returns-in_err-append
returns-in_err-append c =
    let is : entry_of c.args.line.now ≡ Some c.in-Some-entry.entry =
    sym c.in_ok-command.ensures.answer ∙ ap (λ o. entry_parsed {E = LineFault} (Ok o)) c.in-Some.is ∙ sym c.in-Some-entry.ensures.answer in
    let fault = c.in_err-append.field-0.0 in
    record {
      answer =
          flawed_so _ (Flawed (vec_items c.args.feed.now) (entry_of c.args.line.now)) c.from_residual-in_err-append.result c.from_residual-in_err-append.ensures.1
          (flawed (vec_items c.args.feed.now) c.in-Some-entry.entry (entry_of c.args.line.now) is fault c.in_err-append.ensures.answer);
    }
