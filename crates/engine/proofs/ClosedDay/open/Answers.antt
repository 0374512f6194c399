-- An accepted open starts a day for which the promise holds; a refused one is refused by the table.
use Rattle.std.proofs.Common.{sym, ◌∙◌, rules}
use Rattle.engine.proofs.Openings.{open_ok, open_err}
use Rattle.engine.proofs.ClosedDay.open.Goals as goal

pub returns-in-Ok : goal.returns-in-Ok
returns-in-Ok g c = record {
  answer = search rules;
  promise = open_ok _ c.args.self c.args.time c.args.params c.begun.result (sym c.may_open.ensures ∙ c.in-Ok.is) c.begun.ensures;
}

pub returns-in-Err : goal.returns-in-Err
returns-in-Err g c = record {
  answer = search rules;
  promise = open_err _ c.args.self c.args.time c.args.params c.in-Err.refusal (sym c.may_open.ensures ∙ c.in-Err.is);
}
