-- The answer for a printed entry follows from the answer for any line.
use Rattle.std.proofs.Common.{Some, Ok, rules}
use Rattle.script.specs.declared.faults.LineFault.{LineFault}
use Rattle.script_parse.proofs.Printed.{printed-answer}
use Rattle.script_parse.proofs.parse.parse.Goals as goal

pub returns-in_err-command-clause-printed : goal.returns-in_err-command-clause-printed
returns-in_err-command-clause-printed c = printed-answer c.from_residual.result c.args.line.now (search rules)

pub returns-in_err-end-clause-printed : goal.returns-in_err-end-clause-printed
returns-in_err-end-clause-printed c = printed-answer c.from_residual-in_err-end.result c.args.line.now (search rules)

pub returns-clause-printed : goal.returns-clause-printed
returns-clause-printed c = printed-answer {E = LineFault} (Ok (Some c.in_ok-command.command)) c.args.line.now (search rules)
