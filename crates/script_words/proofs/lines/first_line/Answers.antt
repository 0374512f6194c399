-- The first line ends at the first line feed.
use Rattle.std.proofs.Common.{◌<◌, length, refl, arith, true-eqb, false-eqb}
use Rattle.script_words.proofs.Split.{lines_none, first_line}
use Rattle.script_words.proofs.lines.first_line.Goals as goal

pub returns-then-is_empty : goal.returns-then-is_empty
returns-then-is_empty c = record { answer = lines_none c.args.text.now (true-eqb _ 0 c.if-is_empty.ensures) }

pub returns : goal.returns
returns c =
    let some : 0 < length c.args.text.now = omega (arith, false-eqb _ 0 c.if-is_empty.ensures) in
    rw c.unwrap_or.ensures (record { answer = first_line c.args.text.now c.split_once.result _ c.split_once.ensures.cases some refl refl })
