-- What a run keeps from turn to turn: the entries to come end where all of them would, and the trail is right up to here.
use Rattle.std.proofs.Common.{◌≡◌, ◌≤◌, ◌++◌, length, take, drop}
use Rattle.rules.specs.Runs.{final, lines}
use Rattle.engine.specs.Calls.{state_of}
use Rattle.engine.proofs.OpenDay.run.Given as goal

abbrev pub invariant-loop-i : goal.invariant-loop-i
invariant-loop-i g l =
    let hours = g.P.Plan.hours l.plan in
    let here = state_of l.self (g.B.Board.book l.board) in
    let start = state_of l.initial.self (g.B.Board.book l.initial.board) in
    (length l.entries ≤ length l.trail)
    × (final hours here (drop l.i l.entries) ≡ final hours start l.entries)
    × (take l.i l.trail ++ lines hours here (drop l.i l.entries) ≡ lines hours start l.entries)
    × (drop l.i l.trail ≡ drop l.i l.initial.trail)
    × (g.B.Board.loans l.board ≡ g.B.Board.loans l.initial.board)
