use Rattle.std.proofs.Common.{◌≡◌, ℕ, ◌+◌, ◌*◌, ◌^◌, ◌<◌, ◌≤◌, drop}
use Rattle.feed.specs.Cursor.{Wrote}
use Rattle.feed.proofs.cursor.Cursor.put.Given as goal

abbrev pub invariant-loop-held : goal.invariant-loop-held
invariant-loop-held l =
    (l.held ≤ 40)
    × (8 * l.at + l.held ≡ 8 * l.initial.at + l.initial.held)
    × (l.rest < 2 ^ l.held)
    × ((n : ℕ) → Wrote l.initial.out l.initial.at l.initial.held l.initial.rest n → Wrote l.out l.at l.held l.rest n)
    × (drop l.at l.out ≡ drop l.at l.initial.out)

abbrev pub decreases-loop-held : goal.decreases-loop-held
decreases-loop-held l = l.held
