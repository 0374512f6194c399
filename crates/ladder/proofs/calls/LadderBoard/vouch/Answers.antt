-- What holds of every board holds of the ladder.
use Rattle.std.proofs.Common.{arith}
use Rattle.std.proofs.lemmas.List.{length-take-le}
use Rattle.shelf.specs.Standing.{live, held}
use Rattle.ladder.specs.Standing.{side_room}
use Rattle.ladder.proofs.Soundness.{sound_of, counts_told}
use Rattle.ladder.proofs.calls.LadderBoard.vouch.Goals as goal

pub returns : goal.returns
returns c =
    let l = c.args.self.now in
    let b = l.buys.shelf in
    let s = l.sells.shelf in
    let n = counts_told (side_room l.buys) (side_room l.sells) l.counts in
    let bl = length-take-le b.len (held b) b.fits in
    let sl = length-take-le s.len (held s) s.fits in
    sound_of (live b) (live s) (side_room l.buys) n.0 (omega (arith, b.fits)) (omega (arith, s.fits, n.1)) b.sorted s.sorted l.buys.proper l.sells.proper
