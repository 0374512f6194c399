-- Nothing stands at the place, or the record there is drawn out.
use Rattle.std.proofs.Common.{◌≡◌, ◌-◌, length, take, sym, ap, ◌∙◌, arith}
use Rattle.std.proofs.lemmas.List.{length-take-le, take-take}
use Rattle.shelf.specs.Order.{ascends}
use Rattle.shelf.specs.Standing.{live}
use Rattle.shelf.proofs.Order.{ascends_taken}
use Rattle.shelf.proofs.Answered.{removed_past, nth_inside, nth_outside, remove_sound, removed}
use Rattle.shelf.proofs.Shelf.remove.Goals as goal

pub returns-in_err-old-clause-live : goal.returns-in_err-old-clause-live
returns-in_err-old-clause-live g c = removed_past (live c.args.self.now) c.args.at (nth_outside (live c.args.self.now) c.args.at c.in_err-old.ensures)

pub invariant_of-self : goal.invariant_of-self
invariant_of-self g c =
    let s = c.args.self.now in
    let t = take-take (s.len - 1) s.len s.records.now (omega arith) in
    record { fits = omega (arith, s.fits); sorted = ap (ascends g.R.Record.key g.R.Record.before) (sym t) ∙ ascends_taken g.R.Record.key g.R.Record.before (live s) (s.len - 1) s.sorted }

pub close_gap-requires-clause-inside : goal.close_gap-requires-clause-inside
close_gap-requires-clause-inside g c =
    let s = c.args.self.now in
    let e : length (take s.len s.records.now) ≡ s.len = length-take-le s.len s.records.now s.fits in
    let i = nth_inside (live s) c.args.at c.in_ok-old.old c.in_ok-old.ensures in
    omega arith

pub invariant_of-self-2 : goal.invariant_of-self-2
invariant_of-self-2 g c =
    let s = c.args.self.now in
    let o = remove_sound g.R.Record.key g.R.Record.before c.in_ok-old.old s.records.now c.close_gap.new.records s.len c.args.at s.fits s.sorted c.in_ok-old.ensures c.close_gap.ensures in
    record { fits = o.0; sorted = o.1 }

pub returns-clause-live : goal.returns-clause-live
returns-clause-live g c =
    let s = c.args.self.now in
    removed g.R.Record.key g.R.Record.before c.in_ok-old.old s.records.now c.close_gap.new.records s.len c.args.at s.fits s.sorted c.in_ok-old.ensures c.close_gap.ensures
