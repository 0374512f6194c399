-- The record is put at its place.
use Rattle.std.proofs.Common.{◌≡◌, length, take, arith}
use Rattle.std.proofs.lemmas.List.{length-take-le}
use Rattle.shelf.specs.Standing.{live}
use Rattle.shelf.proofs.Order.{sought_err, place_all}
use Rattle.shelf.proofs.Answered.{insert_sound, inserted, insert_kept}
use Rattle.shelf.proofs.Shelf.insert.Goals as goal

pub open_gap-requires-clause-inside : goal.open_gap-requires-clause-inside
open_gap-requires-clause-inside g c =
    let s = c.args.self.now in
    let e : length (take s.len s.records.now) ≡ s.len = length-take-le s.len s.records.now s.fits in
    let p = sought_err g.R.Record.key g.R.Record.before c.get_key.result (live s) c.in-Err.at c.in-Err.ensures in
    let q = place_all g.R.Record.key g.R.Record.before c.get_key.result (live s) in
    omega (arith, p.1, q)

pub invariant_of-self : goal.invariant_of-self
invariant_of-self g c =
    let s = c.args.self.now in
    let o = insert_sound g.R.Record.key g.R.Record.before g.met.R.Record.transitive c.args.item s.records.now c.open_gap.new.records s.len c.in-Err.at c.get_key.result (omega (arith, s.fits, c.if-len-self.false)) s.sorted c.get_key.ensures c.in-Err.ensures c.open_gap.ensures in
    record { fits = o.0; sorted = o.1 }

pub returns-clause-live : goal.returns-clause-live
returns-clause-live g c =
    let s = c.args.self.now in
    inserted g.R.Record.key g.R.Record.before g.met.R.Record.transitive c.args.item s.records.now c.open_gap.new.records s.len c.in-Err.at c.get_key.result (omega (arith, s.fits, c.if-len-self.false)) s.sorted c.get_key.ensures c.in-Err.ensures c.open_gap.ensures

pub returns-clause-records : goal.returns-clause-records
returns-clause-records g c =
    let s = c.args.self.now in
    insert_kept g.R.Record.key g.R.Record.before g.met.R.Record.transitive c.args.item s.records.now c.open_gap.new.records s.len c.in-Err.at c.get_key.result (omega (arith, s.fits, c.if-len-self.false)) s.sorted c.get_key.ensures c.in-Err.ensures c.open_gap.ensures
