-- Past the record that has the key, or at the key's place.
use Rattle.std.proofs.Common.{◌≡◌, suc, ◌+◌, length, take, ap, ◌∙◌, add-one, arith}
use Rattle.std.proofs.lemmas.List.{length-take-le}
use Rattle.std.specs.List.{slice_get}
use Rattle.shelf.specs.Order.{place}
use Rattle.shelf.specs.Standing.{live}
use Rattle.shelf.proofs.Order.{sought_ok, sought_err, place_inside, after_found, after_missing}
use Rattle.shelf.proofs.Shelf.after.Goals as goal

pub overflow_add-at : goal.overflow_add-at
overflow_add-at g c =
    let s = c.args.self.now in
    let e : length (take s.len s.records.now) ≡ s.len = length-take-le s.len s.records.now s.fits in
    let o = sought_ok g.R.Record.key g.R.Record.before c.args.key (live s) c.in-Ok.at c.in-Ok.ensures in
    let l = place_inside g.R.Record.key g.R.Record.before c.args.key (live s) o.0 in
    omega (arith, o.1)

pub returns-in-Ok : goal.returns-in-Ok
returns-in-Ok g c =
    let s = c.args.self.now in
    let key = g.R.Record.key in
    let before = g.R.Record.before in
    let o = sought_ok key before c.args.key (live s) c.in-Ok.at c.in-Ok.ensures in
    let k : c.in-Ok.at + 1 ≡ suc (place key before c.args.key (live s)) = add-one c.in-Ok.at ∙ ap suc o.1 in
    c.get.ensures ∙ ap (slice_get (live s)) k ∙ after_found key before g.met.R.Record.transitive g.met.R.Record.irreflexive g.met.R.Record.total c.args.key (live s) s.sorted o.0

pub returns-in-Err : goal.returns-in-Err
returns-in-Err g c =
    let s = c.args.self.now in
    let key = g.R.Record.key in
    let before = g.R.Record.before in
    let o = sought_err key before c.args.key (live s) c.in-Err.at c.in-Err.ensures in
    c.get-in-Err.ensures ∙ ap (slice_get (live s)) o.1 ∙ after_missing key before g.met.R.Record.transitive g.met.R.Record.irreflexive g.met.R.Record.total c.args.key (live s) o.0
