-- The record is written over one with its key.
use Rattle.std.proofs.Common.{rules, ◌≡◌, ◌<◌, Bool, length, take, sym, ap, ◌∙◌, arith}
use Rattle.std.proofs.lemmas.List.{length-take-le}
use Rattle.shelf.specs.Standing.{live}
use Rattle.shelf.proofs.Answered.{nth_inside, replace_sound, replaced, replace_kept}
use Rattle.shelf.proofs.Shelf.replace.Goals as goal

-- a test of two keys that were read
tested : {K : Type 0} {j k x y : K} {v : Bool} (before : K → K → Bool) → j ≡ x → k ≡ y → v ≡ before j k → before x y ≡ v
tested {k = k} {x = x} before p q e = sym (e ∙ ap (λ a. before a k) p ∙ ap (before x) q)

pub offset_bounds-self-at : goal.offset_bounds-self-at
offset_bounds-self-at g c =
    let s = c.args.self.now in
    let e : length (take s.len s.records.now) ≡ s.len = length-take-le s.len s.records.now s.fits in
    let i = nth_inside (live s) c.args.at c.in_ok-old.old (search rules) in
    let l : c.args.at < length s.records.now = omega (arith, s.fits) in
    search rules

pub bounds-self-at : goal.bounds-self-at
bounds-self-at g c =
    let s = c.args.self.now in
    let e : length (take s.len s.records.now) ≡ s.len = length-take-le s.len s.records.now s.fits in
    let i = nth_inside (live s) c.args.at c.in_ok-old.old (search rules) in
    omega (arith, s.fits)

pub invariant_of-self : goal.invariant_of-self
invariant_of-self g c =
    let s = c.args.self.now in
    let o = replace_sound g.R.Record.key g.R.Record.before g.met.R.Record.total c.args.item c.in_ok-old.old s.records.now s.len c.args.at s.fits s.sorted (search rules) (tested g.R.Record.before c.get_key-standing.ensures c.get_key-key.ensures c.if-precedes.ensures) (tested g.R.Record.before c.get_key-key.ensures c.get_key-standing.ensures c.if-precedes-2.ensures) in
    record { fits = o.0; sorted = o.1 }

pub returns-clause-live : goal.returns-clause-live
returns-clause-live g c =
    let s = c.args.self.now in
    replaced g.R.Record.key g.R.Record.before g.met.R.Record.total c.args.item c.in_ok-old.old s.records.now s.len c.args.at s.fits s.sorted (search rules) (tested g.R.Record.before c.get_key-standing.ensures c.get_key-key.ensures c.if-precedes.ensures) (tested g.R.Record.before c.get_key-key.ensures c.get_key-standing.ensures c.if-precedes-2.ensures)

pub returns-clause-records : goal.returns-clause-records
returns-clause-records g c =
    let s = c.args.self.now in
    replace_kept g.R.Record.key g.R.Record.before g.met.R.Record.total c.args.item c.in_ok-old.old s.records.now s.len c.args.at s.fits s.sorted (search rules) (tested g.R.Record.before c.get_key-standing.ensures c.get_key-key.ensures c.if-precedes.ensures) (tested g.R.Record.before c.get_key-key.ensures c.get_key-standing.ensures c.if-precedes-2.ensures)
