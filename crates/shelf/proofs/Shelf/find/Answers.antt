-- The record at the key's place tells whether the key stands.
use Rattle.std.proofs.Common.{not, sym, ap, ◌∙◌}
use Rattle.std.specs.List.{slice_get}
use Rattle.shelf.specs.Standing.{live}
use Rattle.shelf.proofs.Order.{stands_read, stands_none, ok_sought, err_sought}
use Rattle.shelf.proofs.Shelf.find.Goals as goal

pub returns-in-Some : goal.returns-in-Some
returns-in-Some g c =
    let before = g.R.Record.before in
    let xs = live c.args.self.now in
    let read = stands_read g.R.Record.key before c.args.key xs c.in-Some.record (c.in-Some.ensures ∙ ap (slice_get xs) c.place-at.ensures) in
    ok_sought g.R.Record.key before c.args.key xs _ c.place-at.ensures (read ∙ ap (λ k. not (before c.args.key k)) (sym c.get_key.ensures) ∙ sym (ap not c.if-not-precedes.ensures))

pub returns-in_default : goal.returns-in_default
returns-in_default g c =
    let before = g.R.Record.before in
    let xs = live c.args.self.now in
    let read = stands_read g.R.Record.key before c.args.key xs c.in-Some.record (c.in-Some.ensures ∙ ap (slice_get xs) c.place-at.ensures) in
    err_sought g.R.Record.key before c.args.key xs _ c.place-at.ensures (read ∙ ap (λ k. not (before c.args.key k)) (sym c.get_key.ensures) ∙ sym (ap not c.if-not-precedes.ensures))

pub returns-in_default-2 : goal.returns-in_default-2
returns-in_default-2 g c =
    let xs = live c.args.self.now in
    err_sought g.R.Record.key g.R.Record.before c.args.key xs _ c.place-at.ensures
    (stands_none g.R.Record.key g.R.Record.before c.args.key xs (sym c.in_default.is ∙ c.get.ensures ∙ ap (slice_get xs) c.place-at.ensures))
