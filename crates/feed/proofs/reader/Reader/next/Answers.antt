use Rattle.std.proofs.Common.{rules, ◌≡◌, Ok, Err, Option, Result, sym, subst}
use Rattle.std.proofs.lemmas.List.{take_rest}
use Rattle.entry.specs.declared.Entry.{Entry}
use Rattle.entry.specs.declared.refusals.Refusal.{Refusal}
use Rattle.layout.specs.Laws.{Faithful}
use Rattle.layout.proofs.Feeds.{faithful}
use Rattle.feed.proofs.reader.Reader.next.Goals as goal

pub returns-in_err-entry-clause-faithful : goal.returns-in_err-entry-clause-faithful
returns-in_err-entry-clause-faithful c =
    let me = c.args.self.now in
    let why : Refusal = c.in_err-entry.field-0.0 in
    let same : c.from_residual.result ≡ Err why = search rules in
    subst (λ (x : Result (Option Entry) Refusal). Faithful me.feed.now me.at me.seen x) (sym same)
    (faithful me.feed.now _ me.at me.seen (Err why) (take_rest me.feed.now me.at) c.in_err-entry.ensures.bytes c.in_err-entry.ensures.answer)

pub returns-clause-faithful : goal.returns-clause-faithful
returns-clause-faithful c =
    let me = c.args.self.now in
    faithful me.feed.now _ me.at me.seen (Ok c.in_ok-entry.entry) (take_rest me.feed.now me.at) c.in_ok-entry.ensures.bytes c.in_ok-entry.ensures.answer
