use Rattle.std.proofs.Common.{◌≡◌, ℕ, List, [], Some, Ok, vec_items, Option, sym, ap, ◌∙◌, subst}
use Rattle.entry.specs.declared.Entry.{Entry}
use Rattle.entry.specs.declared.refusals.Refusal.{Refusal}
use Rattle.layout.specs.Laws.{Gives, ReadWhole}
use Rattle.layout.specs.Reading.{next, taken, place_after, seen_after}
use Rattle.layout.proofs.Feeds.{gives_more, gives_all, whole_back, one-whole}
use Rattle.feed.proofs.whole.read.Goals.{in-Ok-None, in-Err-next}
use Rattle.feed.proofs.whole.read.Goals as goal

pub loop-entry-preserved : goal.loop-entry-preserved
loop-entry-preserved c =
    let was = c.loop-entry.reader in
    let came = c.in-Ok-Some.ensures in
    let some : c.in-Ok-Some.field-0 ≡ Some c.in-Ok-Some.entry = c.in-Ok-Some.field-0-is in
    let answered = ap (λ (x : Option Entry). Ok x) (sym some) ∙ (came.answer ∙ ap (λ (x : List ℕ). next x was.at was.seen) c.loop-entry.invariant.0) in (
      ap (λ x. x.now) came.kept ∙ c.loop-entry.invariant.0,
      gives_more c.args.feed.now (vec_items c.loop-entry.entries) was.at was.seen c.loop-entry.invariant.1 c.in-Ok-Some.entry (vec_items c.push.new.self)
          c.next.new.self.at
          c.next.new.self.seen
          answered
          c.in_ok-push-in-Ok-Some.ensures.items
          (came.place ∙ ap (λ (x : Option Entry). place_after (Ok x) was.at) some)
          (came.seen ∙ ap (λ (x : Option Entry). seen_after (Ok x) was.seen) some),
    )

pub returns : goal.returns
returns c =
    let was = c.loop-entry.reader in
    let items = vec_items c.loop-entry.entries in
    let here = ap (λ (x : List ℕ). next x was.at was.seen) c.loop-entry.invariant.0 in
    let last : Gives c.args.feed.now was.at was.seen [] c.match-next.fault =
    elim c.match-next.branch [
      | in-Ok-None w ↦
          subst (λ (x : Option Refusal). Gives c.args.feed.now was.at was.seen [] x) (sym w.fault-is)
          (sym (ap (λ (x : Option Entry). Ok x) (sym w.in-Ok-None.field-0-is) ∙ (w.in-Ok-None.ensures.answer ∙ here)))
      | in-Err-next w ↦
          subst (λ (x : Option Refusal). Gives c.args.feed.now was.at was.seen [] x) (sym w.fault-is) (sym (w.in-Err-next.ensures.answer ∙ here))
    ] in
    let ok : taken c.args.feed.now ≡ Ok tt = sym c.in_default.ensures.answer in
    let all : ReadWhole c.args.feed.now items c.match-next.fault = gives_all c.args.feed.now items was.at was.seen c.loop-entry.invariant.1 c.match-next.fault last ok in
    record {
      answer = all;
      once = λ es fault. one-whole c.args.feed.now es items fault c.match-next.fault all;
      back = λ p. whole_back c.args.feed.now items (λ i. (c.type_inv.feed i).fits) ok (subst (λ (x : Option Refusal). ReadWhole c.args.feed.now items x) p all);
    }
