use Rattle.std.proofs.Common.{rules, ◌≡◌, ℕ, ◌-◌, ◌<◌, ◌≤◌, List, ◌++◌, length, take, Err, vec_items, sym, refl, ap, ◌∙◌, inl, inr, arith}
use Rattle.std.proofs.lemmas.List.{length-take-le}
use Rattle.entry.specs.declared.refusals.Refusal.{Refusal}
use Rattle.feed.specs.declared.whole.WriteFault.{WriteFault}
use Rattle.feed.specs.declared.whole.WriteFault.TheVariants.{Refused, NoMemory}
use Rattle.layout.specs.Layout.{record_of}
use Rattle.layout.proofs.Feeds.{holds_more}
use Rattle.layout.proofs.Written.{refused_there, written_there}
use Rattle.feed.proofs.Appended.{too_wide_behind, too_long_behind, goes_behind}
use Rattle.feed.proofs.whole.append.Goals as goal

pub returns-in_err-size-clause-answer : goal.returns-in_err-size-clause-answer
returns-in_err-size-clause-answer c =
    let why : Refusal = c.in_err-size.field-0.0 in
    let refused = refused_there c.args.entry _ refl why c.in_err-size.ensures.answer in
    let told : c.from_residual.result ≡ Err (Refused why) = search rules in
    inl (told ∙ (ap (λ (x : Refusal). Err (Refused x)) refused.1 ∙ sym (too_wide_behind (vec_items c.args.feed.now) c.args.entry refused.0)))

pub overflow_sub-size : goal.overflow_sub-size
overflow_sub-size c = let written = written_there c.args.entry _ refl c.in_ok-size.size c.in_ok-size.ensures.answer in omega (arith, written.2)

pub returns-then-len-size-clause-answer : goal.returns-then-len-size-clause-answer
returns-then-len-size-clause-answer c =
    let written = written_there c.args.entry _ refl c.in_ok-size.size c.in_ok-size.ensures.answer in
    let more : 65536 - c.in_ok-size.size < length (vec_items c.args.feed.now) = omega (arith, c.args.feed.now.ok.0) in
    inl (ap (λ (x : WriteFault). Err x) c.into.ensures ∙ sym (too_long_behind (vec_items c.args.feed.now) c.args.entry c.in_ok-size.size written.0 written.1 more))

pub slice_bounds-record-end : goal.slice_bounds-record-end
slice_bounds-record-end c =
    let written = written_there c.args.entry _ refl c.in_ok-size.size c.in_ok-size.ensures.answer in omega (arith, written.2, c.encode.auto.out)

pub slice_bounds-extend_from_slice-end : goal.slice_bounds-extend_from_slice-end
slice_bounds-extend_from_slice-end c =
    let written = written_there c.args.entry _ refl c.in_ok-size.size c.in_ok-size.ensures.answer in
    sym (length-take-le c.in_ok-size.size c.encode.new.out (omega (arith, written.2, c.encode.auto.out)))

pub returns-in_err-extend_from_slice-clause-answer : goal.returns-in_err-extend_from_slice-clause-answer
returns-in_err-extend_from_slice-clause-answer c =
    let written = written_there c.args.entry _ refl c.in_ok-size.size c.in_ok-size.ensures.answer in
    let few : length (vec_items c.args.feed.now) ≤ 65536 - c.in_ok-size.size = omega (arith, c.args.feed.now.ok.0) in
    let told : c.from_residual-in_err-extend_from_slice.result ≡ Err NoMemory = search rules in
    inr (goes_behind (vec_items c.args.feed.now) c.args.entry c.in_ok-size.size written.0 written.1 written.2 few, told)

pub returns : goal.returns
returns c =
    let written = written_there c.args.entry _ refl c.in_ok-size.size c.in_ok-size.ensures.answer in
    let few : length (vec_items c.args.feed.now) ≤ 65536 - c.in_ok-size.size = omega (arith, c.args.feed.now.ok.0) in
    let grown : vec_items c.extend_from_slice.new.self ≡ vec_items c.args.feed.now ++ record_of c.args.entry =
    c.in_ok-extend_from_slice.ensures.items ∙ ap (λ (x : List ℕ). vec_items c.args.feed.now ++ x) (ap (take c.in_ok-size.size) c.in_ok-size.ensures.after ∙ written.3) in
    record {
      answer = inl (sym (goes_behind (vec_items c.args.feed.now) c.args.entry c.in_ok-size.size written.0 written.1 written.2 few));
      after = grown;
      holds = holds_more (vec_items c.args.feed.now) (vec_items c.extend_from_slice.new.self) c.args.entry written.0 grown;
    }
