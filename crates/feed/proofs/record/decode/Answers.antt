use Rattle.std.proofs.Common.{◌≡◌, ℕ, ◌-◌, ◌/◌, ◌≤◌, true, List, length, get_or, take, MatchResult, is_ok, Some, None, Ok, Err, Option, Result, sym, ap, ◌∙◌, arith, eqb, ne_eqb}
use Rattle.std.proofs.lemmas.Bool.{cond-false}
use Rattle.entry.specs.Kinds.{of_code, kind_from}
use Rattle.entry.specs.declared.codes.UnknownCode.{UnknownCode}
use Rattle.entry.specs.declared.kinds.Kind.{Kind}
use Rattle.entry.specs.declared.refusals.Refusal.{Refusal}
use Rattle.entry.specs.declared.refusals.Refusal.TheVariants as why
use Rattle.entry.specs.declared.Entry.{Entry}
use Rattle.layout.specs.Bits.{field, fields}
use Rattle.layout.specs.Layout.{widths, size, bits_for, spare_for, entry_of}
use Rattle.layout.specs.Reading.{further}
use Rattle.layout.proofs.Decoded.{record_there}
use Rattle.layout.proofs.Lawful.{read_whole}
use Rattle.feed.proofs.record.decode.Goals as goal

-- a code that gave a kind is that kind's
known_by :
    (P : UnknownCode → Type 0) (n : ℕ) (o : Option Kind) (t : Result Kind UnknownCode) (kind : Kind) → t ≡ of_code n o → true ≡ is_ok t →
    MatchResult t (λ x. ◌≡◌ {A = Result Kind Refusal} (Ok kind) (Ok x)) P → o ≡ Some kind
known_by P n None (Ok x) kind e ok p = absurd (let z : ◌≡◌ {A = ℕ} 0 1 = cc in omega arith)
known_by P n (Some y) (Ok x) kind e ok p = let same : y ≡ kind = cc in ap (λ (k : Kind). Some k) same
known_by P n o (Err f) kind e ok p = absurd (let z : ◌≡◌ {A = ℕ} 0 1 = cc in omega arith)

pub returns-then-bits-ne0-clause-answer : goal.returns-then-bits-ne0-clause-answer
returns-then-bits-ne0-clause-answer c =
    let bs = c.args.src.now in
    let kind = c.in_ok-kind.kind in
    let known = known_by _ _ (kind_from (get_or bs 0 0 / 16)) c.try_from.result kind c.try_from.ensures c.in_ok-kind.ensures.variant c.in_ok-kind.ensures.cases in
    let there = (rw c.in_ok-record.ensures.ok_part at c.get.ensures.lookup).0 in
    let long : size kind ≤ length bs = omega (arith, there.1, c.size-size.ensures.answer) in
    let whole : c.size-size.result - 0 ≡ size kind = omega (arith, c.size-size.ensures.answer) in
    let record-is : c.in_ok-record.record.now ≡ take (size kind) bs = there.2 ∙ ap (λ (n : ℕ). take n bs) whole in
    let spare : ℕ = field (take (size kind) bs) (bits_for (widths kind)) (spare_for (widths kind)) in
    let read : c.bits.result ≡ spare = cc in
    ap (λ (b : ℕ). Err (why.SpareBitSet (further c.args.place b))) c.bits-used.ensures.answer
    ∙ sym (record_there bs c.args.place kind known long ∙ cond-false (eqb spare 0) _ _ (ne_eqb spare 0 (λ z. c.if-bits-ne0.true (read ∙ z))))

pub returns-clause-answer : goal.returns-clause-answer
returns-clause-answer c =
    let bs = c.args.src.now in
    let kind = c.in_ok-kind.kind in
    let known = known_by _ _ (kind_from (get_or bs 0 0 / 16)) c.try_from.result kind c.try_from.ensures c.in_ok-kind.ensures.variant c.in_ok-kind.ensures.cases in
    let there = (rw c.in_ok-record.ensures.ok_part at c.get.ensures.lookup).0 in
    let long : size kind ≤ length bs = omega (arith, there.1, c.size-size.ensures.answer) in
    let whole : c.size-size.result - 0 ≡ size kind = omega (arith, c.size-size.ensures.answer) in
    let record-is : c.in_ok-record.record.now ≡ take (size kind) bs = there.2 ∙ ap (λ (n : ℕ). take n bs) whole in
    let zero : field (take (size kind) bs) (bits_for (widths kind)) (spare_for (widths kind)) ≡ 0 = cc in
    ap (λ (e : Entry). Ok e) (c.entry_of.ensures.answer ∙ ap (λ (x : List ℕ). entry_of kind (fields x 4 (widths kind))) record-is)
    ∙ sym (read_whole bs c.args.place kind known long zero)
