-- The laws of whole feeds.
use Rattle.std.proofs.Common.{◌≡◌, ℕ, ◌+◌, ◌≤◌, true, eqb, List, [], ◌∷◌, ◌++◌, length, take, drop, Some, None, Ok, Err, Option, Result, sym, refl, ap, ◌∙◌, subst, inl, inr, append_assoc, append-nil, arith, eq-eqb, ne_eqb}
use Rattle.std.proofs.lemmas.Bool.{and_parts, and_from, cond-true, cond-false, cases_eq}
use Rattle.std.proofs.lemmas.List.{drop_all, drop_at, drop-drop, length-append, length-drop, take-append-drop}
use Rattle.entry.specs.declared.Entry.{Entry}
use Rattle.entry.specs.declared.refusals.Refusal.{Refusal}
use Rattle.layout.specs.Bits.{AreBytes}
use Rattle.layout.specs.Layout.{code, widths, kind_of, values, size, fits, record_of, feed_of}
use Rattle.layout.specs.Reading.{taken, place_at, first_record, some_of, next}
use Rattle.layout.specs.Laws.{NoRecord, ToldOf, Gives, all_fit, Faithful, Holds, ReadBy, ReadWhole}
use Rattle.layout.proofs.EachKind.{code_lt, some_bytes}
use Rattle.layout.proofs.Numbers.{bytes_drop}
use Rattle.layout.proofs.Back.{length_record}
use Rattle.layout.proofs.Decoded.{read_long, next_by}
use Rattle.layout.proofs.Lawful.{reads_back, writes_back, told_of, no_record}

no_entry : (r : Result Entry Refusal) → some_of r ≡ Ok None → ⊥
no_entry (Ok e) p = let z : ◌≡◌ {A = ℕ} 0 1 = cc in omega arith
no_entry (Err f) p = let z : ◌≡◌ {A = ℕ} 0 1 = cc in omega arith

entry_in_lem : (r : Result Entry Refusal) (e : Entry) → some_of r ≡ Ok (Some e) → r ≡ Ok e
entry_in_lem (Ok x) e p = let q : x ≡ e = cc in ap (λ (y : Entry). Ok y) q
entry_in_lem (Err f) e p = absurd (let z : ◌≡◌ {A = ℕ} 0 1 = cc in omega arith)

module _ (feed : List ℕ) (at seen : ℕ) where
  before-end : (at ≡ length feed → ⊥) → next feed at seen ≡ some_of (first_record (drop at feed) (place_at at seen))
  before-end p = cond-false (eqb at (length feed)) _ _ (ne_eqb at (length feed) p)

  pub at_end : at ≡ length feed → next feed at seen ≡ Ok None
  at_end p = cond-true (eqb at (length feed)) _ _ (eq-eqb at (length feed) p)

  pub ended : next feed at seen ≡ Ok None → at ≡ length feed
  ended p = elim (cases_eq at (length feed)) [ inl q ↦ q | inr q ↦ absurd (no_entry (first_record (drop at feed) (place_at at seen)) (sym (before-end q) ∙ p)) ]

  pub gave : (e : Entry) → next feed at seen ≡ Ok (Some e) → first_record (drop at feed) (place_at at seen) ≡ Ok e
  gave e p =
      elim (cases_eq at (length feed)) [
        | inl q ↦ absurd (let u = at_end q in let z : ◌≡◌ {A = ℕ} 0 1 = cc in omega arith)
        | inr q ↦ entry_in_lem (first_record (drop at feed) (place_at at seen)) e (sym (before-end q) ∙ p)
      ]

-- what the reader's answer says of the bytes before the feed's end
pub faithful :
    (feed bs : List ℕ) (at seen : ℕ) (r : Result Entry Refusal) → bs ≡ drop at feed → AreBytes bs → r ≡ first_record bs (place_at at seen) → Faithful feed at seen (some_of r)
faithful feed bs at seen (Ok e) p are q =
    let w = writes_back bs e (place_at at seen) are (sym q) in (w.0, ap (take (size (kind_of e))) (sym p) ∙ w.1)
faithful feed bs at seen (Err f) p are q =
    subst (λ (x : List ℕ). NoRecord x × ToldOf x (place_at at seen) f) p
    (no_record bs (place_at at seen) f (sym q), told_of bs (place_at at seen) f (sym q))

back_from :
    (feed : List ℕ) (es : List Entry) (at seen : ℕ) → AreBytes feed → at ≤ length feed → Gives feed at seen es None → (all_fit es ≡ true) × (feed_of es ≡ drop at feed)
back_from feed [] at seen are p g = (refl, sym (drop_all at feed (omega (arith, ended feed at seen g))))
back_from feed (e ∷ es) at seen are p g =
    let r = gave feed at seen e g.0 in
    let bs : List ℕ = drop at feed in
    let w = writes_back bs e (place_at at seen) (bytes_drop feed at are) r in
    let n : ℕ = size (kind_of e) in
    let long : n ≤ length bs = read_long bs (place_at at seen) e r in
    let rest = back_from feed es (at + n) (seen + 1) are (omega (arith, long, length-drop at feed, p)) g.1 in (
      and_from (fits e) (all_fit es) w.0 rest.0,
      ap (λ (x : List ℕ). x ++ feed_of es) (sym w.1)
          ∙ (ap (λ (x : List ℕ). take n bs ++ x) (rest.1 ∙ sym (drop-drop n at feed)) ∙ take-append-drop n bs),
    )

-- a feed that is read to its end and written again is the same bytes
pub feed_back : (feed : List ℕ) (es : List Entry) → AreBytes feed → Gives feed 0 0 es None → (all_fit es ≡ true) × (feed_of es ≡ feed)
feed_back feed es are g = back_from feed es 0 0 are (omega arith) g

there_from : (front : List ℕ) (es : List Entry) (at seen : ℕ) → length front ≡ at → all_fit es ≡ true → Gives (front ++ feed_of es) at seen es None
there_from front [] at seen l ok = at_end (front ++ []) at seen (omega (arith, l, length-append front []))
there_from front (e ∷ es) at seen l ok =
    let fit = and_parts (fits e) (all_fit es) ok in
    let feed : List ℕ = front ++ (record_of e ++ feed_of es) in
    let n : ℕ = size (kind_of e) in
    let long = length_record (code (kind_of e)) (widths (kind_of e)) (values e) (code_lt (kind_of e)) fit.0 in
    let behind : record_of e ++ feed_of es ≡ drop at feed = sym (drop_at front (record_of e ++ feed_of es) at l) in
    let more : at ≡ length feed → ⊥ =
    (λ p. omega (arith, p, l, long, some_bytes (kind_of e), length-append front (record_of e ++ feed_of es), length-append (record_of e) (feed_of es))) in
    let here : next feed at seen ≡ Ok (Some e) =
    sym (next_by feed (record_of e ++ feed_of es) at seen (Ok e) behind more (sym (reads_back e (feed_of es) (place_at at seen) fit.0))) in
    let regroup : (front ++ record_of e) ++ feed_of es ≡ feed = append_assoc front (record_of e) (feed_of es) in
    let rest = there_from (front ++ record_of e) es (at + n) (seen + 1) (omega (arith, l, long, length-append front (record_of e))) fit.1 in
    (here, subst (λ (x : List ℕ). Gives x (at + n) (seen + 1) es None) regroup rest)

-- entries that are written as a feed and read again are the same entries, to the feed's end
pub entries_back : (es : List Entry) → all_fit es ≡ true → Gives (feed_of es) 0 0 es None
entries_back es ok = there_from [] es 0 0 refl ok

-- a feed is read in one way only
pub one_reading :
    (feed : List ℕ) (at seen : ℕ) (es es' : List Entry) (end end' : Option Refusal) →
    Gives feed at seen es end → Gives feed at seen es' end' → (es ≡ es') × (end ≡ end')
one_reading feed at seen [] [] None None p q = (refl, refl)
one_reading feed at seen [] [] None (Some g) p q = absurd (let z : ◌≡◌ {A = ℕ} 0 1 = cc in omega arith)
one_reading feed at seen [] [] (Some f) None p q = absurd (let z : ◌≡◌ {A = ℕ} 0 1 = cc in omega arith)
one_reading feed at seen [] [] (Some f) (Some g) p q = let s : f ≡ g = cc in (refl, ap (λ (x : Refusal). Some x) s)
one_reading feed at seen [] (e ∷ es) None end p q = absurd (let u = q.0 in let z : ◌≡◌ {A = ℕ} 0 1 = cc in omega arith)
one_reading feed at seen [] (e ∷ es) (Some f) end p q = absurd (let u = q.0 in let z : ◌≡◌ {A = ℕ} 0 1 = cc in omega arith)
one_reading feed at seen (e ∷ es) [] end None p q = absurd (let u = p.0 in let z : ◌≡◌ {A = ℕ} 0 1 = cc in omega arith)
one_reading feed at seen (e ∷ es) [] end (Some f) p q = absurd (let u = p.0 in let z : ◌≡◌ {A = ℕ} 0 1 = cc in omega arith)
one_reading feed at seen (e ∷ es) (d ∷ ds) end end' p q =
    let u = p.0 in
    let v = q.0 in
    let same : d ≡ e = cc in
    let rest = one_reading feed (at + size (kind_of e)) (seen + 1) es ds end end' p.1 (subst (λ (x : Entry). Gives feed (at + size (kind_of x)) (seen + 1) ds end') same q.1) in
    let tails : es ≡ ds = rest.0 in
    (cc, rest.1)

-- Reading a whole feed: what was read goes before what is still to be read.
module _ (feed : List ℕ) (items : List Entry) (at seen : ℕ) (front : (es : List Entry) (end : Option Refusal) → Gives feed at seen es end → Gives feed 0 0 (items ++ es) end) where
  pub gives_more :
      (e : Entry) (items' : List Entry) (at' seen' : ℕ) → Ok (Some e) ≡ next feed at seen → items' ≡ items ++ (e ∷ []) → at' ≡ at + size (kind_of e) → seen' ≡ seen + 1 →
      (es : List Entry) (end : Option Refusal) → Gives feed at' seen' es end → Gives feed 0 0 (items' ++ es) end
  gives_more e items' at' seen' p i a s es end g =
      let here : Gives feed (at + size (kind_of e)) (seen + 1) es end = subst (λ (x : ℕ). Gives feed (at + size (kind_of e)) x es end) s (subst (λ (x : ℕ). Gives feed x seen' es end) a g) in
      let joined : items ++ (e ∷ es) ≡ items' ++ es = sym (ap (λ (x : List Entry). x ++ es) i ∙ append_assoc items (e ∷ []) es) in
      subst (λ (x : List Entry). Gives feed 0 0 x end) joined (front (e ∷ es) end (sym p, here))

  pub gives_all : (end : Option Refusal) → Gives feed at seen [] end → taken feed ≡ Ok tt → ReadWhole feed items end
  gives_all end g t =
      let all : Gives feed 0 0 items end = subst (λ (x : List Entry). Gives feed 0 0 x end) (append-nil items) (front [] end g) in
      subst (λ (x : Result (Unit {0}) Refusal). ReadBy x feed items end) (sym t) all

pub whole_back : (feed : List ℕ) (items : List Entry) → AreBytes feed → taken feed ≡ Ok tt → ReadWhole feed items None → feed_of items ≡ feed
whole_back feed items are t g = (feed_back feed items are (subst (λ (x : Result (Unit {0}) Refusal). ReadBy x feed items None) t g)).1

-- one entry more
all_fit_push : (es : List Entry) (e : Entry) → all_fit es ≡ true → fits e ≡ true → all_fit (es ++ (e ∷ [])) ≡ true
all_fit_push [] e p q = and_from (fits e) true q refl
all_fit_push (x ∷ es) e p q = let h = and_parts (fits x) (all_fit es) p in and_from (fits x) (all_fit (es ++ (e ∷ []))) h.0 (all_fit_push es e h.1 q)

feed_of_push : (es : List Entry) (e : Entry) → feed_of es ++ record_of e ≡ feed_of (es ++ (e ∷ []))
feed_of_push [] e = sym (append-nil (record_of e))
feed_of_push (x ∷ es) e = append_assoc (record_of x) (feed_of es) (record_of e) ∙ ap (λ (y : List ℕ). record_of x ++ y) (feed_of_push es e)

pub holds_more : (feed feed' : List ℕ) (e : Entry) → fits e ≡ true → feed' ≡ feed ++ record_of e → (es : List Entry) → Holds feed es → Holds feed' (es ++ (e ∷ []))
holds_more feed feed' e ok p es h =
    let more : feed' ≡ feed_of (es ++ (e ∷ [])) = p ∙ (ap (λ (y : List ℕ). y ++ record_of e) h.1 ∙ feed_of_push es e) in
    let fit = all_fit_push es e h.0 ok in
    (fit, more, subst (λ (y : List ℕ). Gives y 0 0 (es ++ (e ∷ [])) None) (sym more) (entries_back (es ++ (e ∷ [])) fit))

one_by :
    (t : Result (Unit {0}) Refusal) (feed : List ℕ) (es es' : List Entry) (end end' : Option Refusal) →
    ReadBy t feed es' end' → ReadBy t feed es end → (es ≡ es') × (end ≡ end')
one_by (Ok x) feed es es' end end' p q = one_reading feed 0 0 es es' end end' q p
one_by (Err f) feed es es' end end' p q = (q.0 ∙ sym p.0, q.1 ∙ sym p.1)

pub one-whole :
    (feed : List ℕ) (es es' : List Entry) (end end' : Option Refusal) → ReadWhole feed es' end' → ReadWhole feed es end → (es ≡ es') × (end ≡ end')
one-whole feed es es' end end' = one_by (taken feed) feed es es' end end'
