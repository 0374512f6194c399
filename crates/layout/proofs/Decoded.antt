-- What a record that is read has, and what the reader answers.
use Rattle.std.proofs.Common.{◌≡◌, ℕ, ◌-◌, ◌/◌, ◌≤◌, Bool, true, false, cond, eqb, ltb, List, length, get_or, take, drop, Some, None, Ok, Err, Option, Result, sym, refl, ap, ◌∙◌, subst, arith, le-ltb, ltb-false, ne_eqb, eqb-true}
use Rattle.std.proofs.lemmas.Bool.{cond-false}
use Rattle.std.proofs.lemmas.List.{length-drop}
use Rattle.entry.specs.declared.Entry.{Entry}
use Rattle.entry.specs.declared.refusals.Place.{Place}
use Rattle.entry.specs.declared.refusals.Refusal.{Refusal}
use Rattle.entry.specs.declared.refusals.Refusal.TheVariants as why
use Rattle.entry.specs.declared.kinds.Kind.{Kind}
use Rattle.layout.specs.Bits.{field, fields}
use Rattle.layout.specs.Layout.{widths, kind_of, kind_from, entry_of, bits_for, spare_for, size}
use Rattle.layout.specs.Reading.{further, place_at, record_as, first_record, some_of, next}
use Rattle.layout.proofs.EachKind.{kind_kept}

never : {X Y : Type 0} {x : X} {y : Y} → ◌≡◌ {A = Result X Y} (Err y) (Ok x) → ⊥
never p = let z : ◌≡◌ {A = ℕ} 0 1 = cc in omega arith

past-test : {X Y : Type 0} {x : X} (f : Y) (r : Result X Y) (b : Bool) → cond b (Err f) r ≡ Ok x → (b ≡ false) × (r ≡ Ok x)
past-test f r true p = absurd (never p)
past-test f r false p = (refl, p)

past_last : {X Y : Type 0} {x : X} (f : Y) (r : Result X Y) (b : Bool) → cond b r (Err f) ≡ Ok x → (b ≡ true) × (r ≡ Ok x)
past_last f r true p = (refl, p)
past_last f r false p = absurd (never p)

-- the answer where a kind has the code and all of its record is there
pub record_there :
    (bs : List ℕ) (place : Place) (kind : Kind) → kind_from (get_or bs 0 0 / 16) ≡ Some kind → size kind ≤ length bs →
    first_record bs place
    ≡ cond (eqb (field (take (size kind) bs) (bits_for (widths kind)) (spare_for (widths kind))) 0)
    (Ok (entry_of kind (fields (take (size kind) bs) 4 (widths kind)))) (Err (why.SpareBitSet (further place (bits_for (widths kind)))))
record_there bs place kind known long =
    ap (λ (o : Option Kind). record_as o bs place) known ∙ cond-false (ltb (length bs) (size kind)) _ _ (le-ltb (length bs) (size kind) long)

-- what holds where an entry was read
pub record Read (bs : List ℕ) (e : Entry) : Type 0 where
  pub kind : Kind
  pub known : kind_from (get_or bs 0 0 / 16) ≡ Some kind
  pub long : size kind ≤ length bs
  pub zero : field (take (size kind) bs) (bits_for (widths kind)) (spare_for (widths kind)) ≡ 0
  pub figures : entry_of kind (fields (take (size kind) bs) 4 (widths kind)) ≡ e
  pub same : kind_of e ≡ kind

read_by : (bs : List ℕ) (place : Place) (e : Entry) (o : Option Kind) → kind_from (get_or bs 0 0 / 16) ≡ o → record_as o bs place ≡ Ok e → Read bs e
read_by bs place e None k p = absurd (never p)
read_by bs place e (Some kind) k p =
    let one = past-test _ _ (ltb (length bs) (size kind)) p in
    let two = past_last _ _ (eqb (field (take (size kind) bs) (bits_for (widths kind)) (spare_for (widths kind))) 0) one.1 in
    let got : entry_of kind (fields (take (size kind) bs) 4 (widths kind)) ≡ e = (let q = two.1 in cc) in
    record {
      kind = kind;
      known = k;
      long = ltb-false (length bs) (size kind) one.0;
      zero = eqb-true (field (take (size kind) bs) (bits_for (widths kind)) (spare_for (widths kind))) 0 two.0;
      figures = got;
      same = ap kind_of (sym got) ∙ kind_kept kind (fields (take (size kind) bs) 4 (widths kind));
    }

pub read : (bs : List ℕ) (place : Place) (e : Entry) → first_record bs place ≡ Ok e → Read bs e
read bs place e p = read_by bs place e (kind_from (get_or bs 0 0 / 16)) refl p

pub read_long : (bs : List ℕ) (place : Place) (e : Entry) → first_record bs place ≡ Ok e → size (kind_of e) ≤ length bs
read_long bs place e p = let h = read bs place e p in subst (λ (x : Kind). size x ≤ length bs) (sym h.same) h.long

pub read_within :
    (feed bs : List ℕ) (at : ℕ) (place : Place) (e : Entry) → bs ≡ drop at feed → Ok e ≡ first_record bs place → size (kind_of e) ≤ length feed - at
read_within feed bs at place e p q = omega (arith, read_long bs place e (sym q), ap length p, length-drop at feed)

-- the reader's answer before the feed's end
pub next_by :
    (feed bs : List ℕ) (at seen : ℕ) (r : Result Entry Refusal) → bs ≡ drop at feed → (at ≡ length feed → ⊥) →
    r ≡ first_record bs (place_at at seen) → some_of r ≡ next feed at seen
next_by feed bs at seen r e p q =
    sym
    (ap (λ (b : Bool). cond b (Ok None) (some_of (first_record (drop at feed) (place_at at seen)))) (ne_eqb at (length feed) p)
    ∙ ap some_of (ap (λ (x : List ℕ). first_record x (place_at at seen)) (sym e) ∙ sym q))
