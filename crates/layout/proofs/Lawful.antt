-- The laws of writing and reading.
use Rattle.std.proofs.Common.{◌≡◌, ℕ, ◌/◌, ◌<◌, ◌≤◌, Bool, true, cond, eqb, ltb, List, [], ◌∷◌, ◌++◌, length, get_or, take, drop, IfOk, Some, None, Ok, Err, Option, Result, sym, refl, ap, ◌∙◌, subst, inl, inr, arith, le-ltb, lt-ltb, eq-eqb, ne_eqb}
use Rattle.std.proofs.lemmas.Nat.{mod_below}
use Rattle.std.proofs.lemmas.Bool.{cond-true, cond-false, cases_lt, cases_eq}
use Rattle.std.proofs.lemmas.List.{get_or_append_left, get_or-take, take_at, length-append, length-take-le, take-append-drop}
use Rattle.entry.specs.declared.Side.{Side}
use Rattle.entry.specs.declared.Side.TheVariants.{Buy, Sell}
use Rattle.entry.specs.declared.Entry.{Entry}
use Rattle.entry.specs.declared.Entry.TheVariants as e
use Rattle.entry.specs.declared.refusals.Place.{Place}
use Rattle.entry.specs.declared.refusals.Refusal.{Refusal}
use Rattle.entry.specs.declared.refusals.Refusal.TheVariants as why
use Rattle.entry.specs.Refusals.{told}
use Rattle.entry.specs.declared.kinds.Kind.{Kind}
use Rattle.entry.specs.declared.kinds.Kind.TheVariants as k
use Rattle.layout.specs.Bits.{AreBytes, field, fields, fit}
use Rattle.layout.specs.Layout.{code, widths, kind_of, bit, side_of, values, entry_of, kind_from, bits_for, spare_for, bytes_for, size, fits, record_with, record_of}
use Rattle.layout.specs.Reading.{further, record_as, first_record}
use Rattle.layout.specs.Laws.{NoRecord, ToldOf}
use Rattle.layout.specs.Writing.{answer, output}
use Rattle.layout.proofs.Written.{written_ok}
use Rattle.layout.proofs.EachKind.{code_lt, some_bytes}
use Rattle.layout.proofs.Numbers.{bytes_take}
use Rattle.layout.proofs.Back.{fields_fit, record_back, record_code, record_spare, record_fields, length_record}
use Rattle.layout.proofs.Decoded.{record_there, read}

pub kind_back : (kind : Kind) → kind_from (code kind) ≡ Some kind
kind_back k.Clock = refl
kind_back k.Post = refl
kind_back k.Leave = refl
kind_back k.Trade = refl
kind_back k.Parameters = refl
kind_back k.Reference = refl
kind_back k.Ruling = refl

as_many : (e : Entry) → length (values e) ≡ length (widths (kind_of e))
as_many (e.Clock t) = refl
as_many (e.Post t s m p) = refl
as_many (e.Leave t s p) = refl
as_many (e.Trade t m p q) = refl
as_many (e.Parameters t ps) = refl
as_many (e.Reference t s p) = refl
as_many (e.Ruling t p) = refl

side_back : (s : Side) → side_of (bit s) ≡ s
side_back Buy = refl
side_back Sell = refl

entry_back : (e : Entry) → entry_of (kind_of e) (values e) ≡ e
entry_back (e.Clock t) = refl
entry_back (e.Post t s m p) = ap (λ (x : Side). e.Post t x m p) (side_back s)
entry_back (e.Leave t s p) = ap (λ (x : Side). e.Leave t x p) (side_back s)
entry_back (e.Trade t m p q) = refl
entry_back (e.Parameters t ps) = refl
entry_back (e.Reference t s p) = refl
entry_back (e.Ruling t p) = refl

bit_back : (n : ℕ) → n < 2 → bit (side_of n) ≡ n
bit_back n p =
    elim (cases_eq n 0) [
      | inl q ↦ ap (λ (b : Bool). bit (cond b Buy Sell)) (eq-eqb n 0 q) ∙ sym q
      | inr q ↦ ap (λ (b : Bool). bit (cond b Buy Sell)) (ne_eqb n 0 q) ∙ omega (arith, q)
    ]

-- the figures of an entry that was read are the fields that it was read from
values_back : (kind : Kind) (bs : List ℕ) → values (entry_of kind (fields bs 4 (widths kind))) ≡ fields bs 4 (widths kind)
values_back k.Clock bs = refl
values_back k.Post bs =
    ap (λ (x : ℕ). field bs 4 30 ∷ (x ∷ (field bs 35 2 ∷ (field bs 37 30 ∷ [])))) (bit_back (field bs 34 1) (mod_below _ 2 (omega arith)))
values_back k.Leave bs = ap (λ (x : ℕ). field bs 4 30 ∷ (x ∷ (field bs 35 30 ∷ []))) (bit_back (field bs 34 1) (mod_below _ 2 (omega arith)))
values_back k.Trade bs = refl
values_back k.Parameters bs = refl
values_back k.Reference bs = refl
values_back k.Ruling bs = refl

-- a whole record with no spare bit set is read
pub read_whole :
    (bs : List ℕ) (place : Place) (kind : Kind) → kind_from (get_or bs 0 0 / 16) ≡ Some kind → size kind ≤ length bs →
    field (take (size kind) bs) (bits_for (widths kind)) (spare_for (widths kind)) ≡ 0 →
    first_record bs place ≡ Ok (entry_of kind (fields (take (size kind) bs) 4 (widths kind)))
read_whole bs place kind known long z =
    record_there bs place kind known long
    ∙ cond-true (eqb (field (take (size kind) bs) (bits_for (widths kind)) (spare_for (widths kind))) 0) _ _
    (eq-eqb (field (take (size kind) bs) (bits_for (widths kind)) (spare_for (widths kind))) 0 z)

-- what is written is read: bytes that begin with an entry's record are read as that entry
pub reads_back : (e : Entry) (rest : List ℕ) (place : Place) → fits e ≡ true → first_record (record_of e ++ rest) place ≡ Ok e
reads_back e rest place ok =
    let kind : Kind = kind_of e in
    let c : ℕ = code kind in
    let ws : List ℕ = widths kind in
    let bs : List ℕ = record_of e ++ rest in
    let long = length_record c ws (values e) (code_lt kind) ok in
    let front : take (size kind) bs ≡ record_of e = take_at (record_of e) rest (size kind) long in
    let first : get_or bs 0 0 ≡ get_or (record_of e) 0 0 = get_or_append_left (record_of e) rest 0 0 (omega (arith, long, some_bytes kind)) in
    let known : kind_from (get_or bs 0 0 / 16) ≡ Some kind =
    ap (λ (x : ℕ). kind_from (x / 16)) first ∙ (ap kind_from (record_code c ws (values e) (code_lt kind) ok) ∙ kind_back kind) in
    let zeros : field (take (size kind) bs) (bits_for ws) (spare_for ws) ≡ 0 =
    ap (λ (x : List ℕ). field x (bits_for ws) (spare_for ws)) front ∙ record_spare c ws (values e) (code_lt kind) ok in
    let figures : fields (take (size kind) bs) 4 ws ≡ values e =
    ap (λ (x : List ℕ). fields x 4 ws) front ∙ record_fields c ws (values e) (code_lt kind) ok (as_many e) in
    read_whole bs place kind known (omega (arith, long, length-append (record_of e) rest)) zeros ∙ ap (λ (x : Entry). Ok x) (ap (entry_of kind) figures ∙ entry_back e)

-- a code has one kind
at_code : (n i : ℕ) (x kind : Kind) (o : Option Kind) → i ≡ code x → (o ≡ Some kind → n ≡ code kind) → cond (eqb n i) (Some x) o ≡ Some kind → n ≡ code kind
at_code n i x kind o c later p =
    elim (cases_eq n i) [
      | inl q ↦
          let same : Some x ≡ Some kind = sym (cond-true (eqb n i) (Some x) o (eq-eqb n i q)) ∙ p in
          let kinds : x ≡ kind = cc in
          q ∙ (c ∙ ap code kinds)
      | inr q ↦ later (sym (cond-false (eqb n i) (Some x) o (ne_eqb n i q)) ∙ p)
    ]

no_kind : (kind : Kind) → ◌≡◌ {A = Option Kind} None (Some kind) → ⊥
no_kind kind p = let z : ◌≡◌ {A = ℕ} 0 1 = cc in omega arith

code_of : (n : ℕ) (kind : Kind) → kind_from n ≡ Some kind → n ≡ code kind
code_of n kind =
    at_code n 0 k.Clock kind _ refl
    (at_code n 1 k.Post kind _ refl
    (at_code n 2 k.Leave kind _ refl
    (at_code n 3 k.Trade kind _ refl
    (at_code n 4 k.Parameters kind _ refl (at_code n 5 k.Reference kind _ refl (at_code n 6 k.Ruling kind _ refl (λ p. absurd (no_kind kind p))))))))

code_le : (kind : Kind) → code kind ≤ 6
code_le k.Clock = omega arith
code_le k.Post = omega arith
code_le k.Leave = omega arith
code_le k.Trade = omega arith
code_le k.Parameters = omega arith
code_le k.Reference = omega arith
code_le k.Ruling = omega arith

-- what is read is written: an entry that was read fits, and its record is the bytes that it was read from
pub writes_back :
    (bs : List ℕ) (e : Entry) (place : Place) → AreBytes bs → first_record bs place ≡ Ok e → (fits e ≡ true) × (take (size (kind_of e)) bs ≡ record_of e)
writes_back bs e place are p =
    let h = read bs place e p in
    let kind : Kind = h.kind in
    let front : List ℕ = take (size kind) bs in
    let ws : List ℕ = widths kind in
    let long : length front ≡ bytes_for ws = length-take-le (size kind) bs h.long in
    let figures : values e ≡ fields front 4 ws = ap values (sym h.figures) ∙ values_back kind front in
    let first : get_or front 0 0 / 16 ≡ code kind =
    ap (λ (x : ℕ). x / 16) (get_or-take (size kind) bs 0 0 (some_bytes kind)) ∙ code_of (get_or bs 0 0 / 16) kind h.known in
    let back : record_with (get_or front 0 0 / 16) ws (fields front 4 ws) ≡ front =
    record_back front ws (bytes_take bs (size kind) are) (omega (arith, long, some_bytes kind)) long h.zero in
    let written : record_with (code kind) ws (values e) ≡ front =
    ap (λ (x : List ℕ). record_with (code kind) ws x) figures ∙ (ap (λ (x : ℕ). record_with x ws (fields front 4 ws)) (sym first) ∙ back) in
    let fitting : fit ws (values e) ≡ true = ap (fit ws) figures ∙ fields_fit front 4 ws in (
      subst (λ (x : Kind). fit (widths x) (values e) ≡ true) (sym h.same) fitting,
      subst (λ (x : Kind). take (size x) bs ≡ record_with (code x) (widths x) (values e)) (sym h.same) (sym written),
    )

same_kind : (n : ℕ) (a b : Kind) → kind_from n ≡ Some a → n ≡ code b → b ≡ a
same_kind n a b p q =
    let one : kind_from n ≡ Some b = ap kind_from q ∙ kind_back b in
    cc

never_read : {e : Entry} {f : Refusal} → ◌≡◌ {A = Result Entry Refusal} (Ok e) (Err f) → ⊥
never_read p = let z : ◌≡◌ {A = ℕ} 0 1 = cc in omega arith

-- the number and the place of a refusal
told-by : (bs : List ℕ) (place : Place) (f : Refusal) (o : Option Kind) → kind_from (get_or bs 0 0 / 16) ≡ o → record_as o bs place ≡ Err f → ToldOf bs place f
told-by bs place f None known p =
    let is : why.UnknownKind place ≡ f = cc in
    record {
      unknown = λ q. ap told (sym is);
      cut = λ kind q s. absurd (no_kind kind (sym known ∙ (ap kind_from q ∙ kind_back kind)));
      spare = λ kind q s. absurd (no_kind kind (sym known ∙ (ap kind_from q ∙ kind_back kind)));
    }
told-by bs place f (Some kind) known p =
    let c = code_of (get_or bs 0 0 / 16) kind known in
    let spares : ℕ = field (take (size kind) bs) (bits_for (widths kind)) (spare_for (widths kind)) in
    elim (cases_lt (length bs) (size kind)) [
      | inl short ↦
          let first : ◌≡◌ {A = Result Entry Refusal} (Err (why.FeedEnds place)) (Err f) = sym (cond-true (ltb (length bs) (size kind)) _ _ (lt-ltb (length bs) (size kind) short)) ∙ p in
          let is : why.FeedEnds place ≡ f = cc in
          record {
            unknown = λ q. absurd (omega (arith, q, c, code_le kind));
            cut = λ other q s. ap told (sym is);
            spare = λ other q s. absurd (omega (arith, short, s, ap size (same_kind (get_or bs 0 0 / 16) kind other known q)));
          }
      | inr long ↦
          let later = sym (cond-false (ltb (length bs) (size kind)) _ _ (le-ltb (length bs) (size kind) long)) ∙ p in
          elim (cases_eq spares 0) [
            | inl z ↦ absurd (never_read (sym (cond-true (eqb spares 0) _ _ (eq-eqb spares 0 z)) ∙ later))
            | inr z ↦
                let last : ◌≡◌ {A = Result Entry Refusal} (Err (why.SpareBitSet (further place (bits_for (widths kind))))) (Err f) = sym (cond-false (eqb spares 0) _ _ (ne_eqb spares 0 z)) ∙ later in
                let is : why.SpareBitSet (further place (bits_for (widths kind))) ≡ f = cc in
                record {
                  unknown = λ q. absurd (omega (arith, q, c, code_le kind));
                  cut = λ other q s. absurd (omega (arith, long, s, ap size (same_kind (get_or bs 0 0 / 16) kind other known q)));
                  spare = λ other q s.
                      ap told (sym is) ∙ ap (λ (x : Kind). (16, Some (further place (bits_for (widths x))))) (sym (same_kind (get_or bs 0 0 / 16) kind other known q));
                }
          ]
    ]

pub told_of : (bs : List ℕ) (place : Place) (f : Refusal) → first_record bs place ≡ Err f → ToldOf bs place f
told_of bs place f p = told-by bs place f (kind_from (get_or bs 0 0 / 16)) refl p

pub no_record : (bs : List ℕ) (place : Place) (f : Refusal) → first_record bs place ≡ Err f → NoRecord bs
no_record bs place f p e ok front =
    let parts : record_of e ++ drop (size (kind_of e)) bs ≡ bs = ap (λ (x : List ℕ). x ++ drop (size (kind_of e)) bs) (sym front) ∙ take-append-drop (size (kind_of e)) bs in
    never_read (sym (ap (λ (x : List ℕ). first_record x place) (sym parts) ∙ reads_back e (drop (size (kind_of e)) bs) place ok) ∙ p)

-- what the writer wrote is read as the entry
pub output_read : (e : Entry) (out last : List ℕ) (x : Result ℕ Refusal) → x ≡ answer e out → last ≡ output e out → IfOk x (λ _. (place : Place) → first_record last place ≡ Ok e)
output_read e out last (Ok length-told) p q =
    let w = written_ok e out length-told (sym p) in λ place.
    ap (λ (x : List ℕ). first_record x place) (q ∙ w.1) ∙ reads_back e (drop (length (record_of e)) out) place w.0
output_read e out last (Err f) p q = tt
