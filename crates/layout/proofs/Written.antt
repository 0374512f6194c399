-- A record as it is written.
use Rattle.std.proofs.Common.{◌≡◌, ℕ, ◌*◌, ◌^◌, ◌<◌, ◌≤◌, Bool, true, false, cond, ltb, List, ◌++◌, length, take, drop, Ok, Err, Result, sym, ap, ◌∙◌, inl, inr, arith, le-ltb, lt-ltb}
use Rattle.std.proofs.lemmas.List.{take_at}
use Rattle.std.proofs.lemmas.Bool.{cases_Bool}
use Rattle.entry.specs.declared.refusals.Refusal.{Refusal}
use Rattle.entry.specs.declared.refusals.Refusal.TheVariants as why
use Rattle.layout.specs.Bits.{fit, packed}
use Rattle.entry.specs.declared.Entry.{Entry}
use Rattle.layout.specs.Layout.{code, widths, kind_of, values, size, fits, bytes_for, spare_for, record_with, record_of}
use Rattle.layout.specs.Writing.{answer_with, output_with, placed, answer, output}
use Rattle.layout.proofs.EachKind.{total_le}
use Rattle.layout.proofs.Numbers.{length_bytes}

module _ (c : ℕ) (ws vs out : List ℕ) where
  answered : Bool → Bool → Result ℕ Refusal
  answered a b = cond a (cond b (Err why.OutputShort) (Ok (bytes_for ws))) (Err why.OutOfRange)

  by : (a b : Bool) → fit ws vs ≡ a → ltb (length out) (bytes_for ws) ≡ b → answer_with ws vs out ≡ answered a b
  unfolding answered answer_with
  by a b p q = ap (λ (x : Bool). answered x (ltb (length out) (bytes_for ws))) p ∙ ap (answered a) q

  pub output_by : (r : Result ℕ Refusal) → answer_with ws vs out ≡ r → output_with c ws vs out ≡ placed r (record_with c ws vs) out
  unfolding output_with
  output_by r e = ap (λ (x : Result ℕ Refusal). placed x (record_with c ws vs) out) e

  pub too_wide : fit ws vs ≡ false → (Err why.OutOfRange ≡ answer_with ws vs out) × (out ≡ output_with c ws vs out)
  unfolding answered answer_with
  too_wide p =
      let q : answer_with ws vs out ≡ Err why.OutOfRange = ap (λ (x : Bool). answered x (ltb (length out) (bytes_for ws))) p in
      (sym q, sym (output_by (Err why.OutOfRange) q))

  pub too_short : fit ws vs ≡ true → length out < bytes_for ws → (Err why.OutputShort ≡ answer_with ws vs out) × (out ≡ output_with c ws vs out)
  unfolding answered
  too_short p h =
      let q : answer_with ws vs out ≡ Err why.OutputShort = by true true p (lt-ltb (length out) (bytes_for ws) h) in
      (sym q, sym (output_by (Err why.OutputShort) q))

  pub accepted : fit ws vs ≡ true → bytes_for ws ≤ length out → answer_with ws vs out ≡ Ok (bytes_for ws)
  unfolding answered
  accepted p h = by true false p (le-ltb (length out) (bytes_for ws) h)

-- an entry whose record was written fits, and its record stands before the bytes that are kept
pub written_ok : (e : Entry) (out : List ℕ) (n : ℕ) → answer e out ≡ Ok n → (fits e ≡ true) × (output e out ≡ record_of e ++ drop (length (record_of e)) out)
written_ok e out n p =
    elim (cases_Bool (fits e)) [
      | inl q ↦ (q, output_by (code (kind_of e)) (widths (kind_of e)) (values e) out (Ok n) p)
      | inr q ↦ absurd (let u = (too_wide (code (kind_of e)) (widths (kind_of e)) (values e) out q).0 in let z : ◌≡◌ {A = ℕ} 0 1 = cc in omega arith)
    ]

-- an output of 20 bytes is long enough for every record
module _ (e : Entry) (out : List ℕ) (long : length out ≡ 20) where
  at-twenty : size (kind_of e) ≤ length out
  at-twenty = omega (arith, long, total_le (kind_of e))

  by-fit : (b : Bool) → fits e ≡ b → answer e out ≡ cond b (Ok (size (kind_of e))) (Err why.OutOfRange)
  by-fit true p = accepted (code (kind_of e)) (widths (kind_of e)) (values e) out p at-twenty
  by-fit false p = sym (too_wide (code (kind_of e)) (widths (kind_of e)) (values e) out p).0

  pub refused_there : (f : Refusal) → Err f ≡ answer e out → (fits e ≡ false) × (f ≡ why.OutOfRange)
  refused_there f p =
      elim (cases_Bool (fits e)) [
        | inl q ↦ absurd (let u = by-fit true q in let z : ◌≡◌ {A = ℕ} 0 1 = cc in omega arith)
        | inr q ↦ let u = by-fit false q in let s : f ≡ why.OutOfRange = cc in (q, s)
      ]

  pub written_there : (n : ℕ) → Ok n ≡ answer e out → (fits e ≡ true) × (n ≡ size (kind_of e)) × (n ≤ 20) × (take n (output e out) ≡ record_of e)
  written_there n p =
      elim (cases_Bool (fits e)) [
        | inl q ↦
            let u = by-fit true q in
            let s : n ≡ size (kind_of e) = cc in
            let number : ℕ = packed (code (kind_of e)) (widths (kind_of e)) (values e) * 2 ^ spare_for (widths (kind_of e)) in
            let w = output_by (code (kind_of e)) (widths (kind_of e)) (values e) out (Ok (size (kind_of e))) u in (
              q,
              s,
              omega (arith, s, total_le (kind_of e)),
              ap (take n) w ∙ take_at (record_of e) (drop (length (record_of e)) out) n (length_bytes (size (kind_of e)) number ∙ sym s),
            )
        | inr q ↦ absurd (let u = by-fit false q in let z : ◌≡◌ {A = ℕ} 0 1 = cc in omega arith)
      ]
