-- A record that was written to its last bit.
use Rattle.std.proofs.Common.{◌≡◌, ℕ, ◌+◌, ◌*◌, ◌/◌, ◌^◌, ◌≤◌, true, List, ◌++◌, length, take, drop, Ok, sym, ap, ◌∙◌, add-zero, div-one}
use Rattle.std.proofs.lemmas.List.{take-append-drop}
use Rattle.layout.specs.Bits.{bytes, fit, packed}
use Rattle.layout.specs.Layout.{bytes_for, spare_for, record_with}
use Rattle.layout.specs.Writing.{output_with}
use Rattle.layout.proofs.Numbers.{length_bytes}
use Rattle.layout.proofs.Written.{accepted, output_by}
use Rattle.feed.specs.Cursor.{Wrote}

pub finished :
    (c : ℕ) (ws vs out : List ℕ) (last : List ℕ) (at held rest pad : ℕ) → fit ws vs ≡ true → bytes_for ws ≤ length out →
    at ≡ bytes_for ws → held ≡ 0 → pad ≡ spare_for ws →
    Wrote last at held rest (packed c ws vs * 2 ^ pad + 0) → drop at last ≡ drop at out → last ≡ output_with c ws vs out
finished c ws vs out last at held rest pad p h is_at is_held isPad w kept =
    let n = packed c ws vs in
    let number = packed c ws vs * 2 ^ spare_for ws in
    let same : (n * 2 ^ pad + 0) / 2 ^ held ≡ number =
    ap (λ (x : ℕ). (n * 2 ^ pad + 0) / 2 ^ x) is_held ∙ (div-one (n * 2 ^ pad + 0) ∙ (add-zero (n * 2 ^ pad) ∙ ap (λ (x : ℕ). n * 2 ^ x) isPad)) in
    let front : take at last ≡ record_with c ws vs = w.0 ∙ (ap (bytes at) same ∙ ap (λ (x : ℕ). bytes x number) is_at) in
    let long : at ≡ length (record_with c ws vs) = is_at ∙ sym (length_bytes (bytes_for ws) number) in
    sym (take-append-drop at last)
    ∙ (ap (λ (x : List ℕ). x ++ drop at last) front
    ∙ (ap (λ (x : List ℕ). record_with c ws vs ++ x) (kept ∙ ap (λ (x : ℕ). drop x out) long) ∙ sym (output_by c ws vs out (Ok (bytes_for ws)) (accepted c ws vs out p h))))
