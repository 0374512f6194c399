use Rattle.std.proofs.Common.{◌≡◌, ℕ, ◌+◌, ◌-◌, ◌*◌, ◌%◌, ◌^◌, ◌<◌, ◌≤◌, Bool, true, List, length, Ok, sym, refl, ap, ◌∙◌, subst, mod-eq_of_lt, arith}
use Rattle.layout.specs.Bits.{total, fit, packed}
use Rattle.feed.specs.Cursor.{Wrote, widths_in, values_in}
use Rattle.layout.specs.Layout.{code, widths, bytes_for}
use Rattle.layout.proofs.EachKind.{code_lt}
use Rattle.feed.proofs.Fields.{drop_further}
use Rattle.layout.proofs.Written.{too_wide, too_short, accepted}
use Rattle.feed.proofs.Finished.{finished}
use Rattle.feed.proofs.record.write.Goals as goal

-- what `all_fit` answered is the test over the layout's widths
fit_by : (b : Bool) (xs ws vs : List ℕ) → xs ≡ ws → b ≡ fit xs vs → fit ws vs ≡ b
fit_by b xs ws vs e p = ap (λ (x : List ℕ). fit x vs) (sym e) ∙ sym p

pub returns-then-not-all_fit : goal.returns-then-not-all_fit
returns-then-not-all_fit c =
    let wide = fit_by _ _ _ _ c.requires.layout c.all_fit.ensures.answer ∙ c.if-not-all_fit.true in
    let refused = too_wide (code c.args.kind) (widths c.args.kind) (values_in c.args.fields.now) c.args.out.now wide in
    record { answer = refused.0; after = refused.1 }

pub returns-then-out-size : goal.returns-then-out-size
returns-then-out-size c =
    let fitting = fit_by _ _ _ _ c.requires.layout c.all_fit.ensures.answer ∙ c.if-not-all_fit.false in
    let refused = too_short (code c.args.kind) (widths c.args.kind) (values_in c.args.fields.now) c.args.out.now fitting (omega arith) in
    record { answer = refused.0; after = refused.1 }

pub returns : goal.returns
returns c =
    let ws = widths c.args.kind in
    let vs = values_in c.args.fields.now in
    let out = c.args.out.now in
    let fitting : fit (widths c.args.kind) vs ≡ true = fit_by _ _ _ _ c.requires.layout c.all_fit.ensures.answer ∙ c.if-not-all_fit.false in
    let room : bytes_for (widths c.args.kind) ≤ length c.args.out.now = omega arith in
    let bits : total (widths_in c.args.fields.now) ≡ total (widths c.args.kind) = ap total c.requires.layout in
    let start : Wrote c.args.out.now 0 4 c.from.result c.from.result =
    (refl, sym (mod-eq_of_lt (subst (λ (x : ℕ). x < 16) (sym c.from.ensures) (code_lt c.args.kind)))) in
    let number : packed c.from.result (widths_in c.args.fields.now) vs ≡ packed (code c.args.kind) (widths c.args.kind) vs =
    ap (λ (x : ℕ). packed x (widths_in c.args.fields.now) vs) c.from.ensures ∙ ap (λ (x : List ℕ). packed (code c.args.kind) x vs) c.requires.layout in
    let wrote = c.put-whole.ensures.wrote _ (c.put_all-end.ensures.wrote c.from.result start) in
    let pad : ℕ = (8 - c.put_all-end.result.held) % 8 in
    record {
      answer = ap (λ (x : ℕ). Ok x) c.size-size.ensures.answer ∙ sym (accepted (code c.args.kind) ws vs out fitting room);
      after =
          finished (code c.args.kind) ws vs out c.put-whole.new.out c.put-whole.result.at c.put-whole.result.held c.put-whole.result.rest pad fitting room
          (omega arith) (omega arith) (omega arith)
          (subst (λ (x : ℕ). Wrote c.put-whole.new.out c.put-whole.result.at c.put-whole.result.held c.put-whole.result.rest (x * 2 ^ pad + 0)) number wrote)
          (c.put-whole.ensures.kept
          ∙ drop_further c.put_all-end.new.out c.args.out.now c.put_all-end.result.at c.put-whole.result.at (omega arith) c.put_all-end.ensures.kept);
    }
