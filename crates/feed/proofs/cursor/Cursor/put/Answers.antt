use Rattle.std.proofs.Common.{◌≡◌, ℕ, ◌+◌, ◌-◌, ◌*◌, ◌%◌, ◌^◌, ◌<◌, length, drop, sym, refl, ap, ◌∙◌, subst, arith}
use lib.Bits.{bit_or}
use Rattle.std.proofs.lemmas.List.{drop-set-lt, drop-drop}
use Rattle.feed.proofs.Shifts.{shifted, masked, joined_lt, put_start, put_step, top_lt, mod_lt}
use Rattle.feed.proofs.cursor.Cursor.put.Goals as goal

pub loop-held-init : goal.loop-held-init
loop-held-init c =
    let e : bit_or ((c.args.self.rest * 2 ^ c.args.width) % 18446744073709551616) c.args.value ≡ c.args.self.rest * 2 ^ c.args.width + c.args.value =
    shifted c.args.self.rest c.args.self.held c.args.width c.args.value c.args.self.part.1 (omega arith) c.requires.field.1 in
    let small = joined_lt c.args.self.rest c.args.self.held c.args.width c.args.value c.args.self.part.1 c.requires.field.1 in
    (omega arith, refl, subst (λ (x : ℕ). x < 2 ^ (c.args.self.held + c.args.width)) (sym e) small, (λ n p. p), refl)

pub overflow_cast-out-in-loop-held : goal.overflow_cast-out-in-loop-held
overflow_cast-out-in-loop-held c = record { fits = top_lt c.loop-held.held 8 c.loop-held.rest c.loop-held-test.true c.loop-held.invariant.2 }

pub loop-held-preserved : goal.loop-held-preserved
loop-held-preserved c =
    let e = masked c.loop-held.rest (c.loop-held.held - 8) (omega arith) in
    let lt : c.loop-held.at < length c.loop-held.out = omega arith in (
      omega arith,
      omega arith,
      subst (λ (x : ℕ). x < 2 ^ (c.loop-held.held - 8)) (sym e) (mod_lt c.loop-held.rest (c.loop-held.held - 8)),
      (λ n p.
          let q = put_step c.loop-held.out c.loop-held.at c.loop-held.held (c.loop-held.held - 8) c.loop-held.rest n lt (omega arith) (c.loop-held.invariant.3 n p) in
          (q.0, e ∙ q.1)),
      drop-set-lt (c.loop-held.at + 1) c.loop-held.out c.loop-held.at _ (omega arith)
          ∙ (sym (drop-drop 1 c.loop-held.at c.loop-held.out) ∙ (ap (drop 1) c.loop-held.invariant.4 ∙ drop-drop 1 c.loop-held.at c.args.out.now)),
    )

pub returns-clause-wrote : goal.returns-clause-wrote
returns-clause-wrote c n p =
    let e : bit_or ((c.args.self.rest * 2 ^ c.args.width) % 18446744073709551616) c.args.value ≡ c.args.self.rest * 2 ^ c.args.width + c.args.value =
    shifted c.args.self.rest c.args.self.held c.args.width c.args.value c.args.self.part.1 (omega arith) c.requires.field.1 in
    let q = put_start c.args.out.now c.args.self.at c.args.self.held c.args.self.rest n c.args.width c.args.value c.requires.field.1 p in
    c.loop-held.invariant.3 (n * 2 ^ c.args.width + c.args.value) (q.0, e ∙ q.1)
