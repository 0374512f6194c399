-- Each accepted entry keeps the day's figures to the history: references, marks and forerunners.
use Rattle.std.proofs.Common.{◌≡◌, ℕ, ◌*◌, Bool, false, ◌||◌, eqb, ltb, ◌⊎◌, List, ◌∷◌, Decides, sym, refl, ap, ◌∙◌, subst, inl, inr, arith}
use Rattle.std.proofs.lemmas.Bool.Decides.{nat_tests, Decides-or}
use Rattle.std.proofs.lemmas.Bool.{cases_eq, cond_both, eqb-true, eqb-false, ne_eqb, both_ways, and_left}
use Rattle.entry.specs.declared.Side.{Side}
use Rattle.entry.specs.declared.Entry.{Entry}
use Rattle.entry.specs.declared.Entry.TheVariants.{Clock, Post, Leave, Trade, Parameters, Reference, Ruling}
use Rattle.board.specs.Book.{levels_of, first}
use Rattle.plan.specs.declared.slots.Session.TheVariants.{Morning, Main, Evening, Weekend}
use Rattle.plan.specs.declared.slots.Slot.{Slot}
use Rattle.plan.specs.declared.slots.Slot.TheVariants.{NoSession, Free, Bounded}
use Rattle.plan.specs.Sessions.{session_of}
use Rattle.plan.specs.Hours.{slot_at}
use Rattle.rules.specs.Figures.{Marks}
use Rattle.rules.specs.declared.figures.References.{References}
use Rattle.rules.specs.Readings.{lp_of, forerunner_of}
use Rattle.rules.specs.Checks.{State}
use Rattle.rules.specs.Effects.{params_after, entered, references_after, marked, marked_in, marks_after, ended, forerunners_after}
use Rattle.entry.specs.Sides.{other_side}
use Rattle.rules.specs.History.{Opening, left, params, lp, MainBounded, Far, Marked, above, below, Forerun, AreParams, InRange}
use Rattle.rules.specs.Promise.{Agrees, references}
use Rattle.rules.proofs.Sides.{side_or, same-other}
use Rattle.rules.proofs.Bests.{forerun-leave, forerunner_kept}
use Rattle.rules.proofs.Grounds.{shows, forerun}
use Rattle.rules.proofs.Tables.{lp_is}

-- ── references ──

abbrev Enters : List Entry → ℕ → ℕ → ℕ → Type 0
Enters h t x k = entered (references h) (session_of k) x ≡ references (Reference t k x ∷ h)

entered_is : (h : List Entry) (t k x : ℕ) → Enters h t x k
entered_is h t k x =
    elim (cases_eq k 1) [
      | inl i ↦ subst (Enters h t x) (sym i) refl
      | inr a ↦ elim (cases_eq k 2) [
        | inl i ↦ subst (Enters h t x) (sym i) refl
        | inr b ↦ elim (cases_eq k 3) [
          | inl i ↦ subst (Enters h t x) (sym i) refl
          | inr c ↦ elim (cases_eq k 4) [
            | inl i ↦ subst (Enters h t x) (sym i) refl
            | inr d ↦ rw (ne_eqb k 1 a, ne_eqb k 2 b, ne_eqb k 3 c, ne_eqb k 4 d)
          ]
        ]
      ]
    ]

-- ── marks ──

far_above : (l x : ℕ) → Decides (ltb (118 * l) (100 * x)) (Far l (above x l))
far_above l x = grind (arith, nat_tests)

far_below : (l x : ℕ) → Decides (ltb (100 * x) (82 * l)) (Far l (below x l))
far_below l x = grind (arith, nat_tests)

-- no new mark
unmarked : (b : Bool) {N M : Type 0} → (N → ⊥) → Decides b M → Decides b (N ⊎ M)
unmarked b n d = ((λ e. inr (d.0 e)), λ c. elim c [ inl x ↦ absurd (n x) | inr m ↦ d.1 m ])

-- one direction: the mark that is read, its distance, and its test
module _ (o : Opening) (h : List Entry) (w : State) (v : Agrees o h w) (mark : Marks → Bool) (distance : ℕ → ℕ → ℕ) (test : ℕ → ℕ → Bool)
    (set : (m : Marks) (l x : ℕ) → mark (marked m l x) ≡ (mark m || test l x)) (decides : (l x : ℕ) → Decides (test l x) (Far l (distance x l)))
    (old : Decides (mark w.day.marks) (Marked distance o h)) where
  marked-in : (slot : Slot) (x : ℕ) → Decides (mark (marked_in w.day x slot)) ((MainBounded slot × Far (lp o h Main) (distance x (lp o h Main))) ⊎ Marked distance o h)
  marked-in NoSession x = unmarked _ (λ p. p.0) old
  marked-in (Free s) x = unmarked _ (λ p. p.0) old
  marked-in (Bounded Morning k) x = unmarked _ (λ p. p.0) old
  marked-in (Bounded Main k) x =
      subst (λ (b : Bool). Decides b ((Unit {0} × Far (lp o h Main) (distance x (lp o h Main))) ⊎ Marked distance o h)) (sym (set w.day.marks (lp_of w.day Main) x))
      (let d = Decides-or _ _ old (subst (λ (l : ℕ). Decides (test l x) (Far (lp o h Main) (distance x (lp o h Main)))) (sym (lp_is o h w v Main)) (decides (lp o h Main) x)) in
      ((λ e. elim (d.0 e) [ inl m ↦ inr m | inr f ↦ inl (tt, f) ]), λ c. elim c [ inl f ↦ d.1 (inr f.1) | inr m ↦ d.1 (inl m) ]))
  marked-in (Bounded Evening k) x = unmarked _ (λ p. p.0) old
  marked-in (Bounded Weekend k) x = unmarked _ (λ p. p.0) old

  pub mark_is : (e : Entry) → Decides (mark (marks_after o.hours w.day e)) (Marked distance o (e ∷ h))
  mark_is (Clock t) = unmarked _ (λ n. n) old
  mark_is (Post t s m x) = unmarked _ (λ n. n) old
  mark_is (Leave t s x) = unmarked _ (λ n. n) old
  mark_is (Trade t m x n) =
      cond_both (eqb m 0) _ _ (λ (k : Marks). Decides (mark k) (Marked distance o (Trade t m x n ∷ h)))
      (λ e.
      let d = marked-in (slot_at o.hours t) x in
      ((λ b. elim (d.0 b) [ inl f ↦ inl (eqb-true m 0 e, f.0, f.1) | inr k ↦ inr k ]), λ c. elim c [ inl f ↦ d.1 (inl (f.1, f.2)) | inr k ↦ d.1 (inr k) ]))
      (λ e. unmarked _ (λ f. eqb-false m 0 e f.0) old)
  mark_is (Parameters t p) = unmarked _ (λ n. n) old
  mark_is (Reference t k x) = unmarked _ (λ n. n) old
  mark_is (Ruling t x) = unmarked _ (λ n. n) old

module _ (o : Opening) (h : List Entry) (w : State) (v : Agrees o h w) where
  pub upward_is : (e : Entry) → Decides (marks_after o.hours w.day e).upward (Marked above o (e ∷ h))
  upward_is = mark_is o h w v (λ m. m.upward) above (λ l x. ltb (118 * l) (100 * x)) (λ m l x. refl) far_above v.upward

  pub downward_is : (e : Entry) → Decides (marks_after o.hours w.day e).downward (Marked below o (e ∷ h))
  downward_is = mark_is o h w v (λ m. m.downward) below (λ l x. ltb (100 * x) (82 * l)) (λ m l x. refl) far_below v.downward

  -- ── parameters and references ──

  pub params-after : (e : Entry) → params_after w.day.params e ≡ params o (e ∷ h)
  params-after (Clock t) = v.params_are
  params-after (Post t s m x) = v.params_are
  params-after (Leave t s x) = v.params_are
  params-after (Trade t m x n) = v.params_are
  params-after (Parameters t p) = refl
  params-after (Reference t k x) = v.params_are
  params-after (Ruling t x) = v.params_are

  pub params_sound_after : (e : Entry) → InRange e → AreParams (params o (e ∷ h))
  params_sound_after (Clock t) r = v.params_sound
  params_sound_after (Post t s m x) r = v.params_sound
  params_sound_after (Leave t s x) r = v.params_sound
  params_sound_after (Trade t m x n) r = v.params_sound
  params_sound_after (Parameters t p) r = r
  params_sound_after (Reference t k x) r = v.params_sound
  params_sound_after (Ruling t x) r = v.params_sound

  pub references-after : (e : Entry) → references_after w.day.references e ≡ references (e ∷ h)
  references-after (Clock t) = v.references_are
  references-after (Post t s m x) = v.references_are
  references-after (Leave t s x) = v.references_are
  references-after (Trade t m x n) = v.references_are
  references-after (Parameters t p) = v.references_are
  references-after (Reference t k x) = ap (λ (r : References). entered r (session_of k) x) v.references_are ∙ entered_is h t k x
  references-after (Ruling t x) = v.references_are

  -- ── forerunners ──

  -- an entry that is no leave on a side keeps its forerunner
  forerun-kept : (e : Entry) (s : Side) → ((x : ℕ) → left e s x ≡ false) → Forerun (e ∷ h) s (forerunner_of w.day.forerunners s)
  forerun-kept e s n = inr ((λ x k. both_ways _ (n x) k.0), forerun o h w v s)

  pub forerun_after : (e : Entry) (s : Side) → Forerun (e ∷ h) s (forerunner_of (forerunners_after w e) s)
  forerun_after (Clock t) s = forerun-kept (Clock t) s (λ _. refl)
  forerun_after (Post t r m x) s = forerun-kept (Post t r m x) s (λ _. refl)
  forerun_after (Leave t r x) s =
      elim (side_or r s) [
        | inl k ↦ subst (λ (z : Side). Forerun (Leave t r x ∷ h) z (forerunner_of (ended w.day.forerunners r x t (first (levels_of w.book r))) z)) k.0
            (forerun-leave h r (levels_of w.book r) x t w.day.forerunners (shows o h w v r) (forerun o h w v r))
        | inr k ↦ subst (λ (z : Side). Forerun (Leave t r x ∷ h) z (forerunner_of (ended w.day.forerunners r x t (first (levels_of w.book r))) z)) (sym k.0)
            (subst (Forerun (Leave t r x ∷ h) (other_side r)) (sym (forerunner_kept r (levels_of w.book r) x t w.day.forerunners))
            (forerun-kept (Leave t r x) (other_side r) (λ y. and_left _ _ (same-other r))))
      ]
  forerun_after (Trade t m x n) s = forerun-kept (Trade t m x n) s (λ _. refl)
  forerun_after (Parameters t p) s = forerun-kept (Parameters t p) s (λ _. refl)
  forerun_after (Reference t k x) s = forerun-kept (Reference t k x) s (λ _. refl)
  forerun_after (Ruling t x) s = forerun-kept (Ruling t x) s (λ _. refl)
