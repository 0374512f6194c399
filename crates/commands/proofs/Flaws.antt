-- Why a writer refuses a record.
use Rattle.std.proofs.Common.{◌≡◌, ℕ, ◌+◌, Bool, true, false, cond, ltb, ◌⊎◌, List, length, Some, Ok, Err, Option, Result, MatchResult, IsErrAnd, sym, refl, subst, inl, inr, arith, ltb-true}
use Rattle.entry.specs.declared.Entry.{Entry}
use Rattle.entry.specs.declared.refusals.Refusal.{Refusal}
use Rattle.entry.specs.declared.refusals.Refusal.TheVariants as why
use Rattle.feed.specs.declared.whole.WriteFault.{WriteFault}
use Rattle.feed.specs.declared.whole.WriteFault.TheVariants as write
use Rattle.feed.specs.Appending.{appended}
use Rattle.layout.specs.Layout.{fits, kind_of, size}
use Rattle.layout.specs.Reading.{longest}
use Rattle.commands.specs.declared.encoding.Flaw.{Flaw}
use Rattle.commands.specs.Encoding.{flaw_of, Flawed}

-- the two refusals, by the two tests
module _ (feed : List ℕ) (e : Entry) (o : Option Entry) (is : o ≡ Some e) where
  refused : (refusal : Refusal) (f t : Bool) → fits e ≡ f → ltb longest (length feed + size (kind_of e)) ≡ t → ◌≡◌ {A = Result (Unit {0}) WriteFault} (Err (write.Refused refusal)) (cond f (cond t (Err (write.Refused why.FeedTooLong)) (Ok tt)) (Err (write.Refused why.OutOfRange))) → Flawed feed o (flaw_of (write.Refused refusal))
  refused refusal true true p q h =
      let same : refusal ≡ why.FeedTooLong = cc in
      subst (λ r. Flawed feed o (flaw_of (write.Refused r))) (sym same) (e, is, ltb-true _ _ q)
  refused refusal true false p q h = absurd (let z : ◌≡◌ {A = ℕ} 0 1 = cc in omega arith)
  refused refusal false t p q h =
      let same : refusal ≡ why.OutOfRange = cc in
      subst (λ r. Flawed feed o (flaw_of (write.Refused r))) (sym same) (e, is, p)

  pub flawed : (fault : WriteFault) → (◌≡◌ {A = Result (Unit {0}) WriteFault} (Err fault) (appended feed e)) ⊎ ((appended feed e ≡ Ok tt) × (◌≡◌ {A = Result (Unit {0}) WriteFault} (Err fault) (Err write.NoMemory))) → Flawed feed o (flaw_of fault)
  flawed write.NoMemory h = tt
  flawed (write.Refused refusal) (inl h) = refused refusal (fits e) (ltb longest (length feed + size (kind_of e))) refl refl h
  flawed (write.Refused refusal) (inr h) = absurd (let k = h.1 in let z : ◌≡◌ {A = ℕ} 0 1 = cc in omega arith)

-- what is said of a line that a writer refuses, where its fault is passed up as a flaw
pub flawed_so : (ok : Bool → Type 0) (err : Flaw → Type 0) {flaw : Flaw} (result : Result Bool Flaw) → IsErrAnd result (λ f. f ≡ flaw) → err flaw → MatchResult result ok err
flawed_so ok err (Ok b) h e = absurd h
flawed_so ok err (Err f) h e = subst err (sym h) e
