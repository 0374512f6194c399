-- A record behind a feed.
use Rattle.std.proofs.Common.{◌≡◌, ℕ, ◌+◌, ◌-◌, ◌<◌, ◌≤◌, Bool, true, false, cond, ltb, List, length, Ok, Err, Result, ap, ◌∙◌, arith, le-ltb, lt-ltb}
use Rattle.entry.specs.declared.Entry.{Entry}
use Rattle.entry.specs.declared.refusals.Refusal.TheVariants as why
use Rattle.feed.specs.declared.whole.WriteFault.{WriteFault}
use Rattle.feed.specs.declared.whole.WriteFault.TheVariants.{Refused}
use Rattle.layout.specs.Layout.{kind_of, size, fits}
use Rattle.layout.specs.Reading.{longest}
use Rattle.feed.specs.Appending.{appended}

abbrev Answer : Type 0
Answer = Result (Unit {0}) WriteFault

module _ (feed : List ℕ) (e : Entry) where
  abbrev answered : Bool → Bool → Answer
  answered wide long = cond wide (cond long (Err (Refused why.FeedTooLong)) (Ok tt)) (Err (Refused why.OutOfRange))

  pub too_wide_behind : fits e ≡ false → appended feed e ≡ Err (Refused why.OutOfRange)
  too_wide_behind p = ap (λ (b : Bool). answered b (ltb longest (length feed + size (kind_of e)))) p

  by : (b : Bool) → fits e ≡ true → ltb longest (length feed + size (kind_of e)) ≡ b → appended feed e ≡ answered true b
  by b p q = ap (λ (x : Bool). answered x (ltb longest (length feed + size (kind_of e)))) p ∙ ap (answered true) q

  pub too_long_behind : (n : ℕ) → fits e ≡ true → n ≡ size (kind_of e) → 65536 - n < length feed → appended feed e ≡ Err (Refused why.FeedTooLong)
  too_long_behind n p q r = by true p (lt-ltb longest (length feed + size (kind_of e)) (omega (arith, q, r)))

  pub goes_behind : (n : ℕ) → fits e ≡ true → n ≡ size (kind_of e) → n ≤ 20 → length feed ≤ 65536 - n → appended feed e ≡ Ok tt
  goes_behind n p q s r = by false p (le-ltb longest (length feed + size (kind_of e)) (omega (arith, q, r, s)))
