-- The worked examples, as they follow from the history's own meaning.
use Rattle.std.specs.Prelude.{ℕ, ◌+◌, ◌≤◌, List, [], ◌∷◌, Some, None, Option}
use Rattle.entry.specs.declared.Side.TheVariants.{Buy}
use Rattle.entry.specs.declared.Entry.{Entry}
use Rattle.entry.specs.declared.Entry.TheVariants.{Clock, Post, Leave}
use Rattle.plan.specs.declared.slots.Session.TheVariants.{Morning, Main}
use Rattle.plan.specs.declared.slots.Slot.{Slot}
use Rattle.plan.specs.declared.slots.Slot.TheVariants.{Free, Bounded}
use Rattle.rules.specs.History.{Opening, Ripe, Quoted, Table}
use Rattle.rules.specs.Promise.{StaticPair, DynamicPair}

-- a day with one slot throughout, opened at 0 with the last quotation, if there is one, and SP, L, UR and LR
abbrev pub opening : Slot → Option ℕ → ℕ → ℕ → ℕ → ℕ → Opening
opening slot q sp l ur lr = record {
  hours = record { start = 0; end = 864000000; slot = slot } ∷ [];
  low = 1;
  high = 1000000000;
  room = 16;
  before = record { quotation = q; days = record { upward = 0; downward = 0 } };
  time = 0;
  params = record { sp = sp; l = l; ur = ur; lr = lr };
}

abbrev pub usual : Opening
usual = opening (Free Main) None 1000 100 1300 700

-- ten o'clock
abbrev pub ten : ℕ
ten = 36000000

-- the day's histories of the last two examples, newest entry first
abbrev pub one_buy : ℕ → List Entry
one_buy t = Post t Buy 0 1010 ∷ []

abbrev pub better_gone : ℕ → List Entry
better_gone t = Leave (t + 2000) Buy 1020 ∷ Post (t + 1000) Buy 0 1010 ∷ Post t Buy 0 1020 ∷ []

pub record Worked : Type 0 where
  -- static 200 to 5,000: a buy at 200 passes, one at 199 gets 4
  pub fifth : StaticPair usual [] (200, 5000)
  pub at_lower : Table usual [] (Post ten Buy 0 200) 0
  pub below_lower : Table usual [] (Post ten Buy 0 199) 4
  pub rounded : StaticPair (opening (Free Main) None 1003 10 1300 700) [] (201, 5015)
  pub cut : StaticPair (opening (Free Main) None 1000 2500 1300 700) [] (0, 6000)
  -- dynamic, free and bounded
  pub free : DynamicPair usual [] ten (940, 1060)
  pub inward : DynamicPair (opening (Free Main) (Some 100) 101 0 200 0) [] ten (85, 115)
  pub bounded : DynamicPair (opening (Bounded Morning 100) (Some 1070) 1000 100 1300 700) [] ten (1010, 1100)
  -- a buy of 1,010 posted at t is ripe from t + 5,000 on and not before: a clock leaves 1,000 at t + 4,999, and 1,010 at t + 5,000
  pub ripe : (t now : ℕ) → t + 5000 ≤ now → Ripe (one_buy t) 1000 now Buy 1010
  pub not_before : (t now : ℕ) → Ripe (one_buy t) 1000 now Buy 1010 → t + 5000 ≤ now
  pub unmoved : (t : ℕ) → Quoted usual (Clock (t + 4999) ∷ one_buy t) 1000
  pub moved : (t : ℕ) → Quoted usual (Clock (t + 5000) ∷ one_buy t) 1010
  -- buys of 1,020 at t and 1,010 at t + 1,000, the first leaving at t + 2,000: 1,010 is ripe from t + 4,000 on and not before
  pub credited : (t now : ℕ) → t + 4000 ≤ now → Ripe (better_gone t) 1000 now Buy 1010
  pub not_earlier : (t now : ℕ) → Ripe (better_gone t) 1000 now Buy 1010 → t + 4000 ≤ now
