-- What a day is by its opening and its accepted entries alone. A history h has the newest entry first. No figure of a state stands here.
use Rattle.std.specs.Prelude.{◌≡◌, ℕ, suc, ◌+◌, ◌-◌, ◌*◌, ◌<◌, ◌≤◌, Bool, true, false, cond, ◌&&◌, ◌⊎◌, List, [], ◌∷◌, length, Some, None, Option, ◌==◌, ◌≢◌}
use Rattle.entry.specs.declared.Side.{Side}
use Rattle.entry.specs.declared.Side.TheVariants.{Buy, Sell}
use Rattle.entry.specs.declared.Params.{Params}
use Rattle.entry.specs.declared.Entry.{Entry}
use Rattle.entry.specs.declared.Entry.TheVariants.{Clock, Post, Leave, Trade, Parameters, Reference, Ruling}
use Rattle.board.specs.declared.levels.Level.{Level}
use Rattle.plan.specs.declared.slots.Session.{Session}
use Rattle.plan.specs.declared.slots.Session.TheVariants.{Morning, Main, Evening, Weekend}
use Rattle.plan.specs.declared.slots.Slot.{Slot}
use Rattle.plan.specs.declared.slots.Slot.TheVariants.{NoSession, Free, Bounded}
use Rattle.plan.specs.declared.slots.Window.{Window}
use Rattle.plan.specs.Sessions.{code_of}
use Rattle.plan.specs.Hours.{slot_at}
use Rattle.limits.specs.declared.BoundedWindow.{BoundedWindow}
use Rattle.limits.specs.Exact.{FromStaticLower, ToStaticUpper, FromDynamicLower, ToDynamicUpper}
use Rattle.rules.specs.declared.figures.Forerunner.{Forerunner}
use Rattle.rules.specs.declared.figures.ClosedFigures.{ClosedFigures}

-- what a day is opened with: the plan's windows, the board's price range and greatest number of levels a side, the closed day,
-- the time and the parameters
pub record Opening : Type 0 where
  pub hours : List Window
  pub low : ℕ
  pub high : ℕ
  pub room : ℕ
  pub before : ClosedFigures
  pub time : ℕ
  pub params : Params

-- ── entries ──

-- the time that an entry carries
abbrev pub at : Entry → ℕ
at (Clock t) = t
at (Post t s m x) = t
at (Leave t s x) = t
at (Trade t m x n) = t
at (Parameters t p) = t
at (Reference t k x) = t
at (Ruling t x) = t

abbrev pub same : Side → Side → Bool
same Buy Buy = true
same Buy Sell = false
same Sell Buy = false
same Sell Sell = true

-- better is higher for buys and lower for sells
abbrev pub Better : Side → ℕ → ℕ → Type 0
Better Buy x y = y < x
Better Sell x y = x < y

-- whether an entry is a post of main trading at a side and price
abbrev pub posted : Entry → Side → ℕ → Bool
posted (Clock t) s x = false
posted (Post t s' m y) s x = m == 0 && (same s' s && y == x)
posted (Leave t s' y) s x = false
posted (Trade t m y n) s x = false
posted (Parameters t p) s x = false
posted (Reference t k y) s x = false
posted (Ruling t y) s x = false

-- whether an entry is a leave there
abbrev pub left : Entry → Side → ℕ → Bool
left (Clock t) s x = false
left (Post t s' m y) s x = false
left (Leave t s' y) s x = same s' s && y == x
left (Trade t m y n) s x = false
left (Parameters t p) s x = false
left (Reference t k y) s x = false
left (Ruling t y) s x = false

-- ── orders that stand ──

abbrev pub posts : List Entry → Side → ℕ → ℕ
posts [] s x = 0
posts (e ∷ h) s x = cond (posted e s x) (suc (posts h s x)) (posts h s x)

abbrev pub leaves : List Entry → Side → ℕ → ℕ
leaves [] s x = 0
leaves (e ∷ h) s x = cond (left e s x) (suc (leaves h s x)) (leaves h s x)

-- the orders standing at a side and price: the main-trading posts minus the leaves
abbrev pub standing : List Entry → Side → ℕ → ℕ
standing h s x = posts h s x - leaves h s x

-- since when: the time of the last post that found none standing
abbrev pub stands_since : List Entry → Side → ℕ → ℕ
stands_since [] s x = 0
stands_since (e ∷ h) s x = cond (posted e s x && standing h s x == 0) (at e) (stands_since h s x)

-- the level there, or none
abbrev pub shown : ℕ → ℕ → ℕ → Option Level
shown n x u = cond (n == 0) None (Some (record { price = x; orders = n; since = u }))

abbrev pub level : List Entry → Side → ℕ → Option Level
level h s x = shown (standing h s x) x (stands_since h s x)

-- a level stands at x, and none better stands on its side
abbrev pub Best : List Entry → Side → ℕ → Type 0
Best h s x = (0 < standing h s x) × ((y : ℕ) → 0 < standing h s y → Better s y x → ⊥)

-- every buy that stands is below every sell
abbrev pub Uncrossed : List Entry → Type 0
Uncrossed h = (x y : ℕ) → 0 < standing h Buy x → 0 < standing h Sell y → x < y

-- ── forerunner, credit and required time ──

-- the entry e takes the last order of the level at x, which is the best of its side
abbrev pub Ends : Entry → List Entry → Side → ℕ → Type 0
Ends e h s x = (left e s x ≡ true) × (standing h s x ≡ 1) × Best h s x

-- a level that stood at x and ended at t, with its life
abbrev pub gone : List Entry → Side → ℕ → ℕ → Forerunner
gone h s x t = record { price = x; since = stands_since h s x; life = t - stands_since h s x }

-- f is the forerunner of a side: the level that most recently lost its last order while being best, if any did
abbrev pub Forerun : List Entry → Side → Option Forerunner → Type 0
Forerun [] s f = f ≡ None
Forerun (e ∷ h) s f =
    ((x : ℕ) × Ends e h s x × (f ≡ Some (gone h s x (at e)))) ⊎ (((x : ℕ) → Ends e h s x → ⊥) × Forerun h s f)

-- the forerunner gives credit to a level at x that stands since u: it had a better price, stood since earlier, and lived for
-- less than five seconds
abbrev pub Credits : Side → Forerunner → ℕ → ℕ → Type 0
Credits s f x u = Better s f.price x × (f.since < u) × (f.life < 5000)

-- w is the time for which a level at x that stands since u must have stood: five seconds less its credit
abbrev pub Requires : Side → Option Forerunner → ℕ → ℕ → ℕ → Type 0
Requires s None x u w = w ≡ 5000
Requires s (Some f) x u w = (Credits s f x u × (w + f.life ≡ 5000)) ⊎ ((Credits s f x u → ⊥) × (w ≡ 5000))

-- posts and leaves show an order there, unbroken, for the time w up to t: one stood after some entry at or before t - w, and
-- after every entry since
abbrev pub Unbroken : List Entry → Side → ℕ → ℕ → ℕ → Type 0
Unbroken [] s x w t = ⊥
Unbroken (e ∷ h) s x w t = (0 < standing (e ∷ h) s x) × ((at e + w ≤ t) ⊎ Unbroken h s x w t)

-- ── quotation ──

-- with the quotation q, the level at x is ripe at t: it is its side's best, betters q, and has stood for its required time
pub record Ripe (h : List Entry) (q t : ℕ) (s : Side) (x : ℕ) : Type 0 where
  pub best : Best h s x
  pub betters : Better s x q
  pub forerunner : Option Forerunner
  pub forerun : Forerun h s forerunner
  pub required : ℕ
  pub requires : Requires s forerunner x (stands_since h s x) required
  pub unbroken : Unbroken h s x required t

-- r is the price of the level that is ripe at t, or q if there is none
abbrev pub Ripens : List Entry → ℕ → ℕ → ℕ → Type 0
Ripens h q t r = ((s : Side) × Ripe h q t s r) ⊎ (((s : Side) (x : ℕ) → Ripe h q t s x → ⊥) × (r ≡ q))

-- after the quotation q, the ground of the entry e makes it r: its own price for a main trade and a ruling, else the ripe level
abbrev pub Grounds : List Entry → ℕ → Entry → ℕ → Type 0
Grounds h q (Clock t) r = Ripens h q t r
Grounds h q (Post t s m x) r = Ripens h q t r
Grounds h q (Leave t s x) r = Ripens h q t r
Grounds h q (Trade t m x n) r = (m ≡ 0 → r ≡ x) × ((m ≢ 0) → Ripens h q t r)
Grounds h q (Parameters t p) r = Ripens h q t r
Grounds h q (Reference t k x) r = Ripens h q t r
Grounds h q (Ruling t x) r = r ≡ x

-- the quotation of a day's opening: the last one, or SP on the first day
abbrev pub first_quotation : Option ℕ → Params → ℕ
first_quotation None p = p.sp
first_quotation (Some q) p = q

-- q is the quotation after h
abbrev pub Quoted : Opening → List Entry → ℕ → Type 0
Quoted o [] q = q ≡ first_quotation o.before.quotation o.params
Quoted o (e ∷ h) q = (p : ℕ) × Quoted o h p × Grounds h p e q

-- q is the quotation that limits at t use
abbrev pub QuotedAt : Opening → List Entry → ℕ → ℕ → Type 0
QuotedAt o h t q = (p : ℕ) × Quoted o h p × Ripens h p t q

-- ── parameters, references and marks ──

-- the latest accepted time, or the opening's
abbrev pub latest : Opening → List Entry → ℕ
latest o [] = o.time
latest o (e ∷ h) = at e

-- the latest parameters
abbrev pub new_params : Entry → Params → Params
new_params (Clock t) old = old
new_params (Post t s m x) old = old
new_params (Leave t s x) old = old
new_params (Trade t m x n) old = old
new_params (Parameters t p) old = p
new_params (Reference t k x) old = old
new_params (Ruling t x) old = old

abbrev pub params : Opening → List Entry → Params
params o [] = o.params
params o (e ∷ h) = new_params e (params o h)

-- the latest reference entered for a session, or none
abbrev pub new_reference : Entry → Session → Option ℕ → Option ℕ
new_reference (Clock t) s old = old
new_reference (Post t s' m x) s old = old
new_reference (Leave t s' x) s old = old
new_reference (Trade t m x n) s old = old
new_reference (Parameters t p) s old = old
new_reference (Reference t k x) s old = cond (k == code_of s) (Some x) old
new_reference (Ruling t x) s old = old

abbrev pub reference : List Entry → Session → Option ℕ
reference [] s = None
reference (e ∷ h) s = new_reference e s (reference h s)

-- LP of a session: the latest reference, or SP if there is none
abbrev pub given : Option ℕ → ℕ → ℕ
given None y = y
given (Some x) y = x

abbrev pub lp : Opening → List Entry → Session → ℕ
lp o h s = given (reference h s) (params o h).sp

-- a time in a bounded window of the main session
abbrev pub MainBounded : Slot → Type 0
MainBounded NoSession = ⊥
MainBounded (Free s) = ⊥
MainBounded (Bounded Morning k) = ⊥
MainBounded (Bounded Main k) = Unit {0}
MainBounded (Bounded Evening k) = ⊥
MainBounded (Bounded Weekend k) = ⊥

-- far off a price by some distance: more than 18 hundredths of it
abbrev pub Far : ℕ → ℕ → Type 0
Far price distance = 18 * price < 100 * distance

-- the entry is a main trade in a bounded window of the main session, and its price is far off LP by the given distance
abbrev pub FarTrade : (ℕ → ℕ → ℕ) → Opening → List Entry → Entry → Type 0
FarTrade distance o h (Clock t) = ⊥
FarTrade distance o h (Post t s m x) = ⊥
FarTrade distance o h (Leave t s x) = ⊥
FarTrade distance o h (Trade t m x n) = (m ≡ 0) × MainBounded (slot_at o.hours t) × Far (lp o h Main) (distance x (lp o h Main))
FarTrade distance o h (Parameters t p) = ⊥
FarTrade distance o h (Reference t k x) = ⊥
FarTrade distance o h (Ruling t x) = ⊥

-- some trade of the day was far off in a direction
abbrev pub Marked : (ℕ → ℕ → ℕ) → Opening → List Entry → Type 0
Marked distance o [] = ⊥
Marked distance o (e ∷ h) = FarTrade distance o h e ⊎ Marked distance o h

-- how far a price x lies above LP, and below it
abbrev pub above : ℕ → ℕ → ℕ
above x y = x - y

abbrev pub below : ℕ → ℕ → ℕ
below x y = y - x

-- ── limits ──

-- the bounded window that holds at a slot, with the day's own LP and the days left that open was given
abbrev pub bounds : Opening → List Entry → Slot → Option BoundedWindow
bounds o h NoSession = None
bounds o h (Free s) = None
bounds o h (Bounded s k) =
    Some (record { session = code_of s; k = k; lp = lp o h s; up = o.before.days.upward; down = o.before.days.downward })

abbrev pub InStatic : Opening → List Entry → ℕ → Type 0
InStatic o h x = FromStaticLower (params o h) x × ToStaticUpper (params o h) x

-- not above the dynamic upper limit at t, and not below the lower one
abbrev pub UpToDynamic : Opening → List Entry → ℕ → ℕ → Type 0
UpToDynamic o h t x = (q : ℕ) × QuotedAt o h t q × ToDynamicUpper (params o h) q (bounds o h (slot_at o.hours t)) x

abbrev pub FromDynamic : Opening → List Entry → ℕ → ℕ → Type 0
FromDynamic o h t x = (q : ℕ) × QuotedAt o h t q × FromDynamicLower (params o h) q (bounds o h (slot_at o.hours t)) x

-- a buy must not exceed the upper limit, and a sell must not go below the lower one
abbrev pub InSide : Opening → List Entry → ℕ → Side → ℕ → Type 0
InSide o h t Buy x = UpToDynamic o h t x
InSide o h t Sell x = FromDynamic o h t x

-- the limits set for an entry's kind, mode and side, at its own time
abbrev pub Within : Opening → List Entry → Entry → Type 0
Within o h (Clock t) = Unit {0}
Within o h (Post t s m x) = InStatic o h x × (m ≡ 0 → InSide o h t s x)
Within o h (Leave t s x) = Unit {0}
Within o h (Trade t m x n) = InStatic o h x × ((m ≢ 2) → FromDynamic o h t x × UpToDynamic o h t x)
Within o h (Parameters t p) = Unit {0}
Within o h (Reference t k x) = Unit {0}
Within o h (Ruling t x) = Unit {0}

-- ── the table of refusals ──

abbrev pub IsPrice : ℕ → Type 0
IsPrice x = (0 < x) × (x ≤ 1000000000)

-- the risk parameters are in range, and LR is not above UR
abbrev pub AreParams : Params → Type 0
AreParams p = IsPrice p.sp × (p.l ≤ 1000000000) × (p.ur ≤ 1000000000) × (p.lr ≤ p.ur)

-- every code and figure, the time apart, is in its range
abbrev pub InRange : Entry → Type 0
InRange (Clock t) = Unit {0}
InRange (Post t s m x) = ((m ≡ 0) ⊎ (m ≡ 2)) × IsPrice x
InRange (Leave t s x) = IsPrice x
InRange (Trade t m x n) = (m < 3) × IsPrice x × (0 < n) × (n < 16777216)
InRange (Parameters t p) = AreParams p
InRange (Reference t k x) = (0 < k) × (k < 5) × IsPrice x
InRange (Ruling t x) = IsPrice x

-- not before the day's time, and before the end of the tenth calendar day
abbrev pub OnTime : Opening → List Entry → ℕ → Type 0
OnTime o h t = (latest o h ≤ t) × (t < 864000000)

abbrev pub InSession : Opening → ℕ → Type 0
InSession o t = slot_at o.hours t ≡ NoSession → ⊥

-- a buy is below every sell that stands, and a sell above every buy
abbrev pub Clear : List Entry → Side → ℕ → Type 0
Clear h Buy x = (y : ℕ) → 0 < standing h Sell y → x < y
Clear h Sell x = (y : ℕ) → 0 < standing h Buy y → y < x

-- the prices ps are those at which an order stands on a side, best first
abbrev pub Among : ℕ → List ℕ → Type 0
Among x [] = ⊥
Among x (p ∷ ps) = (x ≡ p) ⊎ Among x ps

abbrev pub AllWorse : Side → ℕ → List ℕ → Type 0
AllWorse s p [] = Unit {0}
AllWorse s p (x ∷ ps) = Better s p x × AllWorse s p ps

abbrev pub BestFirst : Side → List ℕ → Type 0
BestFirst s [] = Unit {0}
BestFirst s (p ∷ ps) = AllWorse s p ps × BestFirst s ps

pub record Prices (h : List Entry) (s : Side) (ps : List ℕ) : Type 0 where
  pub ordered : BestFirst s ps
  pub stand : (x : ℕ) → Among x ps → 0 < standing h s x
  pub all : (x : ℕ) → 0 < standing h s x → Among x ps

-- an order there joins a level, or is in the board's range and finds fewer levels on its side than the greatest number
abbrev pub HasPlace : Opening → List Entry → Side → ℕ → Type 0
HasPlace o h s x =
    (0 < standing h s x) ⊎ ((o.low ≤ x) × (x ≤ o.high) × ((ps : List ℕ) × Prices h s ps × (length ps < o.room)))

-- n is k if the check fails; if it is passed, n is what the next checks say
pub data Check (Passed : Type 0) (k : ℕ) (next : ℕ → Type 0) (n : ℕ) : Type 0 where
  passes : Passed → next n → Check Passed k next n
  fails : (Passed → ⊥) → n ≡ k → Check Passed k next n

abbrev pub Accepted : ℕ → Type 0
Accepted n = n ≡ 0

-- n is the number of the first check that the entry fails, or 0
abbrev pub Table : Opening → List Entry → Entry → ℕ → Type 0
Table o h (Clock t) = Check (OnTime o h t) 2 Accepted
Table o h (Post t s m x) =
    Check (InRange (Post t s m x)) 1
    (Check (OnTime o h t) 2
    (Check (InSession o t) 3
    (Check (InStatic o h x) 4
    (Check (m ≡ 0 → InSide o h t s x) 5
    (Check (m ≡ 0 → Clear h s x) 6
    (Check (m ≡ 0 → standing h s x < 65535) 7
    (Check (m ≡ 0 → HasPlace o h s x) 8 Accepted)))))))
Table o h (Leave t s x) = Check (InRange (Leave t s x)) 1 (Check (OnTime o h t) 2 (Check (0 < standing h s x) 9 Accepted))
Table o h (Trade t m x n) =
    Check (InRange (Trade t m x n)) 1
    (Check (OnTime o h t) 2
    (Check (InSession o t) 3
    (Check (InStatic o h x) 4
    (Check ((m ≢ 2) → FromDynamic o h t x × UpToDynamic o h t x) 5 Accepted))))
Table o h (Parameters t p) = Check (InRange (Parameters t p)) 1 (Check (OnTime o h t) 2 Accepted)
Table o h (Reference t k x) = Check (InRange (Reference t k x)) 1 (Check (OnTime o h t) 2 Accepted)
Table o h (Ruling t x) = Check (InRange (Ruling t x)) 1 (Check (OnTime o h t) 2 Accepted)
