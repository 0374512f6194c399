-- A side's levels against its cells: what reading and writing one cell means for the list.
use Rattle.std.proofs.Common.{◌≡◌, ℕ, zero, suc, ◌+◌, ◌-◌, ◌<◌, ◌≤◌, true, false, eqb, ltb, leb, cond, List, [], ◌∷◌, length, drop, set, Some, None, Option, MatchOption, Ok, Result, refl, ap, ◌∙◌, inl, inr, arith}
use Rattle.std.proofs.lemmas.Bool.Decides.{nat_tests}
use Rattle.std.proofs.lemmas.Bool.{cases_Bool}
use Rattle.entry.specs.declared.Side.{Side}
use Rattle.entry.specs.declared.Side.TheVariants.{Buy, Sell}
use Rattle.board.specs.Levels.{new_level, more_answer, less_answer, left, single}
use Rattle.board.specs.declared.faults.BoardFault.{BoardFault}
use Rattle.board.specs.declared.levels.Level.{Level}
use Rattle.board.specs.Book.{first, better, level_at, next_after}
use Rattle.board.specs.Calls.{added, taken}
use Rattle.grid.specs.declared.cells.Cell.{Cell}
use Rattle.grid.specs.Ranks.{no_order, cell_at, price_at, ranks_to, seen, level_in, holding, levels, first_of}

-- prices compare as their ranks do
pub better_rank : (s : Side) (start i j : ℕ) → i < 256 → j < 256 → better s (price_at s start i) (price_at s start j) ≡ ltb i j
better_rank Buy start i j m n = grind (arith, nat_tests)
better_rank Sell start i j m n = grind (arith, nat_tests)

pub same_rank : (s : Side) (start i j : ℕ) → i < 256 → j < 256 → eqb (price_at s start i) (price_at s start j) ≡ eqb i j
same_rank Buy start i j m n = grind (arith, nat_tests)
same_rank Sell start i j m n = grind (arith, nat_tests)

-- no level stands at a price that no rank has
pub absent : (s : Side) (start p k : ℕ) (cs : List Cell) → ((i : ℕ) → k ≤ i → i < k + length cs → eqb (price_at s start i) p ≡ false) → level_at p (levels s start k cs) ≡ None
absent s start p k [] f = refl
absent s start p k (c ∷ cs) f =
    let ih = absent s start p (suc k) cs (λ i m n. f i (omega arith) (omega arith)) in
    let h = f k (omega arith) (omega arith) in
    grind (arith, nat_tests)

passed : (s : Side) (start i k : ℕ) (cs : List Cell) → i < k → k + length cs ≤ 256 → level_at (price_at s start i) (levels s start k cs) ≡ None
passed s start i k cs m n = absent s start (price_at s start i) k cs (λ j a b. same_rank s start j i (omega arith) (omega arith) ∙ grind (arith, nat_tests))

-- the level at a rank's price is the rank's cell
pub at_rank : (s : Side) (start i k j : ℕ) (cs : List Cell) → i ≡ k + j → j < length cs → k + length cs ≤ 256 → level_at (price_at s start i) (levels s start k cs) ≡ seen (price_at s start i) (cell_at cs j)
at_rank s start i k j [] e m n = absurd (omega arith)
at_rank s start i k zero (c ∷ cs) e m n =
    let o : i ≡ k = omega arith in
    let z = passed s start i (suc k) cs (omega arith) (omega arith) in
    let q = same_rank s start k i (omega arith) (omega arith) in
    let r : price_at s start i ≡ price_at s start k = ap (price_at s start) o in
    grind (arith, nat_tests)
at_rank s start i k (suc j) (c ∷ cs) e m n =
    let ih = at_rank s start i (suc k) j cs (omega arith) (omega arith) (omega arith) in
    let q = same_rank s start k i (omega arith) (omega arith) in
    grind (arith, nat_tests)

-- a level that betters all of the list goes in front
front : (s : Side) (start t i k : ℕ) (cs : List Cell) → i < k → k + length cs ≤ 256 → added s (price_at s start i) t (levels s start k cs) ≡ new_level (price_at s start i) t ∷ levels s start k cs
front s start t i k [] m n = refl
front s start t i k (c ∷ cs) m n =
    let ih = front s start t i (suc k) cs (omega arith) (omega arith) in
    let q = same_rank s start k i (omega arith) (omega arith) in
    let b = better_rank s start i k (omega arith) (omega arith) in
    grind (arith, nat_tests)

-- a cell with one order more, and with one less
abbrev pub more : ℕ → Cell → Cell
more t c = record { orders = c.orders + 1; since = cond (eqb c.orders 0) t c.since }

abbrev pub less : Cell → Cell
less c = record { orders = c.orders - 1; since = c.since }

-- the level after one order more at price p
abbrev pub raised : ℕ → ℕ → Option Level → Result Level BoardFault
raised p t None = Ok (new_level p t)
raised p t (Some x) = more_answer x

-- the cell after one order less
abbrev pub lowered : Level → Cell
lowered x = cond (single x) no_order (holding (left x))

pub lowered_is : (x : Level) (c d : Cell) → d ≡ no_order → MatchOption (less_answer x) (c ≡ d) (λ y. c ≡ holding y) → c ≡ lowered x
lowered_is x c d e = elim (single x) as (λ b. MatchOption (cond b None (Some (left x))) (c ≡ d) (λ y. c ≡ holding y) → c ≡ cond b no_order (holding (left x))) [
  | true ↦ λ h. h ∙ e
  | false ↦ λ h. h
]

-- the cell of the level is the one with an order more
pub raised_cell : (p t : ℕ) (c : Cell) (x : Level) → raised p t (seen p c) ≡ Ok x → more t c ≡ holding x
raised_cell p t c x w = grind (arith, nat_tests)

pub raise_rank : (s : Side) (start t i k j : ℕ) (cs : List Cell) → i ≡ k + j → j < length cs → k + length cs ≤ 256 → added s (price_at s start i) t (levels s start k cs) ≡ levels s start k (set cs j (more t (cell_at cs j)))
raise_rank s start t i k j [] e m n = absurd (omega arith)
raise_rank s start t i k zero (c ∷ cs) e m n =
    let o : i ≡ k = omega arith in
    let z = front s start t i (suc k) cs (omega arith) (omega arith) in
    let q = same_rank s start k i (omega arith) (omega arith) in
    let r : price_at s start i ≡ price_at s start k = ap (price_at s start) o in
    grind (arith, nat_tests)
raise_rank s start t i k (suc j) (c ∷ cs) e m n =
    let ih = raise_rank s start t i (suc k) j cs (omega arith) (omega arith) (omega arith) in
    let q = same_rank s start k i (omega arith) (omega arith) in
    let b = better_rank s start i k (omega arith) (omega arith) in
    grind (arith, nat_tests)

pub raise_level : (s : Side) (start t i k j : ℕ) (cs : List Cell) (x : Level) → i ≡ k + j → j < length cs → k + length cs ≤ 256 → raised (price_at s start i) t (seen (price_at s start i) (cell_at cs j)) ≡ Ok x → added s (price_at s start i) t (levels s start k cs) ≡ levels s start k (set cs j (holding x))
raise_level s start t i k j cs x e m n w = raise_rank s start t i k j cs e m n ∙ ap (λ (c : Cell). levels s start k (set cs j c)) (raised_cell (price_at s start i) t (cell_at cs j) x w)

-- the cell c holds what an order less leaves
pub lower_to : (s : Side) (start i k j : ℕ) (cs : List Cell) (d : Cell) → i ≡ k + j → j < length cs → k + length cs ≤ 256 → 0 < (cell_at cs j).orders → seen (price_at s start i) d ≡ less_answer (level_in (price_at s start i) (cell_at cs j)) → taken (price_at s start i) (levels s start k cs) ≡ levels s start k (set cs j d)
lower_to s start i k j [] d e m n w v = absurd (omega arith)
lower_to s start i k zero (c ∷ cs) d e m n w v =
    let o : i ≡ k = omega arith in
    let q = same_rank s start k i (omega arith) (omega arith) in
    let r : price_at s start i ≡ price_at s start k = ap (price_at s start) o in
    grind (arith, nat_tests)
lower_to s start i k (suc j) (c ∷ cs) d e m n w v =
    let ih = lower_to s start i (suc k) j cs d (omega arith) (omega arith) (omega arith) w v in
    let q = same_rank s start k i (omega arith) (omega arith) in
    grind (arith, nat_tests)

pub less_seen : (p : ℕ) (c : Cell) → 0 < c.orders → seen p (less c) ≡ less_answer (level_in p c)
less_seen p c w = grind (arith, nat_tests)

pub lowered_seen : (p : ℕ) (c : Cell) → 0 < c.orders → seen p (lowered (level_in p c)) ≡ less_answer (level_in p c)
lowered_seen p c w = grind (arith, nat_tests)

pub lower_rank : (s : Side) (start i k j : ℕ) (cs : List Cell) → i ≡ k + j → j < length cs → k + length cs ≤ 256 → 0 < (cell_at cs j).orders → taken (price_at s start i) (levels s start k cs) ≡ levels s start k (set cs j (less (cell_at cs j)))
lower_rank s start i k j cs e m n w = lower_to s start i k j cs _ e m n w (less_seen (price_at s start i) (cell_at cs j) w)

pub lower_level : (s : Side) (start i k j : ℕ) (cs : List Cell) → i ≡ k + j → j < length cs → k + length cs ≤ 256 → 0 < (cell_at cs j).orders → taken (price_at s start i) (levels s start k cs) ≡ levels s start k (set cs j (lowered (level_in (price_at s start i) (cell_at cs j))))
lower_level s start i k j cs e m n w = lower_to s start i k j cs _ e m n w (lowered_seen (price_at s start i) (cell_at cs j) w)

-- there are no more levels than cells, and fewer where a cell is empty
pub fewer : (s : Side) (start k : ℕ) (cs : List Cell) → length (levels s start k cs) ≤ length cs
fewer s start k [] = omega arith
fewer s start k (c ∷ cs) = let ih = fewer s start (suc k) cs in grind (arith, nat_tests)

pub room-left : (s : Side) (start k j : ℕ) (cs : List Cell) → j < length cs → (cell_at cs j).orders ≡ 0 → length (levels s start k cs) < length cs
room-left s start k j [] m w = absurd (omega arith)
room-left s start k zero (c ∷ cs) m w = let f = fewer s start (suc k) cs in grind (arith, nat_tests)
room-left s start k (suc j) (c ∷ cs) m w = let ih = room-left s start (suc k) j cs (omega arith) w in grind (arith, nat_tests)

-- the first cell that stands is the best level
pub best_rank : (s : Side) (start k i : ℕ) (cs : List Cell) → first_of k cs ≡ Some i → (j : ℕ) × (i ≡ k + j) × (j < length cs) × (first (levels s start k cs) ≡ Some (level_in (price_at s start i) (cell_at cs j))) × (first (levels s start k cs) ≡ seen (price_at s start i) (cell_at cs j))
best_rank s start k i [] e = absurd (let z : ◌≡◌ {A = ℕ} 0 1 = cc in omega arith)
best_rank s start k i (c ∷ cs) e =
    elim (cases_Bool (eqb c.orders 0)) [
      | inl t ↦
          let e' : first_of (suc k) cs ≡ Some i = grind (arith, nat_tests) in
          let ih = best_rank s start (suc k) i cs e' in
          (suc ih.0, omega arith, omega arith, (let r = ih.3 in grind (arith, nat_tests)), (let r = ih.4 in grind (arith, nat_tests)))
      | inr f ↦
          let e' : k ≡ i = grind (arith, nat_tests) in
          (0, omega arith, omega arith, grind (arith, nat_tests), grind (arith, nat_tests))
    ]

pub best_none : (s : Side) (start k : ℕ) (cs : List Cell) → first_of k cs ≡ None → first (levels s start k cs) ≡ None
best_none s start k [] e = refl
best_none s start k (c ∷ cs) e = let ih = best_none s start (suc k) cs in grind (arith, nat_tests)

-- the ranks past those as good as a price are the ones worse than it
worse_rank : (s : Side) (start p i : ℕ) → i < 256 → better s p (price_at s start i) ≡ leb (ranks_to s start p) i
worse_rank Buy start p i n = grind (arith, nat_tests)
worse_rank Sell start p i n = grind (arith, nat_tests)

-- where all ranks are worse than the price, the next level is the first
next_here : (s : Side) (start p k : ℕ) (cs : List Cell) → ranks_to s start p ≤ k → k + length cs ≤ 256 → next_after s p (levels s start k cs) ≡ first (levels s start k cs)
next_here s start p k [] m n = refl
next_here s start p k (c ∷ cs) m n =
    let ih = next_here s start p (suc k) cs (omega arith) (omega arith) in
    let b = worse_rank s start p k (omega arith) in
    grind (arith, nat_tests)

-- ranks as good as the price are passed over
pub next_rank : (s : Side) (start p k j : ℕ) (cs : List Cell) → ranks_to s start p ≡ k + j → k + length cs ≤ 256 → next_after s p (levels s start k cs) ≡ first (levels s start (k + j) (drop j cs))
next_rank s start p k zero cs e n =
    next_here s start p k cs (omega arith) n ∙ ap (λ (i : ℕ). first (levels s start i cs)) (omega arith)
next_rank s start p k (suc j) [] e n = refl
next_rank s start p k (suc j) (c ∷ cs) e n =
    let ih = next_rank s start p (suc k) j cs (omega arith) (omega arith) in
    let b = worse_rank s start p k (omega arith) in
    let o : suc k + j ≡ k + suc j = omega arith in
    let h : next_after s p (levels s start (suc k) cs) ≡ first (levels s start (k + suc j) (drop j cs)) = ih ∙ ap (λ (i : ℕ). first (levels s start i (drop j cs))) o in
    grind (arith, nat_tests)
