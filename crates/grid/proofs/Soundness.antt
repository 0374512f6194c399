-- What holds of every grid's book.
use Rattle.std.proofs.Common.{◌≡◌, ℕ, zero, suc, ◌+◌, ◌<◌, ◌≤◌, true, eqb, List, [], ◌∷◌, length, set, replicate, ◌∙◌, arith}
use Rattle.std.proofs.lemmas.Bool.Decides.{nat_tests}
use Rattle.std.proofs.lemmas.Bool.{cond_both, eqb-false, lt-ltb}
use Rattle.entry.specs.declared.Side.{Side}
use Rattle.entry.specs.declared.Side.TheVariants.{Buy, Sell}
use Rattle.board.specs.Book.{levels_of}
use Rattle.board.specs.Sound.{Behind, Sorted, AllProper, Sound}
use Rattle.grid.specs.declared.cells.Cell.{Cell}
use Rattle.grid.specs.declared.Grid.{Grid}
use Rattle.grid.specs.Start.{start_fits}
use Rattle.grid.specs.Holding.{grid_book}
use Rattle.grid.specs.Ranks.{no_order, cell_at, price_at, levels, book_over, Limited}
use Rattle.grid.proofs.Levels.{better_rank, fewer}

-- the start and the last price
pub start_range : (start : ℕ) → start_fits start ≡ true → (1 ≤ start) × (start ≤ 999999745)
start_range start e = grind (arith, nat_tests)

behind_rank : (s : Side) (start i k : ℕ) (cs : List Cell) → i < k → k + length cs ≤ 256 → Behind s (price_at s start i) (levels s start k cs)
behind_rank s start i k [] m n = tt
behind_rank s start i k (c ∷ cs) m n =
    let ih = behind_rank s start i (suc k) cs (omega arith) (omega arith) in
    cond_both (eqb c.orders 0) _ _ (Behind s (price_at s start i)) (λ _. ih)
    (λ _. (better_rank s start i k (omega arith) (omega arith) ∙ lt-ltb i k m, ih))

sorted_ranks : (s : Side) (start k : ℕ) (cs : List Cell) → k + length cs ≤ 256 → Sorted s (levels s start k cs)
sorted_ranks s start k [] n = tt
sorted_ranks s start k (c ∷ cs) n =
    let ih = sorted_ranks s start (suc k) cs (omega arith) in
    cond_both (eqb c.orders 0) _ _ (Sorted s) (λ _. ih) (λ _. (behind_rank s start k (suc k) cs (omega arith) (omega arith), ih))

price_range : (s : Side) (start k : ℕ) → k < 256 → (start ≤ price_at s start k) × (price_at s start k ≤ start + 255)
price_range Buy start k n = (omega arith, omega arith)
price_range Sell start k n = (omega arith, omega arith)

proper_ranks : (s : Side) (start k : ℕ) (cs : List Cell) → k + length cs ≤ 256 → Limited cs → AllProper start (start + 255) (levels s start k cs)
proper_ranks s start k [] n f = tt
proper_ranks s start k (c ∷ cs) n f =
    let ih = proper_ranks s start (suc k) cs (omega arith) (λ i. f (suc i)) in
    let p = price_range s start k (omega arith) in
    cond_both (eqb c.orders 0) _ _ (AllProper start (start + 255)) (λ _. ih) (λ e. (record { above = p.0; below = p.1; some = omega (arith, eqb-false c.orders 0 e); fits = f 0 }, ih))

pub sound_of : (start : ℕ) (bids asks : List Cell) → start_fits start ≡ true → length bids ≡ 256 → length asks ≡ 256 → Limited bids → Limited asks → Sound (book_over start bids asks)
sound_of start bids asks a m n f g =
    let r = start_range start a in
    record {
      lowest = r.0;
      wide = omega arith;
      highest = omega arith;
      roomy = omega arith;
      within = λ s. elim s as (λ v. length (levels_of (book_over start bids asks) v) ≤ 256) [ Buy ↦ omega (arith, fewer Buy start 0 bids) | Sell ↦ omega (arith, fewer Sell start 0 asks) ];
      sorted = λ s. elim s as (λ v. Sorted v (levels_of (book_over start bids asks) v)) [ Buy ↦ sorted_ranks Buy start 0 bids (omega arith) | Sell ↦ sorted_ranks Sell start 0 asks (omega arith) ];
      proper = λ s. elim s as (λ v. AllProper start (start + 255) (levels_of (book_over start bids asks) v)) [ Buy ↦ proper_ranks Buy start 0 bids (omega arith) f | Sell ↦ proper_ranks Sell start 0 asks (omega arith) g ];
    }

pub grid_sound : (g : Grid) → Sound (grid_book g)
grid_sound g = sound_of g.start g.sides.buy.cells g.sides.sell.cells g.within g.sides.buy.size g.sides.sell.size g.sides.buy.limited g.sides.sell.limited

pub limited_none : (n i : ℕ) → (cell_at (replicate n no_order) i).orders ≤ 65535
limited_none zero i = omega arith
limited_none (suc n) zero = omega arith
limited_none (suc n) (suc i) = limited_none n i

pub limited_set : (cs : List Cell) (j : ℕ) (c : Cell) → Limited cs → c.orders ≤ 65535 → Limited (set cs j c)
limited_set [] j c f n i = f i
limited_set (x ∷ cs) zero c f n zero = n
limited_set (x ∷ cs) zero c f n (suc i) = f (suc i)
limited_set (x ∷ cs) (suc j) c f n zero = f zero
limited_set (x ∷ cs) (suc j) c f n (suc i) = limited_set cs j c (λ k. f (suc k)) n i
