-- The prices of a side by rank, best first, and the levels that its cells hold.
use Rattle.std.specs.Prelude.{◌≡◌, ℕ, zero, suc, ◌+◌, ◌-◌, ◌*◌, ◌^◌, ◌<◌, ◌≤◌, Bool, cond, ◌&&◌, List, [], ◌∷◌, drop, Some, None, Option, ◌==◌, nat_le, slice_index, slice_index_or}
use Rattle.entry.specs.declared.Side.{Side}
use Rattle.entry.specs.declared.Side.TheVariants.{Buy, Sell}
use Rattle.board.specs.declared.levels.Level.{Level}
use Rattle.board.specs.Book.{Book}
use Rattle.grid.specs.declared.cells.Cell.{Cell}

-- a cell with no order
abbrev pub no_order : Cell
no_order = record { orders = 0; since = 0 }

abbrev pub cell_at : List Cell → ℕ → Cell
cell_at cs i = slice_index_or cs i no_order

-- the price of a rank: rank 0 has the best price of the 256 from start on
abbrev pub price_at : Side → ℕ → ℕ → ℕ
price_at Buy start i = (start + 255) - i
price_at Sell start i = start + i

-- whether a price is one of the 256
abbrev pub in_range : ℕ → ℕ → Bool
in_range start p = nat_le start p && nat_le p (start + 255)

-- how many ranks are as good as price p or better; past 256, all of them
abbrev pub ranks_to : Side → ℕ → ℕ → ℕ
ranks_to Buy start p = (start + 256) - p
ranks_to Sell start p = (p + 1) - start

-- a cell as a level at price p
abbrev pub level_in : ℕ → Cell → Level
level_in p c = record { price = p; orders = c.orders; since = c.since }

abbrev pub seen : ℕ → Cell → Option Level
seen p c = cond (c.orders == 0) None (Some (level_in p c))

-- the cell that holds a level
abbrev pub holding : Level → Cell
holding x = record { orders = x.orders; since = x.since }

-- the levels that the cells hold, where the first cell has rank k
abbrev pub levels : Side → ℕ → ℕ → List Cell → List Level
levels s start k [] = []
levels s start k (c ∷ cs) =
    cond (c.orders == 0) (levels s start (suc k) cs) (level_in (price_at s start k) c ∷ levels s start (suc k) cs)

-- what a grid from start on holds, with these cells
abbrev pub book_over : ℕ → List Cell → List Cell → Book
book_over start bids asks =
    record { low = start; high = start + 255; room = 256; buys = levels Buy start 0 bids; sells = levels Sell start 0 asks }

-- the first rank whose cell holds a level, where the first cell has rank k
abbrev pub first_of : ℕ → List Cell → Option ℕ
first_of k [] = None
first_of k (c ∷ cs) = cond (c.orders == 0) (first_of (k + 1) cs) (Some k)

-- the first n cells as a number of n bits, the first cell at the highest: a bit is set where the cell holds a level
abbrev pub bit : Cell → ℕ
bit c = cond (c.orders == 0) 0 1

abbrev pub word : ℕ → List Cell → ℕ
word zero cs = 0
word (suc n) [] = 0
word (suc n) (c ∷ cs) = bit c * 2 ^ n + word n cs

-- the four words mark the cells that hold a level
abbrev pub Marks : List ℕ → List Cell → Type 0
Marks ms cs = (w : ℕ) → w < 4 → slice_index ms w ≡ word 64 (drop (64 * w) cs)

-- no cell has more orders than a level may have
abbrev pub Limited : List Cell → Type 0
Limited cs = (i : ℕ) → (cell_at cs i).orders ≤ 65535
