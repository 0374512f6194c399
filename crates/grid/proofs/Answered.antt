-- What the board's calls answer and leave, on a grid's cells.
use Rattle.std.proofs.Common.{◌≡◌, ℕ, zero, suc, ◌+◌, ◌<◌, ◌≤◌, Bool, true, false, cond, ◌&&◌, eqb, ltb, leb, List, [], length, drop, set, replicate, Some, None, Ok, Err, Option, Result, sym, refl, ap, ◌∙◌, subst, arith}
use Rattle.std.proofs.lemmas.Bool.Decides.{nat_tests}
use Rattle.std.proofs.lemmas.List.{get_or-drop, length-drop, at_drop_all}
use Rattle.entry.specs.declared.Side.{Side}
use Rattle.entry.specs.declared.Side.TheVariants.{Buy, Sell}
use Rattle.board.specs.declared.levels.Level.{Level}
use Rattle.board.specs.Levels.{less_answer}
use Rattle.board.specs.declared.faults.BoardFault.{BoardFault}
use Rattle.board.specs.declared.faults.BoardFault.TheVariants.{LevelFull, NoPlace, NothingThere}
use Rattle.board.specs.Book.{Book, levels_of, with_levels, first, best_of, level_at, next_after}
use Rattle.board.specs.Calls.{added, taken, join_answer, leave_answer, on_ok, add_answer, add_after, take_answer, take_after}
use Rattle.entry.specs.Sides.{of_side}
use Rattle.grid.specs.declared.cells.Cell.{Cell}
use Rattle.grid.specs.declared.Grid.{Grid}
use Rattle.grid.specs.Holding.{grid_book, cells_of}
use Rattle.grid.specs.Ranks.{no_order, cell_at, price_at, ranks_to, in_range, seen, levels, level_in, holding, first_of, book_over}
use Rattle.grid.proofs.Levels.{raised, lowered, more, less, less_seen, lowered_seen, raised_cell, absent, at_rank, raise_rank, lower_to, room-left, best_rank, best_none, next_rank}

-- an empty side has no level
pub none-stand : (s : Side) (start k n : ℕ) → levels s start k (replicate n no_order) ≡ []
none-stand s start k zero = refl
none-stand s start k (suc n) = none-stand s start (suc k) n

-- the cells of a side, of two lists of cells and of a grid
abbrev pub side_over : Side → List Cell → List Cell → List Cell
side_over s bids asks = of_side (record { buy = bids; sell = asks }) s

pub side_is : (s : Side) (start : ℕ) (bids asks : List Cell) → levels_of (book_over start bids asks) s ≡ levels s start 0 (side_over s bids asks)
side_is Buy start bids asks = refl
side_is Sell start bids asks = refl

pub size_of : (s : Side) (bids asks : List Cell) → length bids ≡ 256 → length asks ≡ 256 → length (side_over s bids asks) ≡ 256
size_of Buy bids asks m n = m
size_of Sell bids asks m n = n

pub grid_side : (s : Side) (g : Grid) → levels_of (grid_book g) s ≡ levels s g.start 0 (cells_of s g)
grid_side Buy g = refl
grid_side Sell g = refl

pub grid_size : (s : Side) (g : Grid) → length (cells_of s g) ≡ 256
grid_size s g = (of_side g.sides s).size

-- cs are the cells of the side s, and the rank i has the price p
pub record Spot (s : Side) (start p i : ℕ) (bids asks cs : List Cell) : Type 0 where
  pub side : levels_of (book_over start bids asks) s ≡ levels s start 0 cs
  pub size : length cs ≡ 256
  pub low : i < 256
  pub here : p ≡ price_at s start i

-- cs are the cells of the side s, and no rank has the price p
pub record Off (s : Side) (start p : ℕ) (bids asks cs : List Cell) : Type 0 where
  pub side : levels_of (book_over start bids asks) s ≡ levels s start 0 cs
  pub size : length cs ≡ 256
  pub past : in_range start p ≡ false

pub off : (s : Side) (start p : ℕ) (bids asks : List Cell) → length bids ≡ 256 → length asks ≡ 256 → in_range start p ≡ false → Off s start p bids asks (side_over s bids asks)
off s start p bids asks m n e = record { side = side_is s start bids asks; size = size_of s bids asks m n; past = e }

pub spot : (s : Side) (start p i : ℕ) (bids asks : List Cell) → length bids ≡ 256 → length asks ≡ 256 → (i < 256) × (p ≡ price_at s start i) → Spot s start p i bids asks (side_over s bids asks)
spot s start p i bids asks m n (l, e) = record { side = side_is s start bids asks; size = size_of s bids asks m n; low = l; here = e }

pub grid_off : (s : Side) (g : Grid) (p : ℕ) → in_range g.start p ≡ false → Off s g.start p g.sides.buy.cells g.sides.sell.cells (cells_of s g)
grid_off s g p e = record { side = grid_side s g; size = grid_size s g; past = e }

pub grid_spot : (s : Side) (g : Grid) (p i : ℕ) → i < 256 → p ≡ price_at s g.start i → Spot s g.start p i g.sides.buy.cells g.sides.sell.cells (cells_of s g)
grid_spot s g p i l e = record { side = grid_side s g; size = grid_size s g; low = l; here = e }

outside : (s : Side) (start p i : ℕ) → i < 256 → in_range start p ≡ false → eqb (price_at s start i) p ≡ false
outside Buy start p i n e = grind (arith, nat_tests)
outside Sell start p i n e = grind (arith, nat_tests)

inside : (s : Side) (start p i : ℕ) → i < 256 → p ≡ price_at s start i → in_range start p ≡ true
inside Buy start p i n e = grind (arith, nat_tests)
inside Sell start p i n e = grind (arith, nat_tests)

-- at
pub at_off : {s : Side} {start p : ℕ} {bids asks cs : List Cell} → Off s start p bids asks cs → level_at p (levels_of (book_over start bids asks) s) ≡ None
at_off {s} {start} {p} {bids} {asks} {cs} o =
    let l = o.size in
    ap (level_at p) o.side ∙ absent s start p 0 cs (λ i m n. outside s start p i (omega arith) o.past)

pub at_spot : {s : Side} {start p i : ℕ} {bids asks cs : List Cell} → Spot s start p i bids asks cs → level_at p (levels_of (book_over start bids asks) s) ≡ seen p (cell_at cs i)
at_spot {s} {start} {p} {i} {bids} {asks} {cs} o =
    let l = o.size in
    let m = o.low in
    let a = at_rank s start i 0 i cs (omega arith) (omega arith) (omega arith) in
    ap (level_at p) o.side ∙ subst (λ (q : ℕ). level_at q (levels s start 0 cs) ≡ seen q (cell_at cs i)) (sym o.here) a

-- a call that refuses leaves the book, and another changes it
kept : {F : BoardFault} (r : Result (Unit {0}) BoardFault) (b d : Book) → r ≡ Err F → b ≡ on_ok r d b
kept r b d e = sym (ap (λ (a : Result (Unit {0}) BoardFault). on_ok a d b) e)

done : (r : Result (Unit {0}) BoardFault) (b d : Book) → r ≡ Ok tt → d ≡ on_ok r d b
done r b d e = sym (ap (λ (a : Result (Unit {0}) BoardFault). on_ok a d b) e)

-- what add owes
pub record Added (b : Book) (s : Side) (p t : ℕ) (r : Result (Unit {0}) BoardFault) (b' : Book) : Type 0 where
  pub answer : r ≡ add_answer b s p
  pub after : b' ≡ add_after b s p t

pub add_off : {s : Side} {start p : ℕ} {bids asks cs : List Cell} (t : ℕ) → Off s start p bids asks cs → Added (book_over start bids asks) s p t (Err NoPlace) (book_over start bids asks)
add_off {s} {start} {p} {bids} {asks} {cs} t o =
    let n = length (levels_of (book_over start bids asks) s) in
    let k = o.past in
    let f : (leb start p && (leb p (start + 255) && ltb n 256)) ≡ false = grind (arith, nat_tests) in
    let e : add_answer (book_over start bids asks) s p ≡ Err NoPlace = ap (λ (v : Option Level). join_answer v (leb start p && (leb p (start + 255) && ltb n 256))) (at_off o) ∙ ap (λ (x : Bool). cond x (Ok tt) (Err NoPlace)) f in
    record { answer = sym e; after = kept _ _ _ e }

-- there is room where no level stands
place : {s : Side} {start p i : ℕ} {bids asks cs : List Cell} → Spot s start p i bids asks cs → (cell_at cs i).orders ≡ 0 → (leb start p && (leb p (start + 255) && ltb (length (levels_of (book_over start bids asks) s)) 256)) ≡ true
place {s} {start} {p} {i} {bids} {asks} {cs} o z =
    let l = o.size in
    let m = o.low in
    let r = room-left s start 0 i cs (omega arith) z in
    let q = inside s start p i o.low o.here in
    let h = ap length o.side in
    grind (arith, nat_tests)

settled : (c : Cell) (p : ℕ) (x : Bool) → (c.orders ≡ 0 → x ≡ true) → join_answer (seen p c) x ≡ cond (leb 65535 c.orders) (Err LevelFull) (Ok tt)
settled c p x h = grind (arith, nat_tests)

add-answer : {s : Side} {start p i : ℕ} {bids asks cs : List Cell} → Spot s start p i bids asks cs → add_answer (book_over start bids asks) s p ≡ cond (leb 65535 (cell_at cs i).orders) (Err LevelFull) (Ok tt)
add-answer {s} {start} {p} {i} {bids} {asks} {cs} o =
    let x = leb start p && (leb p (start + 255) && ltb (length (levels_of (book_over start bids asks) s)) 256) in
    ap (λ (v : Option Level). join_answer v x) (at_spot o) ∙ settled (cell_at cs i) p x (place o)

-- the level there is full
pub add_refused : {s : Side} {start p i : ℕ} {bids asks cs : List Cell} {F : BoardFault} (t : ℕ) → Spot s start p i bids asks cs → raised p t (seen p (cell_at cs i)) ≡ Err F → Added (book_over start bids asks) s p t (Err F) (book_over start bids asks)
add_refused {s} {start} {p} {i} {bids} {asks} {cs} {F} t o w =
    let e : add_answer (book_over start bids asks) s p ≡ Err F = add-answer o ∙ grind (arith, nat_tests) in
    record { answer = sym e; after = kept _ _ _ e }

pub add_full : {s : Side} {start p i : ℕ} {bids asks cs : List Cell} (t : ℕ) → Spot s start p i bids asks cs → leb 65535 (cell_at cs i).orders ≡ true → Added (book_over start bids asks) s p t (Err LevelFull) (book_over start bids asks)
add_full {s} {start} {p} {i} {bids} {asks} {cs} t o w =
    let e : add_answer (book_over start bids asks) s p ≡ Err LevelFull = add-answer o ∙ grind (arith, nat_tests) in
    record { answer = sym e; after = kept _ _ _ e }

-- the cell c is stored
pub add_stored : {s : Side} {start p i : ℕ} {bids asks cs : List Cell} (t : ℕ) (c : Cell) (b : Book) → Spot s start p i bids asks cs → leb 65535 (cell_at cs i).orders ≡ false → c ≡ more t (cell_at cs i) → b ≡ with_levels (book_over start bids asks) s (levels s start 0 (set cs i c)) → Added (book_over start bids asks) s p t (Ok tt) b
add_stored {s} {start} {p} {i} {bids} {asks} {cs} t c b o w k h =
    let g = book_over start bids asks in
    let l = o.size in
    let m = o.low in
    let e : add_answer (book_over start bids asks) s p ≡ Ok tt = add-answer o ∙ grind (arith, nat_tests) in
    let a = raise_rank s start t i 0 i cs (omega arith) (omega arith) (omega arith) in
    let r : levels s start 0 (set cs i c) ≡ added s p t (levels_of (book_over start bids asks) s) = let u = o.side in let v = o.here in cc in
    record { answer = sym e; after = h ∙ (ap (with_levels g s) r ∙ done _ g (with_levels g s (added s p t (levels_of g s))) e) }

-- the cell of the level x is stored
pub add_level : {s : Side} {start p i : ℕ} {bids asks cs : List Cell} (t : ℕ) (x : Level) (b : Book) → Spot s start p i bids asks cs → raised p t (seen p (cell_at cs i)) ≡ Ok x → b ≡ with_levels (book_over start bids asks) s (levels s start 0 (set cs i (holding x))) → Added (book_over start bids asks) s p t (Ok tt) b
add_level {s} {start} {p} {i} {bids} {asks} {cs} t x b o w h = add_stored t (holding x) b o (grind (arith, nat_tests)) (sym (raised_cell p t (cell_at cs i) x w)) h

-- what take owes
pub record Taken (b : Book) (s : Side) (p : ℕ) (r : Result (Unit {0}) BoardFault) (b' : Book) : Type 0 where
  pub answer : r ≡ take_answer b s p
  pub after : b' ≡ take_after b s p

pub take_off : {s : Side} {start p : ℕ} {bids asks cs : List Cell} → Off s start p bids asks cs → Taken (book_over start bids asks) s p (Err NothingThere) (book_over start bids asks)
take_off o = let e = ap leave_answer (at_off o) in record { answer = sym e; after = kept _ _ _ e }

take-answer : {s : Side} {start p i : ℕ} {bids asks cs : List Cell} → Spot s start p i bids asks cs → take_answer (book_over start bids asks) s p ≡ cond (eqb (cell_at cs i).orders 0) (Err NothingThere) (Ok tt)
take-answer o = ap leave_answer (at_spot o) ∙ grind (arith, nat_tests)

pub take_none : {s : Side} {start p i : ℕ} {bids asks cs : List Cell} → Spot s start p i bids asks cs → (cell_at cs i).orders ≡ 0 → Taken (book_over start bids asks) s p (Err NothingThere) (book_over start bids asks)
take_none {s} {start} {p} {i} {bids} {asks} {cs} o w =
    let e : take_answer (book_over start bids asks) s p ≡ Err NothingThere = take-answer o ∙ grind (arith, nat_tests) in
    record { answer = sym e; after = kept _ _ _ e }

pub take_refused : {s : Side} {start p i : ℕ} {bids asks cs : List Cell} → Spot s start p i bids asks cs → seen p (cell_at cs i) ≡ None → Taken (book_over start bids asks) s p (Err NothingThere) (book_over start bids asks)
take_refused {s} {start} {p} {i} {bids} {asks} {cs} o w = take_none o (grind (arith, nat_tests))

-- the cell c, which holds what an order less leaves, is stored
take-to : {s : Side} {start p i : ℕ} {bids asks cs : List Cell} (c : Cell) (b : Book) → Spot s start p i bids asks cs → 0 < (cell_at cs i).orders → seen p c ≡ less_answer (level_in p (cell_at cs i)) → b ≡ with_levels (book_over start bids asks) s (levels s start 0 (set cs i c)) → Taken (book_over start bids asks) s p (Ok tt) b
take-to {s} {start} {p} {i} {bids} {asks} {cs} c b o w k h =
    let g = book_over start bids asks in
    let l = o.size in
    let m = o.low in
    let e : take_answer (book_over start bids asks) s p ≡ Ok tt = take-answer o ∙ grind (arith, nat_tests) in
    let v : seen (price_at s start i) c ≡ less_answer (level_in (price_at s start i) (cell_at cs i)) = rw o.here at k in
    let a = lower_to s start i 0 i cs c (omega arith) (omega arith) (omega arith) w v in
    let r : levels s start 0 (set cs i c) ≡ taken p (levels_of (book_over start bids asks) s) = let u = o.side in let q = o.here in cc in
    record { answer = sym e; after = h ∙ (ap (with_levels g s) r ∙ done _ g (with_levels g s (taken p (levels_of g s))) e) }

pub take_stored : {s : Side} {start p i : ℕ} {bids asks cs : List Cell} (c : Cell) (b : Book) → Spot s start p i bids asks cs → 0 < (cell_at cs i).orders → c ≡ less (cell_at cs i) → b ≡ with_levels (book_over start bids asks) s (levels s start 0 (set cs i c)) → Taken (book_over start bids asks) s p (Ok tt) b
take_stored {s} {start} {p} {i} {bids} {asks} {cs} c b o w k h = take-to c b o w (ap (seen p) k ∙ less_seen p (cell_at cs i) w) h

-- the cell c of what the level x leaves is stored
pub take_level : {s : Side} {start p i : ℕ} {bids asks cs : List Cell} (x : Level) (c : Cell) (b : Book) → Spot s start p i bids asks cs → seen p (cell_at cs i) ≡ Some x → c ≡ lowered x → b ≡ with_levels (book_over start bids asks) s (levels s start 0 (set cs i c)) → Taken (book_over start bids asks) s p (Ok tt) b
take_level {s} {start} {p} {i} {bids} {asks} {cs} x c b o v w h =
    let z : 0 < (cell_at cs i).orders = grind (arith, nat_tests) in
    let k : level_in p (cell_at cs i) ≡ x = grind (arith, nat_tests) in
    let q : c ≡ lowered (level_in p (cell_at cs i)) = w ∙ ap lowered (sym k) in
    take-to c b o z (ap (seen p) q ∙ lowered_seen p (cell_at cs i) z) h

-- the best level from a rank on
pub first_is : (s : Side) (start from i : ℕ) (cs : List Cell) → first_of from (drop from cs) ≡ Some i → Some (level_in (price_at s start i) (cell_at cs i)) ≡ first (levels s start from (drop from cs))
first_is s start from i cs e =
    let h = best_rank s start from i (drop from cs) e in
    let g = get_or-drop from cs h.0 no_order in
    let o : from + h.0 ≡ i = omega arith in
    let c : cell_at (drop from cs) h.0 ≡ cell_at cs i = g ∙ ap (cell_at cs) o in
    sym (h.3 ∙ ap (λ (x : Cell). Some (level_in (price_at s start i) x)) c)

pub first_seen : (s : Side) (start from i : ℕ) (cs : List Cell) → first_of from (drop from cs) ≡ Some i → seen (price_at s start i) (cell_at cs i) ≡ first (levels s start from (drop from cs))
first_seen s start from i cs e =
    let h = best_rank s start from i (drop from cs) e in
    let g = get_or-drop from cs h.0 no_order in
    let o : from + h.0 ≡ i = omega arith in
    let c : cell_at (drop from cs) h.0 ≡ cell_at cs i = g ∙ ap (cell_at cs) o in
    sym (h.4 ∙ ap (seen (price_at s start i)) c)

pub first_below : (from i : ℕ) (cs : List Cell) → first_of from (drop from cs) ≡ Some i → length cs ≡ 256 → i < 256
first_below from i cs e l =
    let h = best_rank Buy 0 from i (drop from cs) e in
    let d = length-drop from cs in
    omega arith

pub first-none : (s : Side) (start from : ℕ) (cs : List Cell) → first_of from (drop from cs) ≡ None → None ≡ first (levels s start from (drop from cs))
first-none s start from cs e = sym (best_none s start from (drop from cs) e)

-- best and next
pub best_is : (s : Side) (start : ℕ) (bids asks : List Cell) → first (levels s start 0 (side_over s bids asks)) ≡ best_of (book_over start bids asks) s
best_is s start bids asks = sym (ap first (side_is s start bids asks))

pub grid_best : (s : Side) (g : Grid) → first (levels s g.start 0 (cells_of s g)) ≡ best_of (grid_book g) s
grid_best s g = sym (ap first (grid_side s g))

next-on : (s : Side) (start p : ℕ) (bids asks cs : List Cell) → levels_of (book_over start bids asks) s ≡ levels s start 0 cs → length cs ≡ 256 → next_after s p (levels_of (book_over start bids asks) s) ≡ first (levels s start (ranks_to s start p) (drop (ranks_to s start p) cs))
next-on s start p bids asks cs d l =
    let n = next_rank s start p 0 (ranks_to s start p) cs (omega arith) (omega arith) in
    let e : 0 + ranks_to s start p ≡ ranks_to s start p = omega arith in
    ap (next_after s p) d ∙ (n ∙ ap (λ (k : ℕ). first (levels s start k (drop (ranks_to s start p) cs))) e)

pub next_is : (s : Side) (start p : ℕ) (bids asks : List Cell) → length (side_over s bids asks) ≡ 256 → first (levels s start (ranks_to s start p) (drop (ranks_to s start p) (side_over s bids asks))) ≡ next_after s p (levels_of (book_over start bids asks) s)
next_is s start p bids asks l = sym (next-on s start p bids asks (side_over s bids asks) (side_is s start bids asks) l)

pub grid_next : (s : Side) (g : Grid) (p : ℕ) → next_after s p (levels_of (grid_book g) s) ≡ first (levels s g.start (ranks_to s g.start p) (drop (ranks_to s g.start p) (cells_of s g)))
grid_next s g p = next-on s g.start p g.sides.buy.cells g.sides.sell.cells (cells_of s g) (grid_side s g) (grid_size s g)

-- where every rank is as good as the price, none is next
pub next_past : (s : Side) (g : Grid) (p : ℕ) → 256 ≤ ranks_to s g.start p → next_after s p (levels_of (grid_book g) s) ≡ None
next_past s g p m =
    let l = grid_size s g in
    let k = ranks_to s g.start p in
    grid_next s g p ∙ at_drop_all (λ (cs : List Cell). first (levels s g.start k cs)) (cells_of s g) k (omega arith)
