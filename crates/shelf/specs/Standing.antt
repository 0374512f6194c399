-- What a shelf holds: the records that stand, and all that were handed over.
use Rattle.std.specs.Prelude.{List, ◌++◌, length, take, drop}
use Rattle.shelf.specs.declared.Record.{Ghosts}
use Rattle.shelf.specs.declared.Shelf.{Shelf}

-- every record handed over
abbrev pub held : {R K : Type 0} {order : Ghosts R K} → Shelf R K order → List R
held s = s.records.now

-- the records that stand
abbrev pub live : {R K : Type 0} {order : Ghosts R K} → Shelf R K order → List R
live s = take s.len (held s)

-- the records handed over, with xs written over the first of them and the others as they were
abbrev pub over : {R : Type 0} → List R → List R → List R
over xs ys = xs ++ drop (length xs) ys
