-- The layout of a record: kind, time, the kind's fields, zero bits to a whole byte.
use Rattle.std.specs.Prelude.{ℕ, ◌+◌, ◌-◌, ◌*◌, ◌/◌, ◌^◌, Bool, cond, List, [], ◌∷◌, ◌++◌, ◌==◌, slice_index}
use Rattle.entry.specs.declared.Side.{Side}
use Rattle.entry.specs.declared.Side.TheVariants.{Buy, Sell}
use Rattle.entry.specs.declared.Entry.{Entry}
use Rattle.entry.specs.declared.Entry.TheVariants as e
use Rattle.entry.specs.declared.kinds.Kind.{Kind}
use Rattle.entry.specs.declared.kinds.Kind.TheVariants as k
pub use Rattle.entry.specs.Kinds.{code, kind_from, kind_of}
use Rattle.layout.specs.Bits.{bytes, total, fit, packed}

-- A record begins with its kind's code, in 4 bits. Then come the time, in 30 bits, and the kind's fields, in so many bits each.
abbrev pub widths : Kind → List ℕ
widths k.Clock = 30 ∷ []
widths k.Post = 30 ∷ (1 ∷ (2 ∷ (30 ∷ [])))
widths k.Leave = 30 ∷ (1 ∷ (30 ∷ []))
widths k.Trade = 30 ∷ (2 ∷ (30 ∷ (24 ∷ [])))
widths k.Parameters = 30 ∷ (30 ∷ (30 ∷ (30 ∷ (30 ∷ []))))
widths k.Reference = 30 ∷ (3 ∷ (30 ∷ []))
widths k.Ruling = 30 ∷ (30 ∷ [])

-- side 0 is buy, 1 is sell
abbrev pub bit : Side → ℕ
bit Buy = 0
bit Sell = 1

abbrev pub side_of : ℕ → Side
side_of n = cond (n == 0) Buy Sell

-- an entry's figures, in the order of their fields
abbrev pub values : Entry → List ℕ
values (e.Clock t) = t ∷ []
values (e.Post t s m p) = t ∷ (bit s ∷ (m ∷ (p ∷ [])))
values (e.Leave t s p) = t ∷ (bit s ∷ (p ∷ []))
values (e.Trade t m p q) = t ∷ (m ∷ (p ∷ (q ∷ [])))
values (e.Parameters t ps) = t ∷ (ps.sp ∷ (ps.l ∷ (ps.ur ∷ (ps.lr ∷ []))))
values (e.Reference t s p) = t ∷ (s ∷ (p ∷ []))
values (e.Ruling t p) = t ∷ (p ∷ [])

-- the entry of a kind that has these figures
abbrev pub entry_of : Kind → List ℕ → Entry
entry_of k.Clock vs = e.Clock (slice_index vs 0)
entry_of k.Post vs = e.Post (slice_index vs 0) (side_of (slice_index vs 1)) (slice_index vs 2) (slice_index vs 3)
entry_of k.Leave vs = e.Leave (slice_index vs 0) (side_of (slice_index vs 1)) (slice_index vs 2)
entry_of k.Trade vs = e.Trade (slice_index vs 0) (slice_index vs 1) (slice_index vs 2) (slice_index vs 3)
entry_of k.Parameters vs = e.Parameters (slice_index vs 0) (record { sp = slice_index vs 1; l = slice_index vs 2; ur = slice_index vs 3; lr = slice_index vs 4 })
entry_of k.Reference vs = e.Reference (slice_index vs 0) (slice_index vs 1) (slice_index vs 2)
entry_of k.Ruling vs = e.Ruling (slice_index vs 0) (slice_index vs 1)

-- bits without the spare ones, bytes, and spare bits of a record whose fields have these widths
abbrev pub bits_for : List ℕ → ℕ
bits_for ws = 4 + total ws

abbrev pub bytes_for : List ℕ → ℕ
bytes_for ws = (bits_for ws + 7) / 8

abbrev pub spare_for : List ℕ → ℕ
spare_for ws = 8 * bytes_for ws - bits_for ws

-- the record with a code and these values in fields of these widths
abbrev pub record_with : ℕ → List ℕ → List ℕ → List ℕ
record_with c ws vs = bytes (bytes_for ws) (packed c ws vs * 2 ^ spare_for ws)

-- a kind's bytes
abbrev pub size : Kind → ℕ
size kind = bytes_for (widths kind)

-- no figure of the entry is wider than its field
abbrev pub fits : Entry → Bool
fits e = fit (widths (kind_of e)) (values e)

-- an entry's record
abbrev pub record_of : Entry → List ℕ
record_of e = record_with (code (kind_of e)) (widths (kind_of e)) (values e)

-- the records of entries, one behind the other
abbrev pub feed_of : List Entry → List ℕ
feed_of [] = []
feed_of (e ∷ es) = record_of e ++ feed_of es
