-- What holds of reading and writing, for all bytes and all entries.
use Rattle.std.specs.Prelude.{◌≡◌, ℕ, ◌+◌, ◌/◌, ◌<◌, ◌≤◌, Bool, true, ◌&&◌, List, [], ◌∷◌, length, take, drop, Some, None, Ok, Err, Option, Result, ◌≢◌, slice_index}
use Rattle.entry.specs.declared.Entry.{Entry}
use Rattle.entry.specs.declared.refusals.Place.{Place}
use Rattle.entry.specs.declared.refusals.Refusal.{Refusal}
use Rattle.entry.specs.Refusals.{told}
use Rattle.entry.specs.declared.kinds.Kind.{Kind}
use Rattle.layout.specs.Layout.{code, widths, kind_of, bits_for, size, fits, record_of, feed_of}
use Rattle.layout.specs.Reading.{taken, further, place_at, next}

-- the bytes begin with no entry's record
abbrev pub NoRecord : List ℕ → Type 0
NoRecord bs = (e : Entry) → fits e ≡ true → take (size (kind_of e)) bs ≢ record_of e

-- the number and the place that such bytes are refused with
pub record ToldOf (bs : List ℕ) (place : Place) (f : Refusal) : Type 0 where
  -- no kind has the code in the first 4 bits
  pub unknown : 6 < slice_index bs 0 / 16 → told f ≡ (15, Some place)
  -- a kind has it, and the bytes end inside the record
  pub cut : (kind : Kind) → slice_index bs 0 / 16 ≡ code kind → length bs < size kind → told f ≡ (14, Some place)
  -- a kind has it, and the record is there: then a spare bit is set
  pub spare : (kind : Kind) → slice_index bs 0 / 16 ≡ code kind → size kind ≤ length bs → told f ≡ (16, Some (further place (bits_for (widths kind))))

-- What a reader's answer says of the bytes at its place: it tells the end exactly there; it gives an entry only where
-- that entry's record stands; and it refuses only where no entry's record stands, with that number and place.
abbrev pub Faithful : List ℕ → ℕ → ℕ → Result (Option Entry) Refusal → Type 0
Faithful feed at seen (Ok None) = at ≡ length feed
Faithful feed at seen (Ok (Some e)) = (fits e ≡ true) × (take (size (kind_of e)) (drop at feed) ≡ record_of e)
Faithful feed at seen (Err f) = NoRecord (drop at feed) × ToldOf (drop at feed) (place_at at seen) f

-- The entries that the reader gives, one after another, from a byte of the feed on, after so many records;
-- and how that ends: at the feed's end, or with a fault.
abbrev pub Gives : List ℕ → ℕ → ℕ → List Entry → Option Refusal → Type 0
Gives feed at seen [] None = next feed at seen ≡ Ok None
Gives feed at seen [] (Some f) = next feed at seen ≡ Err f
Gives feed at seen (e ∷ es) end = (next feed at seen ≡ Ok (Some e)) × Gives feed (at + size (kind_of e)) (seen + 1) es end

-- each entry's figures fit their fields
abbrev pub all_fit : List Entry → Bool
all_fit [] = true
all_fit (e ∷ es) = fits e && all_fit es

-- The feed has the records of these entries, and is read as these entries to its end.
abbrev pub Holds : List ℕ → List Entry → Type 0
Holds feed es = (all_fit es ≡ true) × (feed ≡ feed_of es) × Gives feed 0 0 es None

-- All that a feed gives: a feed that is too long gives no entry and that fault.
abbrev pub ReadBy : Result (Unit {0}) Refusal → List ℕ → List Entry → Option Refusal → Type 0
ReadBy (Ok x) feed es fault = Gives feed 0 0 es fault
ReadBy (Err f) feed es fault = (es ≡ []) × (fault ≡ Some f)

abbrev pub ReadWhole : List ℕ → List Entry → Option Refusal → Type 0
ReadWhole feed es fault = ReadBy (taken feed) feed es fault
