-- What the reader answers at a place of a feed.
use Rattle.std.specs.Prelude.{ℕ, ◌+◌, ◌*◌, ◌/◌, cond, List, length, take, drop, Some, None, Ok, Err, Option, Result, ◌==◌, nat_lt, slice_index}
use Rattle.entry.specs.declared.Entry.{Entry}
use Rattle.entry.specs.declared.refusals.Place.{Place}
use Rattle.entry.specs.declared.refusals.Refusal.{Refusal}
use Rattle.entry.specs.declared.refusals.Refusal.TheVariants as why
use Rattle.entry.specs.declared.kinds.Kind.{Kind}
use Rattle.layout.specs.Bits.{field, fields}
use Rattle.layout.specs.Layout.{widths, kind_from, entry_of, bits_for, spare_for, size, kind_of}

-- so many bits further on in a record
abbrev pub further : Place → ℕ → Place
further place n = record { number = place.number; bit = place.bit + n }

-- The first record of bytes that are not at their end; its place is its number and its first bit in the feed.
-- An unknown kind is refused first, then a record that is cut off, then a spare bit that is set.
abbrev pub record_as : Option Kind → List ℕ → Place → Result Entry Refusal
record_as None bs place = Err (why.UnknownKind place)
record_as (Some kind) bs place =
    cond (nat_lt (length bs) (size kind)) (Err (why.FeedEnds place))
    (cond (field (take (size kind) bs) (bits_for (widths kind)) (spare_for (widths kind)) == 0)
    (Ok (entry_of kind (fields (take (size kind) bs) 4 (widths kind))))
    (Err (why.SpareBitSet (further place (bits_for (widths kind))))))

abbrev pub first_record : List ℕ → Place → Result Entry Refusal
first_record bs place = record_as (kind_from (slice_index bs 0 / 16)) bs place

-- the longest feed that is taken, in bytes
abbrev pub longest : ℕ
longest = 65536

-- A feed that is longer is refused.
abbrev pub taken : List ℕ → Result (Unit {0}) Refusal
taken feed = cond (nat_lt longest (length feed)) (Err why.FeedTooLong) (Ok tt)

abbrev pub some_of : Result Entry Refusal → Result (Option Entry) Refusal
some_of (Ok e) = Ok (Some e)
some_of (Err f) = Err f

-- the place of the record at a byte of the feed, after so many records
abbrev pub place_at : ℕ → ℕ → Place
place_at at seen = record { number = seen + 1; bit = 8 * at }

-- What the reader answers at a byte of the feed, after so many records: none at the feed's end.
abbrev pub next : List ℕ → ℕ → ℕ → Result (Option Entry) Refusal
next feed at seen = cond (at == length feed) (Ok None) (some_of (first_record (drop at feed) (place_at at seen)))

-- Where it stands then: behind the record that it gave; at a fault and at the end it stays.
abbrev pub place_after : Result (Option Entry) Refusal → ℕ → ℕ
place_after (Ok None) at = at
place_after (Ok (Some e)) at = at + size (kind_of e)
place_after (Err f) at = at

-- How many records it has then seen.
abbrev pub seen_after : Result (Option Entry) Refusal → ℕ → ℕ
seen_after (Ok None) seen = seen
seen_after (Ok (Some e)) seen = seen + 1
seen_after (Err f) seen = seen
