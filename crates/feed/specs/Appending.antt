-- What is answered where a record is put behind a feed.
use Rattle.std.specs.Prelude.{ℕ, ◌+◌, cond, List, length, Ok, Err, Result, nat_lt}
use Rattle.entry.specs.declared.Entry.{Entry}
use Rattle.entry.specs.declared.refusals.Refusal.TheVariants as why
use Rattle.feed.specs.declared.whole.WriteFault.{WriteFault}
use Rattle.feed.specs.declared.whole.WriteFault.TheVariants.{Refused}
use Rattle.layout.specs.Layout.{kind_of, size, fits}
use Rattle.layout.specs.Reading.{longest}

-- a figure that is too wide is refused first, then a feed that would be too long to be read
abbrev pub appended : List ℕ → Entry → Result (Unit {0}) WriteFault
appended feed e =
    cond (fits e) (cond (nat_lt longest (length feed + size (kind_of e))) (Err (Refused why.FeedTooLong)) (Ok tt)) (Err (Refused why.OutOfRange))
