-- The refusals with their numbers, and with what is told beside the number: the place of a fault in a feed.
use Rattle.std.specs.Prelude.{ℕ, Some, None, Option}
use Rattle.entry.specs.declared.refusals.Place.{Place}
use Rattle.entry.specs.declared.refusals.Refusal.{Refusal}
use Rattle.entry.specs.declared.refusals.Refusal.TheVariants as why

-- each refusal's number, and the record and bit that a fault in a feed is told with
abbrev pub told : Refusal → ℕ × Option Place
told why.OutOfRange = (1, None)
told why.BadTime = (2, None)
told why.NoSession = (3, None)
told why.OutsideStatic = (4, None)
told why.OutsideDynamic = (5, None)
told why.Crosses = (6, None)
told why.LevelFull = (7, None)
told why.NoPlace = (8, None)
told why.NothingThere = (9, None)
told why.TrailShort = (10, None)
told why.BoardNotEmpty = (11, None)
told why.WindowOverlaps = (12, None)
told why.TooManyWindows = (13, None)
told (why.FeedEnds p) = (14, Some p)
told (why.UnknownKind p) = (15, Some p)
told (why.SpareBitSet p) = (16, Some p)
told why.FeedTooLong = (17, None)
told why.OutputShort = (18, None)

abbrev pub number : Refusal → ℕ
number refusal = (told refusal).0

abbrev pub place : Refusal → Option Place
place refusal = (told refusal).1
