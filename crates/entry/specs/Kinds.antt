-- The kinds of entry, each with its code.
use Rattle.std.specs.Prelude.{ℕ, cond, ◌==◌, Some, None, Option, Ok, Err, Result}
use Rattle.entry.specs.declared.Entry.{Entry}
use Rattle.entry.specs.declared.Entry.TheVariants as e
use Rattle.entry.specs.declared.kinds.Kind.{Kind}
use Rattle.entry.specs.declared.kinds.Kind.TheVariants as k
use Rattle.entry.specs.declared.codes.UnknownCode.{UnknownCode}

abbrev pub kind_of : Entry → Kind
kind_of (e.Clock t) = k.Clock
kind_of (e.Post t s m p) = k.Post
kind_of (e.Leave t s p) = k.Leave
kind_of (e.Trade t m p q) = k.Trade
kind_of (e.Parameters t ps) = k.Parameters
kind_of (e.Reference t s p) = k.Reference
kind_of (e.Ruling t p) = k.Ruling

abbrev pub code : Kind → ℕ
code k.Clock = 0
code k.Post = 1
code k.Leave = 2
code k.Trade = 3
code k.Parameters = 4
code k.Reference = 5
code k.Ruling = 6

-- the kind with a code
abbrev pub kind_from : ℕ → Option Kind
kind_from n =
    cond (n == 0) (Some k.Clock) (cond (n == 1) (Some k.Post) (cond (n == 2) (Some k.Leave) (cond (n == 3) (Some k.Trade)
    (cond (n == 4) (Some k.Parameters) (cond (n == 5) (Some k.Reference) (cond (n == 6) (Some k.Ruling) None))))))

-- what there is for a code: a code of nothing is answered with itself
abbrev pub of_code : {X : Type 0} → ℕ → Option X → Result X UnknownCode
of_code n None = Err (record { 0 = n })
of_code n (Some x) = Ok x

abbrev pub kind_answer : ℕ → Result Kind UnknownCode
kind_answer n = of_code n (kind_from n)
