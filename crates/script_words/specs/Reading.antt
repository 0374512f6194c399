-- What the words of a line say: figures, choices and sides, each read from the front of the words that are left.
use Rattle.std.specs.Prelude.{ℕ, ◌-◌, ◌^◌, cond, ◌&&◌, List, [], ◌∷◌, length, Some, None, Ok, Err, codes, Option, Result, nat_le, nat_lt}
use Rattle.std.specs.Str.Parse.{digits_value}
use Rattle.std.specs.Str.{all_ascii_digits, bytes_eq}
use Rattle.entry.specs.declared.Params.{Params}
use Rattle.entry.specs.declared.Side.{Side}
use Rattle.entry.specs.declared.Side.TheVariants.{Buy, Sell}
use Rattle.script.specs.Spelling.{Bytes}

-- a value read from the front of words, with the words after it; none where they do not begin so
abbrev pub Read : Type 0 → Type 0
Read X = Option (X × List Bytes)

-- a value with the words after it
abbrev pub before : {X : Type 0} → List Bytes → Option X → Read X
before ws None = None
before ws (Some x) = Some (x, ws)

-- one value after another
abbrev pub and_then : {X Y : Type 0} → Read X → (X → List Bytes → Read Y) → Read Y
and_then None next = None
and_then (Some (x, ws)) next = next x ws

-- what a function that takes words answered, with the words that it left
abbrev pub answered : {X E : Type 0} → Result X E → List Bytes → Read X
answered (Ok x) ws = Some (x, ws)
answered (Err e) ws = None

-- what the first word says, under a reading of single words
abbrev pub one : {X : Type 0} → (Bytes → Option X) → List Bytes → Read X
one says [] = None
one says (w ∷ ws) = before ws (says w)

-- the number that decimal digits write, if it has 32 bits at most
abbrev pub number : Bytes → Option ℕ
number w = cond (all_ascii_digits w && (nat_lt 0 (length w) && nat_lt (digits_value 10 w) (2 ^ 32))) (Some (digits_value 10 w)) None

-- such a number, if it is at most `most`
abbrev pub up_to : ℕ → Option ℕ → Option ℕ
up_to most None = None
up_to most (Some n) = cond (nat_le n most) (Some n) None

abbrev pub figure_to : ℕ → List Bytes → Read ℕ
figure_to most = one (λ w. up_to most (number w))

abbrev pub figure : List Bytes → Read ℕ
figure = figure_to (2 ^ 32 - 1)

abbrev pub code : List Bytes → Read ℕ
code = figure_to 255

-- what a word stands for that is one of two
abbrev pub choice : {X : Type 0} → Bytes → X → Bytes → X → Bytes → Option X
choice this x that y w = cond (bytes_eq w this) (Some x) (cond (bytes_eq w that) (Some y) None)

abbrev pub side : List Bytes → Read Side
side = one (choice (codes "buy") Buy (codes "sell") Sell)

abbrev pub params : List Bytes → Read Params
params ws =
    and_then (figure ws) (λ sp ws. and_then (figure ws) (λ l ws. and_then (figure ws) (λ ur ws. and_then (figure ws) (λ lr ws. Some (record { sp = sp; l = l; ur = ur; lr = lr }, ws)))))
