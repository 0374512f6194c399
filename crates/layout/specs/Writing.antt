-- What the writer answers, and what the output then holds.
use Rattle.std.specs.Prelude.{ℕ, cond, List, ◌++◌, length, drop, Ok, Err, Result, nat_lt}
use Rattle.entry.specs.declared.Entry.{Entry}
use Rattle.entry.specs.declared.refusals.Refusal.{Refusal}
use Rattle.entry.specs.declared.refusals.Refusal.TheVariants as why
use Rattle.layout.specs.Bits.{fit}
use Rattle.layout.specs.Layout.{code, widths, kind_of, values, bytes_for, record_with}

-- a figure that is too wide is refused first, then an output that is too short; else the record's length is told
unfoldable pub answer_with : List ℕ → List ℕ → List ℕ → Result ℕ Refusal
answer_with ws vs out = cond (fit ws vs) (cond (nat_lt (length out) (bytes_for ws)) (Err why.OutputShort) (Ok (bytes_for ws))) (Err why.OutOfRange)

-- a record that is written stands at the output's start, and the bytes behind it are kept; a refusal keeps all
abbrev pub placed : {X Y : Type 0} → Result X Y → List ℕ → List ℕ → List ℕ
placed (Ok x) bs out = bs ++ drop (length bs) out
placed (Err x) bs out = out

unfoldable pub output_with : ℕ → List ℕ → List ℕ → List ℕ → List ℕ
output_with c ws vs out = placed (answer_with ws vs out) (record_with c ws vs) out

abbrev pub answer : Entry → List ℕ → Result ℕ Refusal
answer e out = answer_with (widths (kind_of e)) (values e) out

abbrev pub output : Entry → List ℕ → List ℕ
output e out = output_with (code (kind_of e)) (widths (kind_of e)) (values e) out
