-- The entry that a line is.
use Rattle.std.specs.Prelude.{ℕ, cond, List, [], ◌∷◌, Some, None, Ok, Err, codes, Option, Result}
use Rattle.std.specs.Str.{bytes_eq}
use Rattle.entry.specs.declared.Entry.{Entry}
use Rattle.entry.specs.declared.Entry.TheVariants as made
use Rattle.entry.specs.declared.kinds.Kind.{Kind}
use Rattle.entry.specs.declared.kinds.Kind.TheVariants as kind
use Rattle.script.specs.declared.command.Command.{Command}
use Rattle.script.specs.Commands.{entry_in}
use Rattle.script.specs.Spelling.{Bytes}
use Rattle.script_words.specs.Reading.{Read, before, and_then, figure, code, side, params}
use Rattle.script_words.specs.Words.{uncommented, words_of}

-- the kind of entry that a name begins
abbrev pub kind_named : Bytes → Option Kind
kind_named w =
    cond (bytes_eq w (codes "clock")) (Some kind.Clock)
    (cond (bytes_eq w (codes "post")) (Some kind.Post)
    (cond (bytes_eq w (codes "leave")) (Some kind.Leave)
    (cond (bytes_eq w (codes "trade")) (Some kind.Trade)
    (cond (bytes_eq w (codes "parameters")) (Some kind.Parameters)
    (cond (bytes_eq w (codes "reference")) (Some kind.Reference)
    (cond (bytes_eq w (codes "ruling")) (Some kind.Ruling) None))))))

-- the figures of an entry after its time
abbrev pub fields : Kind → ℕ → List Bytes → Read Entry
fields kind.Clock time ws = Some (made.Clock time, ws)
fields kind.Post time ws = and_then (side ws) (λ side ws. and_then (code ws) (λ mode ws. and_then (figure ws) (λ price ws. Some (made.Post time side mode price, ws))))
fields kind.Leave time ws = and_then (side ws) (λ side ws. and_then (figure ws) (λ price ws. Some (made.Leave time side price, ws)))
fields kind.Trade time ws = and_then (code ws) (λ mode ws. and_then (figure ws) (λ price ws. and_then (figure ws) (λ quantity ws. Some (made.Trade time mode price quantity, ws))))
fields kind.Parameters time ws = and_then (params ws) (λ params ws. Some (made.Parameters time params, ws))
fields kind.Reference time ws = and_then (code ws) (λ session ws. and_then (figure ws) (λ price ws. Some (made.Reference time session price, ws)))
fields kind.Ruling time ws = and_then (figure ws) (λ price ws. Some (made.Ruling time price, ws))

abbrev pub entry_after : Kind → List Bytes → Read Entry
entry_after kind ws = and_then (figure ws) (fields kind)

abbrev pub entry_if : Option Kind → List Bytes → Read Entry
entry_if None ws = None
entry_if (Some kind) ws = entry_after kind ws

-- a value after which no word is left
abbrev pub whole : {X : Type 0} → Read X → Option X
whole None = None
whole (Some (x, [])) = Some x
whole (Some (x, w ∷ ws)) = None

abbrev pub entry_of_words : List Bytes → Option Entry
entry_of_words [] = None
entry_of_words (name ∷ ws) = whole (entry_if (kind_named name) ws)

-- the entry that a line is, if it is one
abbrev pub entry_of : Bytes → Option Entry
entry_of line = entry_of_words (words_of (uncommented line))

-- the entry that a command is, with the words that were left
abbrev pub entry_answered : {E : Type 0} → Result Command E → List Bytes → Read Entry
entry_answered (Ok command) ws = before ws (entry_in command)
entry_answered (Err e) ws = None

-- the entry that was read, if one was
abbrev pub entry_parsed : {E : Type 0} → Result (Option Command) E → Option Entry
entry_parsed (Ok None) = None
entry_parsed (Ok (Some command)) = entry_in command
entry_parsed (Err e) = None

abbrev pub prefixed : Option Entry → List Entry → List Entry
prefixed None es = es
prefixed (Some e) es = e ∷ es

-- the entries among lines, in order
abbrev pub entries_of : List Bytes → List Entry
entries_of [] = []
entries_of (line ∷ lines) = prefixed (entry_of line) (entries_of lines)
