-- The feed of a script, and what is wrong with a script that has none.
use Rattle.std.specs.Prelude.{◌≡◌, ℕ, ◌+◌, ◌<◌, Bool, false, cond, List, [], ◌∷◌, ◌++◌, length, is_some, Some, None, codes, decimal, Option, ◌==◌}
use Rattle.entry.specs.declared.Entry.{Entry}
use Rattle.entry.specs.Refusals.{number}
use Rattle.feed.specs.declared.whole.WriteFault.{WriteFault}
use Rattle.feed.specs.declared.whole.WriteFault.TheVariants as write
use Rattle.layout.specs.Layout.{fits, kind_of, size}
use Rattle.layout.specs.Laws.{Holds}
use Rattle.layout.specs.Reading.{longest}
use Rattle.script.specs.Faults.{fault_text}
use Rattle.script_parse.specs.Entries.{prefixed, entries_of}
use Rattle.script_parse.specs.Entries.{entry_of}
use Rattle.commands.specs.declared.encoding.Flaw.{Flaw}
use Rattle.commands.specs.declared.encoding.ScriptFault.{ScriptFault}
use Rattle.commands.specs.declared.encoding.Flaw.TheVariants.{Unreadable, TooWide, TooLong, NoMemory}

abbrev pub flaw_text : Flaw → List ℕ
flaw_text (Unreadable fault) = fault_text fault
flaw_text TooWide = codes "a figure is too wide for a feed: the greatest TIME, PRICE, SP, L, UR and LR is 1073741823, QUANTITY 16777215, MODE 3, SESSION 7"
flaw_text TooLong = codes "the feed would be longer than 65536 bytes"
flaw_text NoMemory = codes "out of memory"

-- the line's number, and what is wrong with it
abbrev pub script_fault_text : ScriptFault → List ℕ
script_fault_text fault = decimal fault.line ++ (codes ": " ++ flaw_text fault.flaw)

-- what a writer's fault says of the line: refusal 17 is a feed too long, and any other a figure too wide
abbrev pub flaw_of : WriteFault → Flaw
flaw_of write.NoMemory = NoMemory
flaw_of (write.Refused refusal) = cond (number refusal == 17) TooLong TooWide

-- a feed after a line: what held the records of some entries holds those and the line's, if it is an entry
pub record Appended (feed : List ℕ) (entry : Option Entry) (added : Bool) (after : List ℕ) : Type 0 where
  pub one : added ≡ is_some entry
  pub holds : (es : List Entry) → Holds feed es → Holds after (es ++ prefixed entry [])

-- why a line has no record: it is no entry; or it is one that does not fit, or for which the feed has no room
abbrev pub Flawed : List ℕ → Option Entry → Flaw → Type 0
Flawed feed entry (Unreadable fault) = entry ≡ None
Flawed feed entry TooWide = (e : Entry) × (entry ≡ Some e) × (fits e ≡ false)
Flawed feed entry TooLong = (e : Entry) × (entry ≡ Some e) × (longest < length feed + size (kind_of e))
Flawed feed entry NoMemory = Unit {0}

-- a feed of the entries among lines, and their number
pub record Encodes (lines : List (List ℕ)) (feed : List ℕ) (records : ℕ) : Type 0 where
  pub holds : Holds feed (entries_of lines)
  pub counted : records ≡ length (entries_of lines)

-- the line of that number, from 1, has no record behind those of the lines before it
pub record Fails (lines : List (List ℕ)) (number : ℕ) (flaw : Flaw) : Type 0 where
  pub done : List (List ℕ)
  pub line : List ℕ
  pub rest : List (List ℕ)
  pub split : done ++ (line ∷ rest) ≡ lines
  pub numbered : number ≡ length done + 1
  pub feed : List ℕ
  pub holds : Holds feed (entries_of done)
  pub flawed : Flawed feed (entry_of line) flaw
