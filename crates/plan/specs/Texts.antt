-- Sessions and slots as they are printed.
use Rattle.std.specs.Prelude.{ℕ, List, ◌++◌, codes, decimal}
use Rattle.plan.specs.declared.slots.Session.{Session}
use Rattle.plan.specs.declared.slots.Session.TheVariants.{Morning, Main, Evening, Weekend}
use Rattle.plan.specs.declared.slots.Slot.{Slot}
use Rattle.plan.specs.declared.slots.Slot.TheVariants.{NoSession, Free, Bounded}

abbrev pub session_text : Session → List ℕ
session_text Morning = codes "morning"
session_text Main = codes "main"
session_text Evening = codes "evening"
session_text Weekend = codes "weekend"

-- the session, and whether it is free or bounded with its K; none where there is no session
abbrev pub slot_text : Slot → List ℕ
slot_text NoSession = codes "none"
slot_text (Free s) = session_text s ++ codes " free"
slot_text (Bounded s k) = session_text s ++ (codes " bounded " ++ decimal k)
