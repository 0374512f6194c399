-- What open promises, accepted and refused.
use Rattle.std.proofs.Common.{◌≡◌, ℕ, Ok, Err, sym, refl, subst}
use Rattle.entry.specs.declared.Params.{Params}
use Rattle.entry.specs.declared.refusals.Refusal.{Refusal}
use Rattle.board.specs.Book.{Book}
use Rattle.rules.specs.declared.figures.OpenFigures.{OpenFigures}
use Rattle.rules.specs.Checks.{Answer, number_of}
use Rattle.rules.specs.Days.{open_answer, opened}
use Rattle.rules.specs.Promise.{OpenTable, NoLevel}
use Rattle.rules.specs.Calls.{Starts}
use Rattle.rules.proofs.Whole.{open_table}
use Rattle.rules.proofs.Contracts.{starts}
use Rattle.engine.specs.declared.ClosedDay.{ClosedDay}
use Rattle.engine.specs.Calls.{OpenTold}

by_table : (b : Book) (t : ℕ) (p : Params) (r : Answer) → open_answer b t p ≡ r → OpenTable (NoLevel b) t p (number_of r)
by_table b t p r a = subst (λ (z : Answer). OpenTable (NoLevel b) t p (number_of z)) a (open_table b t p)

pub open_ok : (b : Book) (c : ClosedDay) (t : ℕ) (p : Params) (f : OpenFigures) → open_answer b t p ≡ Ok tt → f ≡ opened c.figures t p → OpenTold b c t p (Ok (record { figures = f }))
open_ok b c t p f a e = record { table = by_table b t p (Ok tt) a; opened = subst (Starts b c.figures t p) (sym e) (starts b c.figures t p a) }

pub open_err : (b : Book) (c : ClosedDay) (t : ℕ) (p : Params) (e : Refusal) → open_answer b t p ≡ Err e → OpenTold b c t p (Err (c, e))
open_err b c t p e a = record { table = by_table b t p (Err e) a; opened = refl }
