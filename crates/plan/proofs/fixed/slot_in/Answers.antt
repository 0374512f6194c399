-- The first row that holds gives the slot.
use Rattle.std.proofs.Common.{◌≡◌, rules, ap, ◌∙◌}
use Rattle.std.proofs.lemmas.Iterator.{YieldsList-from_slice}
use Rattle.std.proofs.lemmas.Iterator.Search.{find_from_yields_List}
use Rattle.std.specs.List.{find}
use Rattle.std.specs.Option.{option_map}
use borrow.Author.Tests.{tests}
use Rattle.plan.specs.Fixed.{row_holds, slot_there}
use Rattle.plan.proofs.fixed.slot_in.Goals as goal

pub returns : goal.returns
returns c =
    let found : option_map (λ r. r.now) c.find.result ≡ find (row_holds c.args.last c.args.clock) c.args.rows.now =
    find_from_yields_List (row_holds c.args.last c.args.clock) _ _ c.find.result c.find.ensures.ran (YieldsList-from_slice c.args.rows.now cc) (λ x b q k. search (rules, tests)) in
    let slot : c.map_or.result ≡ slot_there c.args.group (option_map (λ r. r.now) c.find.result) = search rules in
    slot ∙ ap (slot_there c.args.group) found
