-- The search parts the records at the key's place.
use Rattle.std.proofs.Common.{rules, ap, ◌∙◌}
use Rattle.std.proofs.lemmas.List.Sorted.{IsPartitionPoint-from_clause}
use Rattle.shelf.specs.Order.{ascends, place}
use Rattle.shelf.proofs.Order.{place_parts, parted}
use Rattle.shelf.proofs.Shelf.place.Goals as goal

pub returns : goal.returns
returns g c =
    let key = g.R.Record.key in
    let before = g.R.Record.before in
    let e = c.standing.ensures in
    let a = ap (ascends key before) e ∙ c.args.self.now.sorted in
    let first = parted key before g.met.R.Record.transitive c.args.key _ a in
    let point = IsPartitionPoint-from_clause (λ x. before (key x) c.args.key) _ _ c.partition_point.ensures.partitioned first (λ a r q k. search rules) in
    place_parts key before c.args.key _ _ c.partition_point.ensures.bound point ∙ ap (place key before c.args.key) e
