-- One line more.
use Rattle.std.proofs.Common.{◌≡◌, ◌∷◌, ◌+◌, ◌<◌, ◌^◌, length, inl, ap, ◌∙◌, arith, rules}
use Rattle.script_words.specs.Lines.{lines_of, to_come}
use Rattle.script_words.proofs.Split.{lines_few}
use Rattle.commands.proofs.Sofar.{number_room, records_few, one_more, flag_is, flag_small}
use Rattle.commands.proofs.encoding.encode_script.Goals as goal

pub overflow_add-records : goal.overflow_add-records
overflow_add-records c =
    let taken : to_come c.loop-index.index-iterator.iter ≡ c.in-Some.line.now ∷ to_come c.next.new.self.iter = search rules in
    let room = number_room c.loop-index.invariant.2 c.in-Some.line.now (to_come c.next.new.self.iter) taken in
    omega (arith, room, records_few c.loop-index.invariant.2, lines_few c.args.script.now, c.from-records.ensures, flag_small c.in_ok-added.added)

pub loop-index-init : goal.loop-index-init
loop-index-init c =
    let few = lines_few c.args.script.now in
    let same : to_come c.into_iter-index-iterator.result.iter ≡ lines_of c.args.script.now = search rules in
    let none : c.into_iter-index-iterator.result.count ≡ 0 = search rules in
    let room : length c.args.script.now < 2 ^ 63 = omega arith in
    ((tt, tt, inl (rw (none, same) (omega (arith, few, room)))), tt, rw (none, same) (search rules))

pub loop-index-preserved : goal.loop-index-preserved
loop-index-preserved c =
    let taken : to_come c.loop-index.index-iterator.iter ≡ c.in-Some.line.now ∷ to_come c.next.new.self.iter = search rules in
    let one : c.next.new.self.count ≡ c.loop-index.index-iterator.count + 1 = search rules in
    (search rules, tt, rw one (one_more c.loop-index.invariant.2 _ _ _ _ _ taken (search rules) (ap (λ n. c.loop-index.records + n) (c.from-records.ensures ∙ flag_is c.in_ok-added.added))))
