-- An order joins the level that stands, which may be full, or makes a new one.
use Rattle.std.proofs.Common.{length, Err, Result, refl, ap, ◌∙◌, arith}
use Rattle.std.proofs.lemmas.Result.{err_from_is_err_and}
use Rattle.board.specs.declared.faults.BoardFault.{BoardFault}
use Rattle.shelf.specs.Standing.{live, held}
use Rattle.ladder.specs.Records.{price_in, level_of}
use Rattle.ladder.specs.Better.{better_transitive}
use Rattle.ladder.proofs.Answered.{there, missing, join_full, join_done}
use Rattle.ladder.proofs.Soundness.{proper_joined, proper_there, proper_replaced}
use Rattle.ladder.proofs.one_side.calls.OneSide+SideLevel+SELL.add.Goals as goal

pub begin-requires : goal.begin-requires
begin-requires g c =
    let s = c.args.self.now.shelf in
    (omega arith, missing price_in _ level_of _ (λ x. refl) (λ p q. refl) (better_transitive _) c.args.price (live s) c.in_default.field-0 s.sorted c.in_default.ensures)

pub unreachable-requires : goal.unreachable-requires
unreachable-requires g c =
    let s = c.args.self.now.shelf in
    there price_in _ level_of _ (λ x. refl) (λ p q. refl) c.args.price (live s) c.in-Ok.at c.in-Ok.ensures c.in_default-get.ensures

pub returns-in_err-joined : goal.returns-in_err-joined
returns-in_err-joined g c =
    let s = c.args.self.now.shelf in
    let p = err_from_is_err_and c.from_residual.result c.from_residual.ensures.1 in
    let d = join_full price_in _ level_of _ (λ x. refl) (λ p q. refl) c.args.price (live s) c.in-Ok.at c.in-Ok.ensures c.in-Some.record c.in-Some.ensures c.args.time (length (held s)) c.in_err-joined.field-0.0 c.in_err-joined.ensures.answer in
    let F : BoardFault → Result (Unit {0}) BoardFault = λ z. Err z in
    record { answer = p.1 ∙ ap F p.2 ∙ d.answer; levels = d.levels; most = refl; lent = refl }

pub returns : goal.returns
returns g c =
    let s = c.args.self.now.shelf in
    let i = c.in-Ok-replace.ensures in
    let d = join_done price_in _ level_of _ (λ x. refl) (λ p q. refl) c.args.price (live s) c.in-Ok.at c.in-Ok.ensures c.in-Some.record c.in-Some.ensures c.args.time (length (held s)) c.in_ok-joined.joined _ _ c.in_ok-joined.ensures.answer refl i.answer i.live in
    record { answer = d.answer; levels = d.levels; most = i.most; lent = i.lent }

pub invariant_of-self : goal.invariant_of-self
invariant_of-self g c =
    let s = c.args.self.now in
    let p = proper_there level_of (live s.shelf) c.in-Ok.at c.in-Some.record c.in-Some.ensures s.proper in
    record { proper = proper_replaced level_of s.shelf s.proper c.in-Ok.at _ _ c.replace.ensures.live (proper_joined _ _ c.in_ok-joined.ensures.answer p) }
