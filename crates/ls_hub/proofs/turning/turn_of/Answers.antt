use Rattle.std.proofs.Common.{subst, false}
use Rattle.std.proofs.lemmas.Result.{on_err_weaker}
use Rattle.ls_record.specs.Turning.{SessionTurn}
use Rattle.ls_session.specs.Record.{Record}
use Rattle.ls_session.proofs.Replies.{ok_then}
use Rattle.ls_hub.specs.Turning.{TurnEnded}
use Rattle.ls_hub.proofs.Skipping.{front_turn}
use Rattle.ls_hub.proofs.turning.turn_of.Goals as goal

pub returns-clause-ok : goal.returns-clause-ok
returns-clause-ok c =
    ok_then _ _ c.ask_round.result
    (λ turn ends. λ items before behind r st early range cells.
    let p = c.pass_front.ensures r st early range in
    let on : Record = record r { tick = c.args.now; asked = p.asked; asks = false; wait = p.wait } in
    subst (λ (t : SessionTurn). TurnEnded c.args.now items before behind r.number r.session t turn c.ask_round.new.session c.ask_round.new.cells)
    (front_turn c.args.now items c.args.epoch r c.pass_front.new.self p) (ends items before behind on p.session early range cells))
    c.ask_round.ensures.ok

pub returns-clause-err : goal.returns-clause-err
returns-clause-err c =
    on_err_weaker c.ask_round.result
    (λ failed. λ items before behind r st early range cells.
    let p = c.pass_front.ensures r st early range in
    let on : Record = record r { tick = c.args.now; asked = p.asked; asks = false; wait = p.wait } in
    failed items before behind on p.session early range cells)
    c.ask_round.ensures.err
